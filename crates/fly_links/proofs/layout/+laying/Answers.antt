use Rattle.std.proofs.Common.{◌∷◌, ◌++◌, [], map, append_assoc, sym, ap, ◌∙◌}
use Rattle.std.specs.Borrow.{Bor}
use Rattle.std.proofs.lemmas.List.{map_push}
use Rattle.fly_docs.specs.declared.node.Node.{Node}
use Rattle.fly_links.specs.Layout.{inside}
use Rattle.fly_links.proofs.InnerNodes.{inner_nodes-inside}
use Rattle.fly_links.proofs.LayoutLemmas.{on_ok}
use Rattle.fly_links.proofs.layout.+laying.Goals as goal

pub push_node-returns : goal.push_node-returns
push_node-returns t c =
    let old = c.args.laid.now.items in
    let now = map (λ (n : Bor Node). n.now) in
    on_ok c.push_inside.result
    (λ e. e
    ∙ ap (λ xs. now xs ++ inside c.args.node.now.target) c.in_ok-push.ensures.items
    ∙ ap (λ xs. xs ++ inside c.args.node.now.target) (map_push (λ (n : Bor Node). n.now) old c.args.node)
    ∙ append_assoc (now old) (c.args.node.now ∷ []) (inside c.args.node.now.target)
    ∙ ap (λ xs. now old ++ c.args.node.now ∷ xs) (sym (inner_nodes-inside c.args.node.now)))
    c.push_inside.ensures
