use Rattle.std.proofs.Common.{◌≡◌, [], ◌++◌, length, map, sym, ap, ◌∙◌, rules}
use Rattle.std.specs.Borrow.{Bor}
use Rattle.std.proofs.lemmas.List.{length-map}
use Rattle.fly_docs.specs.declared.node.Node.{Node}
use Rattle.fly_links.specs.Layout.{inside}
use Rattle.fly_links.proofs.InnerNodes.{inner_nodes-inside}
use Rattle.fly_links.proofs.around.inner_count.Goals as goal

pub returns : goal.returns
returns c =
    let none : c.new-inside.result.items ≡ [] = search rules in
    c.len.ensures ∙ c.push_inside.new.laid.ok.0 ∙ sym (length-map c.push_inside.new.laid.items
    (λ (n : Bor Node). n.now))
    ∙ ap length (c.in_ok-push_inside.ensures ∙ ap (λ xs. map (λ
    (n : Bor Node). n.now) xs ++ inside c.args.node.now.target) none)
    ∙ ap length (sym (inner_nodes-inside c.args.node.now))
