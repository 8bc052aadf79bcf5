use Rattle.std.proofs.Common.{ℕ, List, [], ◌∷◌, ◌++◌, map, length, take, sym, ap, ◌∙◌}
use Rattle.std.specs.List.{enumerate_from}
use Rattle.std.specs.Borrow.{Bor}
use Rattle.fly_docs.specs.declared.node.Node.{Node}
use Rattle.fly_links.specs.Around.{inner_places}
use Rattle.fly_links.proofs.LoopLemmas.{placed_more}
use Rattle.fly_links.proofs.around.inner_rows.Goals as goal

pub loop-place-preserved : goal.loop-place-preserved
loop-place-preserved c =
    let nodes = c.args.nodes.now in
    let i = c.loop-place.place in
    let f : ℕ × Node → List ℕ = λ at. inner_places (length nodes) at.0 at.1 in
    c.in_ok-push.ensures.items
    ∙ ap (λ r. r ++ c.in_ok-inner_row.field-0 ∷ []) c.loop-place.invariant
    ∙ ap (λ r. map f (enumerate_from 0 (map (λ (n : Bor Node). n.now)
    (take i nodes))) ++ r ∷ []) c.in_ok-inner_row.ensures
    ∙ sym (placed_more f nodes i c.index-nodes-place.result c.loop-place-test.true c.index-nodes-place.is)
