use Rattle.std.proofs.Common.{ℕ, List, ◌++◌, map, take, sym, ap, ◌∙◌}
use Rattle.fly_links.specs.Search.{edges_along}
use Rattle.fly_links.proofs.SearchLemmas.{edges_more}
use Rattle.fly_links.proofs.graph.edges_to.Goals as goal

pub loop-place-preserved : goal.loop-place-preserved
loop-place-preserved c =
    let i = c.loop-place.place in
    let pairs : List ℕ → List (ℕ × ℕ) = map (λ t. (i, t)) in
    c.in_ok-push_edges.ensures
    ∙ ap (λ es. es ++ pairs c.as_slice.result.now) c.loop-place.invariant
    ∙ ap (λ ts. edges_along (take i c.args.targets.now) ++ pairs ts) (c.as_slice.ensures ∙ c.index-targets-place.is)
    ∙ sym (edges_more c.args.targets.now i c.index-targets-place.result c.loop-place-test.true)
