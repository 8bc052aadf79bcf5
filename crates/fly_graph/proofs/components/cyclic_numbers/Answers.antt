use Rattle.std.proofs.Common.{◌≡◌, ◌↔◌, ℕ, ◌+◌, ◌<◌, Vec, Global, List, Bool, true, false, [], ◌∷◌, ◌++◌, get_or, sym, ◌∙◌, ap, subst, arith}
use Rattle.std.specs.List.{Contains, AllPairs}
use Rattle.std.proofs.lemmas.List.{get_or_read}
use Rattle.fly_graph.proofs.OrderLemmas.{last_below}
use Rattle.fly_graph.proofs.SearchLists.{AllPairs_push, flagged_more, flagged_same}
use Rattle.fly_graph.proofs.components.cyclic_numbers.Goals.{then-index+in_ok-push, else-index}
use Rattle.fly_graph.proofs.components.cyclic_numbers.Goals as goal

pub loop-v-preserved : goal.loop-v-preserved
loop-v-preserved c =
    let flags : List Bool = c.in_ok-cyclic.cyclic.items in
    let numbers : List ℕ = c.loop-v.numbers.items in
    let v = c.loop-v.v in
    let read : c.index.result.now ≡ get_or flags v false = get_or_read flags v c.index.result.now (omega (arith, c.in_ok-cyclic.ensures.len)) c.index.ensures false in
    let Rising : List ℕ → Type 0 = AllPairs (λ x y. x < y) in
    let Kept : List ℕ → Type 0 = λ xs. (q : ℕ) → Contains xs q ↔ ((q < v + 1) × (get_or flags q false ≡ true)) in
    elim c.if-index.branch [
      | then-index+in_ok-push w ↦
          let new : c.if-index.numbers.items ≡ numbers ++ v ∷ [] = ap (λ (xs : Vec ℕ Global). xs.items) w.numbers-is ∙ w.in_ok-push.ensures.items in
          record {
            rising = subst Rising (sym new) (AllPairs_push numbers v c.loop-v.invariant.rising (λ x has. ((c.loop-v.invariant.kept x).0 has).0));
            kept = subst Kept (sym new) (flagged_more numbers flags v c.loop-v.invariant.kept (sym read ∙ w.if-index.true));
          }
      | else-index w ↦
          let same : c.if-index.numbers.items ≡ numbers = ap (λ (xs : Vec ℕ Global). xs.items) w.numbers-is in
          record {
            rising = subst Rising (sym same) c.loop-v.invariant.rising;
            kept = subst Kept (sym same) (flagged_same numbers flags v c.loop-v.invariant.kept (sym read ∙ w.if-index.false));
          }
    ]

pub returns-clause-cyclic : goal.returns-clause-cyclic
returns-clause-cyclic c = λ v.
    let kept = c.loop-v.invariant.kept v in (
      λ has. let both = kept.0 has in (c.in_ok-cyclic.ensures.cyclic v (let low : v < c.loop-v.v = both.0 in omega arith)).0 both.1,
      λ cycle.
          let small : v < c.args.adjacency.now.count = last_below (record { count = c.args.adjacency.now.count; edges = c.args.adjacency.now.edges.items }) c.args.adjacency.now.indexed.ends v cycle.0 v cycle.1 in
          kept.1 (omega arith, (c.in_ok-cyclic.ensures.cyclic v small).1 cycle),
    )
