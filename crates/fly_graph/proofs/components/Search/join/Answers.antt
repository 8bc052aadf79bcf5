use Rattle.std.proofs.Common.{◌≡◌, ℕ, true, false, List, leb, length, take, filter, sym, ◌∙◌, ap, subst, arith, rules}
use Rattle.std.specs.List.Sorted.{IsNonDecreasingBy, IsPartitionedBy, IsPartitionPoint}
use Rattle.fly_graph.proofs.SearchLists.{non_decreasing_from_rising}
use Rattle.std.proofs.lemmas.List.Sorted.{IsPartitionPoint-from_clause, IsPartitionedBy-leb}
use Rattle.fly_graph.specs.Components.{state_of}
use Rattle.fly_graph.proofs.AdjacencyLemmas.{filter_between}
use Rattle.fly_graph.proofs.components.Search.join.Goals as goal

-- the bounds up to a place are those that a filter keeps
pub returns : goal.returns
returns c =
    let bounds : List ℕ = c.args.self.now.bounds.items in
    let kept = c.partition_point-kept.result in
    let parted : IsPartitionedBy (λ bound. leb bound c.args.place) c.deref.result.now = IsPartitionedBy-leb (λ bound. bound) _ c.args.place (let N : List ℕ → Type 0 = λ xs. IsNonDecreasingBy (λ x. x) xs in subst N (sym c.deref.ensures.value) (non_decreasing_from_rising bounds c.requires)) in
    let point = IsPartitionPoint-from_clause (λ bound. leb bound c.args.place) _ _ c.partition_point-kept.ensures.partitioned parted (λ a r q k. search rules) in
    let P : List ℕ → Type 0 = λ xs. IsPartitionPoint (λ bound. leb bound c.args.place ≡ true) (λ bound. leb bound c.args.place ≡ false) xs kept in
    let over : P bounds = subst P c.deref.ensures.value point in
    let front : take kept bounds ≡ filter (λ bound. leb bound c.args.place) bounds = filter_between (λ bound. leb bound c.args.place) 0 bounds 0 kept (omega (arith, c.partition_point-kept.ensures.bound, ap length c.deref.ensures.value)) (λ k within. (λ before. absurd (omega arith), λ _ before. over.0 k 0 (omega arith) (omega arith), λ past. over.1 k 0 (omega arith) within)) in
    ap (λ xs. record (state_of c.args.self.now) { bounds = xs }) (c.truncate.ensures.items ∙ front)
