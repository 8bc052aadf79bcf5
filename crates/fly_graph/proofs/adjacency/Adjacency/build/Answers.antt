use Rattle.std.proofs.Common.{ℕ, ◌<◌, ◌≤◌, List, slice_index, sym, subst, rules}
use Rattle.std.specs.List.Sorted.{IsNonDecreasingBy}
use Rattle.std.proofs.lemmas.List.Sorted.{IsNonDecreasingBy-from_sort, answers_always, All-permutation}
use Rattle.fly_graph.specs.Adjacency.{StartsAt}
use Rattle.fly_graph.proofs.adjacency.Adjacency.build.Goals as goal

pub starts_of-requires : goal.starts_of-requires
starts_of-requires c =
    let sorted : IsNonDecreasingBy (λ (edge : ℕ × ℕ). edge.0) c.sort_unstable_by_key.new.self.items = IsNonDecreasingBy-from_sort (λ (edge : ℕ × ℕ). edge.0) _ (c.sort_unstable_by_key.ensures.sorted (λ (edge : ℕ × ℕ). edge.0) (answers_always _ _ _ (λ f a r g h. search rules))) in
    let P : List (ℕ × ℕ) → Type 0 = λ xs. IsNonDecreasingBy (λ (edge : ℕ × ℕ). edge.0) xs in
    subst P (sym c.as_slice.ensures.value) sorted

pub invariant_of-result : goal.invariant_of-result
invariant_of-result c = record {
  indexed = record {
    len = c.in_ok-starts.ensures.len;
    each = let P : List (ℕ × ℕ) → Type 0 = λ xs. (v : ℕ) → v ≤ c.args.count → StartsAt xs v (slice_index c.in_ok-starts.starts.items v) in subst P c.as_slice.ensures.value c.in_ok-starts.ensures.each;
    ends = All-permutation (λ (edge : ℕ × ℕ). (edge.0 < c.args.count) × (edge.1 < c.args.count)) _ _
        c.sort_unstable_by_key.ensures.permutation c.requires;
  };
}
