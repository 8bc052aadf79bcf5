-- Orders of a graph of what numbers look at.
use Rattle.std.proofs.Common.{◌≡◌, ℕ, suc, ◌+◌, ◌<◌, List, [], ◌∷◌, ◌++◌, map, flat_map, length, get_or, take, Contains, Option, Some, option_to_list, refl, sym, ◌∙◌, ap, subst, arith, append-nil, add-one}
use Rattle.std.specs.List.{slice_get, slice_index, range_with_len}
use Rattle.std.proofs.lemmas.Grind.{flat_map-append}
use Rattle.std.proofs.lemmas.List.{get_or_default}
use Rattle.std.proofs.lemmas.Option.{slice_get_read}
use Rattle.fly_graph.specs.Orders.{Digraph, graph_of, EndsBelow, HasEachOnce, TakesLeastFree, IsAcyclic}
use Rattle.fly_graph.specs.Faults.{AreCyclic}
use Rattle.fly_rules.specs.Rules.{look_edges, IsGrounded}
use Rattle.fly_rules.proofs.GroundLemmas.{look_edge, look_edges_end}
use Rattle.fly_state.specs.declared.sites.Site.{Site}
use Rattle.fly_state.specs.Looks.{IsLookOrder}
use Rattle.fly_state.specs.Sites.{looks_at}
use Rattle.fly_state.proofs.Lists.{range-more}

module _ (looks : ℕ → List ℕ) where
  pub look_edges-more : (n : ℕ) → look_edges looks (n + 1) ≡ look_edges looks n ++ map (λ u. (u, n)) (looks n)
  look_edges-more n =
      let from : ℕ → List (ℕ × ℕ) = λ v. map (λ u. (u, v)) (looks v) in
      let e : n + 1 ≡ suc n = omega arith in
      let last : 0 + n ≡ n = omega arith in
      ap (λ k. look_edges looks k) e
      ∙ ap (flat_map from) (range-more 0 n ∙ ap (λ k. range_with_len 0 n ++ k ∷ []) last)
      ∙ flat_map-append from (range_with_len 0 n) (n ∷ [])
      ∙ ap (λ r. look_edges looks n ++ r) (append-nil (from n))

  module _ (count : ℕ) (grounded : IsGrounded looks count) where
    pub ends-below : (edges : List (ℕ × ℕ)) → edges ≡ look_edges looks count → EndsBelow count edges
    ends-below edges same = subst (EndsBelow count) (sym same) (look_edges_end looks count grounded)

    pub order-is : (g : Digraph) (edges : List (ℕ × ℕ)) (order : List ℕ) → g ≡ graph_of count edges → edges ≡ look_edges looks count
        → HasEachOnce g.count order → TakesLeastFree g order → IsLookOrder looks count order
    order-is g edges order is same once least =
        let whole : g ≡ graph_of count (look_edges looks count) = is ∙ ap (graph_of count) same in
        let taken : TakesLeastFree (graph_of count (look_edges looks count)) order = subst (λ (d : Digraph). TakesLeastFree d order) whole least in
        record {
          once = subst (λ (d : Digraph). HasEachOnce d.count order) is once;
          back = λ i u within looked.
              let free = (taken i within).free in
              free.ready u (look_edge looks count grounded (slice_index order i) u free.below looked);
        }

    pub no-cycle : (g : Digraph) (edges : List (ℕ × ℕ)) (numbers : List ℕ) → g ≡ graph_of count edges → edges ≡ look_edges looks count
        → AreCyclic g.edges numbers → ⊥
    no-cycle g edges numbers is same cyclic =
        let acyclic : IsAcyclic g.edges =
        subst IsAcyclic (sym same ∙ sym (ap (λ (d : Digraph). d.edges) is)) grounded.acyclic in
        let first : ℕ = get_or numbers 0 0 in
        acyclic first ((cyclic.each first).0 (0, cyclic.some, get_or_default numbers 0 first 0 cyclic.some))

-- what a site of the list looks at
pub looks-of_site : (sites : List Site) (i : ℕ) (site : Site) → i < length sites → site ≡ get_or sites i site → looks_at sites i ≡ site.looks
looks-of_site sites i site within is =
    ap (λ o. flat_map (λ (s : Site). s.looks) (option_to_list o)) (slice_get_read sites (length sites) i site refl within is)
    ∙ append-nil site.looks
