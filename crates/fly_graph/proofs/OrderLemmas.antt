-- What taking the least free number again and again gives, and when it stops.
use Rattle.std.proofs.Common.{◌≡◌, ◌⊎◌, ℕ, zero, suc, ◌+◌, ◌<◌, ◌≤◌, List, [], ◌∷◌, ◌++◌, length, get_or, take, eqb, inl, inr, ⊎_elim, refl, sym, ◌∙◌, subst, ap, add-one, arith}
use Rattle.std.specs.List.{Contains, IsDistinct}
use Rattle.std.proofs.lemmas.Bool.{cases_eq, cases_lt}
use Rattle.std.proofs.lemmas.List.{get_or_default, take_all, take_more_same, length_push, get_or_push, get_or_append_left, take-append-le, take_at}
use Rattle.std.proofs.lemmas.List.Elements.{All-contains, Contains-append_right}
use Rattle.fly_graph.specs.Walks.{IsEdge, IsWalk, Reaches}
use Rattle.fly_graph.specs.Orders.{Digraph, EndsBelow, IsFree, IsLeastFree, TakesLeastFree, HasEachOnce, EdgesGoForward, IsAcyclic, IsOrder, IsLeastOrder}
use Rattle.fly_graph.proofs.WalkLemmas.{reaches_by_edge, reaches_trans}
use Rattle.fly_graph.proofs.Members.{contains_or_not, Contains-take_at, Contains-take_from, IsDistinct_from_fresh, IsDistinct_before, IsDistinct_nil, Contains-cons_cases, Contains-nil, length_le, all_there, missing_one, below_cons}

module _ (graph : Digraph) where
  -- a list that takes the least free number each time has different numbers, each of them of the graph
  taken_distinct : (order : List ℕ) → TakesLeastFree graph order → IsDistinct eqb order
  taken_distinct order takes = IsDistinct_from_fresh order (λ j within. (takes j within).free.fresh)

  taken_below : (order : List ℕ) → TakesLeastFree graph order → (v : ℕ) → Contains order v → v < graph.count
  taken_below order takes v has =
      subst (λ w. w < graph.count) (get_or_default order has.0 0 v has.1 ∙ has.2) (takes has.0 has.1).free.below

  pub taken_length : (order : List ℕ) → TakesLeastFree graph order → length order ≤ graph.count
  taken_length order takes = length_le order graph.count (taken_distinct order takes) (taken_below order takes)

  pub taken_once : (order : List ℕ) → TakesLeastFree graph order → length order ≡ graph.count → HasEachOnce graph.count order
  taken_once order takes len = record {
    len = len;
    each = λ v. (λ small. all_there order graph.count (taken_distinct order takes) (taken_below order takes) (omega arith) v small, taken_below order takes v);
  }

  -- one more
  pub takes_push : (order : List ℕ) (v : ℕ) → TakesLeastFree graph order → IsLeastFree graph order v → TakesLeastFree graph (order ++ v ∷ [])
  takes_push order v takes least i within =
      ⊎_elim (λ e.
      let value : v ≡ get_or (order ++ v ∷ []) i 0 = sym (get_or_push order v 0 i (sym e)) in
      let front : order ≡ take i (order ++ v ∷ []) = sym (take_at order (v ∷ []) i (sym e)) in
      subst (λ w. IsLeastFree graph (take i (order ++ v ∷ [])) w) value (subst (λ done. IsLeastFree graph done v) front least))
      (λ other.
      let long : i < length order = omega (arith, length_push order v) in
      let value : get_or order i 0 ≡ get_or (order ++ v ∷ []) i 0 = sym (get_or_append_left order (v ∷ []) 0 i long) in
      let front : take i order ≡ take i (order ++ v ∷ []) = sym (take-append-le i order (v ∷ []) (omega arith)) in
      subst (λ w. IsLeastFree graph (take i (order ++ v ∷ [])) w) value (subst (λ done. IsLeastFree graph done (get_or order i 0)) front (takes i long)))
      (cases_eq i (length order))

  -- where an edge ends in the list, it begins before that
  pub begins_before : (order : List ℕ) → TakesLeastFree graph order → (u v j : ℕ) → j < length order → get_or order j 0 ≡ v → IsEdge graph.edges u v → (i : ℕ) × (i < j) × (i < length order) × (get_or order i 0 ≡ u)
  begins_before order takes u v j within e edge =
      Contains-take_at order j u ((takes j within).free.ready u (subst (IsEdge graph.edges u) (sym e) edge))

  same_place : (order : List ℕ) → TakesLeastFree graph order → (i j : ℕ) → i < j → j < length order → get_or order i 0 ≡ get_or order j 0 → ⊥
  same_place order takes i j before within e =
      (takes j within).free.fresh (subst (Contains (take j order)) e (Contains-take_from order j i before (omega arith)))

  pub taken_forward : (order : List ℕ) → TakesLeastFree graph order → EdgesGoForward graph.edges order
  taken_forward order takes i j first second edge =
      let there = begins_before order takes (get_or order i 0) (get_or order j 0) j second refl edge in
      let before : there.0 < j = there.1 in
      ⊎_elim (λ e. let less : i < j = omega arith in less)
      (λ apart. absurd (⊎_elim
      (λ less. same_place order takes there.0 i less first there.3)
      (λ more. same_place order takes i there.0 (let other : (there.0 ≡ i) → ⊥ = apart in omega arith) there.2 (sym there.3))
      (cases_lt there.0 i)))
      (cases_eq there.0 i)

  -- where a walk ends in the list, it begins before that
  walks_forward : (order : List ℕ) → TakesLeastFree graph order → (u : ℕ) (between : List ℕ) (v j : ℕ) → j < length order → get_or order j 0 ≡ v → IsWalk graph.edges u between v → (i : ℕ) × (i < j) × (i < length order) × (get_or order i 0 ≡ u)
  walks_forward order takes u [] v j within e walk = begins_before order takes u v j within e walk
  walks_forward order takes u (w ∷ between) v j within e walk =
      let later = walks_forward order takes w between v j within e walk.1 in
      let there = begins_before order takes u w later.0 later.2 later.3 walk.0 in
      let first : there.0 < later.0 = there.1 in
      let second : later.0 < j = later.1 in
      (there.0, omega arith, there.2, there.3)

  never_back : (order : List ℕ) → TakesLeastFree graph order → (v n j : ℕ) → j < n → j < length order → get_or order j 0 ≡ v → Reaches graph.edges v v → ⊥
  never_back order takes v zero j small within e walk = absurd (omega arith)
  never_back order takes v (suc n) j small within e walk =
      let there = walks_forward order takes v walk.0 v j within e walk.1 in
      let before : there.0 < j = there.1 in
      never_back order takes v n there.0 (omega arith) there.2 there.3 walk

  pub last_below : EndsBelow graph.count graph.edges → (u : ℕ) (between : List ℕ) (v : ℕ) → IsWalk graph.edges u between v → v < graph.count
  last_below ends u [] v walk = (All-contains (λ edge. (edge.0 < graph.count) × (edge.1 < graph.count)) graph.edges (u, v) ends walk).1
  last_below ends u (w ∷ between) v walk = last_below ends w between v walk.1

  -- a list with each number once leaves no cycle
  pub acyclic_from_order : (order : List ℕ) → EndsBelow graph.count graph.edges → IsLeastOrder graph order → IsAcyclic graph.edges
  acyclic_from_order order ends least v walk =
      let has = (least.once.each v).0 (last_below ends v walk.0 v walk.1) in
      never_back order least.least v (suc has.0) has.0 (omega arith) has.1 (get_or_default order has.0 0 v has.1 ∙ has.2) walk

  -- two lists that take the least free number each time begin alike
  same_fronts : (order other : List ℕ) → TakesLeastFree graph order → TakesLeastFree graph other → (n : ℕ) → n ≤ length order → n ≤ length other → take n order ≡ take n other
  same_fronts order other takes others zero first second = refl
  same_fronts order other takes others (suc n) first second =
      let front : take n order ≡ take n other = same_fronts order other takes others n (omega arith) (omega arith) in
      let one : n < length order = omega arith in
      let two : n < length other = omega arith in
      let low : get_or order n 0 ≤ get_or other n 0 = (takes n one).least _ (subst (λ done. IsFree graph done (get_or other n 0)) (sym front) (others n two).free) in
      let high : get_or other n 0 ≤ get_or order n 0 = (others n two).least _ (subst (λ done. IsFree graph done (get_or order n 0)) front (takes n one).free) in
      let more : take (n + 1) order ≡ take (n + 1) other = take_more_same order other n 0 one two front (omega arith) in
      rw (← add-one n) more

  pub one_order : (order other : List ℕ) → IsLeastOrder graph order → IsLeastOrder graph other → order ≡ other
  one_order order other least others =
      let first : length order ≤ graph.count = omega (arith, least.once.len) in
      let second : length other ≤ graph.count = omega (arith, others.once.len) in
      sym (take_all graph.count order first)
      ∙ same_fronts order other least.least others.least graph.count (omega (arith, least.once.len)) (omega (arith, others.once.len))
      ∙ take_all graph.count other second

-- among the edges one leads to v from outside done, or all come from done
abbrev Blocks : List ℕ → ℕ → List (ℕ × ℕ) → Type 0
Blocks done v edges = (u : ℕ) × IsEdge edges u v × (Contains done u → ⊥)

abbrev Allows : List ℕ → ℕ → List (ℕ × ℕ) → Type 0
Allows done v edges = (u : ℕ) → IsEdge edges u v → Contains done u

allows_more : (done : List ℕ) (v : ℕ) (edge : ℕ × ℕ) (edges : List (ℕ × ℕ)) → (edge.1 ≡ v → Contains done edge.0) → Allows done v edges → Allows done v (edge ∷ edges)
allows_more done v edge edges here others u has =
    ⊎_elim (λ e. let P : (ℕ × ℕ) → Type 0 = λ pair. Contains done pair.0 in subst P e (here (ap (λ (pair : ℕ × ℕ). pair.1) e))) (λ other. others u other) (Contains-cons_cases edge edges (u, v) has)

blocked_or_ready : (done : List ℕ) (v : ℕ) (edges : List (ℕ × ℕ)) → Blocks done v edges ⊎ Allows done v edges
blocked_or_ready done v [] = inr (λ u has. absurd (Contains-nil (u, v) has))
blocked_or_ready done v (edge ∷ edges) =
    ⊎_elim (λ blocks. inl (blocks.0, Contains-append_right (edge ∷ []) edges (blocks.0, v) blocks.1, blocks.2))
    (λ allows. ⊎_elim
    (λ e. ⊎_elim
    (λ has. inr (allows_more done v edge edges (λ _. has) allows))
    (λ lacks. inl (edge.0, (0, omega arith, ap (λ w. (edge.0, w)) e), lacks))
    (contains_or_not done edge.0))
    (λ apart. inr (allows_more done v edge edges (λ e. absurd (apart e)) allows))
    (cases_eq edge.1 v))
    (blocked_or_ready done v edges)

-- where each number of a kind, all of them below n, has an edge from a number of that kind, some number reaches itself
module _ (edges : List (ℕ × ℕ)) (n : ℕ) (Q : ℕ → Type 0) (before : (v : ℕ) → Q v → (u : ℕ) × (u < n) × IsEdge edges u v × Q u) where
  trail : (fuel v : ℕ) (seen : List ℕ) → Q v → IsDistinct eqb (v ∷ seen) → ((q : ℕ) → Contains (v ∷ seen) q → q < n) → ((x : ℕ) → Contains seen x → Reaches edges v x) → n ≤ fuel + length seen → (x : ℕ) × Reaches edges x x
  trail zero v seen kind distinct below reaches long =
      let few : length (v ∷ seen) ≤ n = length_le (v ∷ seen) n distinct below in
      absurd (omega arith)
  trail (suc fuel) v seen kind distinct below reaches long =
      let u = before v kind in
      let edge : Reaches edges u.0 v = reaches_by_edge edges u.0 v u.2 in
      let on : (x : ℕ) → Contains (v ∷ seen) x → Reaches edges u.0 x = λ x has. ⊎_elim (λ e. subst (Reaches edges u.0) e edge) (λ other. reaches_trans edges u.0 v x edge (reaches x other)) (Contains-cons_cases v seen x has) in
      ⊎_elim (λ has. (u.0, on u.0 has))
      (λ lacks. trail fuel u.0 (v ∷ seen) u.3 (IsDistinct_before u.0 (v ∷ seen) lacks distinct) (below_cons u.0 (v ∷ seen) n u.1 below) on (omega arith))
      (contains_or_not (v ∷ seen) u.0)

module _ (graph : Digraph) (ends : EndsBelow graph.count graph.edges) where
  first_below : (u v : ℕ) → IsEdge graph.edges u v → u < graph.count
  first_below u v edge = (All-contains (λ edge. (edge.0 < graph.count) × (edge.1 < graph.count)) graph.edges (u, v) ends edge).0

  -- where numbers are left and none of them is free, one reaches itself
  pub cycle_from_stuck : (order : List ℕ) → ((v : ℕ) → IsFree graph order v → ⊥) → length order < graph.count → (x : ℕ) × Reaches graph.edges x x
  cycle_from_stuck order stuck short =
      let first = missing_one order graph.count short in
      let Q : ℕ → Type 0 = λ v. (v < graph.count) × (Contains order v → ⊥) in
      let before : (v : ℕ) → Q v → (u : ℕ) × (u < graph.count) × IsEdge graph.edges u v × Q u = λ v kind.
      ⊎_elim (λ blocks.
      let small = first_below blocks.0 v blocks.1 in
      (blocks.0, small, blocks.1, (small, blocks.2)))
      (λ allows. absurd (stuck v (record { below = kind.0; fresh = kind.1; ready = allows })))
      (blocked_or_ready order v graph.edges) in
      trail graph.edges graph.count Q before graph.count first.0 [] (first.1, first.2) (IsDistinct_before first.0 [] (Contains-nil first.0) IsDistinct_nil)
      (below_cons first.0 [] graph.count first.1 (λ q has. absurd (Contains-nil q has))) (λ x has. absurd (Contains-nil x has)) (omega arith)

  free_or_not : (done : List ℕ) (v : ℕ) → IsFree graph done v ⊎ (IsFree graph done v → ⊥)
  free_or_not done v =
      ⊎_elim (λ small. ⊎_elim
      (λ has. inr (λ free. free.fresh has))
      (λ lacks. ⊎_elim
      (λ blocks. inr (λ free. blocks.2 (free.ready blocks.0 blocks.1)))
      (λ allows. inl (record { below = small; fresh = lacks; ready = allows }))
      (blocked_or_ready done v graph.edges))
      (contains_or_not done v))
      (λ large. inr (λ free. let small : v < graph.count = free.below in absurd (omega arith)))
      (cases_lt v graph.count)

  least_below : (done : List ℕ) (n : ℕ) → ((v : ℕ) × IsFree graph done v × ((w : ℕ) → w < v → IsFree graph done w → ⊥)) ⊎ ((w : ℕ) → w < n → IsFree graph done w → ⊥)
  least_below done zero = inr (λ w small. absurd (omega arith))
  least_below done (suc n) =
      ⊎_elim (λ found. inl found)
      (λ none. ⊎_elim (λ free. inl (n, free, none))
      (λ not. inr (λ w small free. ⊎_elim (λ e. not (subst (IsFree graph done) e free)) (λ apart. none w (omega arith) free) (cases_eq w n)))
      (free_or_not done n))
      (least_below done n)

  order_by : (fuel : ℕ) (order : List ℕ) → TakesLeastFree graph order → graph.count ≤ fuel + length order → IsAcyclic graph.edges → (whole : List ℕ) × IsLeastOrder graph whole
  order_by zero order takes long acyclic =
      (order, record { once = taken_once graph order takes (omega (arith, taken_length graph order takes)); least = takes })
  order_by (suc fuel) order takes long acyclic =
      ⊎_elim (λ short. ⊎_elim
      (λ found.
      let least : IsLeastFree graph order found.0 = record { free = found.1; least = λ w free. ⊎_elim (λ low. absurd (found.2 w low free)) (λ high. high) (cases_lt w found.0) } in
      order_by fuel (order ++ found.0 ∷ []) (takes_push graph order found.0 takes least) (omega (arith, length_push order found.0)) acyclic)
      (λ none. let cycle = cycle_from_stuck order (λ v free. none v free.below free) short in absurd (acyclic cycle.0 cycle.1))
      (least_below order graph.count))
      (λ full. (order, record { once = taken_once graph order takes (omega (arith, taken_length graph order takes)); least = takes }))
      (cases_lt (length order) graph.count)

  -- where no number reaches itself there is an order
  pub order_from_acyclic : IsAcyclic graph.edges → (order : List ℕ) × IsLeastOrder graph order
  order_from_acyclic acyclic = order_by graph.count [] (λ i within. absurd (omega arith)) (omega arith) acyclic

module _ (graph : Digraph) (ends : EndsBelow graph.count graph.edges) (order : List ℕ) (is_order : IsOrder graph order) where
  -- a walk along an order ends later than it begins
  walks_later : (u : ℕ) (between : List ℕ) (v i j : ℕ) → i < length order → get_or order i 0 ≡ u → j < length order → get_or order j 0 ≡ v → IsWalk graph.edges u between v → i < j
  walks_later u [] v i j first begins second ends_at walk =
      is_order.forward i j first second (subst (λ a. IsEdge graph.edges a (get_or order j 0)) (sym begins) (subst (IsEdge graph.edges u) (sym ends_at) walk))
  walks_later u (w ∷ between) v i j first begins second ends_at walk =
      let has = (is_order.once.each w).0 (All-contains (λ edge. (edge.0 < graph.count) × (edge.1 < graph.count)) graph.edges (u, w) ends walk.0).1 in
      let at : get_or order has.0 0 ≡ w = get_or_default order has.0 0 w has.1 ∙ has.2 in
      let step : i < has.0 = is_order.forward i has.0 first has.1 (subst (λ a. IsEdge graph.edges a (get_or order has.0 0)) (sym begins) (subst (IsEdge graph.edges u) (sym at) walk.0)) in
      let rest : has.0 < j = walks_later w between v has.0 j has.1 at second ends_at walk.1 in
      omega arith

  pub acyclic_from_any_order : IsAcyclic graph.edges
  acyclic_from_any_order v walk =
      let has = (is_order.once.each v).0 (last_below graph ends v walk.0 v walk.1) in
      let at : get_or order has.0 0 ≡ v = get_or_default order has.0 0 v has.1 ∙ has.2 in
      let later : has.0 < has.0 = walks_later v walk.0 v has.0 has.0 has.1 at has.1 at walk.1 in
      absurd (omega arith)
