-- What the loop over free numbers keeps: how many edges each number waits for, and which numbers are free.
use Rattle.std.proofs.Common.{◌≡◌, ◌↔◌, ℕ, ◌+◌, ◌<◌, ◌≤◌, Bool, true, false, cond, not, ◌&&◌, ◌||◌, List, [], ◌∷◌, ◌++◌, length, get_or, eqb, ltb, count_by, ⊎_elim, refl, sym, ◌∙◌, ap, subst, arith}
use Rattle.std.specs.List.{Contains, list_any}
use Rattle.std.specs.Ordering.{nat_cmp}
use Rattle.std.specs.BTreeSet.{contains, BTreeSet}
use Rattle.std.proofs.lemmas.Bool.{eq-eqb, ne_eqb, eqb-true, cases_lt, cases_eq, false≢true, and_parts, and_from, lt-ltb, ltb-true, or_cases, or_left, or_right}
use Rattle.std.proofs.lemmas.List.{get_or_default, length_push}
use Rattle.std.proofs.lemmas.List.Sums.{sum_by-cons}
use Rattle.std.proofs.lemmas.List.Folds.{list_any-append}
use Rattle.std.proofs.lemmas.List.Elements.{All-contains, Contains-push, Contains-push_cases, Contains-get_or, Contains-append_left, Contains-append_right}
use Rattle.fly_graph.specs.Walks.{IsEdge}
use Rattle.fly_graph.specs.Orders.{Digraph, EndsBelow, IsFree, IsLeastFree, TakesLeastFree}
use Rattle.fly_graph.specs.Adjacency.{edges_leaving}
use Rattle.fly_graph.proofs.Members.{any_from_Contains, Contains_from_any, not_any, Contains-nil, Contains-cons_cases, Contains-filter, Contains-filter_from}
use Rattle.fly_graph.proofs.OrderLemmas.{takes_push, taken_length, begins_before}
use Rattle.fly_graph.proofs.CountLemmas.{one_if, edges_to, is_freed}

-- the edge leads to v, from outside done
abbrev pub holds_back : List ℕ → ℕ → (ℕ × ℕ) → Bool
holds_back done v edge = eqb edge.1 v && not (list_any (eqb edge.0) done)

-- how many edges v waits for once the numbers of done are taken
abbrev pub waiting : List ℕ → ℕ → List (ℕ × ℕ) → ℕ
waiting done v edges = count_by (holds_back done v) edges

waiting_cons : (done : List ℕ) (v : ℕ) (edge : ℕ × ℕ) (edges : List (ℕ × ℕ)) → waiting done v (edge ∷ edges) ≡ one_if (holds_back done v edge) + waiting done v edges
waiting_cons done v edge edges = sum_by-cons (λ e. cond (holds_back done v e) 1 0) edge edges

edges_to_cons : (v : ℕ) (edge : ℕ × ℕ) (edges : List (ℕ × ℕ)) → edges_to v (edge ∷ edges) ≡ one_if (eqb edge.1 v) + edges_to v edges
edges_to_cons v edge edges = sum_by-cons (λ e. cond (eqb e.1 v) 1 0) edge edges

from_nothing : (a : Bool) → one_if (a && not false) ≡ one_if a
from_nothing true = refl
from_nothing false = refl

pub waiting_first : (v : ℕ) (edges : List (ℕ × ℕ)) → waiting [] v edges ≡ edges_to v edges
waiting_first v [] = refl
waiting_first v (edge ∷ edges) = omega (arith, waiting_cons [] v edge edges, edges_to_cons v edge edges, from_nothing (eqb edge.1 v), waiting_first v edges)

one_step : (a b d : Bool) → (b ≡ true → d ≡ false) → one_if (a && not (d || (b || false))) + cond b (one_if a) 0 ≡ one_if (a && not d)
one_step true true true h = absurd (false≢true (sym (h refl)))
one_step true true false h = refl
one_step true false true h = refl
one_step true false false h = refl
one_step false true d h = refl
one_step false false d h = refl

leaving_cons : (b : Bool) (v : ℕ) (edge : ℕ × ℕ) (rest : List (ℕ × ℕ)) → edges_to v (cond b (edge ∷ rest) rest) ≡ cond b (one_if (eqb edge.1 v)) 0 + edges_to v rest
leaving_cons true v edge rest = edges_to_cons v edge rest
leaving_cons false v edge rest = omega arith

-- the edges that leave u are no longer waited for once u is taken
pub waiting_less : (done : List ℕ) (u v : ℕ) (edges : List (ℕ × ℕ)) → (Contains done u → ⊥) → waiting (done ++ u ∷ []) v edges + edges_to v (edges_leaving edges u) ≡ waiting done v edges
waiting_less done u v [] new = refl
waiting_less done u v (edge ∷ edges) new =
    let a : Bool = eqb edge.1 v in
    let b : Bool = eqb edge.0 u in
    let d : Bool = list_any (eqb edge.0) done in
    let none : b ≡ true → d ≡ false = λ e. not_any done edge.0 (λ has. new (subst (Contains done) (eqb-true edge.0 u e) has)) in
    let more : one_if (holds_back (done ++ u ∷ []) v edge) ≡ one_if (a && not (d || (b || false))) = ap (λ t. one_if (a && not t)) (list_any-append (eqb edge.0) done (u ∷ [])) in
    omega (arith, waiting_cons (done ++ u ∷ []) v edge edges, waiting_cons done v edge edges, leaving_cons b v edge (edges_leaving edges u), one_step a b d none, more, waiting_less done u v edges new)

all_passed : (a d : Bool) → one_if (a && not d) ≡ 0 → a ≡ true → d ≡ true
all_passed true true h e = refl
all_passed true false h e = absurd (omega arith)
all_passed false d h e = absurd (false≢true e)

none_passed : (a d : Bool) → (a ≡ true → d ≡ true) → one_if (a && not d) ≡ 0
none_passed true true h = refl
none_passed true false h = absurd (false≢true (h refl))
none_passed false d h = refl

-- what waits for no edge has all its edges from done
pub ready_from_waiting : (done : List ℕ) (v : ℕ) (edges : List (ℕ × ℕ)) → waiting done v edges ≡ 0 → (u : ℕ) → IsEdge edges u v → Contains done u
ready_from_waiting done v [] none u edge = absurd (Contains-nil (u, v) edge)
ready_from_waiting done v (first ∷ edges) none u edge =
    let parts = waiting_cons done v first edges in
    ⊎_elim (λ e.
    let here : one_if (holds_back done v first) ≡ 0 = omega arith in
    let from : Contains done first.0 = Contains_from_any done first.0 (all_passed (eqb first.1 v) (list_any (eqb first.0) done) here (eq-eqb first.1 v (ap (λ (pair : ℕ × ℕ). pair.1) e))) in
    subst (Contains done) (ap (λ (pair : ℕ × ℕ). pair.0) e) from)
    (λ other. ready_from_waiting done v edges (omega arith) u other)
    (Contains-cons_cases first edges (u, v) edge)

pub waiting_from_ready : (done : List ℕ) (v : ℕ) (edges : List (ℕ × ℕ)) → ((u : ℕ) → IsEdge edges u v → Contains done u) → waiting done v edges ≡ 0
waiting_from_ready done v [] ready = refl
waiting_from_ready done v (first ∷ edges) ready =
    let here : one_if (holds_back done v first) ≡ 0 = none_passed (eqb first.1 v) (list_any (eqb first.0) done) (λ e. any_from_Contains done first.0 (ready first.0 (0, omega arith, ap (λ w. (first.0, w)) (eqb-true first.1 v e)))) in
    omega (arith, waiting_cons done v first edges, waiting_from_ready done v edges (λ u edge. ready u (Contains-append_right (first ∷ []) edges (u, v) edge)))

-- edges to v are counted where there is one
edge_from_count : (v : ℕ) (edges : List (ℕ × ℕ)) → 0 < edges_to v edges → (u : ℕ) × IsEdge edges u v
edge_from_count v [] some = absurd (omega arith)
edge_from_count v (first ∷ edges) some =
    ⊎_elim (λ e. (first.0, (0, omega arith, ap (λ w. (first.0, w)) e)))
    (λ apart.
    let no : one_if (eqb first.1 v) ≡ 0 = ap one_if (ne_eqb first.1 v apart) in
    let more = edge_from_count v edges (omega (arith, edges_to_cons v first edges)) in
    (more.0, Contains-append_right (first ∷ []) edges (more.0, v) more.1))
    (cases_eq first.1 v)

count_from_edge : (u v : ℕ) (edges : List (ℕ × ℕ)) → IsEdge edges u v → 0 < edges_to v edges
count_from_edge u v [] edge = absurd (Contains-nil (u, v) edge)
count_from_edge u v (first ∷ edges) edge =
    ⊎_elim (λ e.
    let yes : one_if (eqb first.1 v) ≡ 1 = ap one_if (eq-eqb first.1 v (ap (λ (pair : ℕ × ℕ). pair.1) e)) in
    omega (arith, edges_to_cons v first edges))
    (λ other. omega (arith, edges_to_cons v first edges, count_from_edge u v edges other))
    (Contains-cons_cases first edges (u, v) edge)

pub edge_from_leaving : (edges : List (ℕ × ℕ)) (u v : ℕ) → 0 < edges_to v (edges_leaving edges u) → IsEdge edges u v
edge_from_leaving edges u v some =
    let one = edge_from_count v (edges_leaving edges u) some in
    let kept = Contains-filter (λ (edge : ℕ × ℕ). eqb edge.0 u) edges (one.0, v) one.1 in
    subst (λ w. IsEdge edges w v) (eqb-true one.0 u kept.1) kept.0

pub leaving_from_edge : (edges : List (ℕ × ℕ)) (u v : ℕ) → IsEdge edges u v → 0 < edges_to v (edges_leaving edges u)
leaving_from_edge edges u v edge = count_from_edge u v (edges_leaving edges u) (Contains-filter_from (λ (e : ℕ × ℕ). eqb e.0 u) edges (u, v) edge (eq-eqb u u refl))

-- the state of the loop
pub record IsScheduled (graph : Digraph) (missing : List ℕ) (free : BTreeSet ℕ) (order : List ℕ) : Type 0 where
  pub takes : TakesLeastFree graph order
  pub len : length missing ≡ graph.count
  pub counted : (v : ℕ) → v < graph.count → get_or missing v 0 ≡ waiting order v graph.edges
  pub frees : (v : ℕ) → (contains nat_cmp free v ≡ true) ↔ IsFree graph order v

module _ (graph : Digraph) where
  -- before any number is taken
  pub scheduled_start : (missing : List ℕ) (free : BTreeSet ℕ) → length missing ≡ graph.count → ((v : ℕ) → v < graph.count → get_or missing v 0 ≡ edges_to v graph.edges)
      → ((v : ℕ) → contains nat_cmp free v ≡ (ltb v graph.count && eqb (get_or missing v 0) 0)) → IsScheduled graph missing free []
  scheduled_start missing free len counted frees = record {
    takes = λ i within. absurd (omega arith);
    len = len;
    counted = λ v small. counted v small ∙ sym (waiting_first v graph.edges);
    frees = λ v. (
      λ e.
          let parts = and_parts _ _ (sym (frees v) ∙ e) in
          let small : v < graph.count = ltb-true v graph.count parts.0 in
          let none : waiting [] v graph.edges ≡ 0 = waiting_first v graph.edges ∙ sym (counted v small) ∙ eqb-true _ 0 parts.1 in
          record { below = small; fresh = Contains-nil v; ready = ready_from_waiting [] v graph.edges none },
      λ is_free.
          let none : get_or missing v 0 ≡ 0 = counted v is_free.below ∙ sym (waiting_first v graph.edges) ∙ waiting_from_ready [] v graph.edges is_free.ready in
          frees v ∙ and_from _ _ (lt-ltb v graph.count is_free.below) (eq-eqb _ 0 none),
    );
  }

  module _ (ends : EndsBelow graph.count graph.edges) (missing : List ℕ) (free : BTreeSet ℕ) (order : List ℕ) (old : IsScheduled graph missing free order)
      (v : ℕ) (has : contains nat_cmp free v ≡ true) (least : (q : ℕ) → contains nat_cmp free q ≡ true → v ≤ q) where
    taken_free : IsFree graph order v
    taken_free = (old.frees v).0 has

    next_least : IsLeastFree graph order v
    next_least = record { free = taken_free; least = λ w is_free. least w ((old.frees w).1 is_free) }

    -- there was a number left
    pub one_left : length order < graph.count
    one_left = omega (arith, taken_length graph (order ++ v ∷ []) (takes_push graph order v old.takes next_least), length_push order v)

    -- what v has an edge to isn't taken
    target_fresh : (q : ℕ) → IsEdge graph.edges v q → Contains (order ++ v ∷ []) q → ⊥
    target_fresh q edge among =
        ⊎_elim (λ before.
        let there = begins_before graph order old.takes v q before.0 before.1 (get_or_default order before.0 0 q before.1 ∙ before.2) edge in
        taken_free.fresh (subst (Contains order) there.3 (Contains-get_or order there.0 0 there.2)))
        (λ e. taken_free.fresh (taken_free.ready v (subst (IsEdge graph.edges v) (sym e) edge)))
        (Contains-push_cases order v q among)

    still_free : (q : ℕ) → (v ≡ q → ⊥) → IsFree graph order q → IsFree graph (order ++ v ∷ []) q
    still_free q apart is_free = record {
      below = is_free.below;
      fresh = λ among. ⊎_elim is_free.fresh apart (Contains-push_cases order v q among);
      ready = λ u edge. Contains-append_left order (v ∷ []) u (is_free.ready u edge);
    }

    was_free : (q : ℕ) → (IsEdge graph.edges v q → ⊥) → IsFree graph (order ++ v ∷ []) q → IsFree graph order q
    was_free q no_edge is_free = record {
      below = is_free.below;
      fresh = λ among. is_free.fresh (Contains-append_left order (v ∷ []) q among);
      ready = λ u edge. ⊎_elim (λ among. among) (λ e. absurd (no_edge (subst (λ w. IsEdge graph.edges w q) (sym e) edge))) (Contains-push_cases order v u (is_free.ready u edge));
    }

    module _ (rest next : BTreeSet ℕ) (left : List ℕ) (out : contains nat_cmp rest v ≡ false) (others : (q : ℕ) → (v ≡ q → ⊥) → contains nat_cmp rest q ≡ contains nat_cmp free q)
        (len : length left ≡ length missing)
        (taken : (q : ℕ) → q < length missing → get_or left q 0 + edges_to q (edges_leaving graph.edges v) ≡ get_or missing q 0)
        (freed : (q : ℕ) → contains nat_cmp next q ≡ is_freed (contains nat_cmp rest q) (edges_to q (edges_leaving graph.edges v)) (get_or left q 0)) where
      counted_next : (q : ℕ) → q < graph.count → get_or left q 0 ≡ waiting (order ++ v ∷ []) q graph.edges
      counted_next q small = omega (arith, old.len, taken q (omega (arith, old.len)), old.counted q small, waiting_less order v q graph.edges taken_free.fresh)

      free_from_set : (q : ℕ) → contains nat_cmp next q ≡ true → IsFree graph (order ++ v ∷ []) q
      free_from_set q e =
          ⊎_elim (λ before.
          let apart : v ≡ q → ⊥ = λ same. false≢true (sym out ∙ ap (contains nat_cmp rest) same ∙ before) in
          still_free q apart ((old.frees q).0 (sym (others q apart) ∙ before)))
          (λ new.
          let parts = and_parts _ _ new in
          let edge = edge_from_leaving graph.edges v q (ltb-true 0 _ parts.0) in
          let small = (All-contains (λ (e : ℕ × ℕ). (e.0 < graph.count) × (e.1 < graph.count)) graph.edges (v, q) ends edge).1 in
          record {
            below = small;
            fresh = target_fresh q edge;
            ready = ready_from_waiting (order ++ v ∷ []) q graph.edges (sym (counted_next q small) ∙ eqb-true _ 0 parts.1);
          })
          (or_cases _ _ (sym (freed q) ∙ e))

      set_from_free : (q : ℕ) → IsFree graph (order ++ v ∷ []) q → contains nat_cmp next q ≡ true
      set_from_free q is_free =
          ⊎_elim (λ some.
          let none : get_or left q 0 ≡ 0 = counted_next q is_free.below ∙ waiting_from_ready (order ++ v ∷ []) q graph.edges is_free.ready in
          freed q ∙ or_right _ _ (and_from _ _ (lt-ltb 0 _ some) (eq-eqb _ 0 none)))
          (λ few.
          let no_edge : IsEdge graph.edges v q → ⊥ = λ edge. let some : 0 < edges_to q (edges_leaving graph.edges v) = leaving_from_edge graph.edges v q edge in omega arith in
          let apart : v ≡ q → ⊥ = λ same. is_free.fresh (subst (Contains (order ++ v ∷ [])) same (Contains-push order v)) in
          freed q ∙ or_left _ _ (others q apart ∙ (old.frees q).1 (was_free q no_edge is_free)))
          (cases_lt 0 (edges_to q (edges_leaving graph.edges v)))

      -- after v is taken
      pub scheduled_next : IsScheduled graph left next (order ++ v ∷ [])
      scheduled_next = record {
        takes = takes_push graph order v old.takes next_least;
        len = len ∙ old.len;
        counted = counted_next;
        frees = λ q. (free_from_set q, set_from_free q);
      }
