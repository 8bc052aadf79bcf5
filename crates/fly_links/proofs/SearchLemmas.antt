-- A search along lists of targets.
use Rattle.std.proofs.Common.{◌≡◌, ◌⊎◌, ◌<◌, ℕ, ◌+◌, zero, suc, Bool, true, false, cond, not, ◌||◌, eqb, List, [], ◌∷◌, ◌++◌, length, get_or, take, drop, set, map, flat_map, Contains, Result, Ok, Err, IfOk, inl, inr, ⊎_elim, refl, sym, ◌∙◌, ap, subst, arith}
use Rattle.std.specs.Cmp.{both_ways}
use Rattle.std.specs.List.{enumerate_from, list_any}
use Rattle.std.proofs.lemmas.Bool.{false≢true, cases_lt, cases_eq, or_cases, or_left, or_right, eqb-true, eq-eqb}
use Rattle.std.proofs.lemmas.List.{append-nil, take_all, drop_all, length-set, length_push, get_or-set_same, get_or-set_other, get_or_past, get_or_default, flat_map_more}
use Rattle.std.proofs.lemmas.List.Elements.{Contains-append_left, Contains-append_right, Contains-append_cases, Contains-push, Contains-push_cases, Contains-get_or, All-contains}
use Rattle.std.proofs.lemmas.List.Folds.{list_any_at, Any-from_list_any}
use Rattle.std.proofs.lemmas.List.Sums.{sum_by-set}
use Rattle.fly_graph.specs.Walks.{IsEdge, Reaches}
use Rattle.fly_graph.specs.Orders.{EndsBelow}
use Rattle.fly_graph.proofs.Members.{Contains-nil, Contains-cons_cases}
use Rattle.fly_graph.proofs.WalkLemmas.{reaches_by_edge, reaches_trans, holds_along}
use Rattle.fly_docs.specs.Reaching.{reaches}
use Rattle.fly_docs.proofs.ReachingLemmas.{reaches-Decides}
use Rattle.fly_links.proofs.Numbered.{enumerate_more}
use Rattle.fly_links.specs.Search.{AreBelow, edges_along, is_seen, unseen_count, Visits, IsSearch}

-- ---- edges

abbrev edges_from : ℕ → List (List ℕ) → List (ℕ × ℕ)
edges_from n targets = flat_map (λ at. map (λ j. (at.0, j)) at.1) (enumerate_from n targets)

of_pairs : (n : ℕ) (ts : List ℕ) (u v : ℕ) → Contains {X = ℕ × ℕ} (map (λ j. (n, j)) ts) (u, v) → (u ≡ n) × Contains ts v
of_pairs n [] u v c = absurd (Contains-nil (u, v) c)
of_pairs n (t ∷ ts) u v c =
    ⊎_elim (λ same. (sym (ap (λ p. p.0) same), (0, omega arith, ap (λ p. p.1) same)))
    (λ more. let rest = of_pairs n ts u v more in (rest.0, Contains-append_right (t ∷ []) ts v rest.1))
    (Contains-cons_cases (n, t) (map (λ j. (n, j)) ts) (u, v) c)

in_pairs : (n : ℕ) (ts : List ℕ) (v : ℕ) → Contains ts v → Contains {X = ℕ × ℕ} (map (λ j. (n, j)) ts) (n, v)
in_pairs n [] v c = absurd (Contains-nil v c)
in_pairs n (t ∷ ts) v c =
    ⊎_elim (λ same. (0, omega arith, ap (λ j. (n, j)) same))
    (λ more. Contains-append_right ((n, t) ∷ []) (map (λ j. (n, j)) ts) (n, v) (in_pairs n ts v more))
    (Contains-cons_cases t ts v c)

of_edges : (n : ℕ) (targets : List (List ℕ)) (u v : ℕ) → Contains {X = ℕ × ℕ} (edges_from n targets) (u, v)
    → (k : ℕ) × (u ≡ n + k) × (k < length targets) × Contains (get_or targets k []) v
of_edges n [] u v c = absurd (Contains-nil (u, v) c)
of_edges n (ts ∷ targets) u v c =
    ⊎_elim (λ here. let pair = of_pairs n ts u v here in (0, omega (arith, pair.0), omega arith, pair.1))
    (λ later. let rest = of_edges (n + 1) targets u v later in (suc rest.0, omega (arith, rest.1), omega (arith, rest.2), rest.3))
    (Contains-append_cases (map (λ j. (n, j)) ts) (edges_from (n + 1) targets) (u, v) c)

in_edges : (n : ℕ) (targets : List (List ℕ)) (k u v : ℕ) → u ≡ n + k → k < length targets → Contains (get_or targets k []) v
    → Contains {X = ℕ × ℕ} (edges_from n targets) (u, v)
in_edges n [] k u v e lt c = absurd (omega arith)
in_edges n (ts ∷ targets) zero u v e lt c =
    Contains-append_left (map (λ j. (n, j)) ts) (edges_from (n + 1) targets) (u, v)
    (subst (λ w. Contains {X = ℕ × ℕ} (map (λ j. (n, j)) ts) (w, v)) (omega (arith, e)) (in_pairs n ts v c))
in_edges n (ts ∷ targets) (suc k) u v e lt c =
    Contains-append_right (map (λ j. (n, j)) ts) (edges_from (n + 1) targets) (u, v) (in_edges (n + 1) targets k u v (omega (arith, e)) (omega arith) c)

-- an edge leads to a target of its source, and each target has one
pub target_of_edge : (targets : List (List ℕ)) (u v : ℕ) → IsEdge (edges_along targets) u v → (u < length targets) × Contains (get_or targets u []) v
target_of_edge targets u v edge =
    let there = of_edges 0 targets u v edge in
    let same : there.0 ≡ u = omega (arith, there.1) in
    (omega (arith, there.2, same), subst (λ k. Contains (get_or targets k []) v) same there.3)

pub edge_of_target : (targets : List (List ℕ)) (u v : ℕ) → u < length targets → Contains (get_or targets u []) v → IsEdge (edges_along targets) u v
edge_of_target targets u v lt c = in_edges 0 targets u u v (omega arith) lt c

-- ---- one visit

one_less : (s : List Bool) (x : ℕ) → x < length s → is_seen s x ≡ false → unseen_count (set s x true) + 1 ≡ unseen_count s
one_less s x below unseen =
    let cost : Bool → ℕ = λ b. cond (not b) 1 0 in
    let now : cost (get_or s x false) ≡ cost false = ap cost unseen in
    omega (arith, sum_by-set (λ b. cond (not b) 1 0) s x true false below, now)

pub seen_below : (s : List Bool) (v : ℕ) → is_seen s v ≡ true → v < length s
seen_below s v e = ⊎_elim (λ lt. lt) (λ past. absurd (false≢true (sym (get_or_past s v false past) ∙ e))) (cases_lt v (length s))

pub visit_nothing : (s : List Bool) (p : List ℕ) → Visits [] s p s p
visit_nothing s p = record {
  len = refl;
  kept = λ v e. e;
  marked = λ v c. absurd (Contains-nil v c);
  only = λ v e. inl e;
  waiting = λ v c. c;
  waits = λ v c. inl c;
  work = refl;
}

module _ (ts : List ℕ) (s : List Bool) (p : List ℕ) (s' : List Bool) (p' : List ℕ) (h : Visits ts s p s' p') (x : ℕ) where
  pub visit_seen : is_seen s' x ≡ true → Visits (ts ++ x ∷ []) s p s' p'
  visit_seen e = record {
    len = h.len;
    kept = h.kept;
    marked = λ v c. ⊎_elim (h.marked v) (λ same. subst (λ y. is_seen s' y ≡ true) same e) (Contains-push_cases ts x v c);
    only = λ v seen. ⊎_elim inl (λ both. inr (Contains-append_left ts (x ∷ []) v both.0, both.1)) (h.only v seen);
    waiting = h.waiting;
    waits = λ v c. ⊎_elim inl (λ there. inr (Contains-append_left ts (x ∷ []) v there)) (h.waits v c);
    work = h.work;
  }

  module _ (below : x < length s') (unseen : is_seen s' x ≡ false) where
    here : is_seen (set s' x true) x ≡ true
    here = get_or-set_same s' x true false below

    still : (v : ℕ) → is_seen s' v ≡ true → is_seen (set s' x true) v ≡ true
    still v e =
        ⊎_elim (λ same. subst (λ y. is_seen (set s' x true) y ≡ true) (sym same) here)
        (λ other. get_or-set_other s' x v true false other ∙ e)
        (cases_eq v x)

    pub visit_new : Visits (ts ++ x ∷ []) s p (set s' x true) (p' ++ x ∷ [])
    visit_new = record {
      len = length-set s' x true ∙ h.len;
      kept = λ v e. still v (h.kept v e);
      marked = λ v c. ⊎_elim (λ old. still v (h.marked v old)) (λ same. subst (λ y. is_seen (set s' x true) y ≡ true) same here) (Contains-push_cases ts x v c);
      only = λ v seen. ⊎_elim (λ same. inr (subst (Contains (ts ++ x ∷ [])) (sym same) (Contains-push ts x), subst (Contains (p' ++ x ∷ [])) (sym same) (Contains-push p' x)))
          (λ other. ⊎_elim inl (λ both. inr (Contains-append_left ts (x ∷ []) v both.0, Contains-append_left p' (x ∷ []) v both.1))
          (h.only v (sym (get_or-set_other s' x v true false other) ∙ seen)))
          (cases_eq v x);
      waiting = λ v c. Contains-append_left p' (x ∷ []) v (h.waiting v c);
      waits = λ v c. ⊎_elim (λ old. ⊎_elim inl (λ there. inr (Contains-append_left ts (x ∷ []) v there)) (h.waits v old))
          (λ same. inr (subst (Contains (ts ++ x ∷ [])) same (Contains-push ts x))) (Contains-push_cases p' x v c);
      work = omega (arith, h.work, length_push p' x, one_less s' x below unseen);
    }

-- ---- the search

module _ (targets : List (List ℕ)) (start : ℕ) where
  abbrev edges : List (ℕ × ℕ)
  edges = edges_along targets

  module _ (s : List Bool) (rest : List ℕ) (v : ℕ) (h : IsSearch targets start s (rest ++ v ∷ [])) where
    arrives : (start ≡ v) ⊎ Reaches edges start v
    arrives = h.sound v (h.waiting v (Contains-push rest v))

    onward : (w : ℕ) → IsEdge edges v w → Reaches edges start w
    onward w edge =
        ⊎_elim (λ same. subst (λ x. Reaches edges x w) (sym same) (reaches_by_edge edges v w edge))
        (λ walk. reaches_trans edges start v w walk (reaches_by_edge edges v w edge)) arrives

    pub search_step : (s' : List Bool) (p' : List ℕ) → v < length targets → Visits (get_or targets v []) s rest s' p' → IsSearch targets start s' p'
    search_step s' p' below g = record {
      len = g.len ∙ h.len;
      first = g.kept start h.first;
      sound = λ w e. ⊎_elim (h.sound w) (λ both. inr (onward w (edge_of_target targets v w below both.0))) (g.only w e);
      waiting = λ w c. ⊎_elim (λ old. g.kept w (h.waiting w (Contains-append_left rest (v ∷ []) w old))) (g.marked w) (g.waits w c);
      closed = λ u e. ⊎_elim
          (λ old. ⊎_elim
          (λ pending. ⊎_elim (λ there. inl (g.waiting u there))
          (λ same. inr (λ w edge. g.marked w (subst (λ x. Contains (get_or targets x []) w) (sym same) (target_of_edge targets u w edge).1)))
          (Contains-push_cases rest v u pending))
          (λ closed. inr (λ w edge. g.kept w (closed w edge)))
          (h.closed u old))
          (λ both. inl both.1)
          (g.only u e);
    }

  pub popped_below : (s : List Bool) (p rest : List ℕ) (v : ℕ) → IsSearch targets start s p → p ≡ rest ++ v ∷ [] → v < length targets
  popped_below s p rest v h e =
      let last : Contains p v = subst (λ q. Contains q v) (sym e) (Contains-push rest v) in
      omega (arith, seen_below s v (h.waiting v last), h.len)

  -- at its end the marks are right
  pub search_end : (s : List Bool) → IsSearch targets start s [] → (v : ℕ) → is_seen s v ≡ (eqb start v || reaches edges start v)
  search_end s h v =
      let closed : (u w : ℕ) → is_seen s u ≡ true → IsEdge edges u w → is_seen s w ≡ true =
      λ u w e edge. ⊎_elim (λ c. absurd (Contains-nil u c)) (λ f. f w edge) (h.closed u e) in
      both_ways (is_seen s v) (eqb start v || reaches edges start v)
      (λ e. ⊎_elim (λ same. or_left _ _ (eq-eqb start v same)) (λ walk. or_right _ _ ((reaches-Decides edges start v).1 walk)) (h.sound v e))
      (λ e. ⊎_elim (λ same. subst (λ x. is_seen s x ≡ true) (eqb-true start v same) h.first)
      (λ more. let walk = (reaches-Decides edges start v).0 more in holds_along edges (λ x. is_seen s x ≡ true) closed start walk.0 v h.first walk.1)
      (or_cases _ _ e))

  pub search_start : (s : List Bool) → length s ≡ length targets → start < length s → ((v : ℕ) → is_seen s v ≡ false) → IsSearch targets start (set s start true) (start ∷ [])
  search_start s len below none =
      let at : is_seen (set s start true) start ≡ true = get_or-set_same s start true false below in
      let only : (v : ℕ) → is_seen (set s start true) v ≡ true → start ≡ v =
      λ v e. ⊎_elim (λ same. sym same) (λ other. absurd (false≢true (sym (none v) ∙ sym (get_or-set_other s start v true false other) ∙ e))) (cases_eq v start) in
      record {
        len = length-set s start true ∙ len;
        first = at;
        sound = λ v e. inl (only v e);
        waiting = λ v c. ⊎_elim (λ same. subst (λ x. is_seen (set s start true) x ≡ true) same at) (λ more. absurd (Contains-nil v more)) (Contains-cons_cases start [] v c);
        closed = λ u e. inl (0, omega arith, only u e);
      }

-- a slice written back whole
pub written_back : {X : Type 0} (new old : List X) (n : ℕ) → length new ≡ length old → n ≡ length old → take n (new ++ drop (length new) old) ≡ new
written_back new old n same is =
    ap (λ xs. take n (new ++ xs)) (drop_all (length new) old (omega (arith, same))) ∙ ap (take n) (append-nil new) ∙ take_all n new (omega (arith, same, is))

-- the edges of one more list
pub edges_more : (targets : List (List ℕ)) (i : ℕ) (d : List ℕ) → i < length targets
    → edges_along (take (i + 1) targets) ≡ edges_along (take i targets) ++ map (λ j. (i, j)) (get_or targets i d)
edges_more targets i d below =
    let pairs : ℕ × List ℕ → List (ℕ × ℕ) = λ at. map (λ j. (at.0, j)) at.1 in
    ap (flat_map pairs) (enumerate_more targets i d below)
    ∙ sym (flat_map_more pairs [] (enumerate_from 0 (take i targets)) (i, get_or targets i d))

-- where no target is past the places, no edge is
pub edges_end_below : (targets : List (List ℕ)) → AreBelow (length targets) targets → EndsBelow (length targets) (edges_along targets)
edges_end_below targets below = λ k d lt.
    let edge = get_or (edges_along targets) k d in
    let there = target_of_edge targets edge.0 edge.1 (Contains-get_or (edges_along targets) k d lt) in
    (there.0, All-contains (λ t. t < length targets) (get_or targets edge.0 []) edge.1 (below edge.0 [] there.0) there.1)

-- a number of a list, by the test
pub contains_any : (xs : List ℕ) (v : ℕ) → Contains xs v → list_any (λ x. eqb x v) xs ≡ true
contains_any xs v c = list_any_at (λ x. eqb x v) xs c.0 v c.1 (eq-eqb _ _ c.2)

pub any_contains : (xs : List ℕ) (v : ℕ) → list_any (λ x. eqb x v) xs ≡ true → Contains xs v
any_contains xs v e =
    let found = Any-from_list_any (λ x. eqb x v) xs e in
    (found.0, found.2, get_or_default xs found.0 v found.1 found.2 ∙ found.3 ∙ eqb-true found.1 v found.4)

pub if_ok : {T E : Type 0} (r : Result T E) {P Q : T → Type 0} → ((x : T) → P x → Q x) → IfOk r P → IfOk r Q
if_ok (Ok x) f p = f x p
if_ok (Err e) f p = p
