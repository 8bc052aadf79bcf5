-- Each step of a component search keeps what a search keeps.
use Rattle.std.proofs.Common.{◌≡◌, ◌⊎◌, ℕ, ◌+◌, ◌-◌, ◌<◌, ◌≤◌, true, false, List, [], ◌∷◌, ◌++◌, length, get_or, set, take, replicate, eqb, leb, inl, inr, ⊎_elim, refl, sym, ◌∙◌, ap, subst, arith}
use Rattle.std.specs.List.{Contains}
use Rattle.std.proofs.lemmas.Bool.{cases_eq, cases_lt, cases_order, false≢true, eq-eqb, eqb-true, le-leb, leb-true}
use Rattle.std.proofs.lemmas.List.{get_or-set_same, get_or-set_other, get_or_append_left, get_or_push, length_push, length-set, get_or_default, get_or_past, length-replicate}
use Rattle.std.proofs.lemmas.List.Elements.{Contains-push, Contains-push_cases, Contains-append_left, Contains-get_or}
use Rattle.std.proofs.lemmas.List.Kept.{AllPairs-filter}
use Rattle.fly_graph.specs.declared.components.Mark.{Mark}
use Rattle.fly_graph.specs.declared.components.Mark.TheVariants.{Unseen, OnPath, Done}
use Rattle.fly_graph.specs.Walks.{IsEdge, Reaches}
use Rattle.fly_graph.specs.Adjacency.{edges_leaving}
use Rattle.fly_graph.specs.Components.{State, mark_of, followed_of, is_cyclic, degree, target, AreTogether, IsSettled, IsSearch, enter, join}
use Rattle.fly_graph.proofs.WalkLemmas.{reaches_by_edge, reaches_trans}
use Rattle.fly_graph.proofs.Members.{Contains-filter, Contains-filter_from, Contains-nil}
use Rattle.fly_graph.proofs.SearchLists.{AllPairs_push, AllPairs_take, front_and_last, Contains_front, replicated}

-- places of the path tell marks apart
pub same_place : (i j : ℕ) → OnPath i ≡ OnPath j → i ≡ j
same_place i j e = cc

pub unseen_off : (m : Mark) (i : ℕ) → m ≡ Unseen → m ≡ OnPath i → ⊥
unseen_off m i e f = cc

pub done_off : (m : Mark) (i : ℕ) → m ≡ Done → m ≡ OnPath i → ⊥
done_off m i e f = cc

pub unseen_not_done : (m : Mark) → m ≡ Unseen → m ≡ Done → ⊥
unseen_not_done m e f = cc

-- the edge at a place among those that leave a number
pub edge_at : (edges : List (ℕ × ℕ)) (u k : ℕ) → k < degree edges u → IsEdge edges u (target edges u k)
edge_at edges u k within =
    let edge : ℕ × ℕ = get_or (edges_leaving edges u) k (0, 0) in
    let kept = Contains-filter (λ (e : ℕ × ℕ). eqb e.0 u) edges edge (Contains-get_or (edges_leaving edges u) k (0, 0) within) in
    subst (Contains edges) (ap (λ w. (w, edge.1)) (eqb-true edge.0 u kept.1)) kept.0

-- each edge that leaves a number has a place among them
pub place_of_edge : (edges : List (ℕ × ℕ)) (u w : ℕ) → IsEdge edges u w → (k : ℕ) × (k < degree edges u) × (target edges u k ≡ w)
place_of_edge edges u w edge =
    let kept = Contains-filter_from (λ (e : ℕ × ℕ). eqb e.0 u) edges (u, w) edge (eq-eqb u u refl) in
    (kept.0, kept.1, ap (λ (e : ℕ × ℕ). e.1) (get_or_default (edges_leaving edges u) kept.0 (0, 0) (u, w) kept.1 ∙ kept.2))

module _ (count : ℕ) (edges : List (ℕ × ℕ)) where
  -- before any number is on the path
  abbrev pub start : State
  start = record { marks = replicate count Unseen; followed = replicate count 0; cyclic = replicate count false; path = []; bounds = []; pending = [] }

  pub search_start : IsSearch count edges start
  search_start = record {
    marks_len = length-replicate count Unseen;
    followed_len = length-replicate count 0;
    cyclic_len = length-replicate count false;
    place = λ v i e. absurd (unseen_off _ i (replicated count v Unseen) e);
    marked = λ i within. absurd (omega arith);
    forward = λ i j order within. absurd (omega arith);
    back = λ i j order within together. absurd (omega arith);
    rising = λ i j d order within. absurd (omega arith);
    bounds_within = λ bound has. absurd (Contains-nil bound has);
    first = λ some. absurd (omega arith);
    pending_rising = λ i j d order within. absurd (omega arith);
    pending_within = λ place has. absurd (Contains-nil place has);
    fresh = λ v e. replicated {X = ℕ} count v 0;
    followed_few = λ v. let none : followed_of start v ≡ 0 = replicated {X = ℕ} count v 0 in omega arith;
    settled = λ v i k e. absurd (unseen_off _ i (replicated count v Unseen) e);
    loops = λ v k less e. let none : followed_of start v ≡ 0 = replicated {X = ℕ} count v 0 in absurd (omega arith);
    exhausted = λ v i e. absurd (unseen_off _ i (replicated count v Unseen) e);
    closed = λ v k e. absurd (unseen_not_done _ (replicated count v Unseen) e);
    sound = λ v e. absurd (false≢true (sym (replicated count v false) ∙ e));
    complete = λ v e. absurd (unseen_not_done _ (replicated count v Unseen) e);
  }

  module _ (s : State) (old : IsSearch count edges s) where
    -- the number of a place is one of the graph
    pub on_path_below : (v i : ℕ) → mark_of s v ≡ OnPath i → v < count
    on_path_below v i e =
        ⊎_elim (λ small. omega (arith, old.marks_len)) (λ large. absurd (unseen_off _ i (get_or_past s.marks v Unseen large) e)) (cases_lt v (length s.marks))

    module _ (v : ℕ) (small : v < count) (new : mark_of s v ≡ Unseen) (reach : (i : ℕ) → i < length s.path → Reaches edges (get_or s.path i 0) v) where
      pub here : mark_of (enter v s) v ≡ OnPath (length s.path)
      here = get_or-set_same s.marks v (OnPath (length s.path)) Unseen (omega (arith, old.marks_len))

      pub elsewhere : (q : ℕ) → (q ≡ v → ⊥) → mark_of (enter v s) q ≡ mark_of s q
      elsewhere q apart = get_or-set_other s.marks v q (OnPath (length s.path)) Unseen apart

      before : (i : ℕ) → i < length s.path → get_or (s.path ++ v ∷ []) i 0 ≡ get_or s.path i 0
      before i within = get_or_append_left s.path (v ∷ []) 0 i within

      at_end : get_or (s.path ++ v ∷ []) (length s.path) 0 ≡ v
      at_end = get_or_push s.path v 0 (length s.path) refl

      not_before : (i : ℕ) → i < length s.path → get_or s.path i 0 ≡ v → ⊥
      not_before i within e = unseen_off _ i new (ap (mark_of s) (sym e) ∙ old.marked i within)

      seen_apart : (q : ℕ) → (mark_of s q ≡ Unseen → ⊥) → q ≡ v → ⊥
      seen_apart q seen e = seen (ap (mark_of s) e ∙ new)

      pub still_on : (q i : ℕ) → mark_of s q ≡ OnPath i → mark_of (enter v s) q ≡ OnPath i
      still_on q i e = elsewhere q (seen_apart q (λ u. unseen_off _ i u e)) ∙ e

      still_done : (q : ℕ) → mark_of s q ≡ Done → mark_of (enter v s) q ≡ Done
      still_done q e = elsewhere q (seen_apart q (λ u. unseen_not_done _ u e)) ∙ e

      -- what is on the path now is v or was on it
      was_on : (q i : ℕ) → mark_of (enter v s) q ≡ OnPath i → ((q ≡ v) × (i ≡ length s.path)) ⊎ (mark_of s q ≡ OnPath i)
      was_on q i e =
          ⊎_elim (λ same. inl (same, same_place i (length s.path) (sym e ∙ ap (mark_of (enter v s)) same ∙ here)))
          (λ apart. inr (sym (elsewhere q apart) ∙ e)) (cases_eq q v)

      was_done : (q : ℕ) → mark_of (enter v s) q ≡ Done → mark_of s q ≡ Done
      was_done q e =
          ⊎_elim (λ same. absurd (done_off _ (length s.path) e (ap (mark_of (enter v s)) same ∙ here))) (λ apart. sym (elsewhere q apart) ∙ e) (cases_eq q v)

      was_unseen : (q : ℕ) → mark_of (enter v s) q ≡ Unseen → mark_of s q ≡ Unseen
      was_unseen q e =
          ⊎_elim (λ same. absurd (unseen_off _ (length s.path) e (ap (mark_of (enter v s)) same ∙ here))) (λ apart. sym (elsewhere q apart) ∙ e) (cases_eq q v)

      settled_still : (w i : ℕ) → i < length s.path → IsSettled s w i → IsSettled (enter v s) w i
      settled_still w i within =
          ⊎_elim (λ done. inl (still_done w done))
          (λ on. inr (
            on.0,
            still_on w on.0 on.1,
            λ bound has le.
                ⊎_elim (λ was. on.2 bound was le) (λ e. absurd (omega arith)) (Contains-push_cases s.bounds (length s.path) bound has),
          ))

      -- v goes to the end of the path
      pub search_enter : IsSearch count edges (enter v s)
      search_enter = record {
        marks_len = length-set s.marks v (OnPath (length s.path)) ∙ old.marks_len;
        followed_len = old.followed_len;
        cyclic_len = old.cyclic_len;
        place = λ q i e. ⊎_elim
            (λ both. (omega (arith, both.1, length_push s.path v), ap (λ k. get_or (s.path ++ v ∷ []) k 0) both.1 ∙ at_end ∙ sym both.0))
            (λ on. let was = old.place q i on in let low : i < length s.path = was.0 in (omega (arith, length_push s.path v), before i low ∙ was.1))
            (was_on q i e);
        marked = λ i within. ⊎_elim
            (λ e. ap (λ k. mark_of (enter v s) (get_or (s.path ++ v ∷ []) k 0)) e ∙ ap (mark_of (enter v s)) at_end ∙ here ∙ ap OnPath (sym e))
            (λ apart. let low : i < length s.path = omega (arith, length_push s.path v) in
            ap (mark_of (enter v s)) (before i low) ∙ still_on (get_or s.path i 0) i (old.marked i low))
            (cases_eq i (length s.path));
        forward = λ i j order within.
            let low : i < length s.path = omega (arith, length_push s.path v) in
            ⊎_elim
            (λ e. subst (λ a. Reaches edges a (get_or (s.path ++ v ∷ []) j 0)) (sym (before i low)) (subst (Reaches edges (get_or s.path i 0)) (sym (ap (λ k. get_or (s.path ++ v ∷ []) k 0) e ∙ at_end)) (reach i low)))
            (λ apart. let low_too : j < length s.path = omega (arith, length_push s.path v) in
            subst (λ a. Reaches edges a (get_or (s.path ++ v ∷ []) j 0)) (sym (before i low)) (subst (Reaches edges (get_or s.path i 0)) (sym (before j low_too)) (old.forward i j order low_too)))
            (cases_eq j (length s.path));
        back = λ i j order within together.
            let low : i < length s.path = omega (arith, length_push s.path v) in
            ⊎_elim
            (λ e. let after : j < length s.path = together (length s.path) (Contains-push s.bounds (length s.path)) low in absurd (omega arith))
            (λ apart. let low_too : j < length s.path = omega (arith, length_push s.path v) in
            subst (λ a. Reaches edges a (get_or (s.path ++ v ∷ []) i 0)) (sym (before j low_too)) (subst (Reaches edges (get_or s.path j 0)) (sym (before i low))
            (old.back i j order low_too (λ bound has. together bound (Contains-append_left s.bounds (length s.path ∷ []) bound has)))))
            (cases_eq j (length s.path));
        rising = AllPairs_push s.bounds (length s.path) old.rising old.bounds_within;
        bounds_within = λ bound has. ⊎_elim (λ was. let low : bound < length s.path = old.bounds_within bound was in omega (arith, length_push s.path v)) (λ e. omega (arith, length_push s.path v)) (Contains-push_cases s.bounds (length s.path) bound has);
        first = λ some. ⊎_elim (λ more. Contains-append_left s.bounds (length s.path ∷ []) 0 (old.first more))
            (λ none. let e : length s.path ≡ 0 = omega arith in subst (Contains (s.bounds ++ length s.path ∷ [])) e (Contains-push s.bounds (length s.path)))
            (cases_lt 0 (length s.path));
        pending_rising = AllPairs_push s.pending (length s.path) old.pending_rising old.pending_within;
        pending_within = λ place has. ⊎_elim (λ was. let low : place < length s.path = old.pending_within place was in omega (arith, length_push s.path v)) (λ e. omega (arith, length_push s.path v)) (Contains-push_cases s.pending (length s.path) place has);
        fresh = λ q e. old.fresh q (was_unseen q e);
        followed_few = old.followed_few;
        settled = λ q i k e less. ⊎_elim
            (λ both. let none : followed_of s q ≡ 0 = ap (followed_of s) both.0 ∙ old.fresh v new in absurd (omega arith))
            (λ on. settled_still (target edges q k) i (old.place q i on).0 (old.settled q i k on less))
            (was_on q i e);
        loops = old.loops;
        exhausted = λ q i e. ⊎_elim
            (λ both. inl (subst (Contains (s.pending ++ length s.path ∷ [])) (sym both.1) (Contains-push s.pending (length s.path))))
            (λ on. ⊎_elim (λ has. inl (Contains-append_left s.pending (length s.path ∷ []) i has)) (λ all. inr all) (old.exhausted q i on))
            (was_on q i e);
        closed = λ q k e within. still_done (target edges q k) (old.closed q k (was_done q e) within);
        sound = old.sound;
        complete = λ q e. old.complete q (was_done q e);
      }

    -- u is noted to reach itself
    module _ (u : ℕ) (cycle : Reaches edges u u) where
      flagged : (q : ℕ) → is_cyclic s q ≡ true → get_or (set s.cyclic u true) q false ≡ true
      flagged q e =
          ⊎_elim (λ same. ⊎_elim
          (λ small. ap (λ k. get_or (set s.cyclic u true) k false) same ∙ get_or-set_same s.cyclic u true false small)
          (λ large. absurd (false≢true (sym (get_or_past s.cyclic q false (omega arith)) ∙ e)))
          (cases_lt u (length s.cyclic)))
          (λ apart. get_or-set_other s.cyclic u q true false apart ∙ e)
          (cases_eq q u)

      pub search_note : IsSearch count edges (record s { cyclic = set s.cyclic u true })
      search_note = record {
        marks_len = old.marks_len;
        followed_len = old.followed_len;
        cyclic_len = length-set s.cyclic u true ∙ old.cyclic_len;
        place = old.place;
        marked = old.marked;
        forward = old.forward;
        back = old.back;
        rising = old.rising;
        bounds_within = old.bounds_within;
        first = old.first;
        pending_rising = old.pending_rising;
        pending_within = old.pending_within;
        fresh = old.fresh;
        followed_few = old.followed_few;
        settled = old.settled;
        loops = λ q k less e. flagged q (old.loops q k less e);
        exhausted = old.exhausted;
        closed = old.closed;
        sound = λ q e. ⊎_elim (λ same. subst (λ a. Reaches edges a a) (sym same) cycle)
            (λ apart. old.sound q (sym (get_or-set_other s.cyclic u q true false apart) ∙ e)) (cases_eq q u);
        complete = λ q e cycle. flagged q (old.complete q e cycle);
      }

    -- one more edge that leaves u was followed
    module _ (u pu : ℕ) (on : mark_of s u ≡ OnPath pu) (k : ℕ) (next : followed_of s u ≡ k) (more : k < degree edges u)
        (settles : IsSettled s (target edges u k) pu) (loop : target edges u k ≡ u → is_cyclic s u ≡ true) where
      followed_here : get_or (set s.followed u (k + 1)) u 0 ≡ k + 1
      followed_here = get_or-set_same s.followed u (k + 1) 0 (let small : u < count = on_path_below u pu on in omega (arith, old.followed_len))

      followed_elsewhere : (q : ℕ) → (q ≡ u → ⊥) → get_or (set s.followed u (k + 1)) q 0 ≡ followed_of s q
      followed_elsewhere q apart = get_or-set_other s.followed u q (k + 1) 0 apart

      -- an edge that was followed is the new one, or was followed before
      was_followed : (q j : ℕ) → j < get_or (set s.followed u (k + 1)) q 0 → ((q ≡ u) × (j ≡ k)) ⊎ (j < followed_of s q)
      was_followed q j less =
          ⊎_elim (λ same.
          let now : get_or (set s.followed u (k + 1)) q 0 ≡ k + 1 = ap (λ a. get_or (set s.followed u (k + 1)) a 0) same ∙ followed_here in
          let was : followed_of s q ≡ k = ap (followed_of s) same ∙ next in
          ⊎_elim (λ e. inl (same, e)) (λ other. inr (omega arith)) (cases_eq j k))
          (λ apart. let now = followed_elsewhere q apart in inr (omega (arith, now)))
          (cases_eq q u)

      pub search_follow : IsSearch count edges (record s { followed = set s.followed u (k + 1) })
      search_follow = record {
        marks_len = old.marks_len;
        followed_len = length-set s.followed u (k + 1) ∙ old.followed_len;
        cyclic_len = old.cyclic_len;
        place = old.place;
        marked = old.marked;
        forward = old.forward;
        back = old.back;
        rising = old.rising;
        bounds_within = old.bounds_within;
        first = old.first;
        pending_rising = old.pending_rising;
        pending_within = old.pending_within;
        fresh = λ q e. followed_elsewhere q (λ same. unseen_off _ pu e (ap (mark_of s) same ∙ on)) ∙ old.fresh q e;
        followed_few = λ q. ⊎_elim
            (λ same.
            let now : get_or (set s.followed u (k + 1)) q 0 ≡ k + 1 = ap (λ a. get_or (set s.followed u (k + 1)) a 0) same ∙ followed_here in
            let all : degree edges q ≡ degree edges u = ap (degree edges) same in
            omega arith)
            (λ apart. omega (arith, followed_elsewhere q apart, old.followed_few q))
            (cases_eq q u);
        settled = λ q i j e less. ⊎_elim
            (λ both.
            let place : pu ≡ i = same_place pu i (sym on ∙ ap (mark_of s) (sym both.0) ∙ e) in
            let here : target edges u k ≡ target edges q j = ap (λ a. target edges a k) (sym both.0) ∙ ap (target edges q) (sym both.1) in
            subst (IsSettled s (target edges q j)) place (subst (λ w. IsSettled s w pu) here settles))
            (λ before. old.settled q i j e before)
            (was_followed q j less);
        loops = λ q j less e. ⊎_elim
            (λ both. ap (is_cyclic s) both.0 ∙ loop (ap (λ a. target edges a k) (sym both.0) ∙ ap (target edges q) (sym both.1) ∙ e ∙ both.0))
            (λ before. old.loops q j before e)
            (was_followed q j less);
        exhausted = λ q i e. ⊎_elim
            (λ has. inl has)
            (λ all. ⊎_elim
            (λ same. let few : degree edges u ≤ followed_of s u = subst (λ a. degree edges a ≤ followed_of s a) same all in absurd (omega arith))
            (λ apart. inr (omega (arith, followed_elsewhere q apart)))
            (cases_eq q u))
            (old.exhausted q i e);
        closed = old.closed;
        sound = old.sound;
        complete = old.complete;
      }

    -- no edge that leaves u is left
    module _ (u pu : ℕ) (on : mark_of s u ≡ OnPath pu) (all : degree edges u ≤ followed_of s u) (some : 0 < length s.pending) (top : get_or s.pending (length s.pending - 1) 0 ≡ pu) where
      pub search_retire : IsSearch count edges (record s { pending = take (length s.pending - 1) s.pending })
      search_retire = record {
        marks_len = old.marks_len;
        followed_len = old.followed_len;
        cyclic_len = old.cyclic_len;
        place = old.place;
        marked = old.marked;
        forward = old.forward;
        back = old.back;
        rising = old.rising;
        bounds_within = old.bounds_within;
        first = old.first;
        pending_rising = AllPairs_take s.pending (length s.pending - 1) old.pending_rising;
        pending_within = λ place has. old.pending_within place (Contains_front s.pending (length s.pending - 1) place has);
        fresh = old.fresh;
        followed_few = old.followed_few;
        settled = old.settled;
        loops = old.loops;
        exhausted = λ q i e. ⊎_elim
            (λ has. ⊎_elim (λ front. inl front)
            (λ same.
            let number : u ≡ q = sym (old.place u pu on).1 ∙ ap (λ a. get_or s.path a 0) same ∙ (old.place q i e).1 in
            inr (subst (λ a. degree edges a ≤ followed_of s a) number all))
            (Contains-push_cases (take (length s.pending - 1) s.pending) pu i (subst (λ xs. Contains xs i) (front_and_last s.pending pu some top) has)))
            (λ none. inr none)
            (old.exhausted q i e);
        closed = old.closed;
        sound = old.sound;
        complete = old.complete;
      }

    -- an edge leads from u, a number of the last segment, to w
    module _ (u pu : ℕ) (on : mark_of s u ≡ OnPath pu) (last : (bound : ℕ) → Contains s.bounds bound → bound ≤ pu) (w : ℕ) (edge : IsEdge edges u w) where
      u_at : get_or s.path pu 0 ≡ u
      u_at = (old.place u pu on).1

      -- each number on the path reaches w
      pub to_w : (j : ℕ) → j < length s.path → Reaches edges (get_or s.path j 0) w
      to_w j within =
          let step : Reaches edges u w = reaches_by_edge edges u w edge in
          ⊎_elim (λ e. subst (λ a. Reaches edges a w) (sym (ap (λ k. get_or s.path k 0) e ∙ u_at)) step)
          (⊎_elim
          (λ before. reaches_trans edges _ u w (subst (Reaches edges (get_or s.path j 0)) u_at (old.forward j pu before (old.place u pu on).0)) step)
          (λ after. reaches_trans edges _ u w (subst (Reaches edges (get_or s.path j 0)) u_at (old.back pu j after within (λ bound has above. let low : bound ≤ pu = last bound has in absurd (omega arith)))) step))
          (cases_order j pu)

      -- the segments become one from that of w on
      module _ (place : ℕ) (earlier : mark_of s w ≡ OnPath place) where
        pub kept_of : (bound : ℕ) → Contains (join place s).bounds bound → Contains s.bounds bound × (bound ≤ place)
        kept_of bound has = let kept = Contains-filter (λ b. leb b place) s.bounds bound has in (kept.0, leb-true bound place kept.1)

        kept_from : (bound : ℕ) → Contains s.bounds bound → bound ≤ place → Contains (join place s).bounds bound
        kept_from bound has low = Contains-filter_from (λ b. leb b place) s.bounds bound has (le-leb bound place low)

        w_at : get_or s.path place 0 ≡ w
        w_at = (old.place w place earlier).1

        back_joined : (i j : ℕ) → i < j → j < length s.path → AreTogether (join place s).bounds i j → Reaches edges (get_or s.path j 0) (get_or s.path i 0)
        back_joined i j order within together =
            ⊎_elim
            (λ past.
            ⊎_elim (λ e. subst (Reaches edges (get_or s.path j 0)) (sym (ap (λ k. get_or s.path k 0) e ∙ w_at)) (to_w j within))
            (⊎_elim
            (λ before. reaches_trans edges _ w _ (to_w j within) (subst (λ a. Reaches edges a (get_or s.path i 0)) w_at (old.back i place before (old.place w place earlier).0
            (λ bound has above. ⊎_elim (λ up. up) (λ low. let more : j < bound = together bound (kept_from bound has low) above in absurd (omega arith)) (cases_lt place bound)))))
            (λ after. reaches_trans edges _ w _ (to_w j within) (subst (λ a. Reaches edges a (get_or s.path i 0)) w_at (old.forward place i after (omega arith)))))
            (cases_order i place))
            (λ up_to. old.back i j order within (λ bound has above. ⊎_elim (λ up. omega arith) (λ low. together bound (kept_from bound has low) above) (cases_lt place bound)))
            (cases_lt place j)

        pub search_join : IsSearch count edges (join place s)
        search_join = record {
          marks_len = old.marks_len;
          followed_len = old.followed_len;
          cyclic_len = old.cyclic_len;
          place = old.place;
          marked = old.marked;
          forward = old.forward;
          back = back_joined;
          rising = AllPairs-filter (λ x y. x < y) (λ b. leb b place) s.bounds old.rising;
          bounds_within = λ bound has. old.bounds_within bound (kept_of bound has).0;
          first = λ some. kept_from 0 (old.first some) (omega arith);
          pending_rising = old.pending_rising;
          pending_within = old.pending_within;
          fresh = old.fresh;
          followed_few = old.followed_few;
          settled = λ q i k e less. ⊎_elim (λ done. inl done) (λ settles. inr (settles.0, settles.1, λ bound has le. settles.2 bound (kept_of bound has).0 le)) (old.settled q i k e less);
          loops = old.loops;
          exhausted = old.exhausted;
          closed = old.closed;
          sound = old.sound;
          complete = old.complete;
        }
