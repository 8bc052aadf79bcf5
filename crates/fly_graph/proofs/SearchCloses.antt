-- The last segment of a search, once no edge that leaves it is left, is a component.
use Rattle.std.proofs.Common.{◌≡◌, ◌⊎◌, ◌↔◌, ℕ, ◌+◌, ◌-◌, ◌<◌, ◌≤◌, Bool, true, false, cond, List, [], ◌∷◌, ◌++◌, length, get_or, take, drop, eqb, inl, inr, ⊎_elim, refl, sym, ◌∙◌, ap, subst, arith, length-take, length-drop, get_or-take, get_or-drop}
use Rattle.std.specs.List.{Contains, AllPairs, list_any}
use Rattle.std.proofs.lemmas.Bool.{cases_eq, cases_lt, cases_Bool, false≢true, lt-ltb, ltb-true, and_from, and_parts}
use Rattle.std.proofs.lemmas.List.{get_or_default}
use Rattle.std.proofs.lemmas.List.Elements.{Contains-push_cases, Contains-get_or}
use Rattle.fly_graph.specs.declared.components.Mark.{Mark}
use Rattle.fly_graph.specs.declared.components.Mark.TheVariants.{Unseen, OnPath, Done}
use Rattle.fly_graph.specs.Walks.{IsEdge, IsWalk, Reaches}
use Rattle.fly_graph.specs.Components.{State, mark_of, followed_of, is_cyclic, degree, target, IsSettled, IsSearch, Closes}
use Rattle.fly_graph.proofs.WalkLemmas.{reaches_trans, holds_along}
use Rattle.fly_graph.proofs.Members.{any_from_Contains, Contains_from_any}
use Rattle.fly_graph.proofs.SearchLists.{AllPairs_take, front_and_last, Contains_front, front_below_last, below_last}
use Rattle.fly_graph.proofs.SearchSteps.{same_place, done_off, unseen_not_done, place_of_edge}

cond_done : (b : Bool) (m : Mark) (i : ℕ) → cond b Done m ≡ OnPath i → (b ≡ false) × (m ≡ OnPath i)
cond_done true m i e = absurd (done_off Done i refl e)
cond_done false m i e = (refl, e)

cond_was_done : (b : Bool) (m : Mark) → cond b Done m ≡ Done → (b ≡ true) ⊎ (m ≡ Done)
cond_was_done true m e = inl refl
cond_was_done false m e = inr e

cond_unseen : (b : Bool) (m : Mark) → cond b Done m ≡ Unseen → m ≡ Unseen
cond_unseen true m e = absurd (unseen_not_done Done e refl)
cond_unseen false m e = e

cond_flag : (b flag : Bool) → flag ≡ true → cond b true flag ≡ true
cond_flag true flag e = refl
cond_flag false flag e = e

cond_was_flag : (b flag : Bool) → cond b true flag ≡ true → (b ≡ true) ⊎ (flag ≡ true)
cond_was_flag true flag e = inl refl
cond_was_flag false flag e = inr e

module _ (count : ℕ) (edges : List (ℕ × ℕ)) (s t : State) (old : IsSearch count edges s) (bound : ℕ) (closes : Closes bound s t)
    (some : 0 < length s.bounds) (last : get_or s.bounds (length s.bounds - 1) 0 ≡ bound) (spent : (place : ℕ) → Contains s.pending place → place < bound) where
  bounds_are : s.bounds ≡ take (length s.bounds - 1) s.bounds ++ bound ∷ []
  bounds_are = front_and_last s.bounds bound some last

  bound_there : Contains s.bounds bound
  bound_there = subst (Contains s.bounds) last (Contains-get_or s.bounds (length s.bounds - 1) 0 (omega arith))

  bound_within : bound < length s.path
  bound_within = old.bounds_within bound bound_there

  no_bound_past : (b : ℕ) → Contains s.bounds b → b ≤ bound
  no_bound_past b has = omega (arith, below_last s.bounds old.rising b has, last)

  -- a bound is the last one, or stays
  stays : (b : ℕ) → Contains s.bounds b → (b ≡ bound → ⊥) → Contains t.bounds b
  stays b has apart =
      subst (λ xs. Contains xs b) (sym closes.bounds)
      (⊎_elim (λ front. front) (λ e. absurd (apart (sym e))) (Contains-push_cases (take (length s.bounds - 1) s.bounds) bound b (subst (λ xs. Contains xs b) bounds_are has)))

  stayed : (b : ℕ) → Contains t.bounds b → Contains s.bounds b
  stayed b has = Contains_front s.bounds (length s.bounds - 1) b (subst (λ xs. Contains xs b) closes.bounds has)

  stayed_low : (b : ℕ) → Contains t.bounds b → b < bound
  stayed_low b has = let low = front_below_last s.bounds old.rising b (subst (λ xs. Contains xs b) closes.bounds has) in omega (arith, low, last)

  path_len : length t.path ≡ bound
  path_len = ap length closes.path ∙ (let n = length-take bound s.path in omega (arith, n, bound_within))

  path_at : (i : ℕ) → i < bound → get_or t.path i 0 ≡ get_or s.path i 0
  path_at i low = ap (λ xs. get_or xs i 0) closes.path ∙ get_or-take bound s.path i 0 low

  -- the numbers of the segment
  is_member : ℕ → Bool
  is_member q = list_any (eqb q) (drop bound s.path)

  member_from : (q i : ℕ) → mark_of s q ≡ OnPath i → bound ≤ i → list_any (eqb q) (drop bound s.path) ≡ true
  member_from q i on high =
      let at = old.place q i on in
      let low : i < length s.path = at.0 in
      let within : i - bound < length (drop bound s.path) = omega (arith, length-drop bound s.path) in
      let value : get_or (drop bound s.path) (i - bound) q ≡ q =
      get_or-drop bound s.path (i - bound) q ∙ ap (λ k. get_or s.path k q) (let same : bound + (i - bound) ≡ i = omega arith in same) ∙ get_or_default s.path i q 0 low ∙ at.1 in
      any_from_Contains (drop bound s.path) q (i - bound, within, value)

  member_place : (q : ℕ) → list_any (eqb q) (drop bound s.path) ≡ true → (i : ℕ) × (bound ≤ i) × (mark_of s q ≡ OnPath i)
  member_place q e =
      let has = Contains_from_any (drop bound s.path) q e in
      let short : has.0 < length (drop bound s.path) = has.1 in
      let within : bound + has.0 < length s.path = omega (arith, length-drop bound s.path) in
      let value : get_or s.path (bound + has.0) 0 ≡ q = get_or_default s.path (bound + has.0) 0 q within ∙ sym (get_or-drop bound s.path has.0 q) ∙ has.2 in
      (bound + has.0, omega arith, ap (mark_of s) (sym value) ∙ old.marked (bound + has.0) within)

  not_member : (q i : ℕ) → mark_of s q ≡ OnPath i → i < bound → list_any (eqb q) (drop bound s.path) ≡ false
  not_member q i on low =
      ⊎_elim (λ e. let at = member_place q e in let same : i ≡ at.0 = same_place i at.0 (sym on ∙ at.2) in let high : bound ≤ at.0 = at.1 in absurd (omega arith))
      (λ e. e) (cases_Bool (list_any (eqb q) (drop bound s.path)))

  member_done : (q i : ℕ) → mark_of s q ≡ OnPath i → bound ≤ i → mark_of t q ≡ Done
  member_done q i on high = closes.marks q ∙ ap (λ b. cond b Done (mark_of s q)) (member_from q i on high)

  stays_on : (q i : ℕ) → mark_of s q ≡ OnPath i → i < bound → mark_of t q ≡ OnPath i
  stays_on q i on low = closes.marks q ∙ ap (λ b. cond b Done (mark_of s q)) (not_member q i on low) ∙ on

  cond_same : (b : Bool) (m : Mark) → m ≡ Done → cond b Done m ≡ Done
  cond_same true m e = refl
  cond_same false m e = e

  stays_done : (q : ℕ) → mark_of s q ≡ Done → mark_of t q ≡ Done
  stays_done q done = closes.marks q ∙ cond_same (list_any (eqb q) (drop bound s.path)) (mark_of s q) done

  was_on : (q i : ℕ) → mark_of t q ≡ OnPath i → (mark_of s q ≡ OnPath i) × (i < bound)
  was_on q i e =
      let was = cond_done (list_any (eqb q) (drop bound s.path)) (mark_of s q) i (sym (closes.marks q) ∙ e) in
      (was.1, ⊎_elim (λ low. low) (λ high. absurd (false≢true (sym was.0 ∙ member_from q i was.1 high))) (cases_lt i bound))

  was_done : (q : ℕ) → mark_of t q ≡ Done → ((i : ℕ) × (bound ≤ i) × (mark_of s q ≡ OnPath i)) ⊎ (mark_of s q ≡ Done)
  was_done q e =
      ⊎_elim (λ member. inl (member_place q member)) (λ done. inr done) (cond_was_done (list_any (eqb q) (drop bound s.path)) (mark_of s q) (sym (closes.marks q) ∙ e))

  still_cyclic : (q : ℕ) → is_cyclic s q ≡ true → is_cyclic t q ≡ true
  still_cyclic q e = closes.cyclic q ∙ cond_flag _ (is_cyclic s q) e

  settled_still : (w i : ℕ) → i < bound → IsSettled s w i → IsSettled t w i
  settled_still w i low =
      ⊎_elim (λ done. inl (stays_done w done))
      (λ on. ⊎_elim
      (λ before. inr (on.0, stays_on w on.0 on.1 before, λ b has le. on.2 b (stayed b has) le))
      (λ after. inl (member_done w on.0 on.1 after))
      (cases_lt on.0 bound))

  -- the edges of the segment lead into it or to what is done
  leads : (q i k : ℕ) → mark_of s q ≡ OnPath i → bound ≤ i → k < degree edges q → (mark_of s (target edges q k) ≡ Done) ⊎ ((j : ℕ) × (bound ≤ j) × (mark_of s (target edges q k) ≡ OnPath j))
  leads q i k on high within =
      ⊎_elim (λ has. let low : i < bound = spent i has in absurd (omega arith))
      (λ all. ⊎_elim (λ done. inl done) (λ settles. inr (settles.0, settles.2 bound bound_there high, settles.1)) (old.settled q i k on (omega arith)))
      (old.exhausted q i on)

  -- each number of a segment of several reaches itself
  around : (i j : ℕ) → i < j → bound ≤ i → j < length s.path → Reaches edges (get_or s.path i 0) (get_or s.path i 0) × Reaches edges (get_or s.path j 0) (get_or s.path j 0)
  around i j order high within =
      let there = old.forward i j order within in
      let back = old.back i j order within (λ b has above. let low : b ≤ bound = no_bound_past b has in absurd (omega arith)) in
      (reaches_trans edges _ (get_or s.path j 0) _ there back, reaches_trans edges _ (get_or s.path i 0) _ back there)

  cycle_of_member : (q i : ℕ) → mark_of s q ≡ OnPath i → bound ≤ i → bound + 1 < length s.path → Reaches edges q q
  cycle_of_member q i on high several =
      let at = old.place q i on in
      let low : i < length s.path = at.0 in
      subst (λ a. Reaches edges a a) at.1
      (⊎_elim (λ e. (around i (bound + 1) (omega arith) high several).0) (λ apart. (around bound i (omega arith) (omega arith) low).1) (cases_eq i bound))

  -- a lone number without a loop doesn't come back
  lone_leaves : (q : ℕ) → mark_of s q ≡ OnPath bound → length s.path ≤ bound + 1 → is_cyclic s q ≡ false → (w : ℕ) → IsEdge edges q w → mark_of s w ≡ Done
  lone_leaves q on alone plain w edge =
      let place = place_of_edge edges q w edge in
      let off : target edges q place.0 ≡ q → ⊥ = λ e.
      ⊎_elim (λ has. let low : bound < bound = spent bound has in absurd (omega arith))
      (λ all. let less : place.0 < degree edges q = place.1 in false≢true (sym plain ∙ old.loops q place.0 (omega arith) e))
      (old.exhausted q bound on) in
      subst (λ a. mark_of s a ≡ Done) place.2
      (⊎_elim (λ done. done)
      (λ inside.
      let at = old.place (target edges q place.0) inside.0 inside.2 in
      let low : inside.0 < length s.path = at.0 in
      let high : bound ≤ inside.0 = inside.1 in
      let same : inside.0 ≡ bound = omega arith in
      absurd (off (sym at.1 ∙ ap (λ k. get_or s.path k 0) same ∙ (old.place q bound on).1)))
      (leads q bound place.0 on (omega arith) place.1))

  done_along : (u v : ℕ) → mark_of s u ≡ Done → IsEdge edges u v → mark_of s v ≡ Done
  done_along u v done edge = let place = place_of_edge edges u v edge in subst (λ a. mark_of s a ≡ Done) place.2 (old.closed u place.0 done place.1)

  no_return : (q : ℕ) (between : List ℕ) → mark_of s q ≡ OnPath bound → length s.path ≤ bound + 1 → is_cyclic s q ≡ false → IsWalk edges q between q → ⊥
  no_return q [] on alone plain walk = done_off _ bound (lone_leaves q on alone plain q walk) on
  no_return q (w ∷ between) on alone plain walk =
      done_off _ bound (holds_along edges (λ a. mark_of s a ≡ Done) done_along w between q (lone_leaves q on alone plain w walk.0) walk.1) on

  cyclic_member : (q i : ℕ) → mark_of s q ≡ OnPath i → bound ≤ i → Reaches edges q q → is_cyclic t q ≡ true
  cyclic_member q i on high cycle =
      ⊎_elim
      (λ several. closes.cyclic q ∙ ap (λ b. cond b true (is_cyclic s q)) (and_from _ _ (member_from q i on high) (lt-ltb 1 _ (omega (arith, length-drop bound s.path)))))
      (λ alone. ⊎_elim (λ known. still_cyclic q known)
      (λ plain.
      let low : i < length s.path = (old.place q i on).0 in
      let same : i ≡ bound = omega arith in
      absurd (no_return q cycle.0 (subst (λ k. mark_of s q ≡ OnPath k) same on) alone plain cycle.1))
      (cases_Bool (is_cyclic s q)))
      (cases_lt (bound + 1) (length s.path))

  pub search_close : IsSearch count edges t
  search_close = record {
    marks_len = closes.marks_len ∙ old.marks_len;
    followed_len = ap length closes.followed ∙ old.followed_len;
    cyclic_len = closes.cyclic_len ∙ old.cyclic_len;
    place = λ q i e. let was = was_on q i e in (let low : i < bound = was.1 in omega (arith, path_len), path_at i was.1 ∙ (old.place q i was.0).1);
    marked = λ i within. let low : i < bound = omega (arith, path_len) in ap (mark_of t) (path_at i low) ∙ stays_on (get_or s.path i 0) i (old.marked i (omega (arith, bound_within))) low;
    forward = λ i j order within.
        let low : i < bound = omega (arith, path_len) in
        let low_too : j < bound = omega (arith, path_len) in
        subst (λ a. Reaches edges a (get_or t.path j 0)) (sym (path_at i low)) (subst (Reaches edges (get_or s.path i 0)) (sym (path_at j low_too)) (old.forward i j order (omega (arith, bound_within))));
    back = λ i j order within together.
        let low : i < bound = omega (arith, path_len) in
        let low_too : j < bound = omega (arith, path_len) in
        subst (λ a. Reaches edges a (get_or t.path i 0)) (sym (path_at j low_too)) (subst (Reaches edges (get_or s.path j 0)) (sym (path_at i low))
        (old.back i j order (omega (arith, bound_within)) (λ b has above. ⊎_elim (λ e. omega arith) (λ apart. together b (stays b has apart) above) (cases_eq b bound))));
    rising = let P : List ℕ → Type 0 = AllPairs (λ x y. x < y) in subst P (sym closes.bounds) (AllPairs_take s.bounds (length s.bounds - 1) old.rising);
    bounds_within = λ b has. let low : b < bound = stayed_low b has in omega (arith, path_len);
    first = λ more. stays 0 (old.first (omega (arith, bound_within))) (λ e. absurd (omega (arith, path_len)));
    pending_rising = let P : List ℕ → Type 0 = AllPairs (λ x y. x < y) in subst P (sym closes.pending) old.pending_rising;
    pending_within = λ place has. let low : place < bound = spent place (subst (λ xs. Contains xs place) closes.pending has) in omega (arith, path_len);
    fresh = λ q e. ap (λ xs. get_or xs q 0) closes.followed ∙ old.fresh q (cond_unseen (list_any (eqb q) (drop bound s.path)) (mark_of s q) (sym (closes.marks q) ∙ e));
    followed_few = λ q. let same : followed_of t q ≡ followed_of s q = ap (λ xs. get_or xs q 0) closes.followed in omega (arith, old.followed_few q);
    settled = λ q i k e less.
        let was = was_on q i e in
        let same : followed_of t q ≡ followed_of s q = ap (λ xs. get_or xs q 0) closes.followed in
        settled_still (target edges q k) i was.1 (old.settled q i k was.0 (omega arith));
    loops = λ q k less e. let same : followed_of t q ≡ followed_of s q = ap (λ xs. get_or xs q 0) closes.followed in still_cyclic q (old.loops q k (omega arith) e);
    exhausted = λ q i e.
        let was = was_on q i e in
        let same : followed_of t q ≡ followed_of s q = ap (λ xs. get_or xs q 0) closes.followed in
        ⊎_elim (λ has. inl (subst (λ xs. Contains xs i) (sym closes.pending) has)) (λ all. inr (omega arith)) (old.exhausted q i was.0);
    closed = λ q k e within.
        ⊎_elim
        (λ member. ⊎_elim (λ done. stays_done (target edges q k) done) (λ inside. member_done (target edges q k) inside.0 inside.2 inside.1) (leads q member.0 k member.2 member.1 within))
        (λ done. stays_done (target edges q k) (old.closed q k done within))
        (was_done q e);
    sound = λ q e.
        ⊎_elim
        (λ both.
        let parts = and_parts _ _ both in
        let member = member_place q parts.0 in
        let several : 1 < length (drop bound s.path) = ltb-true 1 _ parts.1 in
        cycle_of_member q member.0 member.2 member.1 (omega (arith, length-drop bound s.path)))
        (λ known. old.sound q known)
        (cond_was_flag _ (is_cyclic s q) (sym (closes.cyclic q) ∙ e));
    complete = λ q e cycle.
        ⊎_elim (λ member. cyclic_member q member.0 member.2 member.1 cycle) (λ done. still_cyclic q (old.complete q done cycle)) (was_done q e);
  }

-- what a search knows once its path is empty and each number was seen
pub cyclic_when_done : (count : ℕ) (edges : List (ℕ × ℕ)) (s : State) → IsSearch count edges s → length s.path ≡ 0 → (v : ℕ) → (mark_of s v ≡ Unseen → ⊥) → (is_cyclic s v ≡ true) ↔ Reaches edges v v
cyclic_when_done count edges s old empty v seen =
    let done : mark_of s v ≡ Done = by_mark (mark_of s v) seen (λ i on. let low : i < length s.path = (old.place v i on).0 in omega arith) in
    (old.sound v, old.complete v done)
  where
    by_mark : (m : Mark) → (m ≡ Unseen → ⊥) → ((i : ℕ) → m ≡ OnPath i → ⊥) → m ≡ Done
    by_mark Unseen seen off = absurd (seen refl)
    by_mark (OnPath i) seen off = absurd (off i refl)
    by_mark Done seen off = refl
