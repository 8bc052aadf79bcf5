-- Moves of which the first are known to be good.
use Rattle.std.proofs.Common.{◌≡◌, ℕ, ◌+◌, ◌<◌, Bool, true, false, not, cond, ◌||◌, ◌&&◌, eqb, ltb, List, [], ◌∷◌, ◌++◌, map, length, take, get_or, fold, position, Ordering, Less, Equal, Greater, is_eq, nat_cmp, Option, Some, None, is_some, refl, sym, subst, ap, ◌∙◌, ⊎_elim, arith}
use Rattle.std.specs.List.{list_any, enumerate_from, position_or_len}
use Rattle.std.specs.Option.{option_cmp}
use Rattle.std.specs.Ordering.{ordering_then}
use Rattle.std.specs.BTreeSet.{BTreeSet, contains, Updates}
use Rattle.std.proofs.lemmas.Bool.{cond-true, cond-false, lt-ltb, le-ltb, ltb-true, ne_eqb, cases_lt, not-false, not-true}
use Rattle.std.proofs.lemmas.List.{map-append, take_more, get_or_default}
use Rattle.std.proofs.lemmas.List.Folds.{list_any_more}
use Rattle.std.proofs.lemmas.List.FromFn.{length-enumerate_from, get_or-enumerate_from}
use Rattle.std.proofs.lemmas.List.Sums.{fold-append, position_or_len_is}
use Rattle.fly_state.specs.declared.moves.At.{At}
use Rattle.fly_state.specs.declared.moves.Move.{Move}
use Rattle.fly_state.specs.declared.moves.Step.TheVariants as step
use Rattle.fly_state.specs.declared.slots.ExecState.{ExecState}
use Rattle.fly_state.specs.declared.view.View.{View}
use Rattle.fly_state.specs.Plans.{RunPlan}
use Rattle.fly_state.specs.declared.effects.Effect.{Effect}
use Rattle.fly_state.specs.Moves.{same_item, effect_of, state_with, where_true}
use Rattle.fly_state.proofs.FinalLemmas.{where_true-there}
use Rattle.fly_state.specs.Rounds.{CitedMove, state_after, with_move}
use Rattle.fly_world.specs.World.{World}
use Rattle.fly_world.specs.Steps.{cited_move, cites_entries, is_legal_move, same_slot, is_bad_move, bad_move}
use Rattle.fly_world.specs.Writes.{cited_effect}

-- ---- the first place at which a test passes

module _ {X : Type 0} (p : X → Bool) (xs : List X) where
  first-at : (i : ℕ) (d : X) → i < length xs → ((k : ℕ) → k < i → p (get_or xs k d) ≡ false)
      → p (get_or xs i d) ≡ true → position p xs ≡ Some i
  first-at i d within before here =
      let e : position_or_len p xs ≡ i = position_or_len_is p xs i d (omega arith) before (λ _. here) in
      ap (λ n. cond (ltb n (length xs)) (Some n) None) e
      ∙ cond-true (ltb i (length xs)) (Some i) None (lt-ltb i (length xs) within)

  first-none : (d : X) → ((k : ℕ) → k < length xs → p (get_or xs k d) ≡ false) → position p xs ≡ None
  first-none d all =
      let e : position_or_len p xs ≡ length xs =
      position_or_len_is p xs (length xs) d (omega arith) all (λ lt. absurd (omega arith)) in
      ap (λ n. cond (ltb n (length xs)) (Some n) None) e
      ∙ cond-false (ltb (length xs) (length xs)) (Some (length xs)) None (le-ltb (length xs) (length xs) (omega arith))

-- ---- the slots of moves in a set

-- what stands where no move is
abbrev pub no_move : Move
no_move = record { at = record { node = None; item = None }; step = step.Begin }

abbrev pub Slot : Type 0
Slot = Option ℕ × Option ℕ

abbrev pub slot_cmp : Slot → Slot → Ordering
slot_cmp x y = ordering_then (option_cmp nat_cmp x.0 y.0) (option_cmp nat_cmp x.1 y.1)

abbrev at_slot : Slot → At
at_slot q = record { node = q.0; item = q.1 }

-- the set has the slots of the moves
abbrev pub HasSlots : List Move → BTreeSet Slot → Type 0
HasSlots moves slots =
    (q : Slot) → contains slot_cmp slots q ≡ list_any (λ (e : Move). same_slot e.at (at_slot q)) moves

is_eq-nats : (x y : ℕ) → is_eq (nat_cmp x y) ≡ eqb x y
is_eq-nats x y = by (ltb x y) (eqb x y) (λ less. ne_eqb x y (λ e. omega (arith, ltb-true x y less)))
  where
    by : (a b : Bool) → (a ≡ true → b ≡ false) → is_eq (cond a Less (cond b Equal Greater)) ≡ b
    by true b apart = sym (apart refl)
    by false true apart = refl
    by false false apart = refl

is_eq-items : (a b : Option ℕ) → is_eq (option_cmp nat_cmp a b) ≡ same_item a b
is_eq-items None None = refl
is_eq-items None (Some y) = refl
is_eq-items (Some x) None = refl
is_eq-items (Some x) (Some y) = is_eq-nats x y

is_eq-then : (a b : Ordering) → is_eq (ordering_then a b) ≡ (is_eq a && is_eq b)
is_eq-then Less b = refl
is_eq-then Equal b = refl
is_eq-then Greater b = refl

is_eq-slots : (x y : Slot) → is_eq (slot_cmp x y) ≡ same_slot (at_slot x) (at_slot y)
is_eq-slots x y =
    is_eq-then (option_cmp nat_cmp x.0 y.0) (option_cmp nat_cmp x.1 y.1)
    ∙ ap (λ b. b && is_eq (option_cmp nat_cmp x.1 y.1)) (is_eq-items x.0 y.0)
    ∙ ap (λ b. same_item x.0 y.0 && b) (is_eq-items x.1 y.1)

pub slots_more : (moves : List Move) (i : ℕ) (m : Move) (slots next : BTreeSet Slot) → i < length moves
    → m ≡ get_or moves i m → HasSlots (take i moves) slots
    → Updates slot_cmp slots next (m.at.node, m.at.item) true → HasSlots (take (i + 1) moves) next
slots_more moves i m slots next within is has updates q =
    let test : Move → Bool = λ e. same_slot e.at (at_slot q) in
    updates.0 q
    ∙ ap (λ b. cond b true (contains slot_cmp slots q)) (is_eq-slots (m.at.node, m.at.item) q)
    ∙ ap (cond (test m) true) (has q)
    ∙ either (test m) (list_any test (take i moves))
    ∙ ap (λ x. list_any test (take i moves) || test x) is
    ∙ sym (list_any_more test moves i m within)
  where
    either : (a b : Bool) → cond a true b ≡ (b || a)
    either true true = refl
    either true false = refl
    either false true = refl
    either false false = refl

-- a slot that the set has, or lacks
module _ (earlier : List Move) (m : Move) (slots : BTreeSet Slot) (fresh : Bool) (has : HasSlots earlier slots)
    (added : fresh ≡ not (contains slot_cmp slots (m.at.node, m.at.item))) where
  pub repeated : fresh ≡ false → list_any (λ (e : Move). same_slot e.at m.at) earlier ≡ true
  repeated old =
      sym (has (m.at.node, m.at.item))
      ∙ not-false (contains slot_cmp slots (m.at.node, m.at.item)) (sym added ∙ old)

  pub first_time : fresh ≡ true → list_any (λ (e : Move). same_slot e.at m.at) earlier ≡ false
  first_time new =
      sym (has (m.at.node, m.at.item))
      ∙ not-true (contains slot_cmp slots (m.at.node, m.at.item)) (sym added ∙ new)

-- ---- the first bad move

module _ (plan : RunPlan) (w : World) (v : View) where
  -- whether the move of a place is bad
  abbrev bad_at : List Move → ℕ → Move → Bool
  bad_at moves i m = is_bad_move plan w v (take i moves) m

  -- none of the moves before a place is bad
  abbrev pub AreGood : List Move → ℕ → Type 0
  AreGood moves i = (k : ℕ) (d : Move) → k < i → bad_at moves k (get_or moves k d) ≡ false

  some_moves : (moves : List Move) → 0 < length moves
      → bad_move plan w v moves ≡ position (λ (at : ℕ × Move). bad_at moves at.0 at.1) (enumerate_from 0 moves)
  some_moves [] some = absurd (omega arith)
  some_moves (m ∷ ms) some = refl

  module _ (moves : List Move) where
    numbered : (k : ℕ) (d : Move) (b : Bool) → k < length moves → bad_at moves k (get_or moves k d) ≡ b
        → bad_at moves (get_or (enumerate_from 0 moves) k (0, d)).0 (get_or (enumerate_from 0 moves) k (0, d)).1 ≡ b
    numbered k d b within h =
        let e : 0 + k ≡ k = omega arith in
        subst (λ (at : ℕ × Move). bad_at moves at.0 at.1 ≡ b) (sym (get_or-enumerate_from 0 moves k (0, d) within))
        (subst (λ n. bad_at moves n (get_or moves k d) ≡ b) (sym e) h)

    pub bad_here : (i : ℕ) (m : Move) → i < length moves → m ≡ get_or moves i m → AreGood moves i
        → bad_at moves i m ≡ true → bad_move plan w v moves ≡ Some i
    bad_here i m within is good bad =
        let short : i < length (enumerate_from 0 moves) =
        subst (λ n. i < n) (sym (length-enumerate_from 0 moves)) within in
        some_moves moves (omega arith)
        ∙ first-at (λ (at : ℕ × Move). bad_at moves at.0 at.1) (enumerate_from 0 moves) i (0, m) short
        (λ k lt. numbered k m false (omega arith) (good k m lt))
        (numbered i m true within (subst (λ x. bad_at moves i x ≡ true) is bad))

    pub bad_nowhere : (m : Move) → 0 < length moves → AreGood moves (length moves) → bad_move plan w v moves ≡ None
    bad_nowhere m some good =
        some_moves moves some
        ∙ first-none (λ (at : ℕ × Move). bad_at moves at.0 at.1) (enumerate_from 0 moves) (0, m)
        (λ k lt. let short : k < length moves = subst (λ n. k < n) (length-enumerate_from 0 moves) lt in
        numbered k m false short (good k m short))

    pub good_more : (i : ℕ) (m : Move) → m ≡ get_or moves i m → i < length moves → AreGood moves i
        → bad_at moves i m ≡ false → AreGood moves (i + 1)
    good_more i m is within good here k d lt =
        ⊎_elim (λ before. good k d before)
        (λ at. let e : k ≡ i = omega arith in
        subst (λ n. bad_at moves n (get_or moves n d) ≡ false) (sym e)
        (subst (λ x. bad_at moves i x ≡ false) (is ∙ get_or_default moves i m d within) here))
        (cases_lt k i)

  -- ---- why a move is bad

  pub repeats-bad : (earlier : List Move) (m : Move) → list_any (λ (e : Move). same_slot e.at m.at) earlier ≡ true
      → is_bad_move plan w v earlier m ≡ true
  repeats-bad earlier m h = ap (λ b. not (is_legal_move plan w v m) || b) h ∙ or_true (not (is_legal_move plan w v m))
    where
      or_true : (b : Bool) → (b || true) ≡ true
      or_true true = refl
      or_true false = refl

  legal-by : (m : Move) → is_legal_move plan w v m ≡ is_some (cited_effect plan w v m)
  legal-by m = by (cites_entries w m) (effect_of plan v (cited_move w m).entries m)
    where
      by : (b : Bool) (o : Option Effect) → (b && is_some o) ≡ is_some (where_true b o)
      by true o = refl
      by false o = refl

  pub illegal-bad : (earlier : List Move) (m : Move) → cited_effect plan w v m ≡ None
      → is_bad_move plan w v earlier m ≡ true
  illegal-bad earlier m none =
      ap (λ b. not b || list_any (λ (e : Move). same_slot e.at m.at) earlier) (legal-by m ∙ ap is_some none)

  pub legal-good : (earlier : List Move) (m : Move) (e : Effect)
      → list_any (λ (e : Move). same_slot e.at m.at) earlier ≡ false → cited_effect plan w v m ≡ Some e
      → is_bad_move plan w v earlier m ≡ false
  legal-good earlier m e first some =
      ap (λ b. not b || list_any (λ (e : Move). same_slot e.at m.at) earlier) (legal-by m ∙ ap is_some some) ∙ first

  -- ---- the state after

  -- after the moves before a place
  abbrev pub state_before : List Move → ℕ → ExecState
  state_before moves i = state_after plan v (map (cited_move w) (take i moves))

  pub state_more : (moves : List Move) (i : ℕ) (m : Move) (e : Effect) (s new : ExecState)
      → i < length moves → m ≡ get_or moves i m → cited_effect plan w v m ≡ Some e
      → s ≡ state_before moves i → new ≡ state_with s m.at e → new ≡ state_before moves (i + 1)
  state_more moves i m e s new within is effect old made =
      let some = where_true-there (cites_entries w m) (effect_of plan v (cited_move w m).entries m) e effect in
      let more : take (i + 1) moves ≡ take i moves ++ m ∷ [] =
      take_more moves i m within ∙ ap (λ x. take i moves ++ x ∷ []) (sym is) in
      made ∙ ap (λ x. state_with x m.at e) old
      ∙ sym (with_some (state_before moves i) (cited_move w m) e some)
      ∙ sym (fold-append (with_move plan v) v.state (map (cited_move w) (take i moves)) (cited_move w m ∷ []))
      ∙ ap (fold (with_move plan v) v.state)
      (sym (map-append (cited_move w) (take i moves) (m ∷ [])) ∙ ap (map (cited_move w)) (sym more))
    where
      with_some : (x : ExecState) (y : CitedMove) (f : Effect) → effect_of plan v y.entries y.move ≡ Some f
          → with_move plan v x y ≡ state_with x y.move.at f
      with_some x y f h = rw h refl
