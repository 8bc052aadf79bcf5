-- Moves of which none is bad are a round.
use Rattle.std.proofs.Common.{◌≡◌, ◌≢◌, ℕ, suc, ◌+◌, ◌<◌, ◌≤◌, Bool, true, false, ltb, List, [], ◌∷◌, map, length, take, get_or, filter_map, position, Option, Some, None, refl, sym, subst, ap, ◌∙◌, ⊎_elim, arith}
use Rattle.std.specs.List.{list_any, list_all, slice_get, enumerate_from, position_or_len, cons_option}
use Rattle.std.proofs.lemmas.Bool.{and_parts, and_from, or_parts, not-false, true≢false, cases_lt, eq-eqb, lt-ltb, cond-true, ltb-true}
use Rattle.std.proofs.lemmas.List.{length-map, get_or-map, get_or-take, length-take-le}
use Rattle.std.proofs.lemmas.List.Elements.{All-map}
use Rattle.std.proofs.lemmas.List.Folds.{list_any_at}
use Rattle.std.proofs.lemmas.List.FromFn.{length-enumerate_from, get_or-enumerate_from}
use Rattle.std.proofs.lemmas.List.Sums.{fails_before_first}
use Rattle.std.proofs.lemmas.Option.{none-some, slice_get_cases}
use Rattle.fly_state.specs.declared.moves.At.{At}
use Rattle.fly_state.specs.declared.moves.Move.{Move}
use Rattle.fly_state.specs.declared.entries.Entry.{Entry}
use Rattle.fly_state.specs.declared.view.View.{View}
use Rattle.fly_state.specs.Plans.{RunPlan}
use Rattle.fly_state.specs.Moves.{same_item, is_legal}
use Rattle.fly_state.specs.Rounds.{CitedMove, IsRound, cited_places}
use Rattle.fly_world.specs.World.{World}
use Rattle.fly_world.specs.Steps.{cited_move, is_legal_move, same_slot, is_bad_move, bad_move}

-- ---- first places

-- where there is no first place at which a test passes, it passes nowhere
nowhere : {X : Type 0} (p : X → Bool) (xs : List X) → position p xs ≡ None → (k : ℕ) (d : X) → k < length xs
    → p (get_or xs k d) ≡ false
nowhere p xs none k d lt =
    ⊎_elim
    (λ found. absurd (none-some (position_or_len p xs)
    (sym none ∙ cond-true _ (Some (position_or_len p xs)) None (lt-ltb (position_or_len p xs) (length xs) found))))
    (λ past. fails_before_first p xs k d (omega arith))
    (cases_lt (position_or_len p xs) (length xs))

-- ---- slots

pub same_item-refl : (o : Option ℕ) → same_item o o ≡ true
same_item-refl None = refl
same_item-refl (Some n) = eq-eqb n n refl

same_slot-refl : (a : At) → same_slot a a ≡ true
same_slot-refl a = and_from _ _ (same_item-refl a.node) (same_item-refl a.item)

-- ---- cited entries

there : (es : List Entry) (place : ℕ) → place < length es → (e : Entry) × (slice_get es place ≡ Some e)
there es place lt = ⊎_elim (λ found. (found.0, found.2)) (λ past. absurd (omega arith)) (slice_get_cases es place).1

longer : (o : Option Entry) (e : Entry) (rest : List Entry) → o ≡ Some e → length (cons_option o rest)
    ≡ suc (length rest)
longer None e rest h = absurd (none-some e h)
longer (Some x) e rest h = refl

all_cited : (es : List Entry) (places : List ℕ) → list_all (λ place. ltb place (length es)) places ≡ true
    → length (filter_map (slice_get es) places) ≡ length places
all_cited es [] h = refl
all_cited es (place ∷ places) h =
    let parts = and_parts (ltb place (length es)) (list_all (λ p. ltb p (length es)) places) h in
    let found = there es place (ltb-true place (length es) parts.0) in
    longer (slice_get es place) found.0 (filter_map (slice_get es) places) found.1
    ∙ ap suc (all_cited es places parts.1)

-- ---- rounds

module _ (plan : RunPlan) (w : World) (v : View) where
  abbrev is_bad_at : List Move → ℕ × Move → Bool
  is_bad_at ms at = is_bad_move plan w v (take at.0 ms) at.1

  -- no move is bad
  good_at : (ms : List Move) → position (is_bad_at ms) (enumerate_from 0 ms) ≡ None → (k : ℕ) (d : Move)
      → k < length ms
      → is_bad_move plan w v (take k ms) (get_or ms k d) ≡ false
  good_at ms none k d lt =
      let at = nowhere (is_bad_at ms) (enumerate_from 0 ms) none k (0, d)
      (subst (λ n. k < n) (sym (length-enumerate_from 0 ms)) lt) in
      let here = subst (λ x. is_bad_at ms x ≡ false) (get_or-enumerate_from 0 ms k (0, d) lt) at in
      let same : 0 + k ≡ k = omega arith in
      subst (λ n. is_bad_move plan w v (take n ms) (get_or ms k d) ≡ false) same here

  legal_at : (earlier : List Move) (m : Move) → is_bad_move plan w v earlier m ≡ false → is_legal_move plan w v m
      ≡ true
  legal_at earlier m good = not-false (is_legal_move plan w v m) (or_parts _ _ good).0

  apart_at : (earlier : List Move) (m : Move) → is_bad_move plan w v earlier m ≡ false
      → list_any (λ (e : Move). same_slot e.at m.at) earlier ≡ false
  apart_at earlier m good = (or_parts _ _ good).1

  apart : (ms : List Move) → position (is_bad_at ms) (enumerate_from 0 ms) ≡ None → (i j : ℕ) (d : Move) → i < j
      → j < length ms
      → (get_or ms i d).at ≢ (get_or ms j d).at
  apart ms none i j d lt len same =
      let free = apart_at (take j ms) (get_or ms j d) (good_at ms none j d len) in
      let shorter : length (take j ms) ≡ j = length-take-le j ms (omega arith) in
      let test : Move → Bool = λ e. same_slot e.at (get_or ms j d).at in
      let at_i = subst (λ a. same_slot a (get_or ms j d).at ≡ true) (sym same) (same_slot-refl (get_or ms j d).at) in
      let passes = subst (λ e. test e ≡ true) (sym (get_or-take j ms i d lt)) at_i in
      true≢false (sym (list_any_at test (take j ms) i d (subst (λ n. i < n) (sym shorter) lt) passes) ∙ free)

  round_of : (ms : List Move) → 1 ≤ length ms → position (is_bad_at ms) (enumerate_from 0 ms) ≡ None
      → IsRound plan v (map (cited_move w) ms)
  round_of ms some none = record {
    some = subst (λ n. 1 ≤ n) (sym (length-map ms (cited_move w))) some;
    distinct = λ i j d lt len.
        let long = subst (λ n. j < n) (length-map ms (cited_move w)) len in
        let at_i = get_or-map (cited_move w) ms i d.move d (omega arith) in
        let at_j = get_or-map (cited_move w) ms j d.move d long in
        λ same. apart ms none i j d.move lt long
        (sym (ap (λ (c : CitedMove). c.move.at) at_i) ∙ same ∙ ap (λ (c : CitedMove). c.move.at) at_j);
    cited = All-map (λ (c : CitedMove). length c.entries ≡ length (cited_places c.move.step)) (cited_move w) ms
        (λ k d lt. all_cited w.entries (cited_places (get_or ms k d).step)
        (and_parts _ _ (legal_at (take k ms) (get_or ms k d) (good_at ms none k d lt))).0);
    legal = All-map (λ (c : CitedMove). is_legal plan v c.entries c.move ≡ true) (cited_move w) ms
        (λ k d lt. (and_parts _ _ (legal_at (take k ms) (get_or ms k d) (good_at ms none k d lt))).1);
  }

  -- moves of which none is bad are a round
  pub good-round : (ms : List Move) → bad_move plan w v ms ≡ None → IsRound plan v (map (cited_move w) ms)
  good-round [] none = absurd (none-some 0 (sym none))
  good-round (m ∷ ms) none = round_of (m ∷ ms) (omega arith) none
