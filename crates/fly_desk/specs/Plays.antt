-- What each step at a desk tells its pass, and what becomes of the pass's view.
use Rattle.std.specs.Prelude.{◌≡◌, ℕ, ◌+◌, ◌-◌, ◌^◌, ◌<◌, List, [], ◌∷◌, ◌++◌, length, ◌==◌, MatchBool, Option, Some, None, IfSome}
use Rattle.atomic_table.specs.Table.{Me, Step}
use Rattle.fly_desk.specs.declared.view.View.{View}
use Rattle.fly_desk.specs.Annals.{StartsWith, HasCalls, longer_of}
use Rattle.fly_desk.specs.View.{opening_in}

module _ {E B : Type 0} where
  -- the ticket is the pass's
  abbrev pub view_with_ticket : View E B → ℕ → View E B
  view_with_ticket v ticket = record v { ticket = Some ticket }

  -- the pass has the turn, with the list and the spare that the object has
  abbrev pub view_with_turn : View E B → List E → ℕ → View E B
  view_with_turn v list spare = record v { turn = Some (list, spare) }

  -- the entry is one more of the pass's own calls, at the place behind the list
  abbrev pub view_with_call : View E B → List E → E → View E B
  view_with_call v list entry = record v {
    seen = list ++ entry ∷ [];
    own = v.own ++ (length list, entry) ∷ [];
    left = v.left - 1;
    ticket = None;
    turn = None;
  }

  -- some of the calls left are given away
  abbrev pub view_with_rest : ℕ → View E B → View E B
  view_with_rest calls v = record v { left = v.left - calls }

  -- a new pass has seen as much, and has these calls
  abbrev pub view_with_share : ℕ → View E B → View E B
  view_with_share calls v = record v { note = []; own = []; left = calls; ticket = None; turn = None }

  -- a note of what the other has seen, and the own calls and the calls left of both
  abbrev pub view_of_both : View E B → View E B → View E B
  view_of_both v w = record v { note = w.seen; own = v.own ++ w.own; left = v.left + w.left }

  -- the pass has seen the longer of what it had seen and the note
  abbrev pub view_of_longer : View E B → View E B
  view_of_longer v = record v { seen = longer_of v.seen v.note; note = [] }

-- a seat at the table: its view, and the slots that it has taken
abbrev pub Knower : Type 0 → Type 0 → Type 0 → Type 0
Knower O E B = Me (Option O) (View E B)

module _ {O E B : Type 0} where
  -- the number found is the seat's ticket
  abbrev pub Draws : Step (Option O) → Knower O E B → ℕ → Knower O E B → Type 0
  Draws step before found after = after ≡ (view_with_ticket before.0 found, before.1)

  -- both lists are beginnings of the longer, and the calls left fit a word
  abbrev pub Settles : Step (Option O) → Knower O E B → ℕ → Knower O E B → Type 0
  Settles step before found after = (after ≡ (view_of_longer before.0, before.1))
      × StartsWith (longer_of before.0.seen before.0.note) before.0.seen
      × StartsWith (longer_of before.0.seen before.0.note) before.0.note
      × (before.0.left < 2 ^ 64)

  module _ (entries : O → List E) (spare : O → ℕ) (basis : O → B) where
    -- The seat has the object. Its list begins with what the pass has seen and with the opening list, and has the
    -- pass's own calls at their places; its basis is that of the start, and an entry more fits.
    abbrev pub TakesOut : Knower O E B → Knower O E B → Type 0
    TakesOut before after = (object : O)
        × (after ≡ (view_with_turn before.0 (entries object) (spare object), (0, Some object) ∷ before.1))
        × StartsWith (entries object) before.0.seen
        × HasCalls (entries object) before.0.own
        × IfSome before.0.origin (λ o. basis object ≡ o.basis)
        × (0 < spare object)
        × StartsWith (entries object) (opening_in before.0)

    -- the object is the seat's where the number found is its ticket
    abbrev pub Looks : Step (Option O) → Knower O E B → ℕ → Knower O E B → Type 0
    Looks step before found after =
        IfSome before.0.ticket (λ ticket. MatchBool (found == ticket) (TakesOut before after) (after ≡ before))

    -- the object, with one entry more, is at home
    abbrev pub PassesOn : Step (Option O) → Knower O E B → ℕ → Knower O E B → Type 0
    PassesOn step before found after = IfSome before.0.turn (λ turn. (object : O) (entry : E)
        → before.1 ≡ (0, Some object) ∷ []
        → entries object ≡ turn.0 ++ entry ∷ []
        → after ≡ (view_with_call before.0 turn.0 entry, []))
