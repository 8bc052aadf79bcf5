-- The rule of a desk: the turns of all passes form one history.
use Rattle.std.specs.Prelude.{◌≡◌, ℕ, ◌+◌, ◌^◌, ◌<◌, ◌≤◌, List, [], ◌∷◌, length, true, Option, Some, None, IfSome, is_some, sum_by}
use mathlib.Core.Option as maybe
use lib.ListN.{get_elem?}
use Rattle.atomic_table.specs.Table.{State}
use Rattle.fly_desk.specs.declared.view.Origin.{Origin}
use Rattle.fly_desk.specs.declared.view.View.{View}
use Rattle.fly_desk.specs.Annals.{StartsWith, HasCalls, times_at, one_within}
use Rattle.fly_desk.specs.View.{ticket_count, times_of_ticket}

module _ {E B : Type 0} where
  -- What a view may say where the history is `log`, and `serving` is the ticket that is served
  pub record Knows (origin : Origin E B) (log : List E) (serving : ℕ) (v : View E B) : Type 0 where
    -- it knows the start, unless it was joined into another
    pub same : IfSome v.origin (λ o. o ≡ origin)
    -- what it has seen, and its note, are beginnings of the history
    pub seen : StartsWith log v.seen
    pub note : StartsWith log v.note
    -- its own calls stand in the history, each at its place
    pub own : HasCalls log v.own
    -- with a ticket it has a call left
    pub may_call : ticket_count v.ticket ≤ v.left
    -- with the turn it has the served ticket, and the object had just the history
    pub turn : IfSome v.turn (λ turn.
        (v.ticket ≡ Some serving) × (turn.0 ≡ log) × (origin.calls ≤ turn.1 + serving))

module _ {O E B : Type 0} (entries : O → List E) (spare : O → ℕ) (basis : O → B) where
  -- what a desk over the object, for so many calls, starts with
  abbrev pub origin_at : O → ℕ → Origin E B
  origin_at object calls = record { opening = entries object; basis = basis object; calls = calls }

  -- Some view has the turn where the slot is out. Where it is at home no view has it, and the object has just the history.
  abbrev pub IsAtHome : Origin E B → List E → ℕ → List (View E B) → maybe.Option (Option O) → Type 0
  IsAtHome origin log serving views maybe.none =
      (seat : ℕ) × (v : View E B) × (get_elem? views seat ≡ maybe.some v) × (is_some v.turn ≡ true)
  IsAtHome origin log serving views (maybe.some slot) = (object : O)
      × (slot ≡ Some object)
      × (entries object ≡ log)
      × (basis object ≡ origin.basis)
      × (origin.calls ≤ spare object + serving)
      × ((seat : ℕ) (v : View E B) → get_elem? views seat ≡ maybe.some v → v.turn ≡ None)

  -- The table of a desk: what its words, its slot and all views say together
  pub record IsDesk (origin : Origin E B) (s : State (Option O) (View E B)) : Type 0 where
    -- the one history, the next ticket, the ticket that is served, and the object's slot
    pub log : List E
    pub ticket : ℕ
    pub serving : ℕ
    pub slot : maybe.Option (Option O)
    pub words : s.words ≡ ticket ∷ serving ∷ []
    pub homes : s.homes ≡ slot ∷ []
    pub order : serving ≤ ticket
    pub fits : origin.calls < 2 ^ 64
    -- the history is the opening list and one entry for each ticket that was served
    pub begins : StartsWith log origin.opening
    pub served : length log ≡ length origin.opening + serving
    -- each ticket from the served one on is in one view, and no other ticket is
    pub tickets : (k : ℕ) → sum_by (λ v. times_of_ticket k v.ticket) s.views ≡ one_within serving ticket k
    pub waiting : sum_by (λ v. ticket_count v.ticket) s.views + serving ≡ ticket
    -- each place after the opening list is in one view's own calls, and no other place is
    pub places : (p : ℕ) → sum_by (λ v. times_at p v.own) s.views ≡ one_within (length origin.opening) (length log) p
    pub made : sum_by (λ v. length v.own) s.views ≡ serving
    -- the calls made and the calls left add up
    pub calls : sum_by (λ v. length v.own + v.left) s.views ≡ origin.calls
    pub each : (seat : ℕ) (v : View E B) → get_elem? s.views seat ≡ maybe.some v → Knows origin log serving v
    pub at_home : IsAtHome origin log serving s.views slot
