-- What a view says of the start, of its ticket and of its turn.
use Rattle.std.specs.Prelude.{ℕ, List, [], ◌∷◌, cond, eqb, Option, Some, None, option_map, unwrap_or}
use Rattle.fly_desk.specs.declared.view.Origin.{Origin}
use Rattle.fly_desk.specs.declared.view.View.{View}

-- how many tickets it is
abbrev pub ticket_count : Option ℕ → ℕ
ticket_count None = 0
ticket_count (Some t) = 1

-- how often it is the ticket k
abbrev pub times_of_ticket : ℕ → Option ℕ → ℕ
times_of_ticket k None = 0
times_of_ticket k (Some t) = cond (eqb t k) 1 0

-- the emptied slot is a pass's while its turn is out
abbrev pub slots_out : {O E : Type 0} → Option (List E × ℕ) → List (ℕ × Option O)
slots_out None = []
slots_out (Some turn) = (0, None) ∷ []

module _ {E B : Type 0} where
  -- the view of the pass that a desk starts with
  abbrev pub opening_view : Origin E B → View E B
  opening_view origin =
      record { origin = Some origin; seen = origin.opening; note = []; own = []; left = origin.calls; ticket = None; turn = None }

  -- the view of a pass that was joined into another
  abbrev pub blank_view : View E B
  blank_view = record { origin = None; seen = []; note = []; own = []; left = 0; ticket = None; turn = None }

  -- the list that the object had when the turn began
  abbrev pub list_in : View E B → List E
  list_in v = (unwrap_or v.turn ([], 0)).0

  -- the spare that the object had when the turn began
  abbrev pub spare_in : View E B → ℕ
  spare_in v = (unwrap_or v.turn ([], 0)).1

  -- the object's list at the start
  abbrev pub opening_in : View E B → List E
  opening_in v = unwrap_or (option_map (λ (o : Origin E B). o.opening) v.origin) []

  -- the object's basis at the start
  abbrev pub basis_in : View E B → Option B
  basis_in v = option_map (λ (o : Origin E B). o.basis) v.origin

  -- how many calls all passes have together
  abbrev pub calls_in : View E B → ℕ
  calls_in v = unwrap_or (option_map (λ (o : Origin E B). o.calls) v.origin) 0
