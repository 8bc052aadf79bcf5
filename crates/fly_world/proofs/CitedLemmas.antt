-- The entries that a move cites.
use Rattle.std.proofs.Common.{◌≡◌, ◌⊎◌, ⊎_elim, ℕ, ◌<◌, ◌≤◌, false, true, ◌&&◌, ltb, List, [], ◌++◌, length, get_or, Some, None, sym, ap, ◌∙◌, append-nil}
use Rattle.std.specs.Prelude.{slice_get}
use Rattle.std.specs.List.{cons_option}
use Rattle.std.proofs.lemmas.Bool.{le-ltb}
use Rattle.std.proofs.lemmas.Option.{slice_get_cases, none-some}
use Rattle.fly_state.specs.declared.entries.Entry.{Entry}
use Rattle.fly_world.specs.Writes.{PushesCited}

-- nothing is added where nothing is at the place
pub pushes_none : (all old : List Entry) (place : ℕ) → slice_get all place ≡ None
    → PushesCited all (Some place) old old false
pushes_none all old place none = (
  sym (ap (λ o. old ++ cons_option o []) none ∙ append-nil old),
  sym (ap (λ b. b && true) (past (slice_get_cases all place).1)),
)
  where
    past : ((x : Entry) × (place < length all) × (slice_get all place ≡ Some x) × (get_or all place x ≡ x))
        ⊎ ((length all ≤ place) × (slice_get all place ≡ None)) → ltb place (length all) ≡ false
    past cases =
        ⊎_elim (λ found. absurd (none-some found.0 (sym none ∙ found.2)))
        (λ past. le-ltb place (length all) past.0) cases
