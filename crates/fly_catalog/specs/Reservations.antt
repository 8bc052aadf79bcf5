-- Reservations under serial numbers, to which their keys lead.
use Rattle.std.specs.Prelude.{◌≡◌, ◌⊎◌, ℕ, ◌+◌, Bool, false, if◌then◌else◌, List, Option, Some, option_and_then}
use Rattle.std.specs.Option.{option_map_or}
use Rattle.std.specs.Ordering.{nat_cmp}
use Rattle.std.specs.Map.{remove_entry}
use Rattle.std.specs.BTreeMap.{BTreeMap, get, is_at, Updates, IsUnchanged}
use Rattle.fly_types.specs.declared.text.Text.{Text}
use Rattle.fly_catalog.specs.declared.parts.Reservation.{Reservation}
use Rattle.fly_catalog.specs.Names.{ItemKey}
use Rattle.fly_catalog.specs.Parts.{same_text}
use Rattle.fly_catalog.specs.Catalog.{item_cmp}

-- the reservation to which the key leads
abbrev pub reservation_at : BTreeMap ItemKey ℕ → BTreeMap ℕ Reservation → ItemKey → Option Reservation
reservation_at serials live key = option_and_then (λ s. get nat_cmp live s) (get item_cmp serials key)

-- the owner holds the reservation to which the key leads
abbrev pub is_holder : BTreeMap ItemKey ℕ → BTreeMap ℕ Reservation → ItemKey → Text → Bool
is_holder serials live key owner = option_map_or (λ r. same_text owner r.owner) (reservation_at serials live key) false

-- the key leads to the number, which no key had
pub record Promises (before after : BTreeMap ItemKey ℕ) (old new : ℕ) (key : ItemKey) : Type 0 where
  pub serials : Updates item_cmp before after key (Some old)
  pub next : new ≡ old + 1

-- at most that has changed
abbrev pub MayPromise : BTreeMap ItemKey ℕ → BTreeMap ItemKey ℕ → ℕ → ℕ → ItemKey → Type 0
MayPromise before after old new key = (IsUnchanged before after × (new ≡ old)) ⊎ Promises before after old new key

-- the entries without the one to which the key leads
abbrev pub without_key : BTreeMap ItemKey ℕ → List (ℕ × Reservation) → ItemKey → List (ℕ × Reservation)
without_key serials entries key = option_map_or (λ s. remove_entry (is_at (nat_cmp s)) entries) (get item_cmp serials key) entries
