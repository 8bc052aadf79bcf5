-- The content of a STRUCT: whole numbers, and levels of lists and objects.
use Rattle.std.specs.Prelude.{ℕ, ◌+◌, ◌^◌, nat_lt, nat_abs, Option, None, if◌then◌else◌}
use Rattle.std.specs.Option.{option_or}
use Rattle.serde_json.specs.Data.{Num, unsigned, negative, float, Data, null, boolean, number, string, array, object, Items, no_items, item, Members, no_members, member}
use Rattle.fly_types.specs.Levels.{max_levels}
use Rattle.fly_schema.specs.declared.fault.DocKind.TheVariants.{FloatRefused, WrongKind, TooDeep}
use Rattle.fly_schema.specs.Places.{Fault, fault_here, inside, index}

-- a number that a JSON number of 64 bits holds exactly
abbrev pub exact_fault : ℕ → Option Fault
exact_fault size = if nat_lt size (2 ^ 53) then None else fault_here WrongKind

abbrev pub number_fault : Num → Option Fault
number_fault (unsigned n) = exact_fault n
number_fault (negative z) = exact_fault (nat_abs z)
number_fault (float x) = fault_here FloatRefused

-- the first fault of a value inside so many lists and objects
unfoldable mutual
  pub struct_fault : Data → ℕ → Option Fault
  struct_fault (number n) levels = number_fault n
  struct_fault (array ds) levels =
      if nat_lt levels max_levels then struct_items_fault ds (levels + 1) 0 else fault_here TooDeep
  struct_fault (object ms) levels =
      if nat_lt levels max_levels then struct_members_fault ms (levels + 1) 0 else fault_here TooDeep
  struct_fault null levels = None
  struct_fault (boolean b) levels = None
  struct_fault (string s) levels = None

  pub struct_items_fault : Items → ℕ → ℕ → Option Fault
  struct_items_fault no_items levels place = None
  struct_items_fault (item d ds) levels place =
      option_or (inside (index place) (struct_fault d levels)) (struct_items_fault ds levels (place + 1))

  -- the members go by the order of their keys
  pub struct_members_fault : Members → ℕ → ℕ → Option Fault
  struct_members_fault no_members levels place = None
  struct_members_fault (member key d ms) levels place =
      option_or (inside (index place) (struct_fault d levels)) (struct_members_fault ms levels (place + 1))
