-- The first fault of a JSON value against what it is to be, in reading order: one recursion over the value.
use Rattle.std.specs.Prelude.{ℕ, ◌+◌, ◌&&◌, nat_lt, not, Bool, false, List, [], ◌∷◌, map, slice_get, Option, Some, None, is_some, unwrap_or, if◌then◌else◌}
use Rattle.std.specs.List.{filter}
use Rattle.std.specs.Option.{option_or}
use Rattle.std.specs.Str.{bytes_eq}
use Rattle.serde_json.specs.Data.{Data, null, boolean, number, string, array, object, Items, no_items, item, Members, no_members, member}
use Rattle.serde_json.specs.Find.{as_array, as_object}
use Rattle.fly_types.specs.Levels.{max_levels}
use Rattle.fly_schema.specs.declared.fault.DocKind.TheVariants.{FloatRefused, WrongKind, Missing, LeftOut, TooDeep}
use Rattle.fly_schema.specs.declared.table.Level.{Level}
use Rattle.fly_schema.specs.declared.table.Level.TheVariants as levels
use Rattle.fly_schema.specs.declared.table.When.{When}
use Rattle.fly_schema.specs.declared.table.When.TheVariants as when
use Rattle.fly_schema.specs.Lookups.{key_at, value_at, is_there, is_filled, passes, is_true, is_empty_list, is_one_of_texts}
use Rattle.fly_schema.specs.Places.{Fault, field, index, fault_here, inside, first_of}
use Rattle.fly_schema.specs.Scalars.{fits_texts, is_refused_float, has_form}
use Rattle.fly_schema.specs.Structs.{struct_fault}
use Rattle.fly_schema.specs.Table.{Named, Texts, Kinds, scalar, message, struct, empty, Shapes, one, list, map_by, Forms, Needs, optional, required, unless_filled, FieldRow, Parts, single, one_of, LeftOutRow, InsteadRow, MessageRow}

-- ---- a value, without what is inside it

abbrev pub is_float_of : Kinds → Data → Bool
is_float_of (scalar s) d = is_refused_float s d
is_float_of _ d = false

-- scalars go by their form, and all else is an object
abbrev pub has_kind : Kinds → Data → Bool
has_kind (scalar s) d = has_form s d
has_kind _ d = is_some (as_object d)

abbrev pub level_after : Level → ℕ → ℕ
level_after levels.Same level = level
level_after levels.First level = 1
level_after levels.Deeper level = level + 1

abbrev pub value_fault : Kinds → ℕ → Data → Option Fault
value_fault kind level d =
    if is_float_of kind d then fault_here FloatRefused
    else (if not (has_kind kind d) then fault_here WrongKind
    else (if nat_lt max_levels level then fault_here TooDeep
    else None))

abbrev pub shape_fault : Shapes → Kinds → ℕ → Data → Option Fault
shape_fault one kind level d = value_fault kind level d
shape_fault list kind level d = if is_some (as_array d) then None else fault_here WrongKind
shape_fault (map_by keys) kind level d = if is_some (as_object d) then None else fault_here WrongKind

abbrev pub own_fault : Forms → ℕ → Data → Option Fault
own_fault form level d = shape_fault form.shape form.kind (level_after form.level level) d

-- an item of a list, or an entry of a map
abbrev pub element_of : Forms → Forms
element_of form = record form { shape = one }

-- ---- the row of a message

-- a row that has nothing, which stands for each number past the table's end
abbrev pub empty_row : MessageRow
empty_row = record { instead = None; left_out = []; parts = [] }

abbrev pub row_at : List MessageRow → ℕ → MessageRow
row_at rows n = unwrap_or (slice_get rows n) empty_row

abbrev pub row_instead : List MessageRow → MessageRow → Data → Option InsteadRow → MessageRow
row_instead rows row d None = row
row_instead rows row d (Some i) =
    if passes (is_one_of_texts i.texts) (value_at i.name d) then row_at rows i.row else row

-- the row by which a message is read
abbrev pub row_for : List MessageRow → ℕ → Data → MessageRow
row_for rows n d = row_instead rows (row_at rows n) d (row_at rows n).instead

-- ---- what a message breaks: d is the message, and found is the first fault in the value under a key, which is to
-- have a form

-- the first fault of a value, by what it is to be and how many levels are open around it
abbrev pub Verdict : Type 0
Verdict = Forms → ℕ → Option Fault

-- the field is refused at its value
abbrev pub is_refused : When → Option Data → Bool
is_refused when.Present value = is_some value
is_refused when.Filled value = passes (λ v. not (is_empty_list v)) value
is_refused when.True value = passes is_true value
is_refused when.Absent value = false

-- a field that is left out is refused there, and a message that has to have a field is refused itself
abbrev pub left_out_when : When → Named → Data → Option Fault
left_out_when when.Absent name d = if is_there name d then None else fault_here LeftOut
left_out_when w name d = if is_refused w (value_at name d) then inside (field name.camel) (fault_here LeftOut) else None

abbrev pub left_out_fault : Data → LeftOutRow → Option Fault
left_out_fault d l = left_out_when l.when l.name d

abbrev pub is_missing : Needs → Named → Data → Bool
is_missing optional name d = false
is_missing required name d = not (is_there name d)
is_missing (unless_filled other) name d = not (is_filled name d) && not (is_filled other d)

-- what is found in a field, where it is there
abbrev pub read_fault : Data → (List ℕ → Verdict) → ℕ → FieldRow → Option Fault
read_fault d found level f =
    if is_there f.name d then inside (field f.name.camel) (found (key_at f.name d) f.form level) else None

abbrev pub field_fault : Data → (List ℕ → Verdict) → ℕ → FieldRow → Option Fault
field_fault d found level f =
    if is_missing f.need f.name d then inside (field f.name.camel) (fault_here Missing) else read_fault d found level f

-- a member of a `oneof` that is refused as a float
abbrev pub float_fault : Data → FieldRow → Option Fault
float_fault d f =
    if passes (is_float_of f.form.kind) (value_at f.name d)
    then inside (field f.name.camel) (fault_here FloatRefused)
    else None

-- what is found in a `oneof`, by which of its members are there
abbrev pub one_of_fault : Data → (List ℕ → Verdict) → ℕ → Bool → (members there : List FieldRow) → Option Fault
one_of_fault d found level needed members [] = if needed then fault_here Missing else None
one_of_fault d found level needed members (f ∷ []) = read_fault d found level f
one_of_fault d found level needed members (f ∷ g ∷ more) =
    option_or (first_of (map (float_fault d) members)) (fault_here WrongKind)

abbrev pub part_fault : Data → (List ℕ → Verdict) → ℕ → Parts → Option Fault
part_fault d found level (single f) = field_fault d found level f
part_fault d found level (one_of needed members) =
    one_of_fault d found level needed members (filter (λ (f : FieldRow). is_there f.name d) members)

-- first what is left out, and then the parts
abbrev pub row_fault : Data → (List ℕ → Verdict) → ℕ → MessageRow → Option Fault
row_fault d found level row =
    option_or (first_of (map (left_out_fault d) row.left_out)) (first_of (map (part_fault d found level) row.parts))

-- what is found in an object that is one value
abbrev pub content_fault : List MessageRow → Data → (List ℕ → Verdict) → ℕ → Kinds → Option Fault
content_fault rows d found level (scalar s) = None
content_fault rows d found level (message n) = row_fault d found level (row_for rows n d)
content_fault rows d found level struct = struct_fault d 0
content_fault rows d found level empty = None

-- the fault of an entry of a map: of its key, or else what is found in its value
abbrev pub entry_fault : Verdict → Texts → List ℕ → Verdict
entry_fault found keys key form level = if fits_texts keys key then found form level else fault_here WrongKind

-- what is found inside an array, by what is found in its items
abbrev pub array_fault : (Forms → ℕ → ℕ → Option Fault) → Forms → ℕ → Shapes → Option Fault
array_fault items form level one = None
array_fault items form level list = items (element_of form) level 0
array_fault items form level (map_by keys) = None

-- what is found inside an object, by what is found in it as a map, and under its keys
abbrev pub object_fault : List MessageRow → Data → (Texts → Forms → ℕ → ℕ → Option Fault) → (List ℕ → Verdict)
    → Forms → ℕ → Shapes → Option Fault
object_fault rows d entries found form level one = content_fault rows d found (level_after form.level level) form.kind
object_fault rows d entries found form level list = None
object_fault rows d entries found form level (map_by keys) = entries keys (element_of form) level 0

-- ---- the recursion

unfoldable mutual
  -- the first fault of a value, in a table of rows: first its own, and then what is inside
  pub fault_of : List MessageRow → Data → Verdict
  fault_of rows (array ds) form level =
      option_or (own_fault form level (array ds)) (array_fault (items_fault rows ds) form level form.shape)
  fault_of rows (object ms) form level =
      option_or (own_fault form level (object ms))
      (object_fault rows (object ms) (entries_fault rows ms) (member_fault rows ms) form level form.shape)
  fault_of rows null form level = own_fault form level null
  fault_of rows (boolean b) form level = own_fault form level (boolean b)
  fault_of rows (number n) form level = own_fault form level (number n)
  fault_of rows (string s) form level = own_fault form level (string s)

  -- the items of a list, the first of which has this number
  pub items_fault : List MessageRow → Items → Forms → ℕ → ℕ → Option Fault
  items_fault rows no_items form level n = None
  items_fault rows (item d ds) form level n =
      option_or (inside (index n) (fault_of rows d form level)) (items_fault rows ds form level (n + 1))

  -- the entries of a map by the order of their keys
  pub entries_fault : List MessageRow → Members → Texts → Forms → ℕ → ℕ → Option Fault
  entries_fault rows no_members keys form level n = None
  entries_fault rows (member key d ms) keys form level n =
      option_or (inside (index n) (entry_fault (fault_of rows d) keys key form level))
      (entries_fault rows ms keys form level (n + 1))

  -- the member under a key
  pub member_fault : List MessageRow → Members → List ℕ → Verdict
  member_fault rows no_members key form level = None
  member_fault rows (member k d ms) key form level =
      if bytes_eq key k then fault_of rows d form level else member_fault rows ms key form level

-- the first fault of a document, which is to have this form
abbrev pub first_fault : List MessageRow → Forms → Data → Option Fault
first_fault rows form d = fault_of rows d form 0
