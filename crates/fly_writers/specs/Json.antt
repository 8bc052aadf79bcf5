-- JSON values as the proto3 mapping writes messages: a field at its default is left out. That a message is left out too where all its
-- fields are is this project's own rule; the mapping writes `{}`.
use Rattle.std.specs.Prelude.{ℕ, ◌==◌, List, [], ◌∷◌, map, Bool, Option, Some, None, if◌then◌else◌}
use Rattle.serde_json.specs.Data.{Data, boolean, number, unsigned, string, array, object, Members, no_members, member, put}
use Rattle.serde_json.specs.View.{items_of}

-- the fields of a message, each under its name where it is there
abbrev pub Fields : Type 0
Fields = List (List ℕ × Option Data)

-- the members with one more, where it is there
abbrev pub with_field : Members → List ℕ → Option Data → Members
with_field ms key None = ms
with_field ms key (Some d) = put key d ms

abbrev pub with_fields : Members → Fields → Members
with_fields ms [] = ms
with_fields ms (f ∷ fs) = with_fields (with_field ms f.0 f.1) fs

-- a message that has these fields
abbrev pub message : Fields → Data
message fs = object (with_fields no_members fs)

-- a message that has one field
abbrev pub message_of : List ℕ → Data → Data
message_of name d = message ((name, Some d) ∷ [])

-- a message that is left out where all its fields are
abbrev pub unless_empty : Members → Option Data
unless_empty no_members = None
unless_empty (member k d ms) = Some (object (member k d ms))

abbrev pub optional_message : Fields → Option Data
optional_message fs = unless_empty (with_fields no_members fs)

-- a text, unless it is empty
abbrev pub optional_text : List ℕ → Option Data
optional_text [] = None
optional_text (b ∷ bs) = Some (string (b ∷ bs))

-- a truth value, unless it is false
abbrev pub optional_flag : Bool → Option Data
optional_flag flag = if flag then Some (boolean flag) else None

-- a number of 32 bits, unless it is 0
abbrev pub optional_number : ℕ → Option Data
optional_number n = if n == 0 then None else Some (number (unsigned n))

-- a list, unless it is empty
abbrev pub optional_list : List Data → Option Data
optional_list [] = None
optional_list (d ∷ ds) = Some (array (items_of (d ∷ ds)))

-- the entries of a map, as fields that are there
abbrev pub as_fields : List (List ℕ × Data) → Fields
as_fields entries = map (λ e. (e.0, Some e.1)) entries

-- a map, unless it is empty
abbrev pub optional_map : List (List ℕ × Data) → Option Data
optional_map entries = optional_message (as_fields entries)
