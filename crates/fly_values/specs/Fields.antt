-- The fields of a message in JSON (the proto3 mapping): under which names they stand, and what an absent one is.
use Rattle.std.specs.Prelude.{ℕ, ◌+◌, ◌==◌, ◌&&◌, Bool, false, nat_le, not, List, [], ◌∷◌, ◌++◌, map, bytes_eq, Option, Some, None, if◌then◌else◌}
use Rattle.serde_json.specs.Data.{unsigned, Data, null, boolean, number, string, array, object, Items, no_items, item, Members, no_members, member}
use Rattle.serde_json.specs.Find.{get_member}

-- the members of an object; any other value has none
abbrev pub members_in : Data → Members
members_in (object ms) = ms
members_in _ = no_members

-- a capital letter stands for `_` and the small letter
abbrev pub original_letter : ℕ → List ℕ
original_letter c = if nat_le 65 c && nat_le c 90 then 95 ∷ (c + 32) ∷ [] else c ∷ []

-- the name with underscores of a field, by the name without
abbrev pub original_name : List ℕ → List ℕ
original_name [] = []
original_name (c ∷ cs) = original_letter c ++ original_name cs

-- the first of two values that is there, and else null
abbrev pub first_there : Option Data → Option Data → Data
first_there (Some d) other = d
first_there None (Some d) = d
first_there None None = null

-- the value of a field, under its name in lowerCamelCase or else under its name with underscores; an absent field is null
unfoldable pub field : List ℕ → Members → Data
field name ms = first_there (get_member name ms) (get_member (original_name name) ms)

abbrev pub unless_null : Data → Option Data
unless_null null = None
unless_null d = Some d

-- the value of a field, where it is there; `null` reads as absent
unfoldable pub member_at : List ℕ → Members → Option Data
member_at name ms = unless_null (field name ms)

-- no name of the one field is a name of the other
abbrev pub are_apart : List ℕ → List ℕ → Bool
are_apart a b =
    not (bytes_eq b a) && not (bytes_eq b (original_name a)) && not (bytes_eq (original_name b) a)
    && not (bytes_eq (original_name b) (original_name a))

-- ---- scalars, lists and maps; what has another form is at its default

abbrev pub text_value : Data → List ℕ
text_value (string s) = s
text_value _ = []

abbrev pub truth_value : Data → Bool
truth_value (boolean b) = b
truth_value _ = false

-- the value of an enum with this name and this number, under one of them
abbrev pub is_called : List ℕ → ℕ → Data → Bool
is_called name n (string s) = bytes_eq s name
is_called name n (number (unsigned m)) = m == n
is_called name n _ = false

abbrev pub listed : Items → List Data
listed no_items = []
listed (item d ds) = d ∷ listed ds

-- the items of an array; any other value has none
abbrev pub items_in : Data → List Data
items_in (array ds) = listed ds
items_in _ = []

abbrev pub entries_of : Members → List (List ℕ × Data)
entries_of no_members = []
entries_of (member key d ms) = (key, d) ∷ entries_of ms

-- a list, by what each of its items is
abbrev pub list_value : {A : Type 0} → (Data → A) → Data → List A
list_value of d = map of (items_in d)

-- a map by keys, by what each of its values is
abbrev pub map_value : {A : Type 0} → (Data → A) → Data → List (List ℕ × A)
map_value of d = map (λ e. (e.0, of e.1)) (entries_of (members_in d))

abbrev pub texts_value : Data → List (List ℕ)
texts_value d = list_value text_value d
