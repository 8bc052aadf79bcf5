-- The fields of a JSON object by their names.
use Rattle.std.specs.Prelude.{ℕ, not, Bool, true, false, List, Option, Some, None, is_some, option_and_then, if◌then◌else◌}
use Rattle.std.specs.List.{list_any}
use Rattle.std.specs.Str.{bytes_eq}
use Rattle.serde_json.specs.Data.{Data, null, boolean, string, array, no_items}
use Rattle.serde_json.specs.Find.{get}
use Rattle.fly_schema.specs.Table.{Named}

-- the spelling under which a field stands: the lowerCamelCase one counts where both do
abbrev pub key_at : Named → Data → List ℕ
key_at name d = if is_some (get name.camel d) then name.camel else name.original

-- `null` reads as absent
abbrev pub unless_null : Data → Option Data
unless_null null = None
unless_null d = Some d

-- the value of a field, where it is there
abbrev pub value_at : Named → Data → Option Data
value_at name d = option_and_then unless_null (get (key_at name d) d)

abbrev pub is_there : Named → Data → Bool
is_there name d = is_some (value_at name d)

abbrev pub passes : (Data → Bool) → Option Data → Bool
passes test None = false
passes test (Some d) = test d

abbrev pub is_empty_list : Data → Bool
is_empty_list (array no_items) = true
is_empty_list _ = false

-- there, and no empty list
abbrev pub is_filled : Named → Data → Bool
is_filled name d = passes (λ v. not (is_empty_list v)) (value_at name d)

abbrev pub is_true : Data → Bool
is_true (boolean b) = b
is_true _ = false

abbrev pub is_one_of_texts : List (List ℕ) → Data → Bool
is_one_of_texts texts (string s) = list_any (bytes_eq s) texts
is_one_of_texts texts _ = false
