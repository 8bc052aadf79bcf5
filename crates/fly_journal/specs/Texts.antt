-- JSON objects as the texts of their fields, in the order of the names.
use Rattle.std.specs.Prelude.{ℕ, Bool, true, false, List, [], ◌∷◌, ◌++◌, Option, Some, None}
use Rattle.std.specs.BTreeMap.{insert_entry}
use Rattle.std.specs.Cmp.Lexicographic.{slice_cmp}
use Rattle.std.specs.Ordering.{nat_cmp}
use Rattle.serde_json.specs.Data.{Data, string, Members, no_members, member}
use Rattle.serde_json.specs.Written.{comma_if, compact_text}
use Rattle.fly_writers.specs.Json.{Fields}
use Rattle.fly_journal.specs.declared.object.Object.{Object}

-- the text of each field, under its name
abbrev pub FieldTexts : Type 0
FieldTexts = List (List ℕ × List ℕ)

-- the fields of an object so far
abbrev pub texts_of : Object → FieldTexts
texts_of o = o.fields.entries

-- the fields with one more of this text
abbrev pub with_text : FieldTexts → List ℕ → List ℕ → FieldTexts
with_text ts name text = insert_entry (slice_cmp nat_cmp) ts name text

-- the fields with one more, where it is there
abbrev pub with_value : FieldTexts → List ℕ → Option Data → FieldTexts
with_value ts name None = ts
with_value ts name (Some d) = with_text ts name (compact_text d)

-- the fields with more of them
abbrev pub with_values : FieldTexts → Fields → FieldTexts
with_values ts [] = ts
with_values ts (f ∷ fs) = with_values (with_value ts f.0 f.1) fs

-- the fields of the members of an object
abbrev pub member_texts : Members → FieldTexts
member_texts no_members = []
member_texts (member name d ms) = (name, compact_text d) ∷ member_texts ms

-- one field
abbrev pub field_text : List ℕ → List ℕ → List ℕ
field_text name text = compact_text (string name) ++ 58 ∷ text

-- fields with commas between them, and the bracket that ends an object
abbrev pub rest_text : Bool → FieldTexts → List ℕ
rest_text later [] = 125 ∷ []
rest_text later (t ∷ ts) = comma_if later ++ field_text t.0 t.1 ++ rest_text true ts

-- the whole object
abbrev pub object_text : FieldTexts → List ℕ
object_text ts = 123 ∷ rest_text false ts
