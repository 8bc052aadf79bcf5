-- The JSON of literals, by `core/literals.proto` of flyteidl. A member of a `one of` is written also where it is at its default. A
-- number of 64 bits is written as a text.
use Rattle.std.specs.Prelude.{ℕ, ◌^◌, ◌&&◌, nat_lt, not, Bool, ℤ, pos, neg_ℤ, int_lt, nat_abs, List, [], ◌∷◌, map, Option, Some, None, codes, if◌then◌else◌}
use Rattle.serde_json.specs.Data.{Data, null, boolean, number, string, array, object, no_members}
use Rattle.serde_json.specs.Find.{of_integer}
use Rattle.serde_json.specs.View.{items_of}
use Rattle.serde_json.specs.Written.{compact_text}
use Rattle.fly_types.specs.declared.kinds.BlobType.{BlobType}
use Rattle.fly_types.specs.declared.literals.Tree.{Tree}
use Rattle.fly_types.specs.declared.literals.Tree.TheOpen.{Tree-F}
use Rattle.fly_types.specs.declared.literals.Tree.TheFolds.{fold-Tree}
use Rattle.fly_types.specs.declared.literals.Literal.{Literal, out-Literal}
use Rattle.fly_types.specs.declared.literals.Literal.TheOpen.{Literal-F}
use Rattle.fly_types.specs.declared.literals.Literal.TheFolds.{fold-Literal, map-Literal}
use Rattle.fly_types.specs.declared.literals.LiteralMap.{LiteralMap}
use Rattle.fly_scalars.specs.Whole.{integer_text}
use Rattle.fly_scalars.specs.Datetime.{datetime_text}
use Rattle.fly_scalars.specs.Duration.{duration_text}
use Rattle.fly_scalars.specs.Binary.{bytes_text}
use Rattle.fly_writers.specs.Json.{Fields, as_fields, message, optional_text, optional_list, optional_map}
use Rattle.fly_writers.specs.Types.{blob_type_json, type_json}

-- ---- the content of a STRUCT, which is JSON as it is

abbrev pub tree_json_by : Tree-F Data → Data
tree_json_by Tree-F.Null = null
tree_json_by (Tree-F.Bool value) = boolean value
tree_json_by (Tree-F.Whole value) = number (of_integer value)
tree_json_by (Tree-F.Text text) = string text
tree_json_by (Tree-F.List trees) = array (items_of trees)
tree_json_by (Tree-F.Object members) = message (as_fields members)

unfoldable pub tree_json : Tree → Data
tree_json = fold-Tree Data tree_json_by

abbrev pub tree_entry : List ℕ × Tree → List ℕ × Data
tree_entry member = (member.0, tree_json member.1)

-- ---- scalars

-- a date-time, which has a text from year 1 to year 9999
abbrev pub is_written_instant : ℤ → ℕ → Bool
is_written_instant seconds nanos =
    not (int_lt seconds (neg_ℤ (pos 62_135_596_800))) && not (int_lt (pos 253_402_300_799) seconds) && nat_lt nanos (10 ^ 9)

abbrev pub datetime_json : ℤ → ℕ → Option Data
datetime_json seconds nanos =
    if is_written_instant seconds nanos then Some (string (datetime_text (record { seconds = seconds; nanos = nanos }))) else None

-- a duration, which has a text where its nanoseconds are below a second
abbrev pub duration_json : ℤ → ℤ → Option Data
duration_json seconds nanos =
    if nat_lt (nat_abs nanos) (10 ^ 9) then Some (string (duration_text (record { seconds = seconds; nanos = nanos }))) else None

-- Primitive
abbrev pub primitive_fields : Literal-F Data → Fields
primitive_fields (Literal-F.Integer value) = (codes "integer", Some (string (integer_text value))) ∷ []
primitive_fields (Literal-F.Text text) = (codes "stringValue", Some (string text)) ∷ []
primitive_fields (Literal-F.Boolean value) = (codes "boolean", Some (boolean value)) ∷ []
primitive_fields (Literal-F.Datetime seconds nanos) = (codes "datetime", datetime_json seconds nanos) ∷ []
primitive_fields (Literal-F.Duration seconds nanos) = (codes "duration", duration_json seconds nanos) ∷ []
primitive_fields _ = []

-- BlobMetadata
abbrev pub blob_metadata_fields : BlobType → Fields
blob_metadata_fields form = (codes "type", Some (blob_type_json form)) ∷ []

-- Blob
abbrev pub blob_fields : List ℕ → BlobType → Fields
blob_fields uri form =
    (codes "metadata", Some (message (blob_metadata_fields form))) ∷
    (codes "uri", optional_text uri) ∷ []

-- bytes, unless there are none
abbrev pub optional_bytes : List ℕ → Option Data
optional_bytes [] = None
optional_bytes (b ∷ bs) = Some (string (bytes_text (b ∷ bs)))

-- Binary
abbrev pub binary_fields : List ℕ → List ℕ → Fields
binary_fields value tag =
    (codes "value", optional_bytes value) ∷
    (codes "tag", optional_text tag) ∷ []

-- Error
abbrev pub error_fields : List ℕ → List ℕ → Fields
error_fields node text =
    (codes "failedNodeId", optional_text node) ∷
    (codes "message", optional_text text) ∷ []

-- Union
abbrev pub union_fields : Data → Data → Fields
union_fields value variant =
    (codes "value", Some value) ∷
    (codes "type", Some variant) ∷ []

-- Scalar. A collection and a map are none.
abbrev pub scalar_fields : Literal-F Data → Fields
scalar_fields Literal-F.None = (codes "noneType", Some (object no_members)) ∷ []
scalar_fields (Literal-F.Blob uri form) = (codes "blob", Some (message (blob_fields uri form))) ∷ []
scalar_fields (Literal-F.Binary value tag) = (codes "binary", Some (message (binary_fields value tag))) ∷ []
scalar_fields (Literal-F.Error node text) = (codes "error", Some (message (error_fields node text))) ∷ []
scalar_fields (Literal-F.Generic tree) = (codes "generic", Some (tree_json tree)) ∷ []
scalar_fields (Literal-F.Union value variant) = (codes "union", Some (message (union_fields value (type_json variant)))) ∷ []
scalar_fields (Literal-F.Collection elements) = []
scalar_fields (Literal-F.Map entries) = []
scalar_fields primitive = (codes "primitive", Some (message (primitive_fields primitive))) ∷ []

-- ---- literals

-- LiteralCollection
abbrev pub collection_fields : List Data → Fields
collection_fields elements = (codes "literals", optional_list elements) ∷ []

-- LiteralMap
abbrev pub map_fields : List (List ℕ × Data) → Fields
map_fields entries = (codes "literals", optional_map entries) ∷ []

-- Literal, with the JSON of each literal that it holds in its place
abbrev pub literal_fields_by : Literal-F Data → Fields
literal_fields_by (Literal-F.Collection elements) = (codes "collection", Some (message (collection_fields elements))) ∷ []
literal_fields_by (Literal-F.Map entries) = (codes "map", Some (message (map_fields entries))) ∷ []
literal_fields_by scalar = (codes "scalar", Some (message (scalar_fields scalar))) ∷ []

abbrev pub literal_json_by : Literal-F Data → Data
literal_json_by layer = message (literal_fields_by layer)

unfoldable pub literal_json : Literal → Data
literal_json = fold-Literal Data literal_json_by

-- one layer of a literal, with the JSON of each literal that it holds in its place
abbrev pub literal_layer : Literal → Literal-F Data
literal_layer l = map-Literal Literal Data literal_json (out-Literal l)

-- the scalar that a literal is
unfoldable pub scalar_json : Literal → Data
scalar_json l = message (scalar_fields (literal_layer l))

-- the primitive that a literal is
unfoldable pub primitive_json : Literal → Data
primitive_json l = message (primitive_fields (literal_layer l))

abbrev pub literal_entry : List ℕ × Literal → List ℕ × Data
literal_entry entry = (entry.0, literal_json entry.1)

abbrev pub literal_map_json : LiteralMap → Data
literal_map_json m = message (map_fields (map literal_entry m.entries))

-- ---- texts

-- the text of a literal
abbrev pub literal_text : Literal → List ℕ
literal_text l = compact_text (literal_json l)

-- the text of literals by name
abbrev pub literal_map_text : LiteralMap → List ℕ
literal_map_text m = compact_text (literal_map_json m)
