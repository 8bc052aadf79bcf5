-- The JSON of types, by `core/types.proto` of flyteidl. A member of a `one of` is written also where it is at its default.
use Rattle.std.specs.Prelude.{ℕ, List, [], ◌∷◌, map, Bool, Option, Some, None, codes, if◌then◌else◌}
use Rattle.serde_json.specs.Data.{Data, string}
use Rattle.fly_types.specs.declared.kinds.Simple.{Simple}
use Rattle.fly_types.specs.declared.kinds.Simple.TheVariants as simples
use Rattle.fly_types.specs.declared.kinds.BlobType.{BlobType}
use Rattle.fly_types.specs.declared.kinds.LiteralType.{LiteralType}
use Rattle.fly_types.specs.declared.kinds.LiteralType.TheOpen.{LiteralType-F}
use Rattle.fly_types.specs.declared.kinds.LiteralType.TheFolds.{fold-LiteralType}
use Rattle.fly_writers.specs.Json.{Fields, message, optional_text, optional_list}

-- the names of the enum SimpleType
abbrev pub simple_name : Simple → List ℕ
simple_name simples.None = codes "NONE"
simple_name simples.Integer = codes "INTEGER"
simple_name simples.Text = codes "STRING"
simple_name simples.Boolean = codes "BOOLEAN"
simple_name simples.Datetime = codes "DATETIME"
simple_name simples.Duration = codes "DURATION"
simple_name simples.Binary = codes "BINARY"
simple_name simples.Error = codes "ERROR"
simple_name simples.Struct = codes "STRUCT"

-- BlobType. SINGLE is the first dimensionality, which is left out.
abbrev pub dimensionality : Bool → Option Data
dimensionality multipart = if multipart then Some (string (codes "MULTIPART")) else None

abbrev pub blob_type_fields : BlobType → Fields
blob_type_fields form =
    (codes "format", optional_text form.format) ∷
    (codes "dimensionality", dimensionality form.multipart) ∷ []

abbrev pub blob_type_json : BlobType → Data
blob_type_json form = message (blob_type_fields form)

-- EnumType
abbrev pub enum_type_fields : List (List ℕ) → Fields
enum_type_fields values = (codes "values", optional_list (map string values)) ∷ []

-- UnionType
abbrev pub union_type_fields : List Data → Fields
union_type_fields variants = (codes "variants", optional_list variants) ∷ []

-- LiteralType, with the JSON of each part in its place
abbrev pub type_fields_by : LiteralType-F Data → Fields
type_fields_by (LiteralType-F.Simple s) = (codes "simple", Some (string (simple_name s))) ∷ []
type_fields_by (LiteralType-F.Collection element) = (codes "collectionType", Some element) ∷ []
type_fields_by (LiteralType-F.Map value) = (codes "mapValueType", Some value) ∷ []
type_fields_by (LiteralType-F.Blob form) = (codes "blob", Some (blob_type_json form)) ∷ []
type_fields_by (LiteralType-F.Enum values) = (codes "enumType", Some (message (enum_type_fields values))) ∷ []
type_fields_by (LiteralType-F.Union variants) = (codes "unionType", Some (message (union_type_fields variants))) ∷ []

abbrev pub type_json_by : LiteralType-F Data → Data
type_json_by layer = message (type_fields_by layer)

unfoldable pub type_json : LiteralType → Data
type_json = fold-LiteralType Data type_json_by
