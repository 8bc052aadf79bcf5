-- What the messages of types are as values (LiteralType, `core/types.proto` of flyteidl, and Variable, `core/interface.proto`).
use Rattle.std.specs.Prelude.{ℕ, zero, suc, List, [], map, option_map, unwrap_or, codes, if◌then◌else◌}
use Rattle.serde_json.specs.Data.{Data, Members}
use Rattle.fly_types.specs.declared.kinds.Simple.{Simple}
use Rattle.fly_types.specs.declared.kinds.Simple.TheVariants as simple
use Rattle.fly_types.specs.declared.kinds.BlobType.{BlobType}
use Rattle.fly_types.specs.declared.kinds.LiteralType.{LiteralType}
use Rattle.fly_types.specs.declared.kinds.LiteralType.TheVariants as types
use Rattle.fly_types.specs.declared.variable.Variable.{Variable}
use Rattle.fly_docs.specs.declared.interface.Interface.{Interface}
use Rattle.fly_values.specs.Fields.{members_in, field, member_at, text_value, is_called, entries_of, list_value, texts_value}

-- SimpleType; an unknown one is the first
unfoldable pub simple_value : Data → Simple
simple_value d =
    if is_called (codes "INTEGER") 1 d then simple.Integer
    else (if is_called (codes "STRING") 3 d then simple.Text
    else (if is_called (codes "BOOLEAN") 4 d then simple.Boolean
    else (if is_called (codes "DATETIME") 5 d then simple.Datetime
    else (if is_called (codes "DURATION") 6 d then simple.Duration
    else (if is_called (codes "BINARY") 7 d then simple.Binary
    else (if is_called (codes "ERROR") 8 d then simple.Error
    else (if is_called (codes "STRUCT") 9 d then simple.Struct
    else simple.None)))))))

-- BlobType
unfoldable pub blob_type_value : Data → BlobType
blob_type_value d = record {
  format = text_value (field (codes "format") (members_in d));
  multipart = is_called (codes "MULTIPART") 1 (field (codes "dimensionality") (members_in d));
}

-- EnumType, by its values
unfoldable pub enum_values : Data → List (List ℕ)
enum_values d = texts_value (field (codes "values") (members_in d))

-- LiteralType, where it is no collection, no map and no union
unfoldable pub plain_type : Members → LiteralType
plain_type ms =
    unwrap_or (option_map (λ d. types.Blob (blob_type_value d)) (member_at (codes "blob") ms))
    (unwrap_or (option_map (λ d. types.Enum (enum_values d)) (member_at (codes "enumType") ms))
    (types.Simple (simple_value (field (codes "simple") ms))))

-- UnionType, by its variants
unfoldable pub variant_values : (Data → LiteralType) → Data → List LiteralType
variant_values of d = list_value of (field (codes "variants") (members_in d))

-- LiteralType, by what its parts are
unfoldable pub type_by : (Data → LiteralType) → Members → LiteralType
type_by of ms =
    unwrap_or (option_map (λ d. types.Collection (of d)) (member_at (codes "collectionType") ms))
    (unwrap_or (option_map (λ d. types.Map (of d)) (member_at (codes "mapValueType") ms))
    (unwrap_or (option_map (λ d. types.Union (variant_values of d)) (member_at (codes "unionType") ms))
    (plain_type ms)))

-- LiteralType at the last level, where a union has no variants
unfoldable pub last_type : Members → LiteralType
last_type ms = unwrap_or (option_map (λ _. types.Union []) (member_at (codes "unionType") ms)) (plain_type ms)

-- LiteralType, where parts lie in each other no deeper than this
unfoldable pub type_at : ℕ → Data → LiteralType
type_at zero d = last_type (members_in d)
type_at (suc depth) d = type_by (type_at depth) (members_in d)

-- how deep the parts of a type may lie in each other: a type has at most 16 levels
abbrev pub type_depth : ℕ
type_depth = 15

abbrev pub type_value : Data → LiteralType
type_value d = type_at type_depth d

-- an entry of VariableMap
unfoldable pub variable_value : List ℕ × Data → Variable
variable_value e = record { name = e.0; kind = type_value (field (codes "type") (members_in e.1)) }

-- VariableMap
unfoldable pub variables_value : Data → List Variable
variables_value d = map variable_value (entries_of (members_in (field (codes "variables") (members_in d))))

-- TypedInterface
unfoldable pub interface_value : Data → Interface
interface_value d = record {
  inputs = variables_value (field (codes "inputs") (members_in d));
  outputs = variables_value (field (codes "outputs") (members_in d));
}
