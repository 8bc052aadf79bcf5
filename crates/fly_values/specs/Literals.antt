-- What the messages of literals are as values (`core/literals.proto` of flyteidl).
use Rattle.std.specs.Prelude.{ℕ, zero, suc, List, option_map, unwrap_or, codes}
use Rattle.serde_json.specs.Data.{Data, Members}
use Rattle.fly_types.specs.declared.literals.Literal.{Literal}
use Rattle.fly_types.specs.declared.literals.Literal.TheVariants as literals
use Rattle.fly_types.specs.declared.literals.LiteralMap.{LiteralMap}
use Rattle.fly_values.specs.Fields.{members_in, field, member_at, text_value, truth_value, list_value, map_value}
use Rattle.fly_values.specs.Scalars.{integer_value, bytes_value, datetime_value, duration_value}
use Rattle.fly_values.specs.Types.{blob_type_value, type_value}
use Rattle.fly_values.specs.Trees.{struct_value}

abbrev pub datetime_literal : Data → Literal
datetime_literal d = literals.Datetime (datetime_value d).seconds (datetime_value d).nanos

abbrev pub duration_literal : Data → Literal
duration_literal d = literals.Duration (duration_value d).seconds (duration_value d).nanos

-- Primitive
unfoldable pub primitive_by : Members → Literal
primitive_by ms =
    unwrap_or (option_map (λ d. literals.Integer (integer_value d)) (member_at (codes "integer") ms))
    (unwrap_or (option_map (λ d. literals.Text (text_value d)) (member_at (codes "stringValue") ms))
    (unwrap_or (option_map (λ d. literals.Boolean (truth_value d)) (member_at (codes "boolean") ms))
    (unwrap_or (option_map datetime_literal (member_at (codes "datetime") ms))
    (unwrap_or (option_map duration_literal (member_at (codes "duration") ms))
    literals.None))))

abbrev pub primitive_value : Data → Literal
primitive_value d = primitive_by (members_in d)

-- Blob
unfoldable pub blob_value : Data → Literal
blob_value d =
    literals.Blob (text_value (field (codes "uri") (members_in d)))
    (blob_type_value (field (codes "type") (members_in (field (codes "metadata") (members_in d)))))

-- Binary
unfoldable pub binary_value : Data → Literal
binary_value d =
    literals.Binary (bytes_value (field (codes "value") (members_in d))) (text_value (field (codes "tag") (members_in d)))

-- Error
unfoldable pub error_value : Data → Literal
error_value d =
    literals.Error (text_value (field (codes "failedNodeId") (members_in d))) (text_value (field (codes "message") (members_in d)))

-- Scalar, where it is no union
unfoldable pub plain_scalar : Members → Literal
plain_scalar ms =
    unwrap_or (option_map primitive_value (member_at (codes "primitive") ms))
    (unwrap_or (option_map blob_value (member_at (codes "blob") ms))
    (unwrap_or (option_map binary_value (member_at (codes "binary") ms))
    (unwrap_or (option_map error_value (member_at (codes "error") ms))
    (unwrap_or (option_map (λ d. literals.Generic (struct_value d)) (member_at (codes "generic") ms))
    literals.None))))

-- Union, by what its value is
unfoldable pub union_by : (Data → Literal) → Data → Literal
union_by of d =
    literals.Union (of (field (codes "value") (members_in d))) (type_value (field (codes "type") (members_in d)))

-- Scalar
unfoldable pub scalar_by : (Data → Literal) → Members → Literal
scalar_by of ms = unwrap_or (option_map (union_by of) (member_at (codes "union") ms)) (plain_scalar ms)

-- LiteralCollection
unfoldable pub elements_by : (Data → Literal) → Data → List Literal
elements_by of d = list_value of (field (codes "literals") (members_in d))

-- LiteralMap
unfoldable pub entries_by : (Data → Literal) → Data → List (List ℕ × Literal)
entries_by of d = map_value of (field (codes "literals") (members_in d))

-- Literal, by what its parts are
unfoldable pub literal_by : (Data → Literal) → Members → Literal
literal_by of ms =
    unwrap_or (option_map (λ d. literals.Collection (elements_by of d)) (member_at (codes "collection") ms))
    (unwrap_or (option_map (λ d. literals.Map (entries_by of d)) (member_at (codes "map") ms))
    (scalar_by of (members_in (field (codes "scalar") ms))))

-- Literal, where parts lie in each other no deeper than this
unfoldable pub literal_at : ℕ → Data → Literal
literal_at zero d = plain_scalar (members_in (field (codes "scalar") (members_in d)))
literal_at (suc depth) d = literal_by (literal_at depth) (members_in d)

-- how deep the parts of a literal may lie in each other: it has at most 16 levels of collections, maps and unions
abbrev pub literal_depth : ℕ
literal_depth = 16

abbrev pub literal_value : Data → Literal
literal_value d = literal_at literal_depth d

-- how deep the parts of the value of a union may lie in each other
abbrev pub union_depth : ℕ
union_depth = 15

-- Scalar alone
abbrev pub scalar_value : Data → Literal
scalar_value d = scalar_by (literal_at union_depth) (members_in d)

-- LiteralMap
unfoldable pub literal_map_value : Data → LiteralMap
literal_map_value d = record { entries = entries_by literal_value d }
