-- The table of messages that documents are made of: what is read of each, in reading order, and what is refused (flyteidl's messages in this
-- project's profile; the bundle and the submission are this project's own).
use Rattle.std.specs.Prelude.{ℕ, true, List, [], ◌∷◌, codes, None}
use Rattle.fly_schema.specs.declared.table.Level.{Level}
use Rattle.fly_schema.specs.declared.table.Level.TheVariants.{Same, First, Deeper}
use Rattle.fly_schema.specs.declared.table.When.{When}
use Rattle.fly_schema.specs.declared.table.When.TheVariants.{Present, Filled, True}
use Rattle.fly_schema.specs.Table.{Named, Texts, any_text, bytes_within, Value, boolean_form, text_form, integer_form, whole_form, enum_form, bytes_form, datetime_form, duration_form, timeout_form, float_form, Kinds, scalar, message, struct, empty, Shapes, one, list, map_by, Forms, Needs, optional, required, unless_filled, FieldRow, Parts, single, one_of, LeftOutRow, MessageRow}

-- ---- words of the table

-- a name that is spelled one way
abbrev pub plain : List ℕ → Named
plain name = record { camel = name; original = name }

-- a name in lowerCamelCase and with underscores
abbrev pub named : List ℕ → List ℕ → Named
named camel original = record { camel = camel; original = original }

abbrev pub field_with : Needs → Named → Shapes → Kinds → Level → FieldRow
field_with need name shape kind level = record { name = name; need = need; form = record { shape = shape; kind = kind; level = level } }

abbrev pub left_out : Named → When → LeftOutRow
left_out name w = record { name = name; when = w }

abbrev pub row : List LeftOutRow → List Parts → MessageRow
row refused parts = record { instead = None; left_out = refused; parts = parts }

-- letters, digits, `-` and `_`
abbrev pub id_bytes : List (ℕ × ℕ)
id_bytes = (45, 45) ∷ (48, 57) ∷ (65, 90) ∷ (95, 95) ∷ (97, 122) ∷ []

abbrev pub id_form : Texts
id_form = bytes_within 1 63 id_bytes

abbrev pub text : Kinds
text = scalar (text_form any_text)

abbrev pub id : Kinds
id = scalar (text_form id_form)

-- the id of a node, which may be empty
abbrev pub node_id : Kinds
node_id = scalar (text_form (bytes_within 0 63 id_bytes))

-- a field of an identifier, and its name, which may not be empty
abbrev pub identifier_field : Kinds
identifier_field = scalar (text_form (bytes_within 0 255 ((33, 126) ∷ [])))

abbrev pub identifier_name : Kinds
identifier_name = scalar (text_form (bytes_within 1 255 ((33, 126) ∷ [])))

abbrev pub truth : Kinds
truth = scalar boolean_form

abbrev pub timeout : Kinds
timeout = scalar timeout_form

abbrev pub value : List ℕ → ℕ → Value
value name n = record { name = name; number = n }

-- the names and numbers of simple types; FLOAT is none that is read
abbrev pub simple_type : Kinds
simple_type = scalar (enum_form (value (codes "NONE") 0 ∷ value (codes "INTEGER") 1 ∷ value (codes "STRING") 3 ∷ value (codes "BOOLEAN") 4 ∷ value (codes "DATETIME") 5 ∷ value (codes "DURATION") 6 ∷ value (codes "BINARY") 7 ∷ value (codes "ERROR") 8 ∷ value (codes "STRUCT") 9 ∷ []) (value (codes "FLOAT") 2 ∷ []))

-- whether a blob is one file or several
abbrev pub dimensionality : Kinds
dimensionality = scalar (enum_form (value (codes "SINGLE") 0 ∷ value (codes "MULTIPART") 1 ∷ []) ([]))

-- what becomes of a workflow's other nodes where one fails
abbrev pub on_failure : Kinds
on_failure = scalar (enum_form (value (codes "FAIL_IMMEDIATELY") 0 ∷ value (codes "FAIL_AFTER_EXECUTABLE_NODES_COMPLETE") 1 ∷ []) ([]))

-- whether an error is worth another attempt
abbrev pub error_kind : Kinds
error_kind = scalar (enum_form (value (codes "NON_RECOVERABLE") 0 ∷ value (codes "RECOVERABLE") 1 ∷ []) ([]))

-- ---- the numbers of the rows

abbrev pub bundle_number : ℕ
bundle_number = 0

abbrev pub identifier_number : ℕ
identifier_number = 1

abbrev pub task_number : ℕ
task_number = 2

abbrev pub task_metadata_number : ℕ
task_metadata_number = 3

abbrev pub retry_strategy_number : ℕ
retry_strategy_number = 4

abbrev pub container_number : ℕ
container_number = 5

abbrev pub interface_number : ℕ
interface_number = 6

abbrev pub variable_map_number : ℕ
variable_map_number = 7

abbrev pub variable_number : ℕ
variable_number = 8

abbrev pub literal_type_number : ℕ
literal_type_number = 9

abbrev pub blob_type_number : ℕ
blob_type_number = 10

abbrev pub enum_type_number : ℕ
enum_type_number = 11

abbrev pub union_type_number : ℕ
union_type_number = 12

abbrev pub workflow_number : ℕ
workflow_number = 13

abbrev pub workflow_metadata_number : ℕ
workflow_metadata_number = 14

abbrev pub node_number : ℕ
node_number = 15

abbrev pub node_metadata_number : ℕ
node_metadata_number = 16

abbrev pub task_node_number : ℕ
task_node_number = 17

abbrev pub binding_number : ℕ
binding_number = 18

abbrev pub binding_data_number : ℕ
binding_data_number = 19

abbrev pub binding_list_number : ℕ
binding_list_number = 20

abbrev pub binding_map_number : ℕ
binding_map_number = 21

abbrev pub output_reference_number : ℕ
output_reference_number = 22

abbrev pub literal_number : ℕ
literal_number = 23

abbrev pub literal_list_number : ℕ
literal_list_number = 24

abbrev pub literal_map_number : ℕ
literal_map_number = 25

abbrev pub scalar_number : ℕ
scalar_number = 26

abbrev pub primitive_number : ℕ
primitive_number = 27

abbrev pub blob_number : ℕ
blob_number = 28

abbrev pub blob_metadata_number : ℕ
blob_metadata_number = 29

abbrev pub binary_number : ℕ
binary_number = 30

abbrev pub error_number : ℕ
error_number = 31

abbrev pub union_number : ℕ
union_number = 32

abbrev pub error_document_number : ℕ
error_document_number = 33

abbrev pub container_error_number : ℕ
container_error_number = 34

abbrev pub submission_number : ℕ
submission_number = 35

-- ---- the rows

-- the bundle, which is this project's own
abbrev pub bundle_row : MessageRow
bundle_row = row [] (
    single (field_with optional (plain (codes "tasks")) list (message task_number) Same)
    ∷ single (field_with optional (plain (codes "workflows")) list (message workflow_number) Same)
    ∷ single (field_with required (plain (codes "primary")) one (message identifier_number) Same) ∷ [])

-- Identifier
abbrev pub identifier_row : MessageRow
identifier_row = row [] (
    single (field_with optional (plain (codes "project")) one identifier_field Same)
    ∷ single (field_with optional (plain (codes "domain")) one identifier_field Same)
    ∷ single (field_with required (plain (codes "name")) one identifier_name Same)
    ∷ single (field_with optional (plain (codes "version")) one identifier_field Same) ∷ [])

-- TaskTemplate
abbrev pub task_row : MessageRow
task_row = row (left_out (named (codes "k8sPod") (codes "k8s_pod")) Present ∷ left_out (plain (codes "sql")) Present ∷ []) (
    single (field_with required (plain (codes "id")) one (message identifier_number) Same)
    ∷ single (field_with optional (plain (codes "metadata")) one (message task_metadata_number) Same)
    ∷ single (field_with optional (plain (codes "interface")) one (message interface_number) Same)
    ∷ single (field_with required (plain (codes "container")) one (message container_number) Same) ∷ [])

-- TaskMetadata; outputs are not cached yet
abbrev pub task_metadata_row : MessageRow
task_metadata_row = row (left_out (named (codes "cacheIgnoreInputVars") (codes "cache_ignore_input_vars")) Filled ∷ left_out (plain (codes "discoverable")) True ∷ []) (
    single (field_with optional (plain (codes "discoverable")) one truth Same)
    ∷ single (field_with optional (plain (codes "timeout")) one timeout Same)
    ∷ single (field_with optional (plain (codes "retries")) one (message retry_strategy_number) Same)
    ∷ single (field_with optional (named (codes "discoveryVersion") (codes "discovery_version")) one text Same)
    ∷ single (field_with optional (named (codes "cacheSerializable") (codes "cache_serializable")) one truth Same) ∷ [])

-- RetryStrategy
abbrev pub retry_strategy_row : MessageRow
retry_strategy_row = row [] (
    single (field_with optional (plain (codes "retries")) one (scalar (whole_form 10)) Same) ∷ [])

-- Container
abbrev pub container_row : MessageRow
container_row = row [] (
    single (field_with (unless_filled (plain (codes "args"))) (plain (codes "command")) list text Same)
    ∷ single (field_with optional (plain (codes "args")) list text Same) ∷ [])

-- TypedInterface
abbrev pub interface_row : MessageRow
interface_row = row [] (
    single (field_with optional (plain (codes "inputs")) one (message variable_map_number) Same)
    ∷ single (field_with optional (plain (codes "outputs")) one (message variable_map_number) Same) ∷ [])

-- VariableMap
abbrev pub variable_map_row : MessageRow
variable_map_row = row [] (
    single (field_with optional (plain (codes "variables")) (map_by id_form) (message variable_number) Same) ∷ [])

-- Variable
abbrev pub variable_row : MessageRow
variable_row = row [] (
    single (field_with required (plain (codes "type")) one (message literal_type_number) First) ∷ [])

-- LiteralType
abbrev pub literal_type_row : MessageRow
literal_type_row = row (left_out (plain (codes "schema")) Present ∷ left_out (named (codes "structuredDatasetType") (codes "structured_dataset_type")) Present ∷ []) (
    one_of true (
    field_with optional (plain (codes "simple")) one simple_type Same
    ∷ field_with optional (named (codes "collectionType") (codes "collection_type")) one (message literal_type_number) Deeper
    ∷ field_with optional (named (codes "mapValueType") (codes "map_value_type")) one (message literal_type_number) Deeper
    ∷ field_with optional (plain (codes "blob")) one (message blob_type_number) Same
    ∷ field_with optional (named (codes "enumType") (codes "enum_type")) one (message enum_type_number) Same
    ∷ field_with optional (named (codes "unionType") (codes "union_type")) one (message union_type_number) Same ∷ []) ∷ [])

-- BlobType
abbrev pub blob_type_row : MessageRow
blob_type_row = row [] (
    single (field_with optional (plain (codes "format")) one text Same)
    ∷ single (field_with optional (plain (codes "dimensionality")) one dimensionality Same) ∷ [])

-- EnumType
abbrev pub enum_type_row : MessageRow
enum_type_row = row [] (
    single (field_with optional (plain (codes "values")) list text Same) ∷ [])

-- UnionType
abbrev pub union_type_row : MessageRow
union_type_row = row [] (
    single (field_with optional (plain (codes "variants")) list (message literal_type_number) Deeper) ∷ [])

-- WorkflowTemplate
abbrev pub workflow_row : MessageRow
workflow_row = row (left_out (named (codes "failureNode") (codes "failure_node")) Present ∷ []) (
    single (field_with required (plain (codes "id")) one (message identifier_number) Same)
    ∷ single (field_with optional (plain (codes "metadata")) one (message workflow_metadata_number) Same)
    ∷ single (field_with optional (plain (codes "interface")) one (message interface_number) Same)
    ∷ single (field_with optional (plain (codes "nodes")) list (message node_number) Same)
    ∷ single (field_with optional (plain (codes "outputs")) list (message binding_number) Same) ∷ [])

-- WorkflowMetadata
abbrev pub workflow_metadata_row : MessageRow
workflow_metadata_row = row [] (
    single (field_with optional (named (codes "onFailure") (codes "on_failure")) one on_failure Same) ∷ [])

-- Node; workflow nodes, branches and arrays are not read yet
abbrev pub node_row : MessageRow
node_row = row (left_out (named (codes "gateNode") (codes "gate_node")) Present ∷ left_out (named (codes "outputAliases") (codes "output_aliases")) Filled ∷ left_out (named (codes "workflowNode") (codes "workflow_node")) Present ∷ left_out (named (codes "branchNode") (codes "branch_node")) Present ∷ left_out (named (codes "arrayNode") (codes "array_node")) Present ∷ []) (
    single (field_with required (plain (codes "id")) one id Same)
    ∷ single (field_with optional (plain (codes "metadata")) one (message node_metadata_number) Same)
    ∷ single (field_with optional (plain (codes "inputs")) list (message binding_number) Same)
    ∷ single (field_with optional (named (codes "upstreamNodeIds") (codes "upstream_node_ids")) list id Same)
    ∷ one_of true (
    field_with optional (named (codes "taskNode") (codes "task_node")) one (message task_node_number) Same ∷ []) ∷ [])

-- NodeMetadata
abbrev pub node_metadata_row : MessageRow
node_metadata_row = row [] (
    single (field_with optional (plain (codes "timeout")) one timeout Same)
    ∷ single (field_with optional (plain (codes "retries")) one (message retry_strategy_number) Same) ∷ [])

-- TaskNode
abbrev pub task_node_row : MessageRow
task_node_row = row [] (
    single (field_with required (named (codes "referenceId") (codes "reference_id")) one (message identifier_number) Same) ∷ [])

-- Binding
abbrev pub binding_row : MessageRow
binding_row = row [] (
    single (field_with required (plain (codes "var")) one id Same)
    ∷ single (field_with required (plain (codes "binding")) one (message binding_data_number) Same) ∷ [])

-- BindingData
abbrev pub binding_data_row : MessageRow
binding_data_row = row [] (
    one_of true (
    field_with optional (plain (codes "scalar")) one (message scalar_number) Same
    ∷ field_with optional (plain (codes "collection")) one (message binding_list_number) Deeper
    ∷ field_with optional (plain (codes "promise")) one (message output_reference_number) Same
    ∷ field_with optional (plain (codes "map")) one (message binding_map_number) Deeper ∷ []) ∷ [])

-- BindingDataCollection
abbrev pub binding_list_row : MessageRow
binding_list_row = row [] (
    single (field_with optional (plain (codes "bindings")) list (message binding_data_number) Same) ∷ [])

-- BindingDataMap
abbrev pub binding_map_row : MessageRow
binding_map_row = row [] (
    single (field_with optional (plain (codes "bindings")) (map_by any_text) (message binding_data_number) Same) ∷ [])

-- OutputReference; an absent or empty node id is that of the start
abbrev pub output_reference_row : MessageRow
output_reference_row = row (left_out (named (codes "attrPath") (codes "attr_path")) Filled ∷ []) (
    single (field_with optional (named (codes "nodeId") (codes "node_id")) one node_id Same)
    ∷ single (field_with required (plain (codes "var")) one id Same) ∷ [])

-- Literal
abbrev pub literal_row : MessageRow
literal_row = row (left_out (named (codes "offloadedMetadata") (codes "offloaded_metadata")) Present ∷ []) (
    one_of true (
    field_with optional (plain (codes "scalar")) one (message scalar_number) Same
    ∷ field_with optional (plain (codes "collection")) one (message literal_list_number) Deeper
    ∷ field_with optional (plain (codes "map")) one (message literal_map_number) Deeper ∷ []) ∷ [])

-- LiteralCollection
abbrev pub literal_list_row : MessageRow
literal_list_row = row [] (
    single (field_with optional (plain (codes "literals")) list (message literal_number) Same) ∷ [])

-- LiteralMap
abbrev pub literal_map_row : MessageRow
literal_map_row = row [] (
    single (field_with optional (plain (codes "literals")) (map_by any_text) (message literal_number) Same) ∷ [])

-- Scalar
abbrev pub scalar_row : MessageRow
scalar_row = row (left_out (plain (codes "schema")) Present ∷ left_out (named (codes "structuredDataset") (codes "structured_dataset")) Present ∷ []) (
    one_of true (
    field_with optional (plain (codes "primitive")) one (message primitive_number) Same
    ∷ field_with optional (plain (codes "blob")) one (message blob_number) Same
    ∷ field_with optional (plain (codes "binary")) one (message binary_number) Same
    ∷ field_with optional (named (codes "noneType") (codes "none_type")) one empty Same
    ∷ field_with optional (plain (codes "error")) one (message error_number) Same
    ∷ field_with optional (plain (codes "generic")) one struct Same
    ∷ field_with optional (plain (codes "union")) one (message union_number) Deeper ∷ []) ∷ [])

-- Primitive
abbrev pub primitive_row : MessageRow
primitive_row = row [] (
    one_of true (
    field_with optional (plain (codes "integer")) one (scalar integer_form) Same
    ∷ field_with optional (named (codes "stringValue") (codes "string_value")) one text Same
    ∷ field_with optional (plain (codes "boolean")) one truth Same
    ∷ field_with optional (plain (codes "datetime")) one (scalar datetime_form) Same
    ∷ field_with optional (plain (codes "duration")) one (scalar duration_form) Same
    ∷ field_with optional (named (codes "floatValue") (codes "float_value")) one (scalar float_form) Same ∷ []) ∷ [])

-- Blob
abbrev pub blob_row : MessageRow
blob_row = row [] (
    single (field_with required (plain (codes "metadata")) one (message blob_metadata_number) Same)
    ∷ single (field_with optional (plain (codes "uri")) one text Same) ∷ [])

-- BlobMetadata
abbrev pub blob_metadata_row : MessageRow
blob_metadata_row = row [] (
    single (field_with required (plain (codes "type")) one (message blob_type_number) Same) ∷ [])

-- Binary
abbrev pub binary_row : MessageRow
binary_row = row [] (
    single (field_with optional (plain (codes "value")) one (scalar bytes_form) Same)
    ∷ single (field_with optional (plain (codes "tag")) one text Same) ∷ [])

-- Error
abbrev pub error_row : MessageRow
error_row = row [] (
    single (field_with optional (named (codes "failedNodeId") (codes "failed_node_id")) one text Same)
    ∷ single (field_with optional (plain (codes "message")) one text Same) ∷ [])

-- Union
abbrev pub union_row : MessageRow
union_row = row [] (
    single (field_with required (plain (codes "value")) one (message literal_number) Same)
    ∷ single (field_with required (plain (codes "type")) one (message literal_type_number) First) ∷ [])

-- ErrorDocument
abbrev pub error_document_row : MessageRow
error_document_row = row [] (
    single (field_with required (plain (codes "error")) one (message container_error_number) Same) ∷ [])

-- ContainerError
abbrev pub container_error_row : MessageRow
container_error_row = row [] (
    single (field_with optional (plain (codes "code")) one text Same)
    ∷ single (field_with optional (plain (codes "message")) one text Same)
    ∷ single (field_with optional (plain (codes "kind")) one error_kind Same) ∷ [])

-- the submission, which is this project's own
abbrev pub submission_row : MessageRow
submission_row = row [] (
    single (field_with required (plain (codes "name")) one id Same)
    ∷ single (field_with optional (plain (codes "inputs")) one (message literal_map_number) Same) ∷ [])

unfoldable pub message_table : List MessageRow
message_table =
    bundle_row
    ∷ identifier_row
    ∷ task_row
    ∷ task_metadata_row
    ∷ retry_strategy_row
    ∷ container_row
    ∷ interface_row
    ∷ variable_map_row
    ∷ variable_row
    ∷ literal_type_row
    ∷ blob_type_row
    ∷ enum_type_row
    ∷ union_type_row
    ∷ workflow_row
    ∷ workflow_metadata_row
    ∷ node_row
    ∷ node_metadata_row
    ∷ task_node_row
    ∷ binding_row
    ∷ binding_data_row
    ∷ binding_list_row
    ∷ binding_map_row
    ∷ output_reference_row
    ∷ literal_row
    ∷ literal_list_row
    ∷ literal_map_row
    ∷ scalar_row
    ∷ primitive_row
    ∷ blob_row
    ∷ blob_metadata_row
    ∷ binary_row
    ∷ error_row
    ∷ union_row
    ∷ error_document_row
    ∷ container_error_row
    ∷ submission_row ∷ []

-- ---- the forms of documents

abbrev pub bundle_form : Forms
bundle_form = record { shape = one; kind = message bundle_number; level = Same }

abbrev pub literal_map_form : Forms
literal_map_form = record { shape = one; kind = message literal_map_number; level = Same }

abbrev pub error_document_form : Forms
error_document_form = record { shape = one; kind = message error_document_number; level = Same }

abbrev pub submissions_form : Forms
submissions_form = record { shape = list; kind = message submission_number; level = Same }
