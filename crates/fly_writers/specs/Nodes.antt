-- The JSON of nodes, by `core/workflow.proto` of flyteidl.
use Rattle.std.specs.Prelude.{ℕ, ◌==◌, List, [], ◌∷◌, map, drop, slice_get, Option, option_map, Some, None, codes, if◌then◌else◌}
use Rattle.serde_json.specs.Data.{Data, unsigned, number, string}
use Rattle.fly_docs.specs.declared.names.Identifier.{Identifier}
use Rattle.fly_docs.specs.declared.node.Node.{Node}
use Rattle.fly_docs.specs.declared.node.Case.{Case}
use Rattle.fly_docs.specs.declared.node.Target.{Target}
use Rattle.fly_docs.specs.declared.node.Target.TheOpen.{Target-F, Case-F, Node-F}
use Rattle.fly_docs.specs.declared.node.Target.TheFolds.{fold-Target, fold-Case, fold-Node}
use Rattle.fly_scalars.specs.Duration.{millis_text}
use Rattle.fly_writers.specs.Json.{Fields, message, optional_message, optional_text, optional_number, optional_list}
use Rattle.fly_writers.specs.Bindings.{binding_json}
use Rattle.fly_writers.specs.Conditions.{expr_json}

-- Identifier, with the resource type that its place gives it
abbrev pub identifier_fields : List ℕ → Identifier → Fields
identifier_fields resource i =
    (codes "resourceType", Some (string resource)) ∷
    (codes "project", optional_text i.project) ∷
    (codes "domain", optional_text i.domain) ∷
    (codes "name", Some (string i.name)) ∷
    (codes "version", optional_text i.version) ∷ []

abbrev pub identifier_json : List ℕ → Identifier → Data
identifier_json resource i = message (identifier_fields resource i)

abbrev pub task_id_json : Identifier → Data
task_id_json i = identifier_json (codes "TASK") i

abbrev pub workflow_id_json : Identifier → Data
workflow_id_json i = identifier_json (codes "WORKFLOW") i

-- a timeout, which is kept in milliseconds, unless it is 0
abbrev pub timeout_json : ℕ → Option Data
timeout_json millis = if millis == 0 then None else Some (string (millis_text millis))

-- RetryStrategy
abbrev pub retry_fields : ℕ → Fields
retry_fields retries = (codes "retries", optional_number retries) ∷ []

abbrev pub retries_json : ℕ → Option Data
retries_json retries = optional_message (retry_fields retries)

-- NodeMetadata
abbrev pub node_metadata_fields : ℕ → ℕ → Fields
node_metadata_fields timeout retries =
    (codes "timeout", timeout_json timeout) ∷
    (codes "retries", retries_json retries) ∷ []

-- TaskNode
abbrev pub task_node_fields : Identifier → Fields
task_node_fields task = (codes "referenceId", Some (task_id_json task)) ∷ []

-- WorkflowNode
abbrev pub workflow_node_fields : Identifier → Fields
workflow_node_fields workflow = (codes "subWorkflowRef", Some (workflow_id_json workflow)) ∷ []

-- the inner node of an ArrayNode, of which the task alone is written
abbrev pub inner_node_fields : Identifier → Fields
inner_node_fields task = (codes "taskNode", Some (message (task_node_fields task))) ∷ []

-- ArrayNode. That no success is wanted is written too.
abbrev pub array_node_fields : Identifier → Option ℕ → Fields
array_node_fields task min_successes =
    (codes "node", Some (message (inner_node_fields task))) ∷
    (codes "minSuccesses", option_map (λ n. number (unsigned n)) min_successes) ∷ []

-- Error of IfElseBlock
abbrev pub branch_error_fields : List ℕ → Fields
branch_error_fields text = (codes "message", optional_text text) ∷ []

abbrev pub branch_error_json : List ℕ → Data
branch_error_json text = message (branch_error_fields text)

-- IfElseBlock
abbrev pub if_else_fields : List Data → Option Data → Option (List ℕ) → Fields
if_else_fields cases otherwise error =
    (codes "case", slice_get cases 0) ∷
    (codes "other", optional_list (drop 1 cases)) ∷
    (codes "elseNode", otherwise) ∷
    (codes "error", option_map branch_error_json error) ∷ []

-- BranchNode
abbrev pub branch_node_fields : List Data → Option Data → Option (List ℕ) → Fields
branch_node_fields cases otherwise error = (codes "ifElse", Some (message (if_else_fields cases otherwise error))) ∷ []

-- what a node stands for, as a field of the node
abbrev pub target_fields_by : Target-F Fields Data Data → Fields
target_fields_by (Target-F.Task task) = (codes "taskNode", Some (message (task_node_fields task))) ∷ []
target_fields_by (Target-F.Workflow workflow) = (codes "workflowNode", Some (message (workflow_node_fields workflow))) ∷ []
target_fields_by (Target-F.Branch cases otherwise error) =
    (codes "branchNode", Some (message (branch_node_fields cases otherwise error))) ∷ []
target_fields_by (Target-F.Array task min_successes) =
    (codes "arrayNode", Some (message (array_node_fields task min_successes))) ∷ []

-- IfBlock
abbrev pub case_fields_by : Case-F Fields Data Data → Fields
case_fields_by c =
    (codes "condition", option_map expr_json c.condition) ∷
    (codes "thenNode", Some c.then) ∷ []

abbrev pub case_json_by : Case-F Fields Data Data → Data
case_json_by c = message (case_fields_by c)

-- Node
abbrev pub node_fields_by : Node-F Fields Data Data → Fields
node_fields_by n =
    (codes "id", Some (string n.id)) ∷
    (codes "metadata", optional_message (node_metadata_fields n.timeout_ms n.retries)) ∷
    (codes "inputs", optional_list (map binding_json n.inputs)) ∷
    (codes "upstreamNodeIds", optional_list (map string n.upstream)) ∷ n.target

abbrev pub node_json_by : Node-F Fields Data Data → Data
node_json_by n = message (node_fields_by n)

unfoldable pub node_json : Node → Data
node_json = fold-Node Fields Data Data target_fields_by case_json_by node_json_by

-- the parts of a node by themselves
unfoldable pub target_fields : Target → Fields
target_fields = fold-Target Fields Data Data target_fields_by case_json_by node_json_by

unfoldable pub case_json : Case → Data
case_json = fold-Case Fields Data Data target_fields_by case_json_by node_json_by
