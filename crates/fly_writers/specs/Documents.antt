-- The JSON of tasks and workflows, by `core/interface.proto`, `core/tasks.proto` and `core/workflow.proto` of flyteidl.
use Rattle.std.specs.Prelude.{ℕ, List, [], ◌∷◌, map, Bool, Option, Some, None, codes, if◌then◌else◌}
use Rattle.serde_json.specs.Data.{Data, string}
use Rattle.fly_types.specs.declared.variable.Variable.{Variable}
use Rattle.fly_docs.specs.declared.interface.Interface.{Interface}
use Rattle.fly_docs.specs.declared.task.Task.{Task}
use Rattle.fly_docs.specs.declared.workflow.Workflow.{Workflow}
use Rattle.fly_writers.specs.Json.{Fields, message, optional_message, optional_text, optional_flag, optional_list, optional_map}
use Rattle.fly_writers.specs.Types.{type_json}
use Rattle.fly_writers.specs.Bindings.{binding_json}
use Rattle.fly_writers.specs.Nodes.{task_id_json, workflow_id_json, timeout_json, retries_json, node_json}

-- Variable
abbrev pub variable_fields : Variable → Fields
variable_fields v = (codes "type", Some (type_json v.kind)) ∷ []

abbrev pub variable_entry : Variable → List ℕ × Data
variable_entry v = (v.name, message (variable_fields v))

-- VariableMap
abbrev pub variables_fields : List Variable → Fields
variables_fields vs = (codes "variables", optional_map (map variable_entry vs)) ∷ []

abbrev pub variables_json : List Variable → Option Data
variables_json vs = optional_message (variables_fields vs)

-- TypedInterface
abbrev pub interface_fields : Interface → Fields
interface_fields i =
    (codes "inputs", variables_json i.inputs) ∷
    (codes "outputs", variables_json i.outputs) ∷ []

abbrev pub interface_json : Interface → Option Data
interface_json i = optional_message (interface_fields i)

-- TaskMetadata
abbrev pub task_metadata_fields : Task → Fields
task_metadata_fields t =
    (codes "discoverable", optional_flag t.cached) ∷
    (codes "timeout", timeout_json t.timeout_ms) ∷
    (codes "retries", retries_json t.retries) ∷
    (codes "discoveryVersion", optional_text t.cache_version) ∷
    (codes "cacheSerializable", optional_flag t.serializable) ∷ []

-- Container
abbrev pub container_fields : Task → Fields
container_fields t =
    (codes "command", optional_list (map string t.command)) ∷
    (codes "args", optional_list (map string t.args)) ∷ []

-- TaskTemplate
abbrev pub task_fields : Task → Fields
task_fields t =
    (codes "id", Some (task_id_json t.id)) ∷
    (codes "metadata", optional_message (task_metadata_fields t)) ∷
    (codes "interface", interface_json t.interface) ∷
    (codes "container", Some (message (container_fields t))) ∷ []

abbrev pub task_json : Task → Data
task_json t = message (task_fields t)

-- WorkflowMetadata. FAIL_IMMEDIATELY is the first policy, which is left out.
abbrev pub policy_json : Bool → Option Data
policy_json fail_late = if fail_late then Some (string (codes "FAIL_AFTER_EXECUTABLE_NODES_COMPLETE")) else None

abbrev pub workflow_metadata_fields : Workflow → Fields
workflow_metadata_fields w = (codes "onFailure", policy_json w.fail_late) ∷ []

-- WorkflowTemplate
abbrev pub workflow_fields : Workflow → Fields
workflow_fields w =
    (codes "id", Some (workflow_id_json w.id)) ∷
    (codes "metadata", optional_message (workflow_metadata_fields w)) ∷
    (codes "interface", interface_json w.interface) ∷
    (codes "nodes", optional_list (map node_json w.nodes)) ∷
    (codes "outputs", optional_list (map binding_json w.outputs)) ∷ []

abbrev pub workflow_json : Workflow → Data
workflow_json w = message (workflow_fields w)
