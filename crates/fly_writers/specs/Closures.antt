-- The JSON of closures, by `core/compiler.proto` of flyteidl.
use Rattle.std.specs.Prelude.{◌≡◌, ℕ, List, [], ◌∷◌, ◌++◌, map, drop, slice_get, Bool, ◌||◌, Option, option_map, Some, None, is_some, codes}
use Rattle.std.specs.List.{zip}
use Rattle.serde_json.specs.Data.{Data, string}
use Rattle.serde_json.specs.Written.{comma_if, compact_text}
use Rattle.fly_docs.specs.declared.task.Task.{Task}
use Rattle.fly_docs.specs.declared.workflow.Workflow.{Workflow}
use Rattle.fly_docs.specs.declared.closure.Connections.{Connections}
use Rattle.fly_docs.specs.declared.closure.Closure.{Closure}
use Rattle.fly_writers.specs.Json.{Fields, message, optional_message, optional_list, optional_map}
use Rattle.fly_writers.specs.Documents.{task_json, workflow_json}

-- IdList
abbrev pub id_list_fields : List (List ℕ) → Fields
id_list_fields ids = (codes "ids", optional_list (map string ids)) ∷ []

abbrev pub id_list_entry : List ℕ × List (List ℕ) → List ℕ × Data
id_list_entry l = (l.0, message (id_list_fields l.1))

-- ConnectionSet
abbrev pub id_lists_json : List (List ℕ × List (List ℕ)) → Option Data
id_lists_json lists = optional_map (map id_list_entry lists)

abbrev pub connections_fields : Connections → Fields
connections_fields c =
    (codes "downstream", id_lists_json c.downstream) ∷
    (codes "upstream", id_lists_json c.upstream) ∷ []

abbrev pub connections_json : Connections → Option Data
connections_json c = optional_message (connections_fields c)

-- CompiledWorkflow
abbrev pub compiled_workflow_fields : Workflow → Connections → Fields
compiled_workflow_fields w c =
    (codes "template", Some (workflow_json w)) ∷
    (codes "connections", connections_json c) ∷ []

abbrev pub compiled_workflow_json : Workflow → Connections → Data
compiled_workflow_json w c = message (compiled_workflow_fields w c)

-- CompiledTask
abbrev pub compiled_task_fields : Task → Fields
compiled_task_fields t = (codes "template", Some (task_json t)) ∷ []

abbrev pub compiled_task_json : Task → Data
compiled_task_json t = message (compiled_task_fields t)

-- each workflow with its connections
abbrev pub compiled_workflows : List Workflow → List Connections → List Data
compiled_workflows ws cs = map (λ (p : Workflow × Connections). compiled_workflow_json p.0 p.1) (zip ws cs)

-- CompiledWorkflowClosure. The first connections are the primary workflow's.
abbrev pub closure_fields : Closure → Fields
closure_fields c =
    (codes "primary", option_map (compiled_workflow_json c.primary) (slice_get c.connections 0)) ∷
    (codes "subWorkflows", optional_list (compiled_workflows c.subs (drop 1 c.connections))) ∷
    (codes "tasks", optional_list (map compiled_task_json c.tasks)) ∷ []

abbrev pub closure_json : Closure → Data
closure_json c = message (closure_fields c)

-- the text of a closure
abbrev pub closure_text : Closure → List ℕ
closure_text c = compact_text (closure_json c)

-- ---- texts, a field at a time

-- a value behind a comma, where another one stands before
abbrev pub value_text : Bool → Data → List ℕ
value_text later d = comma_if later ++ compact_text d

-- the name of a field behind a comma, where another one stands before
abbrev pub name_text : Bool → List ℕ → List ℕ
name_text later name = value_text later (string name) ++ 58 ∷ []

-- a field, where it is there
abbrev pub field_text : Bool → List ℕ → Option Data → List ℕ
field_text later name None = []
field_text later name (Some d) = name_text later name ++ compact_text d

-- the text goes on with a field, and a field stands then where one stood before or this one is there
pub record PutsField (old new : List ℕ) (later there : Bool) (name : List ℕ) (value : Option Data) : Type 0 where
  pub text : new ≡ old ++ field_text later name value
  pub stands : there ≡ (later || is_some value)
