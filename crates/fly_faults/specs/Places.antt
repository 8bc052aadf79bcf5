-- Where a fault is: W for a workflow, W/N for a node of it, W/end-node for its outputs, and a point and a name behind either for a variable.
use Rattle.std.specs.Prelude.{ℕ, ◌++◌, [], codes, decimal}
use Rattle.fly_types.specs.declared.text.Text.{Text}
use Rattle.fly_docs.specs.Names.{end_node}
use Rattle.fly_docs.specs.declared.task.Task.{Task}
use Rattle.fly_docs.specs.declared.node.Node.{Node}
use Rattle.fly_docs.specs.declared.workflow.Workflow.{Workflow}
use Rattle.fly_faults.specs.declared.fault.Code.{Code}
use Rattle.fly_faults.specs.declared.fault.Fault.{Fault}

-- an element of a list of the bundle
abbrev pub element_place : Text → ℕ → Text
element_place list i = list ++ codes "[" ++ decimal i ++ codes "]"

abbrev pub workflow_name : Workflow → Text
workflow_name w = w.id.name

abbrev pub task_name : Task → Text
task_name t = t.id.name

abbrev pub node_place : Workflow → Node → Text
node_place w n = workflow_name w ++ codes "/" ++ n.id

abbrev pub outputs_place : Workflow → Text
outputs_place w = workflow_name w ++ codes "/" ++ end_node

abbrev pub variable_place : Text → Text → Text
variable_place place name = place ++ codes "." ++ name

-- ---- faults

abbrev pub fault_at : Code → Text → Fault
fault_at code place = record { code = code; place = place; detail = [] }

abbrev pub fault_with : Code → Text → Text → Fault
fault_with code place detail = record { code = code; place = place; detail = detail }
