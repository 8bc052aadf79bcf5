-- What a node takes and gives: the interface of its task or workflow; of an array, that of its task for one item, over lists; of a
-- branch, what all its cases give. The interfaces of arrays are this project's own.
use Rattle.std.specs.Prelude.{ℕ, List, [], ◌∷◌, ◌++◌, map, Bool, if◌then◌else◌, Option, Some, None, is_some, option_map, option_and_then, option_to_list}
use Rattle.std.specs.Str.{bytes_eq}
use Rattle.fly_types.specs.declared.text.Text.{Text}
use Rattle.fly_types.specs.declared.kinds.LiteralType.{LiteralType}
use Rattle.fly_types.specs.declared.kinds.LiteralType.TheVariants as type
use Rattle.fly_types.specs.declared.kinds.Simple.TheVariants as simple
use Rattle.fly_types.specs.declared.variable.Variable.{Variable}
use Rattle.fly_cast.specs.Fitting.{each_value}
use Rattle.fly_docs.specs.declared.task.Task.{Task}
use Rattle.fly_docs.specs.declared.node.Node.{Node}
use Rattle.fly_docs.specs.declared.node.Case.{Case}
use Rattle.fly_docs.specs.declared.node.Target.{Target, out-Target}
use Rattle.fly_docs.specs.declared.node.Target.TheOpen.{Target-F, Case-F, Node-F}
use Rattle.fly_docs.specs.declared.node.Target.TheFolds.{fold-Node}
use Rattle.fly_docs.specs.declared.workflow.Workflow.{Workflow}
use Rattle.fly_docs.specs.declared.workflow.Bundle.{Bundle}
use Rattle.fly_docs.specs.Names.{start_node}
use Rattle.fly_docs.specs.Interfaces.{type_of, common_variables}
use Rattle.fly_docs.specs.Bindings.{Promised}
use Rattle.fly_docs.specs.Lookups.{task_named, workflow_named}
use Rattle.fly_docs.specs.Plans.{node_named}

-- ---- outputs

-- the variables, or none where what a node runs is not in the bundle
abbrev pub Found : Type 0
Found = Option (List Variable)

-- a list of the items' outputs; where fewer items than all may succeed, one that has no output gives a value of NONE
abbrev pub array_type : Option ℕ → LiteralType → LiteralType
array_type None t = type.Collection t
array_type (Some min_successes) t = type.Collection (type.Union (t ∷ type.Simple simple.None ∷ []))

abbrev pub array_variable : Option ℕ → Variable → Variable
array_variable min_successes v = record { name = v.name; kind = array_type min_successes v.kind }

-- a branch gives what all its cases and its else node give with equal types
abbrev pub outputs_by : Bundle → Target-F Found Found Found → Found
outputs_by b (Target-F.Task id) = option_map (λ (t : Task). t.interface.outputs) (task_named b id)
outputs_by b (Target-F.Workflow id) = option_map (λ (w : Workflow). w.interface.outputs) (workflow_named b id)
outputs_by b (Target-F.Array id min_successes) =
    option_map (λ (t : Task). map (array_variable min_successes) t.interface.outputs) (task_named b id)
outputs_by b (Target-F.Branch cases otherwise error) = option_map common_variables (each_value (λ outputs. outputs) (cases ++ option_to_list otherwise))

abbrev pub case_outputs : Case-F Found Found Found → Found
case_outputs case = case.then

abbrev pub node_outputs : Node-F Found Found Found → Found
node_outputs node = node.target

-- the outputs of a node; none where what it runs, or what a node inside it runs, is not in the bundle
abbrev pub outputs_of : Bundle → Node → Found
outputs_of b = fold-Node Found Found Found (outputs_by b) case_outputs node_outputs

-- ---- inputs

-- the inputs that a node must be given: none for a branch
abbrev pub inputs_by : Bundle → Target-F Target Case Node → Found
inputs_by b (Target-F.Task id) = option_map (λ (t : Task). t.interface.inputs) (task_named b id)
inputs_by b (Target-F.Workflow id) = option_map (λ (w : Workflow). w.interface.inputs) (workflow_named b id)
inputs_by b (Target-F.Array id min_successes) = option_map (λ (t : Task). t.interface.inputs) (task_named b id)
inputs_by b (Target-F.Branch cases otherwise error) = Some []

abbrev pub inputs_of : Bundle → Node → Found
inputs_of b n = inputs_by b (out-Target n.target)

-- the bundle has what the node runs
abbrev pub is_found : Bundle → Node → Bool
is_found b n = is_some (inputs_of b n)

-- What may be bound to an input: a value of its type; in an array a list of these, one for each item, or one of these for all items; in a
-- branch a primitive.
pub data Wanted : Type 0 where
  value : LiteralType → Wanted
  items : LiteralType → Wanted
  primitive : Wanted

abbrev pub wanted_by : Bundle → Text → Target-F Target Case Node → Option Wanted
wanted_by b name (Target-F.Branch cases otherwise error) = Some primitive
wanted_by b name (Target-F.Array id min_successes) = option_and_then (λ (t : Task). option_map items (type_of name t.interface.inputs)) (task_named b id)
wanted_by b name target = option_and_then (λ variables. option_map value (type_of name variables)) (inputs_by b target)

-- what the input of this name wants; none where the node has no such input
abbrev pub wanted_at : Bundle → Node → Text → Option Wanted
wanted_at b n name = wanted_by b name (out-Target n.target)

-- ---- promises

-- What a promise is of: a type; anything, where a node is not known to give it since what it runs is not in the bundle; or nothing, where
-- there is no such node, or no such variable.
pub data Source : Type 0 where
  of_type : LiteralType → Source
  of_anything : Source
  no_node : Source
  no_variable : Source

abbrev pub source_in : Text → List Variable → Source
source_in name variables = of_option (type_of name variables)
  where
    of_option : Option LiteralType → Source
    of_option (Some kind) = of_type kind
    of_option None = no_variable

abbrev pub source_by : Bundle → Text → Option Node → Source
source_by b name None = no_node
source_by b name (Some n) = of_found (outputs_of b n)
  where
    of_found : Found → Source
    of_found (Some outputs) = source_in name outputs
    of_found None = of_anything

-- in a workflow: an input of it where the start is named, else an output of the node of that id
abbrev pub source_of : Bundle → Workflow → Promised → Source
source_of b w promise =
    if bytes_eq promise.0 start_node then source_in promise.1 w.interface.inputs else source_by b promise.1 (node_named w promise.0)
