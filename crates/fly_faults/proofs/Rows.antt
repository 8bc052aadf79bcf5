-- Bundles and their faults, computed on the definitions.
use Rattle.std.proofs.Common.{ap}
use Rattle.std.specs.Prelude.{◌≡◌, refl, false, List, [], ◌∷◌, codes}
use Rattle.fly_types.specs.declared.text.Text.{Text}
use Rattle.fly_types.specs.declared.kinds.LiteralType.{LiteralType}
use Rattle.fly_types.specs.declared.kinds.LiteralType.TheVariants as type
use Rattle.fly_types.specs.declared.kinds.Simple.TheVariants as simple
use Rattle.fly_types.specs.declared.variable.Variable.{Variable}
use Rattle.fly_docs.specs.declared.names.Identifier.{Identifier}
use Rattle.fly_docs.specs.declared.interface.Interface.{Interface}
use Rattle.fly_docs.specs.declared.binding.Binding.{Binding}
use Rattle.fly_docs.specs.declared.binding.Bound.TheVariants as bound
use Rattle.fly_docs.specs.declared.task.Task.{Task}
use Rattle.fly_docs.specs.declared.node.Node.{Node}
use Rattle.fly_docs.specs.declared.node.Target.TheVariants as target
use Rattle.fly_docs.specs.declared.node.Target.TheViews as view
use Rattle.fly_docs.specs.declared.workflow.Workflow.{Workflow}
use Rattle.fly_docs.specs.declared.workflow.Bundle.{Bundle}
use Rattle.fly_docs.proofs.NodeLemmas.{inner_nodes-task}
use Rattle.fly_docs.specs.Plans.{inner_nodes, is_array_target, is_array, plan_within}
use Rattle.fly_docs.specs.Reaching.{reaches, goes_on}
use Rattle.fly_faults.specs.declared.fault.Code.TheVariants as code
use Rattle.fly_faults.specs.Places.{fault_at, fault_with}
use Rattle.fly_faults.specs.FaultList.{limit_faults, faults_of}

-- ---- small documents

abbrev pub integer : LiteralType
integer = type.Simple simple.Integer

abbrev pub text : LiteralType
text = type.Simple simple.Text

abbrev pub id : Text → Identifier
id name = record { project = codes "p"; domain = codes "d"; name = name; version = codes "1" }

abbrev pub var : Text → LiteralType → Variable
var name kind = record { name = name; kind = kind }

abbrev pub interface : List Variable → List Variable → Interface
interface inputs outputs = record { inputs = inputs; outputs = outputs }

abbrev pub task : Text → List Variable → List Variable → List Text → Task
task name inputs outputs args = record {
  id = id name;
  cached = false;
  serializable = false;
  cache_version = [];
  timeout_ms = 0;
  retries = 0;
  interface = interface inputs outputs;
  command = name ∷ [];
  args = args;
}

abbrev pub promise : Text → Text → Text → Binding
promise name node output = record { var = name; bound = bound.Promise node output }

abbrev pub node : Text → Text → List Binding → List Text → Node
node name runs inputs upstream = record {
  id = name;
  timeout_ms = 0;
  retries = 0;
  inputs = inputs;
  upstream = upstream;
  target = target.Task (id runs);
}

abbrev pub workflow : List Node → List Variable → List Variable → List Binding → Workflow
workflow nodes inputs outputs bindings = record {
  id = id (codes "w");
  fail_late = false;
  interface = interface inputs outputs;
  nodes = nodes;
  outputs = bindings;
}

abbrev pub bundle : List Task → Workflow → Bundle
bundle tasks w = record { tasks = tasks; workflows = w ∷ []; primary = id (codes "w") }

abbrev pub inc : Task
inc = task (codes "inc") (var (codes "x") integer ∷ []) (var (codes "y") integer ∷ []) []

abbrev pub say : Task
say = task (codes "say") (var (codes "s") text ∷ []) [] []

-- ---- rows

pub nothing_to_compile : faults_of (bundle [] (workflow [] [] [] [])) ≡ fault_at code.NoNodes (codes "w") ∷ []
unfolding reaches goes_on plan_within
nothing_to_compile = refl

-- a node that runs `go`, which takes and gives nothing, after these nodes
abbrev pub after : Text → List Text → Node
after name upstream = node name (codes "go") [] upstream

abbrev pub steps : List Node → Bundle
steps nodes = bundle (task (codes "go") [] [] [] ∷ []) (workflow nodes [] [] [])

abbrev pub go : Identifier
go = id (codes "go")

pub no_inside : (name : Text) (upstream : List Text) → inner_nodes (after name upstream) ≡ []
no_inside name upstream = inner_nodes-task (after name upstream) go (view.outs-Task go)

pub no_array : (name : Text) (upstream : List Text) → is_array (after name upstream) ≡ false
no_array name upstream = ap is_array_target (view.outs-Task go)

abbrev alone : List Text → Node
alone upstream = after (codes "n0") upstream

one_step : (upstream : List Text) → limit_faults (steps (alone upstream ∷ [])) (workflow (alone upstream ∷ []) [] [] []) ≡ []
unfolding reaches goes_on plan_within
one_step upstream = rw (no_inside (codes "n0") upstream, view.outs-Task go, no_array (codes "n0") upstream) refl

pub a_step : faults_of (steps (alone [] ∷ [])) ≡ []
unfolding reaches goes_on plan_within
a_step = rw (view.outs-Task go, no_inside (codes "n0") [], one_step []) refl

pub self_loop : faults_of (steps (alone (codes "n0" ∷ []) ∷ [])) ≡ fault_with code.CycleDetected (codes "w") (codes "n0") ∷ []
unfolding reaches goes_on plan_within
self_loop = rw (view.outs-Task go, no_inside (codes "n0") (codes "n0" ∷ []), one_step (codes "n0" ∷ [])) refl
