-- The workflow of so many nodes that is generated: a tree in which each node adds its own number to the sum of the node
-- above it.
use Rattle.std.specs.Prelude.{ℕ, zero, suc, ◌-◌, ◌/◌, pos, false, List, [], ◌∷◌, ◌++◌, map, codes}
use Rattle.std.specs.Fmt.{decimal}
use Rattle.std.specs.List.{range_with_len}
use Rattle.fly_types.specs.declared.text.Text.{Text}
use Rattle.fly_types.specs.declared.kinds.Simple.TheVariants as simple
use Rattle.fly_types.specs.declared.kinds.LiteralType.TheVariants as type
use Rattle.fly_types.specs.declared.literals.Literal.TheVariants as literal
use Rattle.fly_types.specs.declared.variable.Variable.{Variable}
use Rattle.fly_docs.specs.declared.names.Identifier.{Identifier}
use Rattle.fly_docs.specs.declared.interface.Interface.{Interface}
use Rattle.fly_docs.specs.declared.binding.Binding.{Binding}
use Rattle.fly_docs.specs.declared.binding.Bound.{Bound}
use Rattle.fly_docs.specs.declared.binding.Bound.TheVariants as bound
use Rattle.fly_docs.specs.declared.task.Task.{Task}
use Rattle.fly_docs.specs.declared.node.Node.{Node}
use Rattle.fly_docs.specs.declared.node.Target.TheVariants as target
use Rattle.fly_docs.specs.declared.workflow.Workflow.{Workflow}
use Rattle.fly_docs.specs.declared.workflow.Bundle.{Bundle}
use Rattle.fly_docs.specs.Names.{start_node}

-- the most nodes that are generated
abbrev pub most_nodes : ℕ
most_nodes = 1024

-- ---- names

abbrev pub id_named : List ℕ → Identifier
id_named name = record { project = codes "p"; domain = codes "d"; name = name; version = codes "1" }

abbrev pub add_id : Identifier
add_id = id_named (codes "add")

abbrev pub generated_id : Identifier
generated_id = id_named (codes "made")

-- the id of a node: `n` and its number
abbrev pub node_id : ℕ → Text
node_id i = codes "n" ++ decimal i

-- ---- the task

abbrev pub whole : List ℕ → Variable
whole name = record { name = name; kind = type.Simple simple.Integer }

-- it adds x and y to z
abbrev pub add_task : Task
add_task = record {
  id = add_id;
  cached = false;
  serializable = false;
  cache_version = [];
  timeout_ms = 0;
  retries = 0;
  interface = record { inputs = whole (codes "x") ∷ whole (codes "y") ∷ []; outputs = whole (codes "z") ∷ [] };
  command = codes "add" ∷ [];
  args = [];
}

-- ---- the workflow

-- what a node gives
abbrev pub sum_at : ℕ → Bound
sum_at i = bound.Promise (node_id i) (codes "z")

-- where a node's x comes from: the input of the workflow, or the node above it in the tree
abbrev pub above : ℕ → Bound
above zero = bound.Promise start_node (codes "a")
above (suc i) = sum_at (i / 2)

abbrev pub binding : List ℕ → Bound → Binding
binding var b = record { var = var; bound = b }

abbrev pub node_numbered : ℕ → Node
node_numbered i = record {
  id = node_id i;
  timeout_ms = 0;
  retries = 0;
  inputs = binding (codes "x") (above i) ∷ binding (codes "y") (bound.Scalar (literal.Integer (pos i))) ∷ [];
  upstream = [];
  target = target.Task add_id;
}

abbrev pub generated_interface : Interface
generated_interface = record { inputs = whole (codes "a") ∷ []; outputs = whole (codes "b") ∷ [] }

-- its output is the last node's
abbrev pub generated_workflow : ℕ → Workflow
generated_workflow count = record {
  id = generated_id;
  fail_late = false;
  interface = generated_interface;
  nodes = map node_numbered (range_with_len 0 count);
  outputs = binding (codes "b") (sum_at (count - 1)) ∷ [];
}

abbrev pub generated : ℕ → Bundle
generated count = record { tasks = add_task ∷ []; workflows = generated_workflow count ∷ []; primary = generated_id }
