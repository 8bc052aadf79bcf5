-- Which bundles are typed: ids are found and told apart, and what is bound fits. After the checks of the Flyte compiler.
use Rattle.std.specs.Prelude.{◌≡◌, ◌≢◌, ◌⊎◌, ℕ, ◌+◌, ◌≤◌, Bool, IsTrue, List, [], length, map, count_by, All, AllPairs, Contains, Option, Some, is_some}
use Rattle.std.specs.List.Sorted.{IsPermutation}
use Rattle.fly_types.specs.declared.text.Text.{Text}
use Rattle.fly_types.specs.declared.kinds.Simple.{Simple}
use Rattle.fly_types.specs.declared.kinds.LiteralType.{LiteralType}
use Rattle.fly_types.specs.declared.variable.Variable.{Variable}
use Rattle.fly_types.specs.Levels.{max_levels, type_levels}
use Rattle.fly_graph.specs.Walks.{IsWalk, Reaches}
use Rattle.fly_exprs.specs.Faults.{faults_of}
use Rattle.fly_types.specs.Lookup.{value_of}
use Rattle.fly_exprs.specs.declared.expr.Expr.{Expr}
use Rattle.fly_docs.specs.declared.names.Identifier.{Identifier}
use Rattle.fly_docs.specs.declared.binding.Binding.{Binding}
use Rattle.fly_docs.specs.declared.binding.Bound.{Bound}
use Rattle.fly_docs.specs.declared.task.Task.{Task}
use Rattle.fly_docs.specs.declared.node.Node.{Node}
use Rattle.fly_docs.specs.declared.node.Case.{Case}
use Rattle.fly_docs.specs.declared.node.Target.{Target, out-Target}
use Rattle.fly_docs.specs.declared.node.Target.TheOpen.{Target-F}
use Rattle.fly_docs.specs.declared.workflow.Workflow.{Workflow}
use Rattle.fly_docs.specs.declared.workflow.Bundle.{Bundle}
use Rattle.fly_docs.specs.Names.{start_node, end_node}
use Rattle.fly_docs.specs.Interfaces.{names_of, bound_names}
use Rattle.fly_docs.specs.Bindings.{Promised}
use Rattle.fly_docs.specs.Lookups.{task_named, primary_of}
use Rattle.fly_docs.specs.Plans.{PlanNode, nodes_of, node_ids, plan_of, is_array, max_nesting}
use Rattle.fly_docs.specs.NodeInterfaces.{Source, array_type, inputs_of, source_of}
use Rattle.fly_docs.specs.Fitting.{bound_fits, is_mapped, array_input_fits}
use Rattle.fly_docs.specs.Conditions.{bound_primitive, branch_variables}
use Rattle.fly_docs.specs.Reaching.{workflow_edges, primary_place, IsReachedPlace, IsReached, IsReachedTask}
use Rattle.fly_docs.specs.Templates.{AsksFor, words_of}

-- nothing comes twice in the list
abbrev pub AreDistinct : {X : Type 0} → List X → Type 0
AreDistinct xs = AllPairs (λ x y. x ≢ y) xs

-- ---- what is bound

-- each of the variables is bound exactly once, nothing else is, and what is bound to a variable fits its type
pub record Binds (fit : Bound → LiteralType → Bool) (variables : List Variable) (bindings : List Binding) : Type 0 where
  pub once : IsPermutation (bound_names bindings) (names_of variables)
  pub fits : (v : Variable) (x : Binding) → Contains variables v → Contains bindings x → x.var ≡ v.name → IsTrue (fit x.bound v.kind)

-- a binding of one of the variables is mapped
pub record MapsOne (source : Promised → Source) (variables : List Variable) (bindings : List Binding) : Type 0 where
  pub variable : Variable
  pub wanted : Contains variables variable
  pub binding : Binding
  pub there : Contains bindings binding
  pub names : binding.var ≡ variable.name
  pub mapped : IsTrue (is_mapped source binding.bound variable.kind)

-- ---- nodes

-- the inputs of the task or the workflow are bound
pub record IsTypedPlain (b : Bundle) (w : Workflow) (n : Node) : Type 0 where
  pub inputs : List Variable
  pub found : inputs_of b n ≡ Some inputs
  pub bound : Binds (bound_fits (source_of b w)) inputs n.inputs

-- each input of the task is mapped or repeated, one at least is mapped, and the lists of outputs are no deeper than types may be
pub record IsTypedArray (b : Bundle) (w : Workflow) (n : Node) (id : Identifier) (min_successes : Option ℕ) : Type 0 where
  pub task : Task
  pub found : task_named b id ≡ Some task
  pub bound : Binds (array_input_fits (source_of b w)) task.interface.inputs n.inputs
  pub mapped : MapsOne (source_of b w) task.interface.inputs n.inputs
  pub shallow : All (λ (v : Variable). type_levels (array_type min_successes v.kind) ≤ max_levels) task.interface.outputs

-- the case has a condition, which has no fault over these variables
pub record HasCondition (variables : List (Text × Simple)) (case : Case) : Type 0 where
  pub condition : Expr
  pub there : case.condition ≡ Some condition
  pub sound : faults_of (value_of variables) condition ≡ []

-- each variable is bound at most once, to a primitive, and each case has a condition without a fault
pub record IsTypedBranch (b : Bundle) (w : Workflow) (n : Node) (cases : List Case) : Type 0 where
  pub once : AreDistinct (bound_names n.inputs)
  pub primitives : All (λ (x : Binding). IsTrue (is_some (bound_primitive (source_of b w) x.bound))) n.inputs
  pub conditions : All (HasCondition (branch_variables (source_of b w) n.inputs)) cases

abbrev pub IsTypedTarget : Bundle → Workflow → Node → Target-F Target Case Node → Type 0
IsTypedTarget b w n (Target-F.Branch cases otherwise error) = IsTypedBranch b w n cases
IsTypedTarget b w n (Target-F.Array id min_successes) = IsTypedArray b w n id min_successes
IsTypedTarget b w n _ = IsTypedPlain b w n

-- what the node runs is in the bundle, the nodes that it names upstream are in the workflow, and what is bound fits
pub record IsTypedNode (b : Bundle) (w : Workflow) (n : Node) : Type 0 where
  pub not_start : n.id ≢ start_node
  pub not_end : n.id ≢ end_node
  pub upstream : All (λ id. (id ≡ start_node) ⊎ Contains (node_ids w) id) n.upstream
  pub target : IsTypedTarget b w n (out-Target n.target)

-- ---- workflows and bundles

-- from 1 to 1,024 nodes with the cases, whose ids differ, each typed; and the outputs are bound
pub record IsTypedWorkflow (b : Bundle) (w : Workflow) : Type 0 where
  pub some : 1 ≤ length (nodes_of w)
  pub few : length (nodes_of w) ≤ 1024
  pub ids : AreDistinct (node_ids w)
  pub nodes : All (IsTypedNode b w) (nodes_of w)
  pub outputs : Binds (bound_fits (source_of b w)) w.interface.outputs w.outputs

-- each template in the task's words names an input of it
abbrev pub HasInputs : Task → Type 0
HasInputs t = All (AsksFor t.interface.inputs) (words_of t)

-- no chain of workflow nodes that begins in the primary workflow is longer
abbrev pub NestsWithin : ℕ → Bundle → Type 0
NestsWithin levels b =
    (primary place : ℕ) (between : List ℕ) → primary_place b ≡ Some primary → IsWalk (workflow_edges b) primary between place → length between + 1 ≤ levels

-- The primary workflow is there, it and what it reaches is typed, and its run is no larger than the limits.
pub record IsTyped (b : Bundle) : Type 0 where
  pub tasks : AreDistinct (map (λ (t : Task). t.id) b.tasks)
  pub workflows : AreDistinct (map (λ (w : Workflow). w.id) b.workflows)
  pub primary : Workflow
  pub named : primary_of b ≡ Some primary
  pub typed : (w : Workflow) → IsReached b w → IsTypedWorkflow b w
  pub templates : (t : Task) → IsReachedTask b t → HasInputs t
  pub not_recursive : (place : ℕ) → IsReachedPlace b place → ¬ Reaches (workflow_edges b) place place
  pub nesting : NestsWithin max_nesting b
  pub plan : length (plan_of b) ≤ 4096
  pub arrays : count_by (λ (p : PlanNode). is_array p.node) (plan_of b) ≤ 16
