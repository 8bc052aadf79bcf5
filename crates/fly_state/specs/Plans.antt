-- The plan of a run: its nodes in plan order, in which instance each stands, and what each looks at. An instance is a run of one workflow: that
-- of the primary workflow, or of the workflow of a workflow node. It is named by the path of that node, and the first by the empty path.
use Rattle.std.specs.Prelude.{ℕ, ◌-◌, Bool, true, false, ◌&&◌, List, [], ◌∷◌, ◌++◌, map, filter, filter_map, length, take, position, slice_get, bytes_eq, Option, Some, None, option_map, option_and_then, option_to_list, is_some}
use Rattle.std.specs.List.{enumerate_from}
use Rattle.std.specs.Cmp.Lexicographic.{pointwise}
use Rattle.fly_types.specs.declared.text.Text.{Text}
use Rattle.fly_docs.specs.declared.node.Node.{Node}
use Rattle.fly_docs.specs.declared.node.Case.{Case}
use Rattle.fly_docs.specs.declared.node.Target.{Target, out-Target}
use Rattle.fly_docs.specs.declared.node.Target.TheOpen.{Target-F}
use Rattle.fly_docs.specs.declared.task.Task.{Task}
use Rattle.fly_docs.specs.declared.workflow.Workflow.{Workflow}
use Rattle.fly_docs.specs.declared.workflow.Bundle.{Bundle}
use Rattle.fly_docs.specs.declared.closure.Closure.{Closure}
use Rattle.fly_docs.specs.Lookups.{task_named, primary_of}
use Rattle.fly_docs.specs.Plans.{PlanNode, plan_of, subworkflow_of}
use Rattle.fly_docs.specs.Edges.{named_ids}
use Rattle.fly_docs.specs.Closures.{bundle_of}

-- the documents of a run, and its nodes in plan order, by which they are numbered
pub record RunPlan : Type 0 where
  pub documents : Bundle
  pub nodes : List PlanNode

abbrev pub run_plan : Bundle → RunPlan
run_plan b = record { documents = b; nodes = plan_of b }

-- the plan of a closure's templates
abbrev pub plan_for : Closure → RunPlan
plan_for c = run_plan (bundle_of c)

abbrev pub Path : Type 0
Path = List Text

-- the two paths are one
abbrev pub same_path : Path → Path → Bool
same_path = pointwise bytes_eq

-- the node of a number
abbrev pub node_numbered : RunPlan → ℕ → Option PlanNode
node_numbered plan i = slice_get plan.nodes i

-- the number of the node that has the path
abbrev pub number_of : RunPlan → Path → Option ℕ
number_of plan path = position (λ (p : PlanNode). same_path path p.path) plan.nodes

-- ---- instances

-- the instance in which a node stands: its path without its own id
abbrev pub instance_of : PlanNode → Path
instance_of p = take (length p.path - 1) p.path

-- the nodes of an instance, each with its number
abbrev pub nodes_in : RunPlan → Path → List (ℕ × PlanNode)
nodes_in plan instance = filter (λ (at : ℕ × PlanNode). same_path instance (instance_of at.1)) (enumerate_from 0 plan.nodes)

-- the number of the node of an instance that has the id
abbrev pub number_in : RunPlan → Path → Text → Option ℕ
number_in plan instance id = number_of plan (instance ++ id ∷ [])

-- the workflow that runs in an instance: the primary one, or that of the workflow node
abbrev pub workflow_in : RunPlan → Path → Option Workflow
workflow_in plan [] = primary_of plan.documents
workflow_in plan (id ∷ ids) =
    option_and_then (λ (p : PlanNode). subworkflow_of plan.documents p.node) (option_and_then (node_numbered plan) (number_of plan (id ∷ ids)))

-- ---- cases

abbrev pub case_nodes_in : Target-F Target Case Node → List Node
case_nodes_in (Target-F.Branch cases otherwise error) = map (λ (c : Case). c.then) cases ++ option_to_list otherwise
case_nodes_in _ = []

-- the cases of a branch and then its else node, whose number is the count of the cases
abbrev pub case_nodes : Node → List Node
case_nodes n = case_nodes_in (out-Target n.target)

-- the number of the case of the branch at q that p is
abbrev pub case_number : PlanNode → PlanNode → Option ℕ
case_number q p = position (λ (n : Node). bytes_eq p.node.id n.id) (case_nodes q.node)

-- p is a case of the branch at q, or its else node
abbrev pub is_case_of : PlanNode → PlanNode → Bool
is_case_of q p = same_path (instance_of q) (instance_of p) && is_some (case_number q p)

-- The branch of a case node, and which case of it that node is.
pub record CaseOf : Type 0 where
  pub branch : ℕ
  pub case : ℕ

abbrev pub case_of_at : ℕ → PlanNode → PlanNode → Option CaseOf
case_of_at branch q p = option_map (λ case. record { branch = branch; case = case }) (case_number q p)

-- the branch of a case node; none for a node that is no case
abbrev pub case_of : RunPlan → PlanNode → Option CaseOf
case_of plan p =
    option_and_then (λ branch. option_and_then (λ q. case_of_at branch q p) (node_numbered plan branch)) (position (λ q. is_case_of q p) plan.nodes)

-- the number of a case of the branch at p
abbrev pub numbered_case : RunPlan → PlanNode → ℕ → Option ℕ
numbered_case plan p case = option_and_then (λ (n : Node). number_in plan (instance_of p) n.id) (slice_get (case_nodes p.node) case)

-- ---- what a node looks at

-- the nodes that a node promises from or names upstream, in its instance
abbrev pub named_numbers : RunPlan → PlanNode → List ℕ
named_numbers plan p = filter_map (number_in plan (instance_of p)) (named_ids p.node)

-- a case node looks at its branch first, and then each at what it promises from or names
abbrev pub looked_at : RunPlan → PlanNode → List ℕ
looked_at plan p = map (λ (c : CaseOf). c.branch) (option_to_list (case_of plan p)) ++ named_numbers plan p

abbrev pub looks : RunPlan → ℕ → List ℕ
looks plan i = of_node (node_numbered plan i)
  where
    of_node : Option PlanNode → List ℕ
    of_node (Some p) = looked_at plan p
    of_node None = []

-- ---- what a node runs

abbrev pub is_task_target : Target-F Target Case Node → Bool
is_task_target (Target-F.Task id) = true
is_task_target _ = false

abbrev pub is_workflow_target : Target-F Target Case Node → Bool
is_workflow_target (Target-F.Workflow id) = true
is_workflow_target _ = false

abbrev pub is_branch_target : Target-F Target Case Node → Bool
is_branch_target (Target-F.Branch cases otherwise error) = true
is_branch_target _ = false

abbrev pub is_task : Node → Bool
is_task n = is_task_target (out-Target n.target)

abbrev pub is_workflow : Node → Bool
is_workflow n = is_workflow_target (out-Target n.target)

abbrev pub is_branch : Node → Bool
is_branch n = is_branch_target (out-Target n.target)

abbrev pub task_target : Bundle → Target-F Target Case Node → Option Task
task_target b (Target-F.Task id) = task_named b id
task_target b _ = None

-- the task of a task node
abbrev pub task_of : RunPlan → PlanNode → Option Task
task_of plan p = task_target plan.documents (out-Target p.node.target)
