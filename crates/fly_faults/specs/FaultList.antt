-- Why a bundle is refused: every fault, in the order of the report.
use Rattle.std.specs.Prelude.{ℕ, ◌+◌, nat_lt, Bool, if◌then◌else◌, List, [], ◌∷◌, ◌++◌, map, filter, flat_map, take, count_by, length, codes, not, Some, is_none, option_map, option_to_list}
use Rattle.std.specs.List.{list_any, enumerate_from, join_by}
use Rattle.std.specs.Str.{bytes_eq}
use Rattle.fly_types.specs.declared.text.Text.{Text}
use Rattle.fly_docs.specs.declared.names.Identifier.{Identifier}
use Rattle.fly_docs.specs.declared.task.Task.{Task}
use Rattle.fly_docs.specs.declared.node.Node.{Node}
use Rattle.fly_docs.specs.declared.workflow.Workflow.{Workflow}
use Rattle.fly_docs.specs.declared.workflow.Bundle.{Bundle}
use Rattle.fly_docs.specs.Interfaces.{names_of, type_of}
use Rattle.fly_docs.specs.Lookups.{is_same, primary_of}
use Rattle.fly_docs.specs.Plans.{PlanNode, nodes_of, places_of, plan_of, is_array, max_nesting}
use Rattle.fly_docs.specs.NodeInterfaces.{value, source_of}
use Rattle.fly_docs.specs.Edges.{edges_of}
use Rattle.fly_docs.specs.Reaching.{reaches, goes_on, workflow_edges, primary_place, reached_places, reached_workflows, reached_tasks}
use Rattle.fly_docs.specs.Templates.{template_names, words_of}
use Rattle.fly_docs.specs.Closures.{ids_at}
use Rattle.fly_faults.specs.declared.fault.Code.TheVariants as code
use Rattle.fly_faults.specs.declared.fault.Fault.{Fault}
use Rattle.fly_faults.specs.Places.{element_place, workflow_name, task_name, outputs_place, fault_at, fault_with}
use Rattle.fly_faults.specs.BindingFaults.{Site, bindings_faults, unbound_faults}
use Rattle.fly_faults.specs.NodeFaults.{faults_of_node}

-- ---- the bundle

-- DuplicateId for each element of the list with the id of an earlier one
abbrev pub is_repeated : List Identifier → ℕ → Identifier → Bool
is_repeated ids i id = list_any (is_same id) (take i ids)

abbrev pub repeated_faults : Text → List Identifier → List Fault
repeated_faults list ids =
    map (λ at. fault_at code.DuplicateId (element_place list at.0)) (filter (λ (at : ℕ × Identifier). is_repeated ids at.0 at.1) (enumerate_from 0 ids))

-- WorkflowNotFound where the bundle does not have its primary workflow
abbrev pub primary_faults : Bundle → List Fault
primary_faults b = if is_none (primary_of b) then fault_at code.WorkflowNotFound (codes "primary") ∷ [] else []

abbrev pub bundle_faults : Bundle → List Fault
bundle_faults b =
    repeated_faults (codes "tasks") (map (λ (t : Task). t.id) b.tasks)
    ++ repeated_faults (codes "workflows") (map (λ (w : Workflow). w.id) b.workflows)
    ++ primary_faults b

-- ---- a workflow

abbrev pub max_nodes : ℕ
max_nodes = 1024

-- NoNodes, or TooManyNodes, with the cases
abbrev pub size_faults : Workflow → List Fault
size_faults w =
    if nat_lt 0 (length (nodes_of w))
    then (if nat_lt max_nodes (length (nodes_of w)) then fault_at code.TooManyNodes (workflow_name w) ∷ [] else [])
    else fault_at code.NoNodes (workflow_name w) ∷ []

abbrev pub nodes_faults : Bundle → Workflow → List Fault
nodes_faults b w = flat_map (λ (at : ℕ × Node). faults_of_node b w at.0 at.1) (enumerate_from 0 (nodes_of w))

-- the outputs of a workflow are bound as inputs are, each a value of its type
abbrev pub outputs_site : Bundle → Workflow → Site
outputs_site b w = record {
  place = outputs_place w;
  source = source_of b w;
  wanted = Some (λ name. option_map value (type_of name w.interface.outputs));
}

abbrev pub output_faults : Bundle → Workflow → List Fault
output_faults b w =
    bindings_faults (outputs_site b w) w.outputs ++ unbound_faults code.OutputNotBound (outputs_place w) w.interface.outputs w.outputs

-- the nodes that reach themselves, in plan order
abbrev pub cyclic_places : Workflow → List ℕ
cyclic_places w = filter (λ v. reaches (edges_of w) v v) (places_of w)

-- CycleDetected with the ids of these, in one fault
abbrev pub cycle_fault : Workflow → List ℕ → List Fault
cycle_fault w [] = []
cycle_fault w (place ∷ places) =
    fault_with code.CycleDetected (workflow_name w) (join_by (λ id. id) (codes ",") (ids_at w (place ∷ places))) ∷ []

abbrev pub faults_of_workflow : Bundle → Workflow → List Fault
faults_of_workflow b w = size_faults w ++ nodes_faults b w ++ output_faults b w ++ cycle_fault w (cyclic_places w)

-- ---- a task

-- TemplateInput with the name, for each template of a name that is no input
abbrev pub template_faults : Task → List Fault
template_faults t =
    map (λ name. fault_with code.TemplateInput (task_name t) name)
    (filter (λ name. not (list_any (bytes_eq name) (names_of t.interface.inputs))) (flat_map template_names (words_of t)))

-- ---- the run

abbrev pub max_plan : ℕ
max_plan = 4096

abbrev pub max_arrays : ℕ
max_arrays = 16

-- RecursiveWorkflow for each workflow that reaches itself
abbrev pub recursive_faults : Bundle → List Fault
recursive_faults b =
    map (λ at. fault_at code.RecursiveWorkflow (workflow_name at.1))
    (filter (λ (at : ℕ × Workflow). reaches (workflow_edges b) at.0 at.0) (reached_places b))

abbrev pub nests_too_deep : Bundle → Bool
nests_too_deep b = list_any (goes_on (workflow_edges b) (max_nesting + 1)) (option_to_list (primary_place b))

abbrev pub array_count : Bundle → ℕ
array_count b = count_by (λ (p : PlanNode). is_array p.node) (plan_of b)

-- NestingTooDeep, else PlanTooLarge, else TooManyArrays
abbrev pub limit_faults : Bundle → Workflow → List Fault
limit_faults b w =
    if nests_too_deep b then fault_at code.NestingTooDeep (workflow_name w) ∷ [] else
    if nat_lt max_plan (length (plan_of b)) then fault_at code.PlanTooLarge (workflow_name w) ∷ [] else
    if nat_lt max_arrays (array_count b) then fault_at code.TooManyArrays (workflow_name w) ∷ [] else []

-- those, where no workflow reaches itself
abbrev pub or_limits : Bundle → List Fault → List Fault
or_limits b [] = flat_map (limit_faults b) (option_to_list (primary_of b))
or_limits b (fault ∷ faults) = fault ∷ faults

-- ---- all of it

abbrev pub faults_of : Bundle → List Fault
faults_of b =
    bundle_faults b
    ++ flat_map (faults_of_workflow b) (reached_workflows b)
    ++ flat_map template_faults (reached_tasks b)
    ++ or_limits b (recursive_faults b)
