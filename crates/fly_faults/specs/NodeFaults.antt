-- What is wrong with a node, in the order of the report.
use Rattle.std.specs.Prelude.{ℕ, nat_lt, Bool, true, false, not, ◌&&◌, ◌||◌, if◌then◌else◌, List, [], ◌∷◌, ◌++◌, map, filter, flat_map, take, codes, decimal, Option, Some, None, is_some, is_none, option_to_list}
use Rattle.std.specs.List.{list_any, list_all, enumerate_from}
use Rattle.std.specs.Str.{bytes_eq}
use Rattle.fly_types.specs.declared.text.Text.{Text}
use Rattle.fly_types.specs.declared.variable.Variable.{Variable}
use Rattle.fly_types.specs.Levels.{max_levels, type_levels}
use Rattle.fly_exprs.specs.declared.faults.ExprFault.{ExprFault}
use Rattle.fly_exprs.specs.declared.faults.ExprFault.TheVariants as expr_fault
use Rattle.fly_docs.specs.declared.binding.Binding.{Binding}
use Rattle.fly_docs.specs.declared.task.Task.{Task}
use Rattle.fly_docs.specs.declared.node.Node.{Node}
use Rattle.fly_docs.specs.declared.node.Case.{Case}
use Rattle.fly_docs.specs.declared.node.Target.{Target, out-Target}
use Rattle.fly_docs.specs.declared.node.Target.TheOpen.{Target-F}
use Rattle.fly_docs.specs.declared.workflow.Workflow.{Workflow}
use Rattle.fly_docs.specs.declared.workflow.Bundle.{Bundle}
use Rattle.fly_docs.specs.Names.{start_node, end_node}
use Rattle.fly_docs.specs.Bindings.{binding_of}
use Rattle.fly_docs.specs.Lookups.{task_named}
use Rattle.fly_docs.specs.Plans.{node_ids, node_named}
use Rattle.fly_docs.specs.NodeInterfaces.{array_type, inputs_of, is_found, wanted_at, source_of}
use Rattle.fly_docs.specs.Fitting.{array_input_fits, is_mapped}
use Rattle.fly_docs.specs.Conditions.{branch_variables, condition_fault}
use Rattle.fly_faults.specs.declared.fault.Code.TheVariants as code
use Rattle.fly_faults.specs.declared.fault.Fault.{Fault}
use Rattle.fly_faults.specs.Places.{node_place, variable_place, fault_at, fault_with}
use Rattle.fly_faults.specs.BindingFaults.{Site, is_anything, has_source, bindings_faults, unbound_faults}

-- where the bindings of a node stand
abbrev pub node_site : Bundle → Workflow → Node → Site
node_site b w n = record {
  place = node_place w n;
  source = source_of b w;
  wanted = if is_found b n then Some (wanted_at b n) else None;
}

-- ---- ids

-- DuplicateId where the id is that of the start, of the end or of an earlier node
abbrev pub id_faults : Workflow → ℕ → Node → List Fault
id_faults w place n =
    if bytes_eq n.id start_node || bytes_eq n.id end_node || list_any (bytes_eq n.id) (take place (node_ids w))
    then fault_at code.DuplicateId (node_place w n) ∷ [] else []

-- TaskNotFound and WorkflowNotFound where what the node runs is not in the bundle
abbrev pub missing_fault : Workflow → Node → Target-F Target Case Node → Fault
missing_fault w n (Target-F.Workflow id) = fault_at code.WorkflowNotFound (node_place w n)
missing_fault w n _ = fault_at code.TaskNotFound (node_place w n)

abbrev pub target_faults : Bundle → Workflow → Node → List Fault
target_faults b w n = if is_found b n then [] else missing_fault w n (out-Target n.target) ∷ []

-- NodeNotFound with the id, for each id upstream that is neither the start nor a node
abbrev pub is_node_or_start : Workflow → Text → Bool
is_node_or_start w id = bytes_eq id start_node || is_some (node_named w id)

abbrev pub upstream_faults : Workflow → Node → List Fault
upstream_faults w n =
    map (λ id. fault_with code.NodeNotFound (node_place w n) id) (filter (λ id. not (is_node_or_start w id)) n.upstream)

-- ---- branches

-- BranchNoCondition for each case without a condition
abbrev pub cases_in : Target-F Target Case Node → List Case
cases_in (Target-F.Branch cases otherwise error) = cases
cases_in _ = []

abbrev pub cases_of : Node → List Case
cases_of n = cases_in (out-Target n.target)

abbrev pub no_condition_faults : Workflow → Node → List Fault
no_condition_faults w n =
    map (λ case. fault_at code.BranchNoCondition (node_place w n)) (filter (λ (case : Case). is_none case.condition) (cases_of n))

abbrev pub kind_text : ExprFault → Text
kind_text expr_fault.UnknownVar = codes "UnknownVar"
kind_text expr_fault.MixedTypes = codes "MixedTypes"
kind_text expr_fault.OrderOnBoolean = codes "OrderOnBoolean"

-- all that is bound has no fault, and is of a known type
abbrev pub is_empty : List Fault → Bool
is_empty [] = true
is_empty _ = false

abbrev pub has_known_inputs : Site → Node → Bool
has_known_inputs site n = is_empty (bindings_faults site n.inputs) && not (list_any (λ (x : Binding). has_source is_anything site x.bound) n.inputs)

-- ExprFault with the case's number, from 0, and the kind, for each condition with a fault
abbrev pub case_faults : Site → Node → List Fault
case_faults site n =
    flat_map (λ (at : ℕ × Case).
    map (λ kind. fault_with code.ExprFault site.place (decimal at.0 ++ codes " " ++ kind_text kind))
    (option_to_list (condition_fault (branch_variables site.source n.inputs) at.1)))
    (enumerate_from 0 (cases_of n))

abbrev pub condition_faults : Site → Node → List Fault
condition_faults site n = if has_known_inputs site n then case_faults site n else []

-- ---- arrays

-- every input is bound, and what is bound to it fits, and none is mapped
abbrev pub bindings_of : Variable → List Binding → List Binding
bindings_of v bindings = filter (λ (x : Binding). bytes_eq x.var v.name) bindings

abbrev pub is_bound_and_fits : Site → List Binding → Variable → Bool
is_bound_and_fits site bindings v =
    is_some (binding_of v.name bindings) && list_all (λ (x : Binding). array_input_fits site.source x.bound v.kind) (bindings_of v bindings)

abbrev pub is_mapped_by : Site → List Binding → Variable → Bool
is_mapped_by site bindings v = list_any (λ (x : Binding). is_mapped site.source x.bound v.kind) (bindings_of v bindings)

-- ArrayNoMapped
abbrev pub unmapped_faults : Site → List Variable → List Binding → List Fault
unmapped_faults site variables bindings =
    if list_all (is_bound_and_fits site bindings) variables && not (list_any (is_mapped_by site bindings) variables)
    then fault_at code.ArrayNoMapped site.place ∷ [] else []

-- TypeTooDeep for each output whose lists have more levels than a type may
abbrev pub depth_faults : Site → Option ℕ → List Variable → List Fault
depth_faults site min_successes outputs =
    map (λ (v : Variable). fault_at code.TypeTooDeep (variable_place site.place v.name))
    (filter (λ (v : Variable). nat_lt max_levels (type_levels (array_type min_successes v.kind))) outputs)

abbrev pub task_array_faults : Site → Node → Option ℕ → Option Task → List Fault
task_array_faults site n min_successes None = []
task_array_faults site n min_successes (Some t) =
    unmapped_faults site t.interface.inputs n.inputs ++ depth_faults site min_successes t.interface.outputs

abbrev pub array_faults_in : Bundle → Site → Node → Target-F Target Case Node → List Fault
array_faults_in b site n (Target-F.Array id min_successes) = task_array_faults site n min_successes (task_named b id)
array_faults_in b site n _ = []

-- ---- a node

-- NotBound for each input without a binding
abbrev pub input_faults : Bundle → Site → Node → List Fault
input_faults b site n = flat_map (λ variables. unbound_faults code.NotBound site.place variables n.inputs) (option_to_list (inputs_of b n))

-- the faults of the node at this place
abbrev pub faults_of_node : Bundle → Workflow → ℕ → Node → List Fault
faults_of_node b w place n =
    let site = node_site b w n in
    id_faults w place n
    ++ target_faults b w n
    ++ upstream_faults w n
    ++ no_condition_faults w n
    ++ bindings_faults site n.inputs
    ++ input_faults b site n
    ++ array_faults_in b site n (out-Target n.target)
    ++ condition_faults site n
