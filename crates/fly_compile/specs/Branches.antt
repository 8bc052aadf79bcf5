-- The faults of a branch's conditions, by its inputs and its cases.
use Rattle.std.specs.Prelude.{ℕ, not, ◌&&◌, if◌then◌else◌, List, [], ◌++◌, map, flat_map, codes, decimal, option_to_list}
use Rattle.std.specs.List.{list_any, enumerate_from}
use Rattle.fly_docs.specs.declared.binding.Binding.{Binding}
use Rattle.fly_docs.specs.declared.node.Case.{Case}
use Rattle.fly_docs.specs.Conditions.{branch_variables, condition_fault}
use Rattle.fly_faults.specs.declared.fault.Code.TheVariants as code
use Rattle.fly_faults.specs.declared.fault.Fault.{Fault}
use Rattle.fly_faults.specs.BindingFaults.{Site, is_anything, has_source, bindings_faults}
use Rattle.fly_faults.specs.NodeFaults.{is_empty, kind_text}
use Rattle.fly_faults.specs.Places.{fault_with}

-- the same as that of a node with these inputs and cases
abbrev pub condition_faults_of : Site → List Binding → List Case → List Fault
condition_faults_of site inputs cases =
    if is_empty (bindings_faults site inputs) && not (list_any (λ (x : Binding). has_source is_anything site x.bound) inputs)
    then flat_map (λ (at : ℕ × Case). map (λ kind. fault_with code.ExprFault site.place (decimal at.0 ++ codes " " ++ kind_text kind))
    (option_to_list (condition_fault (branch_variables site.source inputs) at.1))) (enumerate_from 0 cases)
    else []
