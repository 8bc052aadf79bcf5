use Rattle.std.proofs.Common.{◌≡◌, ℕ, ◌++◌, map, take, codes}
use Rattle.std.specs.Prelude.{decimal}
use Rattle.std.specs.List.{flat_map, enumerate_from}
use Rattle.std.specs.Option.{option_to_list}
use Rattle.fly_docs.specs.declared.node.Case.{Case}
use Rattle.fly_docs.specs.Conditions.{condition_fault}
use Rattle.fly_faults.specs.declared.fault.Code.TheVariants as code
use Rattle.fly_faults.specs.NodeFaults.{kind_text}
use Rattle.fly_faults.specs.Places.{fault_with}
use Rattle.fly_compile.proofs.condition_faults.push_case_faults.Given as goal

abbrev pub invariant-loop-number : goal.invariant-loop-number
invariant-loop-number l =
    l.faults.items ≡ l.initial.faults.items
    ++ flat_map (λ (at : ℕ × Case). map (λ kind. fault_with code.ExprFault l.place (decimal at.0 ++ codes " " ++ kind_text kind))
    (option_to_list (condition_fault l.variables at.1))) (enumerate_from 0 (take l.number l.cases))
