use Rattle.std.proofs.Common.{ℕ, ◌++◌, map, codes}
use Rattle.std.specs.Prelude.{decimal}
use Rattle.std.specs.Option.{option_to_list}
use Rattle.fly_docs.specs.declared.node.Case.{Case}
use Rattle.fly_docs.specs.Conditions.{condition_fault}
use Rattle.fly_faults.specs.declared.fault.Code.TheVariants as code
use Rattle.fly_faults.specs.NodeFaults.{kind_text}
use Rattle.fly_faults.specs.Places.{fault_with}
use Rattle.fly_faults.proofs.Loops.{numbered_more}
use Rattle.fly_compile.proofs.condition_faults.push_case_faults.Goals as goal

pub loop-number-preserved : goal.loop-number-preserved
loop-number-preserved c =
    numbered_more (λ (at : ℕ × Case). map (λ kind. fault_with code.ExprFault c.args.place.now (decimal at.0 ++ codes " " ++ kind_text kind))
    (option_to_list (condition_fault c.args.variables.now at.1)))
    _ _ c.index-cases-number.result _ _ _ c.loop-number-test.true c.index-cases-number.is c.loop-number.invariant c.in_ok-push_case_fault.ensures
