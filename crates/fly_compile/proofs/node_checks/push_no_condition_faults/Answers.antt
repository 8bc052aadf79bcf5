use Rattle.std.specs.Prelude.{is_none}
use Rattle.fly_docs.specs.declared.node.Case.{Case}
use Rattle.fly_faults.specs.declared.fault.Code.TheVariants as code
use Rattle.fly_faults.specs.Places.{fault_at}
use Rattle.fly_faults.proofs.Loops.{filtered_more}
use Rattle.fly_compile.proofs.node_checks.push_no_condition_faults.Goals as goal

pub loop-case-preserved : goal.loop-case-preserved
loop-case-preserved c =
    filtered_more (λ (case : Case). is_none case.condition) (λ (case : Case). fault_at code.BranchNoCondition c.args.place.now)
    _ _ c.case-item.result _ _ _ c.loop-case-test.true c.case-item.is c.loop-case.invariant c.in_ok-push_no_condition_fault.ensures
