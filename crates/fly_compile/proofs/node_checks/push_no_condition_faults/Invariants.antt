use Rattle.std.proofs.Common.{◌≡◌, ◌++◌, map, take, filter}
use Rattle.std.specs.Prelude.{is_none}
use Rattle.fly_docs.specs.declared.node.Case.{Case}
use Rattle.fly_faults.specs.declared.fault.Code.TheVariants as code
use Rattle.fly_faults.specs.Places.{fault_at}
use Rattle.fly_compile.proofs.node_checks.push_no_condition_faults.Given as goal

abbrev pub invariant-loop-case : goal.invariant-loop-case
invariant-loop-case l =
    l.faults.items ≡ l.initial.faults.items
    ++ map (λ (case : Case). fault_at code.BranchNoCondition l.place) (filter (λ (case : Case). is_none case.condition) (take l.case-index l.cases))
