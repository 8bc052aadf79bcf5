use Rattle.std.proofs.Common.{[], take}
use Rattle.fly_cast.specs.Conversion.{each_result}
use Rattle.fly_docs.specs.SlotInputs.{bound_value, variable_value}
use Rattle.fly_state.specs.declared.checks.Taking.TheVariants as taking
use Rattle.fly_state.specs.Checks.{IsTakingOf}
use Rattle.fly_state.specs.Origins.{source_in_run}
use Rattle.fly_state.specs.States.{known_in}
use Rattle.fly_state.proofs.checks.check_variables.Given as goal

abbrev pub invariant-loop-i : goal.invariant-loop-i
invariant-loop-i l =
    let value = variable_value (bound_value (source_in_run l.plan) (known_in l.plan l.state [])) l.bindings in
    IsTakingOf (each_result value (take l.i l.variables)) taking.There
