use Rattle.std.proofs.Common.{List, []}
use Rattle.fly_types.specs.declared.text.Text.{Text}
use Rattle.fly_types.specs.declared.literals.Literal.{Literal}
use Rattle.fly_types.specs.declared.literals.LiteralMap.{LiteralMap}
use Rattle.fly_cast.specs.Conversion.{each_result}
use Rattle.fly_docs.specs.SlotInputs.{bound_value, variable_value}
use Rattle.fly_state.specs.Origins.{source_in_run}
use Rattle.fly_state.specs.States.{known_in}
use Rattle.fly_state.proofs.TakingLemmas.{taking-map, stops-taking, more-there}
use Rattle.fly_state.proofs.checks.check_variables.Goals as goal

pub returns-in_default : goal.returns-in_default
returns-in_default c =
    let known = known_in c.args.plan.now c.args.state.now [] in
    let value = variable_value (bound_value (source_in_run c.args.plan.now) known) c.args.bindings.now in
    let wrap : List (Text × Literal) → LiteralMap = λ entries. record { entries = entries } in
    taking-map wrap (each_result value c.args.variables.now) c.check_variable.result
    (stops-taking value c.args.variables.now c.loop-i.i c.index-variables-i.result c.check_variable.result
    c.loop-i-test.true c.index-variables-i.is c.loop-i.invariant c.in_default.not-There c.check_variable.ensures)

pub loop-i-preserved : goal.loop-i-preserved
loop-i-preserved c =
    let known = known_in c.args.plan.now c.args.state.now [] in
    let value = variable_value (bound_value (source_in_run c.args.plan.now) known) c.args.bindings.now in
    more-there value c.args.variables.now c.loop-i.i c.index-variables-i.result c.loop-i-test.true
    c.index-variables-i.is c.loop-i.invariant c.in-There.ensures
