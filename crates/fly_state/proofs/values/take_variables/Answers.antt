use Rattle.std.proofs.Common.{List, [], sym}
use Rattle.fly_types.specs.declared.text.Text.{Text}
use Rattle.fly_types.specs.declared.literals.Literal.{Literal}
use Rattle.fly_types.specs.declared.literals.LiteralMap.{LiteralMap}
use Rattle.fly_cast.specs.Conversion.{each_result}
use Rattle.fly_docs.specs.SlotInputs.{bound_value, variable_value}
use Rattle.fly_state.specs.Origins.{source_in_run}
use Rattle.fly_state.specs.States.{known_in}
use Rattle.fly_state.proofs.TakenLemmas.{stops-taken, taken-map, taken-more}
use Rattle.fly_state.proofs.values.take_variables.Goals as goal

pub take_variable-requires-clause-fit : goal.take_variable-requires-clause-fit
take_variable-requires-clause-fit c =
    c.requires.fit c.index-variables-i.result (c.loop-i.i, c.loop-i-test.true, sym c.index-variables-i.is)

pub returns-in-Err : goal.returns-in-Err
returns-in-Err c =
    let value = variable_value (bound_value (source_in_run c.args.plan.now) (known_in c.args.plan.now c.args.state.now [])) c.args.bindings.now in
    let wrap : List (Text × Literal) → LiteralMap = λ entries. record { entries = entries } in
    taken-map wrap (each_result value c.args.variables.now) c.in-Err.fault
    (stops-taken value c.args.variables.now c.loop-i.i c.index-variables-i.result c.loop-i.entries.items c.in-Err.fault c.loop-i-test.true
    c.index-variables-i.is c.loop-i.invariant c.in-Err.ensures)

pub loop-i-preserved : goal.loop-i-preserved
loop-i-preserved c =
    let value = variable_value (bound_value (source_in_run c.args.plan.now) (known_in c.args.plan.now c.args.state.now [])) c.args.bindings.now in
    taken-more value c.args.variables.now c.loop-i.i c.index-variables-i.result c.loop-i.entries.items c.push.new.self.items c.in-Ok.entry
    c.loop-i-test.true c.index-variables-i.is c.loop-i.invariant c.in-Ok.ensures c.in_ok-push-in-Ok.ensures.items
