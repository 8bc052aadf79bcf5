use Rattle.std.proofs.Common.{Some, None, refl, arith}
use Rattle.fly_templates.specs.Words.{Input}
use Rattle.fly_templates.proofs.WordLemmas.{found_here, rest_fits, first_here, plain_more, plain_whole}
use Rattle.fly_templates.proofs.words.first_input.Goals as goal

pub overflow_sub-end : goal.overflow_sub-end
overflow_sub-end c =
    let input : Input = record { value = c.in-Some.value.now; rest = c.in-Some.rest.now } in
    rest_fits c.args.inputs.now c.args.text.now c.loop-start.start input
    (found_here c.args.inputs.now c.args.text.now c.as_bytes.result.now c.loop-start.start (Some input)
    c.as_bytes.ensures.value c.in-Some.ensures)

pub returns-in-Some : goal.returns-in-Some
returns-in-Some c =
    let input : Input = record { value = c.in-Some.value.now; rest = c.in-Some.rest.now } in
    first_here c.args.inputs.now c.args.text.now c.loop-start.start _ input c.utf8.text c.loop-start-test.true
    c.loop-start.invariant
    (found_here c.args.inputs.now c.args.text.now c.as_bytes.result.now c.loop-start.start (Some input)
    c.as_bytes.ensures.value c.in-Some.ensures) refl

pub loop-start-preserved : goal.loop-start-preserved
loop-start-preserved c =
    plain_more c.args.inputs.now c.args.text.now c.loop-start.start c.loop-start-test.true c.loop-start.invariant
    (found_here c.args.inputs.now c.args.text.now c.as_bytes.result.now c.loop-start.start None
    c.as_bytes.ensures.value c.in_default.ensures)

pub returns : goal.returns
returns c =
    plain_whole c.args.inputs.now c.args.text.now c.loop-start.start (omega arith) c.loop-start.invariant
