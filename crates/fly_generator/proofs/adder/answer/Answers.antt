use Rattle.fly_generator.proofs.Answering.{answers-read, answers-unread}
use Rattle.fly_generator.proofs.adder.answer.Goals as goal

pub returns-in-Ok-clause-is : goal.returns-in-Ok-clause-is
returns-in-Ok-clause-is c =
    answers-read c.args.input.now c.in-Ok.inputs c.end_of.result c.in-Ok.ensures.read c.in-Ok.ensures.only
    c.end_of.ensures.is

pub returns-in-Err-clause-is : goal.returns-in-Err-clause-is
returns-in-Err-clause-is c =
    answers-unread c.args.input.now c.in-Err.fault c.no_inputs.result c.in-Err.ensures.fault c.no_inputs.ensures
