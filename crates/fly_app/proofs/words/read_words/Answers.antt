use Rattle.std.proofs.Common.{ap, inl, inr, codes}
use Rattle.fly_app.specs.Command.{request_of}
use Rattle.fly_app.proofs.WordsLemmas.{empty_words, other_command, named, request_alone, request_and_more}
use Rattle.fly_app.proofs.words.read_words.Goals as goal
use Rattle.fly_app.proofs.words.read_words.Goals.{then-eq-3, else-eq-3+then-eq-4}

pub returns-in_default-clause-wrong : goal.returns-in_default-clause-wrong
returns-in_default-clause-wrong c = empty_words c.args.words.now c.in_default.ensures.cases

pub returns-else-eq-4-clause-wrong : goal.returns-else-eq-4-clause-wrong
returns-else-eq-4-clause-wrong c =
    other_command c.args.words.now c.in-Some.rest.now c.in-Some.command.now c.as_str.result.now c.as_str-2.result.now
    c.as_str-3.result.now c.as_str-else-eq-3.result.now
    c.in-Some.ensures.cases.0 c.as_str.ensures c.if-eq.ensures c.as_str-2.ensures c.if-eq-2.ensures
    c.as_str-3.ensures c.if-eq-3.ensures c.as_str-else-eq-3.ensures c.if-eq-4.ensures

pub returns-then-is_empty-clause-command : goal.returns-then-is_empty-clause-command
returns-then-is_empty-clause-command c =
    request_alone c.args.words.now c.in-Some.rest.now c.in-Some.command.now
    (request_of c.if-eq-3.asked) c.in-Some.ensures.cases.0
    (elim c.if-eq-3.branch [
      | then-eq-3 w ↦ inl (
        ap request_of w.asked-is,
        named c.in-Some.command.now c.as_str-3.result.now
            (codes "--help") c.as_str-3.ensures w.if-eq-3.ensures,
      )
      | else-eq-3+then-eq-4 w ↦ inr (
        ap request_of w.asked-is,
        named c.in-Some.command.now w.as_str-else-eq-3.result.now
            (codes "--version") w.as_str-else-eq-3.ensures w.if-eq-4.ensures,
      )
    ])
    c.if-is_empty.ensures

pub returns-else-is_empty-clause-wrong : goal.returns-else-is_empty-clause-wrong
returns-else-is_empty-clause-wrong c =
    request_and_more c.args.words.now c.in-Some.rest.now c.in-Some.command.now
    (request_of c.if-eq-3.asked) c.in-Some.ensures.cases.0
    (elim c.if-eq-3.branch [
      | then-eq-3 w ↦ inl (
        ap request_of w.asked-is,
        named c.in-Some.command.now c.as_str-3.result.now
            (codes "--help") c.as_str-3.ensures w.if-eq-3.ensures,
      )
      | else-eq-3+then-eq-4 w ↦ inr (
        ap request_of w.asked-is,
        named c.in-Some.command.now w.as_str-else-eq-3.result.now
            (codes "--version") w.as_str-else-eq-3.ensures w.if-eq-4.ensures,
      )
    ])
    c.if-is_empty.ensures
