use Rattle.std.proofs.Common.{sym, ap, ◌∙◌}
use Rattle.fly_app.specs.Words.{is_option}
use Rattle.fly_app.proofs.WordsLemmas.{missing_file, option_for_file, file_and_more}
use Rattle.fly_app.proofs.words.file_of.Goals as goal

pub returns-in_default-clause-wrong : goal.returns-in_default-clause-wrong
returns-in_default-clause-wrong c = missing_file c.args.rest.now c.in_default.ensures.cases

pub returns-then-is_option-clause-wrong : goal.returns-then-is_option-clause-wrong
returns-then-is_option-clause-wrong c =
    option_for_file c.args.rest.now c.in-Some.more.now c.in-Some.path.now c.in-Some.ensures.cases.0 (ap is_option (sym c.as_str.ensures) ∙ sym c.if-is_option.ensures)

pub returns-else-is_empty-clause-wrong : goal.returns-else-is_empty-clause-wrong
returns-else-is_empty-clause-wrong c =
    file_and_more c.args.rest.now c.in-Some.more.now c.in-Some.path.now c.in-Some.ensures.cases.0 (ap is_option (sym c.as_str.ensures) ∙ sym c.if-is_option.ensures)
    c.if-is_empty.ensures
