use Rattle.std.proofs.Common.{sym, ◌∙◌, arith}
use Rattle.fly_app.proofs.RunWordsLemmas.{not_within}
use Rattle.fly_app.proofs.run_words.number_behind.Goals as goal

pub returns-in_default-read_number : goal.returns-in_default-read_number
returns-in_default-read_number c =
    not_within c.args.given c.args.rest.now c.in-Some.word.now c.args.least c.args.most c.in-Some-read_number.number
    (sym c.if-is_some.ensures) c.in-Some.ensures.item.1 c.in-Some-read_number.ensures.0
    (sym c.as_str.ensures ∙ c.in-Some-read_number.ensures.1)
    (λ enough few. omega (arith, few, c.if-number-most.false)) (omega arith)

pub returns-in_default-read_number-2 : goal.returns-in_default-read_number-2
returns-in_default-read_number-2 c =
    not_within c.args.given c.args.rest.now c.in-Some.word.now c.args.least c.args.most c.in-Some-read_number.number
    (sym c.if-is_some.ensures) c.in-Some.ensures.item.1 c.in-Some-read_number.ensures.0
    (sym c.as_str.ensures ∙ c.in-Some-read_number.ensures.1)
    (λ enough few. omega (arith, enough, c.if-least-number.false)) (omega arith)
