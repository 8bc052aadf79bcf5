use Rattle.std.proofs.Common.{◌∙◌, sym, inl, inr, arith}
use Rattle.fly_app.proofs.WordsLemmas.{missing_number, not_a_number, no_count, count_and_more}
use Rattle.fly_app.proofs.words.count_of.Goals as goal

pub returns-in_default-clause-wrong : goal.returns-in_default-clause-wrong
returns-in_default-clause-wrong c = missing_number c.args.rest.now c.in_default.ensures.cases

pub returns-in_default-read_number-clause-wrong : goal.returns-in_default-read_number-clause-wrong
returns-in_default-read_number-clause-wrong c =
    not_a_number c.args.rest.now c.in-Some.more.now c.in-Some.word.now c.in-Some.ensures.cases.0
    (λ n small same. c.in_default-read_number.ensures n small (c.as_str.ensures ∙ same))

pub returns-then-count-eq0-clause-wrong : goal.returns-then-count-eq0-clause-wrong
returns-then-count-eq0-clause-wrong c =
    no_count c.args.rest.now c.in-Some.more.now c.in-Some.word.now c.in-Some-read_number.count c.in-Some.ensures.cases.0
    c.in-Some-read_number.ensures.0 (sym c.as_str.ensures ∙ c.in-Some-read_number.ensures.1)
    (λ some few. elim c.then-count-eq0.either
    [ inl none ↦ omega (arith, none, some) | inr many ↦ omega (arith, many.1, few) ])

pub returns-else-is_empty-clause-wrong : goal.returns-else-is_empty-clause-wrong
returns-else-is_empty-clause-wrong c =
    count_and_more c.args.rest.now c.in-Some.more.now c.in-Some.word.now c.in-Some-read_number.count
    c.in-Some.ensures.cases.0
    (sym c.as_str.ensures ∙ c.in-Some-read_number.ensures.1) (omega (arith, c.if-count-eq0.false))
    (omega (arith, c.if-count-gt-MAX_NODES.false)) c.if-is_empty.ensures
