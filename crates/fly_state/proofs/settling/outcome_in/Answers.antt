use Rattle.std.proofs.Common.{find, option_and_then, sym, ◌∙◌, ap}
use Rattle.std.proofs.lemmas.List.{take_all}
use Rattle.fly_state.specs.Moves.{is_attempt}
use Rattle.fly_state.specs.declared.view.Known.{Known}
use Rattle.fly_state.proofs.Founds.{none-more, found-at}
use Rattle.fly_state.proofs.settling.outcome_in.Goals as goal

pub returns-then-is_attempt : goal.returns-then-is_attempt
returns-then-is_attempt c = λ p path.
    let is = λ (k : Known). is_attempt c.args.v.now p c.args.item c.args.attempt k.name in
    let outcome = option_and_then (λ (k : Known). k.outcome) in
    let found = found-at is c.as_slice-known-items.result.now c.loop-known.known-index c.known-item.result
    c.loop-known-test.true c.known-item.is (c.loop-known.invariant p path)
    (sym (c.is_attempt.ensures p path) ∙ c.if-is_attempt.true) in
    c.as_ref.ensures.value
    ∙ sym (ap (λ known. outcome (find is known)) (sym c.as_slice-known-items.ensures) ∙ ap outcome found)

pub loop-known-preserved : goal.loop-known-preserved
loop-known-preserved c = λ p path.
    let is = λ (k : Known). is_attempt c.args.v.now p c.args.item c.args.attempt k.name in
    none-more is c.as_slice-known-items.result.now c.loop-known.known-index c.known-item.result c.loop-known-test.true
    c.known-item.is (c.loop-known.invariant p path) (sym (c.is_attempt.ensures p path) ∙ c.if-is_attempt.false)

pub returns : goal.returns
returns c = λ p path.
    let is = λ (k : Known). is_attempt c.args.v.now p c.args.item c.args.attempt k.name in
    let all = take_all c.loop-known.known-index c.as_slice-known-items.result.now c.loop-known-test.false
    ∙ c.as_slice-known-items.ensures in
    sym (ap (option_and_then (λ (k : Known). k.outcome)) (ap (find is) (sym all) ∙ c.loop-known.invariant p path))
