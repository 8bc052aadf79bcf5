use Rattle.std.proofs.Common.{◌≡◌, ◌==◌, ◌<◌, ◌≤◌, cond, false, length, get_or, take, Some, sym, ap, ◌∙◌, arith}
use Rattle.fly_round.specs.Answers.{answers_with, answers_in}
use Rattle.fly_round.specs.Attempts.{is_number}
use Rattle.fly_round.specs.Moves.{told_of}
use Rattle.fly_round.proofs.Lists.{take-whole}
use Rattle.fly_round.proofs.AnswerLemmas.{answers-step, added-more}
use Rattle.fly_round.proofs.answers.answers_of.Goals as goal
use Rattle.fly_round.proofs.answers.answers_of.Goals.{in-Some, in_default}

pub loop-one-preserved : goal.loop-one-preserved
loop-one-preserved c =
    let v = c.args.v.now in
    let told = c.args.told.now in
    let begun = c.loop-one.invariant in
    let k = c.loop-one.one-index in
    let t = c.one-item.result in
    let lt : k < length told = c.loop-one-test.true in
    let is : t ≡ get_or told k t = c.one-item.is in
    elim c.match-node_of.branch [
      | in-Some w ↦
          let n = w.in-Some.number in
          let xs = c.loop-one.answers.items in
          let within : n < length xs = omega (arith, w.in-Some.ensures.within, begun.long) in
          rw w.answers-is (record {
            long = w.add.ensures.len ∙ begun.long;
            noted = λ i p planned.
                let before = answers_in (told_of v (take k told) p) in
                added-more xs w.add.new.answers.items n w.answer_to.result within w.add.ensures.added i before (begun.noted i p planned)
                ∙ ap (λ a. Some (cond (i == n) (answers_with before a) before)) w.answer_to.ensures
                ∙ ap Some (sym (answers-step v p told k t (i == n) lt is (c.node_of.ensures.about i p planned ∙ ap (is_number i) w.in-Some.is)));
          })
      | in_default w ↦
          rw w.answers-is (record {
            long = begun.long;
            noted = λ i p planned.
                begun.noted i p planned
                ∙ ap Some (sym (answers-step v p told k t false lt is (c.node_of.ensures.about i p planned ∙ ap (is_number i) w.in_default.is)));
          })
    ]

pub returns : goal.returns
returns c = λ i p planned.
    let told = c.args.told.now in
    let past : length told ≤ c.loop-one.one-index = c.loop-one-test.false in
    c.loop-one.invariant.noted i p planned
    ∙ ap (λ ts. Some (answers_in (told_of c.args.v.now ts p))) (take-whole told c.loop-one.one-index past)
