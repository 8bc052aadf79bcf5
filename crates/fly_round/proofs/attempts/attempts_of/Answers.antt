use Rattle.std.proofs.Common.{◌≡◌, ◌==◌, ◌<◌, ◌≤◌, length, get_or, position, Some, false, sym, ap, subst, ◌∙◌, arith}
use Rattle.fly_round.specs.Attempts.{is_number, is_present}
use Rattle.fly_round.proofs.Lists.{take-whole}
use Rattle.fly_round.proofs.AttemptLemmas.{noted-more, position-step, or-nothing}
use Rattle.fly_round.proofs.attempts.attempts_of.Goals as goal
use Rattle.fly_round.proofs.attempts.attempts_of.Goals.{in-Some, in_default}

pub note-requires : goal.note-requires
note-requires c = omega (arith, c.in-Some.ensures.within, c.loop-place.invariant.long)

pub loop-place-preserved : goal.loop-place-preserved
loop-place-preserved c =
    let v = c.args.v.now in
    let launches = v.launches in
    let begun = c.loop-place.invariant in
    let k = c.loop-place.place in
    let known = c.known-item.result in
    let lt : k < length launches = subst (λ ls. k < length ls) c.as_slice-known-items.ensures c.loop-place-test.true in
    let is : known ≡ get_or launches k known = c.known-item.is ∙ ap (λ ls. get_or ls k known) c.as_slice-known-items.ensures in
    elim c.match-present_attempt.branch [
      | in-Some w ↦
          let n = w.in-Some.number in
          let xs = c.loop-place.attempts.items in
          let within : n < length xs = omega (arith, w.in-Some.ensures.within, begun.long) in
          rw w.attempts-is (record {
            long = w.note.ensures.len ∙ begun.long;
            noted = λ i p planned.
                noted-more xs w.note.new.attempts.items n k within w.note.ensures.noted w.note.ensures.kept i _ (begun.noted i p planned)
                ∙ ap Some (sym (position-step (is_present v i p) launches k known (i == n) lt is
                (c.present_attempt.ensures.present i p planned ∙ ap (is_number i) w.in-Some.is)));
          })
      | in_default w ↦
          rw w.attempts-is (record {
            long = begun.long;
            noted = λ i p planned.
                begun.noted i p planned
                ∙ ap Some (sym (position-step (is_present v i p) launches k known false lt is
                (c.present_attempt.ensures.present i p planned ∙ ap (is_number i) w.in_default.is) ∙ or-nothing _));
          })
    ]

pub returns : goal.returns
returns c = λ i p planned.
    let launches = c.args.v.now.launches in
    let past : length launches ≤ c.loop-place.place = subst (λ ls. length ls ≤ c.loop-place.place) c.as_slice-known-items.ensures c.loop-place-test.false in
    c.loop-place.invariant.noted i p planned
    ∙ ap (λ ls. Some (position (is_present c.args.v.now i p) ls)) (take-whole launches c.loop-place.place past)
