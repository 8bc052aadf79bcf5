use Rattle.std.proofs.Common.{◌<◌, None, ◌∷◌, [], ◌++◌, length, get_or, filter_map, slice_get, ap, sym, subst, ◌∙◌, append-nil, arith}
use Rattle.std.proofs.lemmas.List.{take_all}
use Rattle.fly_attempts.specs.Attempts.{AttemptLists, numbers_of}
use Rattle.fly_world.proofs.LaunchViews.{known_at, known-launches, number-within, known_one, known_late, known_more}
use Rattle.fly_world.proofs.views.launches_before.Goals as goal
use Rattle.fly_world.proofs.views.launches_before.Goals.{then-stands_before+in_ok-known_before+in_ok-push, else-stands_before}

pub launched-launch-requires : goal.launched-launch-requires
launched-launch-requires c =
    let w = c.args.store.now.world in
    let exec = c.args.exec.now in
    let numbers = c.of_execution-numbers.result.now in
    subst (λ (a : AttemptLists). get_or numbers c.loop-number.number-index 0 < length a.launches)
    (sym c.attempts-in-loop-number.ensures)
    (number-within w c.args.end exec numbers
    (c.of_execution-numbers.ensures ∙ ap (λ (a : AttemptLists). numbers_of a exec) c.attempts.ensures)
    c.loop-number.number-index c.loop-number-test.true)

pub loop-number-preserved : goal.loop-number-preserved
loop-number-preserved c =
    let w = c.args.store.now.world in
    let numbers = c.of_execution-numbers.result.now in
    let i = c.loop-number.number-index in
    let all = c.loop-number.all.items in
    let number = get_or numbers i 0 in
    let launch = c.launched-launch.result.now in
    let there = sym (ap (λ (a : AttemptLists). slice_get a.launches number) c.attempts-in-loop-number.ensures)
    ∙ c.launched-launch.ensures in
    elim c.if-stands_before.branch [
      | then-stands_before+in_ok-known_before+in_ok-push b ↦
          known_more w c.args.end numbers i all _ _ c.loop-number-test.true c.loop-number.invariant
          (known_one w c.args.end number launch there (sym c.stands_before.ensures ∙ b.if-stands_before.true))
          (ap (λ v. v.items) b.all-is ∙ b.in_ok-push.ensures.items
          ∙ ap (λ k. all ++ k ∷ []) b.in_ok-known_before.ensures)
      | else-stands_before b ↦
          known_more w c.args.end numbers i all _ None c.loop-number-test.true c.loop-number.invariant
          (known_late w c.args.end number launch there (sym c.stands_before.ensures ∙ b.if-stands_before.false))
          (ap (λ v. v.items) b.all-is ∙ sym (append-nil all))
    ]

pub returns : goal.returns
returns c =
    let w = c.args.store.now.world in
    let numbers = c.of_execution-numbers.result.now in
    let known = filter_map (known_at w c.args.end) in
    c.from_vec.ensures.value ∙ c.loop-number.invariant
    ∙ ap known (take_all c.loop-number.number-index numbers (omega arith))
    ∙ ap known (c.of_execution-numbers.ensures
    ∙ ap (λ (a : AttemptLists). numbers_of a c.args.exec.now) c.attempts.ensures)
    ∙ known-launches w c.args.end c.args.exec.now
