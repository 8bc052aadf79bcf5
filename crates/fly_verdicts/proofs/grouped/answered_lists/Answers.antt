use Rattle.std.proofs.Common.{◌+◌, ◌∷◌, ◌++◌, [], take, length, sym, ap, ◌∙◌}
use Rattle.fly_verdicts.specs.Grouped.{lists_of, answered_at}
use Rattle.fly_verdicts.proofs.GroupLemmas.{lists-alike, answered-more, take-next}
use Rattle.fly_verdicts.proofs.grouped.answered_lists.Goals as goal

pub loop-place-preserved : goal.loop-place-preserved
loop-place-preserved c =
    let numbers = c.args.numbers.now in
    let w = c.args.world.now.world in
    let es = w.entries in
    let e = c.entry.result.now in
    let at = c.loop-place.place in
    lists-alike 0 (length w.executions)
    (λ i. answered_at es numbers i (take at es) ++ answered_at es numbers i (e ∷ []))
    (λ i. answered_at es numbers i (take (at + 1) es)) (lists_of c.add_answered.new.table.items)
    (λ i. answered-more numbers es i (take at es) e
    ∙ ap (answered_at es numbers i) (sym (take-next es at e c.entry.ensures)))
    (c.in_ok-add_answered.ensures (length w.executions)
    (λ i. answered_at es numbers i (take at es)) c.loop-place.invariant)
