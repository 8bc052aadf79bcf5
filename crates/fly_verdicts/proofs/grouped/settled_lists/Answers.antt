use Rattle.std.proofs.Common.{◌+◌, ◌∷◌, ◌++◌, [], take, length, sym, ap, ◌∙◌}
use Rattle.fly_verdicts.specs.Grouped.{lists_of, settled_at}
use Rattle.fly_verdicts.proofs.GroupLemmas.{lists-alike, settled-more, take-next}
use Rattle.fly_verdicts.proofs.grouped.settled_lists.Goals as goal

pub loop-place-preserved : goal.loop-place-preserved
loop-place-preserved c =
    let numbers = c.args.numbers.now in
    let w = c.args.world.now.world in
    let es = w.entries in
    let e = c.entry.result.now in
    let at = c.loop-place.place in
    lists-alike 0 (length w.executions) (λ i. settled_at numbers i (take at es) ++ settled_at numbers i (e ∷ []))
    (λ i. settled_at numbers i (take (at + 1) es)) (lists_of c.add_settled.new.table.items)
    (λ i. settled-more numbers i (take at es) e ∙ ap (settled_at numbers i) (sym (take-next es at e c.entry.ensures)))
    (c.in_ok-add_settled.ensures (length w.executions) (λ i. settled_at numbers i (take at es)) c.loop-place.invariant)
