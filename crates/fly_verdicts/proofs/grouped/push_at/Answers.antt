use Rattle.std.proofs.Common.{◌<◌, length, Some, ap, subst, sym, ◌∙◌}
use Rattle.std.proofs.lemmas.Option.{slice_get-get_or}
use Rattle.fly_verdicts.proofs.GroupLemmas.{item-pushed}
use Rattle.fly_verdicts.proofs.grouped.push_at.Goals as goal

pub returns : goal.returns
returns g c =
    let table = c.args.table.now.items in
    let v = c.index_mut.result.now in
    let within : c.args.number < length table = subst (λ n. c.args.number < n) c.args.table.now.ok.0 c.requires in
    item-pushed c.args.number c.args.item table v c.push.new.self within
    (slice_get-get_or table c.args.number v within ∙ ap Some (sym c.index_mut.ensures.value)) c.in_ok-push.ensures.items
