use Rattle.std.proofs.Common.{◌<◌, length, Some, ap, subst, sym, ◌∙◌}
use Rattle.std.proofs.lemmas.Option.{slice_get-get_or}
use Rattle.fly_verdicts.proofs.GroupLemmas.{list-taken}
use Rattle.fly_verdicts.proofs.grouped.take_list.Goals as goal

pub returns : goal.returns
returns g c = λ count of has.
    let table = c.args.table.now.items in
    let v = c.index_mut.result.now in
    let within : c.args.number < length table = subst (λ n. c.args.number < n) c.args.table.now.ok.0 c.requires in
    let taken = list-taken c.args.number table v c.replace-list.new.dest within
    (slice_get-get_or table c.args.number v within ∙ ap Some (sym c.index_mut.ensures.value)) count of has in
    (c.from_vec.ensures.value ∙ ap (λ u. u.items) c.replace-list.ensures.value ∙ taken.0, taken.1)
