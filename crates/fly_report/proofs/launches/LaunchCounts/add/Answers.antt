use Rattle.std.proofs.Common.{◌+◌, Some, subst}
use Rattle.std.specs.BTreeMap.{Updates}
use Rattle.fly_report.specs.LaunchCounts.{slot_cmp}
use Rattle.fly_report.proofs.SlotLemmas.{counted-more}
use Rattle.fly_report.proofs.launches.LaunchCounts.add.Goals as goal

pub returns : goal.returns
returns c = λ q.
    let old = c.args.self.now.counts in
    counted-more old c.insert.new.self c.args.slot q
    (subst (λ n. Updates slot_cmp old c.insert.new.self c.args.slot (Some (n + 1))) c.at-count.ensures
    c.in_ok-insert.ensures.updates)
