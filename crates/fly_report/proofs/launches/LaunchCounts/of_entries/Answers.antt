use Rattle.std.proofs.Common.{arith}
use Rattle.fly_report.proofs.LaunchLemmas.{count-next, count-few}
use Rattle.fly_report.proofs.launches.LaunchCounts.of_entries.Goals as goal

pub add_entry-requires : goal.add_entry-requires
add_entry-requires c = λ slot. omega (arith, (c.loop-place.invariant slot).1)

pub loop-place-preserved : goal.loop-place-preserved
loop-place-preserved c = λ slot.
    let plan = c.args.p.now in
    let numbers = c.args.numbers.now in
    let es = c.args.w.now.world.entries in
    let e = c.entry.result.now in
    let here = c.loop-place.invariant slot in
    let next = count-next plan numbers slot es c.loop-place.place e c.entry.ensures in
    let more = c.in_ok-add_entry.ensures slot in
    let few = count-few plan numbers slot e in
    (omega (arith, here.0, next, more), omega (arith, here.1, few, more))
