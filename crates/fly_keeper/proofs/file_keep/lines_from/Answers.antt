use Rattle.std.proofs.Common.{subst}
use Rattle.fly_state.specs.Plans.{RunPlan}
use Rattle.fly_journal.specs.Lines.{HasLine}
use Rattle.fly_keeper.proofs.LineLemmas.{lines-more, line-there}
use Rattle.fly_keeper.proofs.file_keep.lines_from.Goals as goal

pub write_line-requires : goal.write_line-requires
write_line-requires c =
    let w = c.args.w.now in
    let lines = c.legal_entries_have_lines.ensures w.plan w.closure w.world.entries w.world c.legal_journal.ensures in
    subst (λ (plan : RunPlan). HasLine plan c.entry.result.now) c.requires.own
    (line-there w.plan w.world.entries c.loop-place.place c.entry.result.now lines c.entry.ensures)

pub loop-place-preserved : goal.loop-place-preserved
loop-place-preserved c =
    rw (c.in_ok-extend_from_slice.ensures.items, c.deref.ensures.value, c.in_ok-line.ensures)
    (lines-more c.args.p.now c.loop-place.text.items _ c.args.w.now.world.entries c.loop-place.place c.entry.result.now
    c.entry.ensures c.loop-place.invariant)
