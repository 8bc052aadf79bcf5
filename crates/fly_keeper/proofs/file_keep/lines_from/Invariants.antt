use Rattle.std.proofs.Common.{◌≡◌, ◌++◌, drop}
use Rattle.fly_keeper.specs.JournalText.{journal_text}
use Rattle.fly_keeper.proofs.file_keep.lines_from.Given as goal

abbrev pub invariant-loop-place : goal.invariant-loop-place
invariant-loop-place l =
    l.text.items ++ journal_text l.p (drop l.place l.w.world.entries) ≡ journal_text l.p (drop l.from l.w.world.entries)
