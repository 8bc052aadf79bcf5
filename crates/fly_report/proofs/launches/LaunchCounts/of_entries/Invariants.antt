use Rattle.std.proofs.Common.{◌≡◌, ◌+◌, ◌≤◌, drop}
use Rattle.fly_world.specs.ReadOff.{launched_in}
use Rattle.fly_report.specs.declared.launches.Slot.{Slot}
use Rattle.fly_report.specs.LaunchCounts.{count_in, count_at}
use Rattle.fly_report.proofs.launches.LaunchCounts.of_entries.Given as goal

-- the launches so far and those that are left are those of the journal, and there are no more than entries so far
abbrev pub invariant-loop-place : goal.invariant-loop-place
invariant-loop-place l =
    (slot : Slot) →
    (count_in l.launches slot + count_at l.p l.numbers slot (launched_in (drop l.place l.w.world.entries))
    ≡ count_at l.p l.numbers slot (launched_in l.w.world.entries))
    × (count_in l.launches slot ≤ l.place)
