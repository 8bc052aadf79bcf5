-- The law of lines.
use Rattle.std.specs.Prelude.{ℕ, List, All}
use Rattle.fly_state.specs.declared.entries.Entry.{Entry}
use Rattle.fly_state.specs.Plans.{RunPlan}
use Rattle.fly_world.specs.World.{World}
use Rattle.fly_world.specs.Journals.{IsHistory}
use Rattle.fly_journal.specs.Lines.{HasLine}

-- each entry of a legal journal has a line
abbrev pub LegalEntriesHaveLines : Type 0
LegalEntriesHaveLines =
    (plan : RunPlan) (closure : List ℕ) (journal : List Entry) (w : World) → IsHistory plan closure journal w
    → All (HasLine plan) journal
