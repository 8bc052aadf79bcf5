-- The text of a journal.
use Rattle.std.specs.Prelude.{ℕ, List, flat_map}
use Rattle.fly_state.specs.declared.entries.Entry.{Entry}
use Rattle.fly_state.specs.Plans.{RunPlan}
use Rattle.fly_journal.specs.Lines.{line_text}

-- the lines of the entries, one behind another
abbrev pub journal_text : RunPlan → List Entry → List ℕ
journal_text plan entries = flat_map (line_text plan) entries
