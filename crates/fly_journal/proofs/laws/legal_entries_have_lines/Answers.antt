use Rattle.fly_world.specs.World.{empty_world}
use Rattle.fly_journal.proofs.LegalLines.{all_have_lines}
use Rattle.fly_journal.proofs.laws.legal_entries_have_lines.Goals as goal

pub returns : goal.returns
returns c plan closure journal w history = all_have_lines plan empty_world journal w history.leads
