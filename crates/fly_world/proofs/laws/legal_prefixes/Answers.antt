use Rattle.fly_world.proofs.JournalLemmas.{history-prefix}
use Rattle.fly_world.proofs.laws.legal_prefixes.Goals as goal

pub returns : goal.returns
returns c plan closure front back w history = history-prefix plan closure front back w history
