use Rattle.fly_world.proofs.TellLemmas.{history-tells}
use Rattle.fly_world.proofs.laws.worlds_tell_journals.Goals as goal

pub returns : goal.returns
returns c plan closure journal w history = history-tells plan closure journal w history
