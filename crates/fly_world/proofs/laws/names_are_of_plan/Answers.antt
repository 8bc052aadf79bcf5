use Rattle.fly_world.proofs.NameLemmas.{history-named}
use Rattle.fly_world.proofs.laws.names_are_of_plan.Goals as goal

pub returns : goal.returns
returns c plan closure journal w history = history-named plan closure journal w history
