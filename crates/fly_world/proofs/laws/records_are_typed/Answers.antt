use Rattle.fly_world.proofs.TypeLemmas.{history-typed}
use Rattle.fly_world.proofs.laws.records_are_typed.Goals as goal

pub returns : goal.returns
returns c plan closure journal w history = history-typed plan closure journal w history
