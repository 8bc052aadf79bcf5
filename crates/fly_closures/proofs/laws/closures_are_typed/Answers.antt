use Rattle.fly_closures.proofs.ClosureLaw.{closures_are_typed}
use Rattle.fly_closures.proofs.laws.closures_are_typed.Goals as goal

pub returns : goal.returns
returns c = closures_are_typed
