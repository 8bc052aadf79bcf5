use Rattle.fly_world.proofs.ShapeLemmas.{history-shaped}
use Rattle.fly_world.proofs.laws.versions_are_shaped.Goals as goal

pub returns : goal.returns
returns c plan closure journal w history = history-shaped plan closure journal w history
