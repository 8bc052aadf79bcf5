use Rattle.fly_world.proofs.KeptWorlds.{history-of_plan}
use Rattle.fly_world.proofs.laws.worlds_are_of_plan.Goals as goal

pub returns : goal.returns
returns c plan f closure journal w outer history = history-of_plan plan f outer closure journal w history
