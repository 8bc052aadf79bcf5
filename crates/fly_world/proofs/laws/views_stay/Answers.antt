use Rattle.fly_world.proofs.ViewLemmas.{views-stay}
use Rattle.fly_world.proofs.laws.views_stay.Goals as goal

pub returns : goal.returns
returns c plan closure journal entries w mid new e exec base version moves y history made leads there =
    views-stay plan closure journal w history mid new e exec base version moves entries made leads y there
