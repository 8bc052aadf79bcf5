use Rattle.fly_cast.proofs.Members.{is_of-Decides}
use Rattle.fly_cast.proofs.laws.membership_is_decided.Goals as goal

pub returns : goal.returns
returns c = is_of-Decides
