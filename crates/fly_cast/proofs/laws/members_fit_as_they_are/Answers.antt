use Rattle.fly_cast.proofs.Fits.{fitting_of-itself}
use Rattle.fly_cast.proofs.laws.members_fit_as_they_are.Goals as goal

pub returns : goal.returns
returns c = fitting_of-itself
