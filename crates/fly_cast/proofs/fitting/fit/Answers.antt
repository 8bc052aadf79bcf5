use Rattle.fly_cast.proofs.Fits.{answers-member}
use Rattle.fly_cast.proofs.Sounds.{answers-fit-sound}
use Rattle.fly_cast.proofs.fitting.fit.Goals as goal

pub returns-clause-target : goal.returns-clause-target
returns-clause-target c = answers-member _ _ _ c.fit_by_rule.ensures

pub returns-clause-sound : goal.returns-clause-sound
returns-clause-sound c = answers-fit-sound _ _ _ c.fit_by_rule.ensures
