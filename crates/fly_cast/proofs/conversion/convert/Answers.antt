use Rattle.fly_cast.proofs.Sounds.{answers-sound}
use Rattle.fly_cast.proofs.Targets.{answers-member}
use Rattle.fly_cast.proofs.conversion.convert.Goals as goal

pub returns-clause-target : goal.returns-clause-target
returns-clause-target c = answers-member _ _ _ _ c.requires.member c.requires.castable c.convert_by_steps.ensures

pub returns-clause-sound : goal.returns-clause-sound
returns-clause-sound c = answers-sound _ _ _ _ c.requires.member c.requires.castable c.convert_by_steps.ensures
