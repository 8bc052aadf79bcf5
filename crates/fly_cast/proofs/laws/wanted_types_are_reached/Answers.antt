use Rattle.fly_cast.proofs.Targets.{conversion_of-member}
use Rattle.fly_cast.proofs.Fits.{fitted-member}
use Rattle.fly_cast.proofs.Sounds.{conversion_of-sound, fitted-sound}
use Rattle.fly_cast.proofs.laws.wanted_types_are_reached.Goals as goal

pub returns-clause-converted : goal.returns-clause-converted
returns-clause-converted c = conversion_of-member

pub returns-clause-converted_sound : goal.returns-clause-converted_sound
returns-clause-converted_sound c = conversion_of-sound

pub returns-clause-fitted : goal.returns-clause-fitted
returns-clause-fitted c = fitted-member

pub returns-clause-fitted_sound : goal.returns-clause-fitted_sound
returns-clause-fitted_sound c = fitted-sound
