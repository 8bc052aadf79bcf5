use Rattle.fly_cast.proofs.Casts.{is_castable-step}
use Rattle.fly_cast.proofs.Converts.{conversion_of-step}
use Rattle.fly_cast.proofs.Fits.{fitting_of-step}
use Rattle.fly_cast.proofs.laws.rules_decide.Goals as goal

pub returns-clause-castable : goal.returns-clause-castable
returns-clause-castable c = is_castable-step

pub returns-clause-converted : goal.returns-clause-converted
returns-clause-converted c = conversion_of-step

pub returns-clause-fits : goal.returns-clause-fits
returns-clause-fits c = fitting_of-step
