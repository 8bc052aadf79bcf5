use Rattle.fly_cast.proofs.Casts.{is_castable-itself}
use Rattle.fly_cast.proofs.Converts.{conversion_of-itself}
use Rattle.fly_cast.proofs.laws.equal_types_change_nothing.Goals as goal

pub returns-clause-castable : goal.returns-clause-castable
returns-clause-castable c = is_castable-itself

pub returns-clause-converted : goal.returns-clause-converted
returns-clause-converted c = conversion_of-itself
