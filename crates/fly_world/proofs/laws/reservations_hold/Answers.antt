use Rattle.fly_world.proofs.ReservationLemmas.{passes-on}
use Rattle.fly_world.proofs.laws.reservations_hold.Goals as goal

pub returns : goal.returns
returns c plan w new e d tag r s there = passes-on plan w d tag r there new e s
