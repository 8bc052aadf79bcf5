use Rattle.fly_world.proofs.WriteLemmas.{write-round}
use Rattle.fly_world.proofs.laws.writes_are_rounds.Goals as goal

pub returns : goal.returns
returns c plan w new worker exec base version moves s = write-round plan w exec base version moves new worker s
