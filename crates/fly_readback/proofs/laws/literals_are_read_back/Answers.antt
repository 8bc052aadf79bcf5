use Rattle.fly_readback.proofs.LiteralLaws.{literals_are_read_back}
use Rattle.fly_readback.proofs.laws.literals_are_read_back.Goals as goal

pub returns : goal.returns
returns c = literals_are_read_back
