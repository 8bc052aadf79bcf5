use Rattle.std.proofs.Common.{arith, rules}
use Rattle.std.proofs.lemmas.Grind.{common_steps}
use Rattle.base64.specs.GeneralPurpose.{decoded_of}
use Rattle.fly_scalars.proofs.binary.decoded.Goals as goal

pub returns-in-Ok : goal.returns-in-Ok
unfolding decoded_of
returns-in-Ok c = first_of (search rules, grind (arith, common_steps))

pub returns-in-Err-DecodeError : goal.returns-in-Err-DecodeError
unfolding decoded_of
returns-in-Err-DecodeError c = first_of (search rules, grind (arith, common_steps))
