use Rattle.std.proofs.Common.{◌≡◌, map, take}
use Rattle.serde_json.specs.Data.{string}
use Rattle.fly_writers.specs.Built.{elements_of}
use Rattle.fly_writers.proofs.message.texts_value.Given as goal

abbrev pub invariant-loop-text : goal.invariant-loop-text
invariant-loop-text l = elements_of l.values ≡ map string (take l.text-index l.texts)
