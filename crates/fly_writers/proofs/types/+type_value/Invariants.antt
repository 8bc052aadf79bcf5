use Rattle.std.proofs.Common.{◌≡◌, map, take}
use Rattle.fly_writers.specs.Built.{elements_of}
use Rattle.fly_writers.specs.Types.{type_json}
use Rattle.fly_writers.proofs.types.+type_value.Given as goal

abbrev pub invariant-types_value-loop-kind : goal.invariant-types_value-loop-kind
invariant-types_value-loop-kind l = elements_of l.values ≡ map type_json (take l.kind-index l.kinds)
