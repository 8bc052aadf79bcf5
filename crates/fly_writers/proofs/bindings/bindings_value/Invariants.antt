use Rattle.std.proofs.Common.{◌≡◌, map, take}
use Rattle.fly_writers.specs.Built.{elements_of}
use Rattle.fly_writers.specs.Bindings.{binding_json}
use Rattle.fly_writers.proofs.bindings.bindings_value.Given as goal

abbrev pub invariant-loop-binding : goal.invariant-loop-binding
invariant-loop-binding l = elements_of l.values ≡ map binding_json (take l.binding-index l.bindings)
