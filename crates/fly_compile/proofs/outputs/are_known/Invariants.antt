use Rattle.std.proofs.Common.{◌≡◌, true, take, is_some}
use Rattle.std.specs.List.{list_all}
use Rattle.fly_compile.specs.Outputs.{outputs_value}
use Rattle.fly_compile.proofs.outputs.are_known.Given as goal

abbrev pub invariant-loop-outputs : goal.invariant-loop-outputs
invariant-loop-outputs l = list_all (λ o. is_some (outputs_value o)) (take l.outputs-index l.lists) ≡ true
