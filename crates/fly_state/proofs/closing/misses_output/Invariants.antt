use Rattle.std.proofs.Common.{◌≡◌, false, take}
use Rattle.std.specs.List.{list_any}
use Rattle.fly_docs.specs.declared.binding.Binding.{Binding}
use Rattle.fly_state.specs.Closing.{skips_one}
use Rattle.fly_state.specs.Looks.{promised_ids}
use Rattle.fly_state.proofs.closing.misses_output.Given as goal

abbrev pub invariant-loop-binding : goal.invariant-loop-binding
invariant-loop-binding l =
    list_any (λ (x : Binding). skips_one l.plan l.state (promised_ids x.bound)) (take l.binding-index l.outputs) ≡ false
