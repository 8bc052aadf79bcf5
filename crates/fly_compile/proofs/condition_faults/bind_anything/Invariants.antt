use Rattle.std.proofs.Common.{◌≡◌, false, take}
use Rattle.std.specs.List.{list_any}
use Rattle.fly_docs.specs.declared.binding.Binding.{Binding}
use Rattle.fly_docs.specs.Bindings.{promises_of}
use Rattle.fly_faults.specs.BindingFaults.{is_anything}
use Rattle.fly_compile.specs.Scopes.{source_there}
use Rattle.fly_compile.proofs.condition_faults.bind_anything.Given as goal

abbrev pub invariant-loop-x : goal.invariant-loop-x
invariant-loop-x l =
    list_any (λ (x : Binding). list_any (λ promise. is_anything (source_there l.sources promise)) (promises_of x.bound)) (take l.x-index l.inputs) ≡ false
