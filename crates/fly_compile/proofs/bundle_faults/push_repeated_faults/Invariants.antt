use Rattle.std.proofs.Common.{◌≡◌, ◌++◌, map, take}
use Rattle.fly_faults.specs.declared.fault.Code.TheVariants as code
use Rattle.fly_faults.specs.Places.{element_place, fault_at}
use Rattle.fly_compile.proofs.bundle_faults.push_repeated_faults.Given as goal

abbrev pub invariant-loop-index : goal.invariant-loop-index
invariant-loop-index l =
    l.faults.items ≡ l.initial.faults.items ++ map (λ i. fault_at code.DuplicateId (element_place l.list i)) (take l.index-index l.repeated)
