use Rattle.std.proofs.Common.{◌≡◌, ◌++◌, map, take, filter}
use Rattle.fly_faults.specs.declared.fault.Code.TheVariants as code
use Rattle.fly_faults.specs.BindingFaults.{is_no_node}
use Rattle.fly_faults.specs.Places.{fault_with}
use Rattle.fly_compile.specs.Promises.{known}
use Rattle.fly_compile.proofs.binding_faults.push_node_faults.Given as goal

abbrev pub invariant-loop-promise : goal.invariant-loop-promise
invariant-loop-promise l =
    l.faults.items ≡ l.initial.faults.items
    ++ map (λ promise. fault_with code.NodeNotFound l.place (known promise).0.0) (filter (λ promise. is_no_node (known promise).1) (take l.promise-index l.promises))
