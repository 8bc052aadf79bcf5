use Rattle.std.proofs.Common.{◌≡◌, ◌++◌, map, take, filter}
use Rattle.std.specs.Prelude.{not}
use Rattle.fly_faults.specs.declared.fault.Code.TheVariants as code
use Rattle.fly_faults.specs.NodeFaults.{is_node_or_start}
use Rattle.fly_faults.specs.Places.{fault_with}
use Rattle.fly_compile.proofs.node_checks.push_upstream_faults.Given as goal

abbrev pub invariant-loop-id : goal.invariant-loop-id
invariant-loop-id l =
    l.faults.items ≡ l.initial.faults.items
    ++ map (λ id. fault_with code.NodeNotFound l.place id) (filter (λ id. not (is_node_or_start l.layout id)) (take l.id-index l.upstream))
