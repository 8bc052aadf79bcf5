use Rattle.std.specs.Prelude.{not}
use Rattle.fly_faults.specs.declared.fault.Code.TheVariants as code
use Rattle.fly_faults.specs.NodeFaults.{is_node_or_start}
use Rattle.fly_faults.specs.Places.{fault_with}
use Rattle.fly_faults.proofs.Loops.{filtered_more, else_first}
use Rattle.fly_compile.proofs.node_checks.push_upstream_faults.Goals as goal

pub loop-id-preserved : goal.loop-id-preserved
loop-id-preserved c =
    filtered_more (λ id. not (is_node_or_start c.args.layout.now id)) (λ id. fault_with code.NodeNotFound c.args.place.now id)
    _ _ c.id-item.result _ _ _ c.loop-id-test.true c.id-item.is c.loop-id.invariant
    (else_first (is_node_or_start c.args.layout.now c.id-item.result) _ _ _ c.in_ok-push_upstream_fault.ensures)
