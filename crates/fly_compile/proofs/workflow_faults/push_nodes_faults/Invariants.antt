use Rattle.std.proofs.Common.{◌≡◌, ℕ, ◌++◌, take}
use Rattle.std.specs.Borrow.{Bor}
use Rattle.std.specs.List.{flat_map, enumerate_from}
use Rattle.fly_docs.specs.declared.node.Node.{Node}
use Rattle.fly_faults.specs.NodeFaults.{faults_of_node}
use Rattle.fly_compile.proofs.workflow_faults.push_nodes_faults.Given as goal

abbrev pub invariant-loop-index : goal.invariant-loop-index
invariant-loop-index l =
    l.faults.items ≡ l.initial.faults.items
    ++ flat_map (λ (at : ℕ × Bor Node). faults_of_node l.sources.bundle l.sources.workflow at.0 at.1.now) (enumerate_from 0 (take l.index l.nodes))
