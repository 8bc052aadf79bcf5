use Rattle.std.proofs.Common.{◌-◌, length}
use Rattle.fly_graph.specs.Orders.{graph_of}
use Rattle.fly_graph.proofs.OrderSteps.{IsScheduled}
use Rattle.fly_graph.proofs.orders.least_free_first.Given as goal

abbrev pub invariant-loop-v : goal.invariant-loop-v
invariant-loop-v l = IsScheduled (graph_of l.adjacency.count l.adjacency.edges.items) l.missing.items l.free l.order.items

abbrev pub decreases-loop-v : goal.decreases-loop-v
decreases-loop-v l = l.adjacency.count - length l.order.items
