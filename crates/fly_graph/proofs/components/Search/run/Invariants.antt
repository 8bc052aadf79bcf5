use Rattle.fly_graph.specs.Components.{state_of, IsSearch, KeepsSeen, work_left}
use Rattle.fly_graph.proofs.components.Search.run.Given as goal

abbrev pub invariant-loop-bound : goal.invariant-loop-bound
invariant-loop-bound l = record {
  search : IsSearch l.adjacency.count l.adjacency.edges.items (state_of l.self);
  seen : KeepsSeen (state_of l.fn.self) (state_of l.self);
}

abbrev pub decreases-loop-bound : goal.decreases-loop-bound
decreases-loop-bound l = work_left l.adjacency.edges.items (state_of l.self)
