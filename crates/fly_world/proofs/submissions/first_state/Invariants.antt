use Rattle.std.proofs.Common.{◌≡◌, map, take}
use Rattle.fly_docs.specs.Plans.{PlanNode}
use Rattle.fly_state.specs.States.{fresh_node}
use Rattle.fly_world.proofs.submissions.first_state.Given as goal

abbrev pub invariant-loop : goal.invariant-loop
invariant-loop l = l.nodes.items ≡ map (λ (p : PlanNode). fresh_node) (take l.counter l.plan.nodes)
