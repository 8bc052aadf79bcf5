use Rattle.std.proofs.Common.{◌≡◌}
use Rattle.fly_rules.specs.Rules.{look_edges}
use Rattle.fly_state.specs.Sites.{looks_at}
use Rattle.fly_state.proofs.looks.order_of.Given as goal

abbrev pub invariant-loop-number : goal.invariant-loop-number
invariant-loop-number l = l.edges.items ≡ look_edges (looks_at l.sites) l.number
