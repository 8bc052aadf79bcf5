use Rattle.std.proofs.Common.{◌≡◌, replicate, length}
use Rattle.fly_state.specs.States.{fresh_node}
use Rattle.fly_eval.proofs.passes.first_pass.Given as goal

abbrev pub invariant-loop : goal.invariant-loop
invariant-loop l = (l.nodes.items ≡ replicate l.counter fresh_node) × (length l.seen.items ≡ l.counter)
