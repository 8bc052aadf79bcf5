use Rattle.std.proofs.Common.{◌≡◌, ℕ, length, take, position, Some}
use Rattle.std.specs.List.{slice_get}
use Rattle.fly_docs.specs.Plans.{PlanNode}
use Rattle.fly_state.specs.Plans.{node_numbered}
use Rattle.fly_round.specs.Attempts.{is_present}
use Rattle.fly_round.proofs.attempts.attempts_of.Given as goal

abbrev pub invariant-loop-place : goal.invariant-loop-place
invariant-loop-place l = record {
  long : length l.attempts.items ≡ length l.plan.nodes;
  noted : (i : ℕ) (p : PlanNode) → node_numbered l.plan i ≡ Some p
      → slice_get l.attempts.items i ≡ Some (position (is_present l.v i p) (take l.place l.v.launches));
}
