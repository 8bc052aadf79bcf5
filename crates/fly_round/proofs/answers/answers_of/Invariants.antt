use Rattle.std.proofs.Common.{◌≡◌, ℕ, length, take, Some}
use Rattle.std.specs.List.{slice_get}
use Rattle.fly_docs.specs.Plans.{PlanNode}
use Rattle.fly_state.specs.Plans.{node_numbered}
use Rattle.fly_round.specs.Answers.{answers_in}
use Rattle.fly_round.specs.Moves.{told_of}
use Rattle.fly_round.proofs.answers.answers_of.Given as goal

abbrev pub invariant-loop-one : goal.invariant-loop-one
invariant-loop-one l = record {
  long : length l.answers.items ≡ length l.plan.nodes;
  noted : (i : ℕ) (p : PlanNode) → node_numbered l.plan i ≡ Some p
      → slice_get l.answers.items i ≡ Some (answers_in (told_of l.v (take l.one-index l.told) p));
}
