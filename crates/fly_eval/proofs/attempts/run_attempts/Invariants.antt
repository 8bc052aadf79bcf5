use Rattle.std.proofs.Common.{◌≡◌, ◌+◌, ◌-◌, ◌≤◌, Some}
use Rattle.fly_docs.specs.Plans.{PlanNode}
use Rattle.fly_state.specs.Moves.{attempt_limit}
use Rattle.fly_state.specs.Plans.{node_numbered}
use Rattle.fly_eval.specs.Attempts.{attempts_from, attempts_of}
use Rattle.fly_eval.specs.Evaluation.{node_slot}
use Rattle.fly_eval.proofs.attempts.run_attempts.Given as goal

abbrev pub invariant-attempts : goal.invariant-attempts
invariant-attempts l = record {
  below : l.attempt ≤ l.retries;
  rest : (p : PlanNode) → node_numbered l.plan l.number ≡ Some p
      → attempts_of l.records.results.now (node_slot p) (attempt_limit l.plan p)
      ≡ attempts_from (l.retries + 1 - l.attempt) l.records.results.now (node_slot p) (l.retries + 1) l.attempt;
}

abbrev pub decreases-attempts : goal.decreases-attempts
decreases-attempts l = l.retries + 1 - l.attempt
