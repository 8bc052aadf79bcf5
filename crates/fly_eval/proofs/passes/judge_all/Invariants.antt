use Rattle.std.proofs.Common.{ℕ, ◌<◌, get_or}
use Rattle.fly_eval.specs.Evaluation.{whole_sight}
use Rattle.fly_eval.specs.Judging.{IsPass, TellsNode}
use Rattle.fly_eval.proofs.passes.judge_all.Given as goal

abbrev pub invariant-loop-number : goal.invariant-loop-number
invariant-loop-number l = record {
  holds : IsPass l.plan l.inputs l.pass;
  done : (j : ℕ) → j < l.number-index
      → TellsNode l.plan l.records.results.now l.records.hits.now (whole_sight l.plan l.inputs l.records.results.now l.records.hits.now) l.pass
      (get_or l.number-items j 0);
}
