use Rattle.std.proofs.Common.{◌≡◌, map, take}
use Rattle.fly_docs.specs.declared.attempt_name.AttemptName.{AttemptName}
use Rattle.fly_policy.specs.declared.outcome.Outcome.{Outcome}
use Rattle.fly_eval.specs.Tables.{attempt_key}
use Rattle.fly_eval.proofs.tables.attempt_keys.Given as goal

abbrev pub invariant-loop-result : goal.invariant-loop-result
invariant-loop-result l = l.keys.items ≡ map (λ (r : AttemptName × Outcome). attempt_key l.plan r.0) (take l.result-index l.results)
