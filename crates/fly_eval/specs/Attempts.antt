-- The attempts of a slot by their results: one after another, as long as the last one calls for another.
use Rattle.std.specs.Prelude.{ℕ, zero, suc, ◌+◌, [], Option, Some, None, unwrap_or}
use Rattle.fly_types.specs.declared.literals.LiteralMap.{LiteralMap}
use Rattle.fly_policy.specs.declared.outcome.Outcome.{Outcome}
use Rattle.fly_policy.specs.declared.retries.Next.{Next}
use Rattle.fly_policy.specs.declared.retries.Next.TheVariants as next
use Rattle.fly_policy.specs.Retries.{next_of}
use Rattle.fly_state.specs.Moves.{outputs_of_outcome, code_of_outcome}
use Rattle.fly_eval.specs.declared.verdict.Verdict.{Verdict}
use Rattle.fly_eval.specs.declared.verdict.Verdict.TheVariants as verdict
use Rattle.fly_eval.specs.declared.results.Results.{Results}
use Rattle.fly_eval.specs.Results.{Slot, result_of}

-- What the attempts of a slot come to, and how many of them there are.
pub record Attempts : Type 0 where
  pub verdict : Verdict
  pub count : ℕ

-- no outputs, where there should be some
abbrev pub no_outputs : LiteralMap
no_outputs = record { entries = [] }

-- the last attempt made, of this number, with its outcome; `more` is what comes of the next one
abbrev pub after_outcome : ℕ → Outcome → Next → Attempts → Attempts
after_outcome k o next.Done more = record { verdict = verdict.Succeeded (unwrap_or (outputs_of_outcome o) no_outputs); count = k + 1 }
after_outcome k o next.Failed more = record { verdict = verdict.Failed (unwrap_or (code_of_outcome o) []); count = k + 1 }
after_outcome k o next.TimedOut more = record { verdict = verdict.TimedOut; count = k + 1 }
after_outcome k o next.Again more = more

-- the attempt of a number, and with so many more to go those behind it: without a result it is awaited
unfoldable pub attempts_from : ℕ → Results → Slot → ℕ → ℕ → Attempts
attempts_from zero results slot limit k = record { verdict = verdict.Pending; count = k + 1 }
attempts_from (suc n) results slot limit k = by (result_of results slot k) (attempts_from n results slot limit (k + 1))
  where
    by : Option Outcome → Attempts → Attempts
    by None more = record { verdict = verdict.Pending; count = k + 1 }
    by (Some o) more = after_outcome k o (next_of o k limit) more

-- all attempts of a slot, of which there are at most so many
abbrev pub attempts_of : Results → Slot → ℕ → Attempts
attempts_of results slot limit = attempts_from limit results slot limit 0
