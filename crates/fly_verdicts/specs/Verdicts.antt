-- What verdicts are called in what is printed, as the phases are in which a run tells them, and what stands behind their
-- words.
use Rattle.std.specs.Prelude.{ℕ, Bool, true, false, List, [], codes, Option, Some, None}
use Rattle.fly_types.specs.declared.text.Text.{Text}
use Rattle.fly_types.specs.declared.literals.Literal.{Literal}
use Rattle.fly_state.specs.Moves.{timeout_code}
use Rattle.fly_eval.specs.declared.verdict.Verdict.{Verdict}
use Rattle.fly_eval.specs.declared.verdict.Verdict.TheVariants as verdict

abbrev pub verdict_name : Verdict → List ℕ
verdict_name verdict.Pending = codes "PENDING"
verdict_name verdict.Blocked = codes "NOT_YET_STARTED"
verdict_name verdict.Skipped = codes "SKIPPED"
verdict_name (verdict.Failed code) = codes "FAILED"
verdict_name verdict.TimedOut = codes "TIMED_OUT"
verdict_name (verdict.Succeeded outputs) = codes "SUCCEEDED"

-- why it failed, by itself or by its time
abbrev pub verdict_code : Verdict → Option Text
verdict_code (verdict.Failed code) = Some code
verdict_code verdict.TimedOut = Some timeout_code
verdict_code _ = None

-- the literals that were put out
abbrev pub verdict_outputs : Verdict → List (Text × Literal)
verdict_outputs (verdict.Succeeded outputs) = outputs.entries
verdict_outputs _ = []

abbrev pub is_success : Verdict → Bool
is_success (verdict.Succeeded outputs) = true
is_success _ = false
