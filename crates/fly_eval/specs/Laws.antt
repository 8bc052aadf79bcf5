-- The law of evaluation: what is recorded later changes no verdict but one that was pending.
use Rattle.std.specs.Prelude.{◌≡◌, ℕ, false, List, ◌++◌, Contains, Option, Some}
use Rattle.fly_types.specs.declared.literals.LiteralMap.{LiteralMap}
use Rattle.fly_policy.specs.declared.outcome.Outcome.{Outcome}
use Rattle.fly_state.specs.Plans.{RunPlan, Path}
use Rattle.fly_eval.specs.declared.verdict.Verdict.{Verdict}
use Rattle.fly_eval.specs.declared.results.Results.{Results}
use Rattle.fly_eval.specs.declared.results.Hits.{Hits}
use Rattle.fly_eval.specs.declared.seen.Seen.{Seen}
use Rattle.fly_eval.specs.declared.seen.Evaluated.{Evaluated}
use Rattle.fly_eval.specs.Results.{Slot, result_of, hit_of}
use Rattle.fly_eval.specs.Evaluation.{is_pending, evaluation_of}

-- each attempt's outcome is among the later ones too
abbrev pub HasResultsOf : Results → Results → Type 0
HasResultsOf later results = (slot : Slot) (k : ℕ) (o : Outcome) → result_of results slot k ≡ Some o → result_of later slot k ≡ Some o

-- each answer of the catalog is among the later ones too
abbrev pub HasHitsOf : Hits → Hits → Type 0
HasHitsOf later hits = (path : Path) (answer : Option LiteralMap) → hit_of hits path ≡ Some answer → hit_of later path ≡ Some answer

-- a verdict that is not pending stays
abbrev pub IsKeptVerdict : Verdict → Verdict → Type 0
IsKeptVerdict before after = is_pending before ≡ false → after ≡ before

-- the same slot is told later, with its verdict kept, and with all its attempts first among the later ones
pub record IsKeptSeen (before after : Seen) : Type 0 where
  pub path : after.path ≡ before.path
  pub item : after.item ≡ before.item
  pub verdict : IsKeptVerdict before.verdict after.verdict
  pub attempts : (more : List LiteralMap) × (after.attempts ≡ before.attempts ++ more)

pub record IsKeptEvaluation (before after : Evaluated) : Type 0 where
  pub root : IsKeptVerdict before.root after.root
  pub list : (x : Seen) → Contains before.list x → (y : Seen) × Contains after.list y × IsKeptSeen x y

abbrev pub LaterRecordsKeepVerdicts : Type 0
LaterRecordsKeepVerdicts =
    (plan : RunPlan) (inputs : LiteralMap) (results later_results : Results) (hits later_hits : Hits)
    → HasResultsOf later_results results → HasHitsOf later_hits hits
    → IsKeptEvaluation (evaluation_of plan inputs results hits) (evaluation_of plan inputs later_results later_hits)
