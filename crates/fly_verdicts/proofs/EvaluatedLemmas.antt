-- What an execution comes to over the lists of its number is what it comes to over what the journal records of its
-- name.
use Rattle.std.proofs.Common.{◌≡◌, ℕ, ◌<◌, List, length, Some, sym, subst, ◌∙◌, arith}
use Rattle.std.specs.Global.{Vec}
use Rattle.std.specs.List.{slice_get}
use Rattle.std.proofs.lemmas.List.{length-map}
use Rattle.fly_types.specs.declared.literals.LiteralMap.{LiteralMap}
use Rattle.fly_state.specs.Plans.{RunPlan}
use Rattle.fly_world.specs.World.{World, Execution}
use Rattle.fly_world.specs.Journals.{IsHistory}
use Rattle.fly_world.specs.Laws.{TellsJournal}
use Rattle.fly_world.specs.Versions.{HasNamesOfPlan, HasTypedRecords}
use Rattle.fly_world.proofs.TypeLemmas.{contained}
use Rattle.fly_report.specs.LaunchCounts.{Numbers, NumbersExecutions}
use Rattle.fly_eval.specs.declared.results.Results.{Results}
use Rattle.fly_eval.specs.declared.results.Hits.{Hits}
use Rattle.fly_eval.specs.declared.seen.Evaluated.{Evaluated}
use Rattle.fly_eval.specs.Evaluation.{evaluation_of}
use Rattle.fly_eval.specs.Records.{AreTypedRecords}
use Rattle.fly_history.specs.Laws.{recorded_evaluation}
use Rattle.fly_history.specs.Recorded.{recorded_results, recorded_hits}
use Rattle.fly_verdicts.specs.Grouped.{lists_of, HasListsFrom, settled_at, answered_at}
use Rattle.fly_verdicts.proofs.NamedLists.{settled-own, answered-own}
use Rattle.fly_verdicts.proofs.TypedRecords.{typed-records}

pub within-lists : {T : Type 0} (number count len : ℕ) (of : ℕ → List T) (table : List (Vec T)) → len ≡ length table
    → HasListsFrom number count of (lists_of table) → number < count → number < len
within-lists {T} number count len of table same has below =
    omega (arith, same, length-map table (λ (v : Vec T). v.items), has.0, below)

module _ (plan : RunPlan) (closure : List ℕ) (w : World) (history : IsHistory plan closure w.entries w)
    (names : HasNamesOfPlan plan w) (typed : HasTypedRecords plan w) (tells : TellsJournal w.entries w)
    (numbers : Numbers) (numbered : NumbersExecutions w numbers) (i : ℕ) (x : Execution)
    (execution : slice_get w.executions i ≡ Some x) (inputs : LiteralMap) (same : x.inputs ≡ inputs)
    (results : Results) (hits : Hits) (results_are : results.list ≡ settled_at numbers i w.entries)
    (hits_are : hits.list ≡ answered_at w.entries numbers i w.entries) where
  results-own : results ≡ recorded_results w.entries x.name
  results-own = λ t. record { list = (results_are ∙ settled-own w numbers numbered plan names i x execution) t }

  hits-own : hits ≡ recorded_hits w.entries x.name
  hits-own = λ t. record { list = (hits_are ∙ answered-own w numbers numbered plan names i x execution) t }

  pub are-typed : AreTypedRecords plan inputs results hits
  are-typed =
      subst (λ (m : LiteralMap). AreTypedRecords plan m results hits) same
      (subst (λ (r : Results). AreTypedRecords plan x.inputs r hits) (sym results-own)
      (subst (λ (h : Hits). AreTypedRecords plan x.inputs (recorded_results w.entries x.name) h) (sym hits-own)
      (typed-records plan closure w.entries w history typed tells x (contained w.executions i x execution))))

  pub evaluated-own : (e : Evaluated) → e ≡ evaluation_of plan inputs results hits
      → e ≡ recorded_evaluation plan w.entries x
  evaluated-own e is = is ∙ (λ t. evaluation_of plan (sym same t) (results-own t) (hits-own t))
