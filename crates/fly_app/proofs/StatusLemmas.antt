-- The status of a run whose executions are over.
use Rattle.std.proofs.Common.{◌≡◌, ◌≢◌, ◌⊎◌, ◌<◌, ◌+◌, ℕ, true, false, Bool, List, [], ◌∷◌, map, length, get_or, None, add-one, slice_get, All, Contains, Option, Some, option_map, refl, sym, ap, ◌∙◌, subst, inl, inr, arith}
use Rattle.std.proofs.lemmas.List.Elements.{All-nil, All-cons, All-head, All-tail, Contains-append_right}
use Rattle.fly_faults.proofs.Lists.{all_at, contains_at}
use Rattle.fly_ports.specs.Sink.{SinkState, Writes, FailsToWrite, Tries}
use Rattle.fly_state.specs.declared.phase.Phase.{Phase}
use Rattle.fly_state.specs.declared.phase.Phase.TheVariants as phase
use Rattle.fly_state.specs.declared.slots.ExecState.{ExecState}
use Rattle.fly_state.specs.Plans.{RunPlan}
use Rattle.fly_state.specs.States.{is_final}
use Rattle.fly_world.specs.declared.versions.Past.{Past}
use Rattle.fly_world.specs.Journals.{IsHistory}
use Rattle.fly_world.specs.Kept.{Kept, IsLegal}
use Rattle.fly_world.specs.Laws.{VersionsAreShaped}
use Rattle.fly_world.specs.ReadOff.{versions_of}
use Rattle.fly_world.specs.Versions.{is_root_phase, IsShaped}
use Rattle.fly_world.specs.World.{World, Execution, is_over, are_all_over}
use Rattle.fly_report.specs.Report.{report_text}
use Rattle.fly_app.specs.declared.status.Status.{Status}
use Rattle.fly_app.specs.declared.status.Status.TheVariants as statuses
use Rattle.fly_app.specs.Printing.{PrintsText}
use Rattle.fly_app.specs.Runs.{AllSucceed, OneFails, HasStatus}
use Rattle.fly_app.specs.Running.{PrintsReport}

-- ---- how an execution that is over ended

-- a root that is final has succeeded or failed
final-root : (f : Phase) → is_root_phase f ≡ true → is_final f ≡ true → f ≢ phase.Succeeded → f ≡ phase.Failed
final-root phase.NotYetStarted root final other = absurd (cc root)
final-root phase.Queued root final other = absurd (cc root)
final-root phase.Running root final other = absurd (cc final)
final-root phase.RetryableFailure root final other = absurd (cc root)
final-root phase.Succeeding root final other = absurd (cc root)
final-root phase.Succeeded root final other = absurd (other refl)
final-root phase.Failed root final other = refl
final-root phase.TimedOut root final other = absurd (cc root)
final-root phase.Skipped root final other = absurd (cc root)
final-root phase.Aborted root final other = absurd (cc root)

-- the current version is among the versions
current-version : (x : Execution) → Contains (versions_of x) x.state
current-version x = Contains-append_right (map (λ (p : Past). p.state) x.past) (x.state ∷ []) x.state
    (0, omega arith, refl)

module _ (law : VersionsAreShaped) (k : Kept) (legal : IsLegal k) (over : are_all_over k.world ≡ true) where
  -- an execution that did not succeed has failed
  pub one-fails : (i : ℕ) (s : ExecState)
      → option_map (λ (x : Execution). x.state) (slice_get k.world.executions i) ≡ Some s
      → s.root.phase ≢ phase.Succeeded → OneFails k.world
  one-fails i s is other = by (slice_get k.world.executions i) refl is
    where
      by : (o : Option Execution) → slice_get k.world.executions i ≡ o
          → option_map (λ (x : Execution). x.state) o ≡ Some s → OneFails k.world
      by None there is = absurd (cc is)
      by (Some x) there is =
          let state : x.state ≡ s = cc is in
          let has : Contains k.world.executions x = contains_at k.world.executions i x there in
          let shaped : IsShaped k.plan x.inputs x.state =
          law k.plan k.closure k.world.entries k.world legal x x.state has (current-version x) in (
            x,
            has,
            final-root x.state.root.phase shaped.root_phase (all_at is_over k.world.executions over x has)
                (λ same. other (ap (λ (v : ExecState). v.root.phase) (sym state) ∙ same)),
          )

  -- where each before the end has succeeded, all have
  pub all-succeed : ((i : ℕ) → i < length k.world.executions
      → (x : Execution) → slice_get k.world.executions i ≡ Some x → x.state.root.phase ≡ phase.Succeeded)
      → AllSucceed k.world
  all-succeed each = by k.world.executions each
    where
      by : (xs : List Execution)
          → ((i : ℕ) → i < length xs → (x : Execution) → slice_get xs i ≡ Some x → x.state.root.phase ≡ phase.Succeeded)
          → All (λ (x : Execution). x.state.root.phase ≡ phase.Succeeded) xs
      by [] each = All-nil (λ (x : Execution). x.state.root.phase ≡ phase.Succeeded)
      by (x ∷ xs) each =
          All-cons (λ (y : Execution). y.state.root.phase ≡ phase.Succeeded) x xs (each 0 (omega arith) x refl)
          (by xs (λ i within y there. each (i + 1) (omega arith) y (later i y there)))
        where
          later : (i : ℕ) (y : Execution) → slice_get xs i ≡ Some y → slice_get (x ∷ xs) (i + 1) ≡ Some y
          later i y there = rw (add-one i) there

-- ---- the report

-- it was printed, and the status is that of the store
pub reported : (plan : RunPlan) (w : World) (out new_out err new_err : SinkState) (text : List ℕ)
    (printed status : Status)
    → PrintsText out new_out err new_err text printed → text ≡ report_text plan w → printed ≡ statuses.Done
    → HasStatus w status
    → PrintsReport plan w out new_out err new_err status
reported plan w out new_out err new_err text printed status (inl prints) is done has =
    inl (has, subst (Writes out new_out) is prints.1, prints.2)
reported plan w out new_out err new_err text printed status (inr fails) is done has =
    let both : statuses.Done ≡ statuses.WriteFault = sym done ∙ fails.0 in absurd (cc both)

pub unreported : (plan : RunPlan) (w : World) (out new_out err new_err : SinkState) (text : List ℕ) (printed : Status)
    → PrintsText out new_out err new_err text printed → text ≡ report_text plan w → printed ≢ statuses.Done
    → PrintsReport plan w out new_out err new_err printed
unreported plan w out new_out err new_err text printed (inl prints) is other = absurd (other prints.0)
unreported plan w out new_out err new_err text printed (inr fails) is other =
    inr (inl (fails.0, subst (FailsToWrite out new_out) is fails.1, fails.2))
