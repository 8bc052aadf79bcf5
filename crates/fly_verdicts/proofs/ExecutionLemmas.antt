-- Executions by their numbers and by their names.
use Rattle.std.proofs.Common.{◌≡◌, ℕ, ◌==◌, false, List, map, length, bytes_eq, Option, Some, None, option_map, refl, sym, ap, ◌∙◌, arith}
use Rattle.std.specs.List.{slice_get}
use Rattle.std.specs.Option.{option_map_or}
use Rattle.std.proofs.lemmas.List.{length-map}
use Rattle.std.proofs.lemmas.List.Quantifiers.{position-Some}
use Rattle.std.proofs.lemmas.Option.{none-some, same_Some, slice_get-map}
use Rattle.std.proofs.lemmas.Slice.Eq.{bytes_eq-Decides}
use Rattle.fly_types.specs.declared.text.Text.{Text}
use Rattle.fly_docs.specs.declared.submission.Submission.{Submission}
use Rattle.fly_world.specs.Laws.{submission_of}
use Rattle.fly_world.specs.Versions.{HasNamesOfPlan, execution_names}
use Rattle.fly_world.specs.World.{World, Execution}
use Rattle.fly_state.specs.Plans.{RunPlan}
use Rattle.fly_report.specs.LaunchCounts.{Numbers, NumbersExecutions}
use Rattle.fly_report.proofs.Places.{own-place, distinct-place}
use Rattle.fly_verdicts.specs.Grouped.{HasNumbersBelow, is_number}

-- the execution of a number, whose submission is told
pub execution-at : (xs : List Execution) (i : ℕ) (s : Submission) → option_map submission_of (slice_get xs i) ≡ Some s
    → (x : Execution) × (slice_get xs i ≡ Some x) × (x.name ≡ s.name) × (x.inputs ≡ s.inputs)
execution-at xs i s submitted = by (slice_get xs i) refl submitted
  where
    by : (o : Option Execution) → slice_get xs i ≡ o → option_map submission_of o ≡ Some s
        → (x : Execution) × (slice_get xs i ≡ Some x) × (x.name ≡ s.name) × (x.inputs ≡ s.inputs)
    by None is submitted = absurd (none-some s submitted)
    by (Some x) is submitted =
        let same = same_Some _ _ submitted in
        (x, is, ap (λ (t : Submission). t.name) same, ap (λ (t : Submission). t.inputs) same)

pub name-at : (xs : List Execution) (i : ℕ) (s : Submission) → option_map submission_of (slice_get xs i) ≡ Some s
    → slice_get (map (λ (x : Execution). x.name) xs) i ≡ Some s.name
name-at xs i s submitted =
    let x = execution-at xs i s submitted in
    slice_get-map (λ (y : Execution). y.name) xs i ∙ ap (option_map (λ (y : Execution). y.name)) x.1 ∙ ap Some x.2

module _ (w : World) (numbers : Numbers) (numbered : NumbersExecutions w numbers) where
  -- each number is of an execution
  pub numbers-below : HasNumbersBelow (length w.executions) numbers
  numbers-below exec i is =
      let found = position-Some (bytes_eq exec) (execution_names w) i exec (sym (numbered exec) ∙ is) in
      omega (arith, found, length-map w.executions (λ (x : Execution). x.name))

  -- a name is of the number of an execution where it is the execution's own
  pub is-own : (plan : RunPlan) → HasNamesOfPlan plan w → (i : ℕ) (x : Execution) → slice_get w.executions i ≡ Some x
      → (exec : Text) → is_number numbers i exec ≡ bytes_eq exec x.name
  is-own plan names i x execution exec =
      let ks : List Text = execution_names w in
      let there : slice_get ks i ≡ Some x.name =
      slice_get-map (λ (y : Execution). y.name) w.executions i
      ∙ ap (option_map (λ (y : Execution). y.name)) execution in
      ap (λ o. option_map_or (λ j. j == i) o false) (numbered exec)
      ∙ own-place bytes_eq bytes_eq-Decides (λ k. k) ks i x.name there
      (distinct-place bytes_eq bytes_eq-Decides ks names.distinct i x.name there) exec
