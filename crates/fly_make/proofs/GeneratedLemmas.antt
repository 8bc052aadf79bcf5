-- The closure of the generated workflow.
use Rattle.std.proofs.Common.{◌≡◌, ℕ, ℤ, pos, ◌≤◌, true, false, Bool, ◌==◌, List, [], filter, All, Some, refl, inl, ap, subst}
use Rattle.std.specs.List.{enumerate_from, list_any}
use Rattle.std.proofs.lemmas.List.Elements.{All-nil, All-cons, All-head, All-map, All-filter}
use Rattle.fly_types.specs.declared.kinds.Simple.TheVariants as simple
use Rattle.fly_types.specs.declared.kinds.LiteralType.{LiteralType}
use Rattle.fly_types.specs.declared.kinds.LiteralType.TheOpen.{LiteralType-F}
use Rattle.fly_types.specs.declared.kinds.LiteralType.TheVariants as type
use Rattle.fly_types.specs.declared.kinds.LiteralType.TheViews as type_view
use Rattle.fly_types.specs.declared.literals.Literal.{out-Literal}
use Rattle.fly_types.specs.declared.literals.Literal.TheVariants as literal
use Rattle.fly_types.specs.declared.literals.Literal.TheViews as literal_view
use Rattle.fly_types.specs.Membership.{IsMember, simple_type}
use Rattle.fly_types.proofs.Member.{answers_member}
use Rattle.fly_cast.specs.Fitting.{is_of}
use Rattle.fly_cast.proofs.Members.{is_of-Decides}
use Rattle.fly_docs.specs.declared.closure.Closure.{Closure}
use Rattle.fly_docs.specs.declared.task.Task.{Task}
use Rattle.fly_docs.specs.Closures.{closure_of, closure_with}
use Rattle.fly_docs.specs.Readable.{HasTaskNodes}
use Rattle.fly_docs.specs.Reaching.{reached_tasks, run_task_places}
use Rattle.fly_docs.specs.TypedClosures.{IsTypedClosure}
use Rattle.fly_faults.specs.FaultList.{faults_of}
use Rattle.fly_faults.specs.Laws.{NoFaultsExactlyWhereTyped}
use Rattle.fly_state.specs.PlanTables.{IsPlannable}
use Rattle.fly_state.specs.Plans.{RunPlan, plan_for}
use Rattle.fly_world.specs.Steps.{are_workflow_inputs}
use Rattle.fly_work.specs.Drives.{IsUncached}
use Rattle.fly_generator.specs.Generated.{add_task, generated, generated_workflow, most_nodes}
use Rattle.fly_generator.specs.Laws.{IsSample, SamplesAreTyped}
use Rattle.fly_make.specs.Making.{made_submission, closure_hash, IsAddingRun, IsSummary, IsSummaryOf, IsGeneratedClosure}

-- a sample has no fault
pub no-faults : SamplesAreTyped → NoFaultsExactlyWhereTyped → (count : ℕ) → 1 ≤ count → count ≤ most_nodes
    → faults_of (generated count) ≡ []
no-faults samples law count some few =
    let sample : IsSample count = samples count some few in
    (law (generated count) sample.form).1 (sample.typed, sample.acyclic)

-- the one workflow is the primary one
made-closure : (count : ℕ) (c : Closure) → closure_of (generated count) ≡ Some c
    → closure_with (generated count) (generated_workflow count) ≡ c
made-closure count c is =
    let both : Some (closure_with (generated count) (generated_workflow count)) ≡ Some c = is in cc both

plannable : (count : ℕ) → IsSample count → IsPlannable (closure_with (generated count) (generated_workflow count))
plannable count sample = record {
  plain = All-head HasTaskNodes (generated_workflow count) [] sample.readable.plain;
  ids = sample.ids;
  few = (sample.typed.typed (generated_workflow count)
      (record { place = 0; there = refl; reached = (0, refl, inl refl) })).few;
}

-- a node runs the task at this place
abbrev is_run : ℕ → ℕ × Task → Bool
is_run count at = list_any (λ place. place == at.0) (run_task_places (generated count))

-- the tasks that are run are among the bundle's
uncached : (count : ℕ) → IsSample count → All (λ (t : Task). t.cached ≡ false) (reached_tasks (generated count))
uncached count sample =
    let P : ℕ × Task → Type 0 = λ at. at.1.cached ≡ false in
    All-map (λ (t : Task). t.cached ≡ false) (λ (at : ℕ × Task). at.1)
    (filter (is_run count) (enumerate_from 0 (generated count).tasks))
    (All-filter (is_run count) P (enumerate_from 0 (generated count).tasks)
    (All-cons P (0, add_task) [] refl (All-nil P)))

abbrev whole_type : LiteralType
whole_type = type.Simple simple.Integer

-- a whole number is of the type of whole numbers
whole-number : (n : ℤ) → is_of whole_type (literal.Integer n) ≡ true
whole-number n =
    let kind : simple_type (out-Literal (literal.Integer n)) ≡ Some simple.Integer =
    ap simple_type (literal_view.outs-Integer n) in
    let member : IsMember whole_type (literal.Integer n) =
    (answers_member whole_type (LiteralType-F.Simple simple.Integer) (literal.Integer n) true
    (type_view.outs-Simple simple.Integer) (λ e. kind, λ e. refl)).0 refl in
    (is_of-Decides whole_type (literal.Integer n)).1 member

-- what is submitted are its inputs
made-inputs : (count : ℕ)
    → are_workflow_inputs (plan_for (closure_with (generated count) (generated_workflow count))) made_submission.inputs
    ≡ true
made-inputs count = rw (whole-number (pos 1)) refl

pub generated-closure : SamplesAreTyped → (count : ℕ) (c : Closure) → 1 ≤ count → count ≤ most_nodes
    → closure_of (generated count) ≡ Some c → IsTypedClosure c
    → IsGeneratedClosure count c
generated-closure samples count c some few is typed =
    let sample : IsSample count = samples count some few in
    let same : closure_with (generated count) (generated_workflow count) ≡ c = made-closure count c is in
    record {
      compiled = is;
      typed = typed;
      plannable = subst IsPlannable same (plannable count sample);
      uncached = subst (λ (d : Closure). IsUncached (plan_for d)) same (uncached count sample);
      inputs =
          subst (λ (d : Closure). are_workflow_inputs (plan_for d) made_submission.inputs ≡ true) same
          (made-inputs count);
    }

-- what was said of a run of its plan
pub generated-summary : (count : ℕ) (c : Closure) (plan : RunPlan) (hash text : List ℕ) → IsGeneratedClosure count c
    → plan ≡ plan_for c → hash ≡ closure_hash c
    → IsSummaryOf count plan hash text → IsSummary count text
generated-summary count c plan hash text generated plan-is hash-is said =
    let here = subst (λ (p : RunPlan). IsAddingRun p hash said.0) plan-is said.1 in
    let there = subst (λ (h : List ℕ). IsAddingRun (plan_for c) h said.0) hash-is here in
    (said.0, record { closure = c; compiled = generated.compiled; run = there }, said.2)
