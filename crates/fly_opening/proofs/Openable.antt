-- Submissions without faults: they are fitted, and a run can open with them.
use Rattle.std.proofs.Common.{◌≡◌, ℕ, ◌+◌, ◌≤◌, ◌<◌, Bool, true, false, ◌||◌, List, [], ◌∷◌, ◌++◌, map, length, get_or, take, Option, Some, None, All, refl, sym, ◌∙◌, ap, subst, arith}
use Rattle.std.specs.Prelude.{flat_map, nat_lt, ◌==◌, bytes_eq, option_map, option_to_list}
use Rattle.std.specs.List.{list_any, enumerate_from}
use Rattle.std.proofs.lemmas.Bool.{false≢true}
use Rattle.std.proofs.lemmas.Bool.Decides.{nat_tests}
use Rattle.std.proofs.lemmas.List.{append-nil, length-map, get_or_default}
use Rattle.std.proofs.Math.ListN.{get_or-map}
use Rattle.std.proofs.lemmas.List.Elements.{All-map, All-weaker}
use Rattle.fly_types.specs.declared.text.Text.{Text}
use Rattle.fly_types.specs.declared.variable.Variable.{Variable}
use Rattle.fly_types.specs.declared.literals.Literal.{Literal}
use Rattle.fly_types.specs.declared.literals.LiteralMap.{LiteralMap}
use Rattle.fly_types.specs.Lookup.{AreVariablesSorted}
use Rattle.fly_docs.specs.declared.submission.Submission.{Submission}
use Rattle.fly_docs.specs.declared.workflow.Workflow.{Workflow}
use Rattle.fly_docs.specs.Lookups.{primary_of}
use Rattle.fly_docs.specs.Names.{IsId}
use Rattle.fly_docs.specs.SoundDocuments.{IsSoundSubmission}
use Rattle.fly_docs.specs.Typed.{AreDistinct}
use Rattle.fly_state.specs.Plans.{RunPlan}
use Rattle.fly_world.specs.Spots.{gives_all}
use Rattle.fly_world.specs.Steps.{are_workflow_inputs}
use Rattle.fly_opening.specs.Submissions.{SubmissionFault, no_submissions, too_many_submissions, duplicate_id, fault_where, count_faults, is_repeated, input_faults, variable_faults, faults_of, faults_behind, faults_in, workflow_inputs, fitting_value, fitted_value, fitted_inputs, fitted_by, fitted_submission, fitting_input, with_fitting_inputs, submission_faults, AreFitted, HaveIds, HaveSoundInputs, CanOpen}
use Rattle.fly_opening.specs.Lines.{submission_lines, AreRefused}
use Rattle.fly_opening.proofs.LineLemmas.{no-lines}
use Rattle.fly_opening.proofs.Givens.{FitsOne, fits-one, fits-value, fits-fitted, gives-all, no-fault}
use Rattle.fly_opening.proofs.Names.{itself}
use Rattle.fly_opening.proofs.Parts.{front-empty, back-empty, parts-empty, all-given, same-map, numbered-at, none-before}

-- ---- one submission

-- no earlier one has its name, each input fits, and each variable has one
pub record IsFaultless (variables : List Variable) (repeated : Bool) (s : Submission) : Type 0 where
  pub new : repeated ≡ false
  pub fits : All (FitsOne variables) s.inputs.entries
  pub bound : flat_map (variable_faults s.inputs s.name) variables ≡ []

pub faultless-one : (variables : List Variable) (repeated : Bool) (s : Submission)
    → faults_of variables repeated s ≡ [] → IsFaultless variables repeated s
faultless-one variables repeated s h =
    let name = fault_where repeated (duplicate_id s.name) in
    let given = flat_map (input_faults variables s.name) s.inputs.entries in
    let lacking = flat_map (variable_faults s.inputs s.name) variables in
    let front : name ++ given ≡ [] = front-empty (name ++ given) lacking h in
    record {
      new = no-fault repeated (duplicate_id s.name) (front-empty name given front);
      fits = All-weaker (λ e. input_faults variables s.name e ≡ []) (FitsOne variables) (fits-one variables s.name)
          s.inputs.entries
          (parts-empty (input_faults variables s.name) s.inputs.entries (back-empty name given front));
      bound = back-empty (name ++ given) lacking h;
    }

fitted-one : (variables : List Variable) (entry : Text × Literal) → FitsOne variables entry
    → fitting_input variables entry ≡ Some (entry.0, fitted_value variables entry)
fitted-one variables entry f =
    ap (option_map (λ (value : Literal). (entry.0, value))) (fits-value variables entry f)
    ∙ ap (λ (l : Literal). Some (entry.0, l)) (sym (fits-fitted variables entry f))

-- all of its inputs are those that fit
pub all-fit : (variables : List Variable) (s : Submission) → All (FitsOne variables) s.inputs.entries
    → with_fitting_inputs variables s ≡ fitted_by variables s
all-fit variables s fits =
    let two : Text × Literal → Text × Literal = λ entry. (entry.0, fitted_value variables entry) in
    ap (λ (es : List (Text × Literal)). record s { inputs = record { entries = es } })
    (all-given (fitting_input variables) two s.inputs.entries
    (All-weaker (FitsOne variables) (λ entry. fitting_input variables entry ≡ Some (two entry)) (fitted-one variables)
    s.inputs.entries fits))

-- ---- all of them

each-faultless : (variables : List Variable) (submissions : List Submission) → faults_in variables submissions ≡ []
    → (i : ℕ) (d : Submission) → i < length submissions
    → IsFaultless variables (is_repeated (take i submissions) (get_or submissions i d)) (get_or submissions i d)
each-faultless variables submissions h i d within =
    let P : ℕ × Submission → Type 0 = λ at. faults_behind variables submissions at ≡ [] in
    let here : 0 + i ≡ i = omega arith in
    faultless-one variables (is_repeated (take i submissions) (get_or submissions i d)) (get_or submissions i d)
    (subst (λ k. P (k, get_or submissions i d)) here
    (numbered-at P 0 submissions i d
    (parts-empty (faults_behind variables submissions) (enumerate_from 0 submissions)
    (back-empty (count_faults (length submissions))
    (flat_map (faults_behind variables submissions) (enumerate_from 0 submissions)) h)) within))

pub all-fitted : (variables : List Variable) (submissions : List Submission) → faults_in variables submissions ≡ []
    → map (with_fitting_inputs variables) submissions ≡ map (fitted_by variables) submissions
all-fitted variables submissions h =
    same-map (with_fitting_inputs variables) (fitted_by variables) submissions
    (λ i d within. all-fit variables (get_or submissions i d)
    (each-faultless variables submissions h i d within).fits)

few : (count : ℕ) → count_faults count ≡ [] → count ≤ 64
few count h =
    let test : nat_lt 64 count ≡ false =
    no-fault (nat_lt 64 count) too_many_submissions
    (back-empty (fault_where (count == 0) no_submissions) (fault_where (nat_lt 64 count) too_many_submissions) h) in
    grind (arith, nat_tests)

map-map : {X Y Z : Type 0} (f : Y → Z) (g : X → Y) (xs : List X) → map f (map g xs) ≡ map (λ x. f (g x)) xs
map-map f g [] = refl
map-map f g (x ∷ xs) = ap (λ ys. f (g x) ∷ ys) (map-map f g xs)

-- where no earlier one has a submission's name, the names differ
distinct : (submissions : List Submission)
    → ((i : ℕ) (d : Submission) → i < length submissions
    → is_repeated (take i submissions) (get_or submissions i d) ≡ false)
    → AreDistinct (map (λ (s : Submission). s.name) submissions)
distinct submissions new i j d before within same =
    let name : Submission → Text = λ s. s.name in
    let e : Submission = record { name = d; inputs = record { entries = [] } } in
    let here : j < length submissions = omega (arith, length-map submissions name) in
    let differ : bytes_eq (get_or submissions i e).name (get_or submissions j e).name ≡ false =
    none-before (λ (x : Submission). bytes_eq x.name (get_or submissions j e).name) submissions i j e (new j e here)
    before here in
    let equal : (get_or submissions i e).name ≡ (get_or submissions j e).name =
    sym (get_or-map name submissions i e) ∙ same ∙ get_or-map name submissions j e in
    false≢true (sym differ ∙ ap (λ n. bytes_eq n (get_or submissions j e).name) equal
    ∙ itself (get_or submissions j e).name)

pub inputs-of : (plan : RunPlan) (w : Workflow) → primary_of plan.documents ≡ Some w
    → workflow_inputs plan ≡ w.interface.inputs
inputs-of plan w named =
    ap (λ o. flat_map (λ (x : Workflow). x.interface.inputs) (option_to_list o)) named ∙ append-nil w.interface.inputs

one-workflow : (plan : RunPlan) (w : Workflow) (m : LiteralMap) → primary_of plan.documents ≡ Some w
    → gives_all w.interface.inputs m ≡ true
    → are_workflow_inputs plan m ≡ true
one-workflow plan w m named gives =
    ap (λ o. list_any (λ (x : Workflow). gives_all x.interface.inputs m) (option_to_list o)) named
    ∙ ap (λ b. b || false) gives

pub can-open : (plan : RunPlan) (w : Workflow) → primary_of plan.documents ≡ Some w
    → AreVariablesSorted (workflow_inputs plan)
    → (submissions fitted : List Submission) → HaveSoundInputs submissions → AreFitted plan submissions fitted
    → HaveIds submissions → CanOpen plan fitted
can-open plan w named sorted submissions fitted sound are ids =
    subst (CanOpen plan) (sym are.fitted_are) by
  where
    variables : List Variable
    variables = workflow_inputs plan

    by : CanOpen plan (map (fitted_submission plan) submissions)
    by = record {
      few = let count = few (length submissions) (front-empty (count_faults (length submissions))
          (flat_map (faults_behind (workflow_inputs plan) submissions) (enumerate_from 0 submissions)) are.faultless) in
          omega (arith, length-map submissions (fitted_submission plan));
      ids = All-map (λ (s : Submission). IsId s.name) (fitted_submission plan) submissions ids;
      names = subst AreDistinct
          (sym (map-map (λ (s : Submission). s.name) (fitted_submission plan) submissions))
          (distinct submissions
          (λ i d within. (each-faultless (workflow_inputs plan) submissions are.faultless i d within).new));
      inputs = All-map (λ (s : Submission). are_workflow_inputs plan s.inputs ≡ true) (fitted_submission plan) submissions
          (λ i d within.
          let s : Submission = get_or submissions i d in
          let faultless = each-faultless (workflow_inputs plan) submissions are.faultless i d within in
          one-workflow plan w (fitted_inputs (workflow_inputs plan) s.inputs) named
          (subst (λ (vs : List Variable). gives_all vs (fitted_inputs (workflow_inputs plan) s.inputs) ≡ true)
          (inputs-of plan w named)
          (gives-all (workflow_inputs plan) s.inputs s.name sorted (sound i d within).names.1 faultless.fits
          faultless.bound)));
    }

-- ---- by their lines

-- where there are no lines, the submissions are fitted
pub fitted-without-lines : (plan : RunPlan) (w : Workflow) → primary_of plan.documents ≡ Some w
    → (submissions fitted : List Submission) (lines : List ℕ)
    → lines ≡ submission_lines (faults_in w.interface.inputs submissions) → lines ≡ []
    → fitted ≡ map (with_fitting_inputs w.interface.inputs) submissions → AreFitted plan submissions fitted
fitted-without-lines plan w named submissions fitted lines are none fits =
    let same : workflow_inputs plan ≡ w.interface.inputs = inputs-of plan w named in
    let faultless : faults_in w.interface.inputs submissions ≡ [] =
    no-lines (faults_in w.interface.inputs submissions) (sym are ∙ none) in
    record {
      faultless = ap (λ (vs : List Variable). faults_in vs submissions) same ∙ faultless;
      fitted_are = fits ∙ all-fitted w.interface.inputs submissions faultless
          ∙ ap (λ (vs : List Variable). map (fitted_by vs) submissions) (sym same);
    }

-- where there are lines, they are refused
pub refused-by-lines : (plan : RunPlan) (w : Workflow) → primary_of plan.documents ≡ Some w
    → (submissions : List Submission) (lines : List ℕ)
    → lines ≡ submission_lines (faults_in w.interface.inputs submissions) → (lines ≡ [] → ⊥)
    → AreRefused plan submissions lines
refused-by-lines plan w named submissions lines are some =
    let same : submission_faults plan submissions ≡ faults_in w.interface.inputs submissions =
    ap (λ (vs : List Variable). faults_in vs submissions) (inputs-of plan w named) in
    record {
      faulty = λ none. some (are ∙ ap submission_lines (sym same ∙ none));
      lines = are ∙ ap submission_lines (sym same);
    }
