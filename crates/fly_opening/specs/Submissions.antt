-- Submissions: what is wrong with them, and what a run takes of them.
use Rattle.std.specs.Prelude.{◌≡◌, ◌≢◌, ◌≤◌, ℕ, ◌==◌, nat_lt, Bool, true, not, List, [], ◌∷◌, ◌++◌, map, flat_map, filter_map, take, length, bytes_eq, option_and_then, option_map, option_to_list, unwrap_or, Option, Some, None, is_none, All, if◌then◌else◌}
use Rattle.std.specs.List.{list_any, enumerate_from}
use Rattle.std.specs.Option.{option_map_or}
use Rattle.fly_types.specs.declared.text.Text.{Text}
use Rattle.fly_types.specs.declared.kinds.LiteralType.{LiteralType}
use Rattle.fly_types.specs.declared.variable.Variable.{Variable}
use Rattle.fly_types.specs.declared.literals.Literal.{Literal}
use Rattle.fly_types.specs.declared.literals.LiteralMap.{LiteralMap}
use Rattle.fly_types.specs.Lookup.{value_of, variable_of}
use Rattle.fly_cast.specs.Fitting.{fitting_of}
use Rattle.fly_docs.specs.declared.submission.Submission.{Submission}
use Rattle.fly_docs.specs.declared.workflow.Workflow.{Workflow}
use Rattle.fly_docs.specs.Lookups.{primary_of}
use Rattle.fly_docs.specs.Names.{IsId}
use Rattle.fly_docs.specs.SoundDocuments.{IsSoundSubmission}
use Rattle.fly_docs.specs.Typed.{AreDistinct}
use Rattle.fly_state.specs.Plans.{RunPlan}
use Rattle.fly_world.specs.Steps.{are_workflow_inputs}

-- the inputs of the primary workflow
abbrev pub workflow_inputs : RunPlan → List Variable
workflow_inputs plan = flat_map (λ (w : Workflow). w.interface.inputs) (option_to_list (primary_of plan.documents))

-- ---- submissions with their inputs fitted

-- an input as one of its variable's type; none where no variable has its name or it does not fit
abbrev pub fitting_value : List Variable → Text × Literal → Option Literal
fitting_value variables entry =
    option_and_then (λ (x : Variable). fitting_of entry.1 x.kind) (variable_of variables entry.0)

-- an input fitted; as it is where it cannot be
abbrev pub fitted_value : List Variable → Text × Literal → Literal
fitted_value variables entry = unwrap_or (fitting_value variables entry) entry.1

abbrev pub fitted_inputs : List Variable → LiteralMap → LiteralMap
fitted_inputs variables m = record {
  entries = map (λ (entry : Text × Literal). (entry.0, fitted_value variables entry)) m.entries;
}

abbrev pub fitted_by : List Variable → Submission → Submission
fitted_by variables s = record s { inputs = fitted_inputs variables s.inputs }

abbrev pub fitted_submission : RunPlan → Submission → Submission
fitted_submission plan s = fitted_by (workflow_inputs plan) s

-- ---- what is wrong with submissions

-- None, or too many; a name that an earlier one has; and by execution and variable an input that no variable has, one
-- that does not fit its type, and a variable without an input.
pub data SubmissionFault : Type 0 where
  no_submissions : SubmissionFault
  too_many_submissions : SubmissionFault
  duplicate_id : Text → SubmissionFault
  variable_not_found : Text → Text → SubmissionFault
  mismatched_types : Text → Text → LiteralType → SubmissionFault
  not_bound : Text → Text → SubmissionFault

-- how many executions a run may have
abbrev pub max_submissions : ℕ
max_submissions = 64

-- a fault where the test passes
abbrev pub fault_where : Bool → SubmissionFault → List SubmissionFault
fault_where test fault = if test then fault ∷ [] else []

-- of how many there are
abbrev pub count_faults : ℕ → List SubmissionFault
count_faults count =
    fault_where (count == 0) no_submissions ++ fault_where (nat_lt max_submissions count) too_many_submissions

-- an earlier one has the name
abbrev pub is_repeated : List Submission → Submission → Bool
is_repeated earlier s = list_any (λ (e : Submission). bytes_eq e.name s.name) earlier

-- of an input that is given
abbrev pub input_faults : List Variable → Text → Text × Literal → List SubmissionFault
input_faults variables exec entry =
    option_map_or
    (λ (x : Variable). fault_where (is_none (fitting_of entry.1 x.kind)) (mismatched_types exec entry.0 x.kind))
    (variable_of variables entry.0) (variable_not_found exec entry.0 ∷ [])

-- of a variable
abbrev pub variable_faults : LiteralMap → Text → Variable → List SubmissionFault
variable_faults m exec x = fault_where (is_none (value_of m.entries x.name)) (not_bound exec x.name)

-- of one submission: its name, where that is repeated, what it gives by name, and what it lacks by name
abbrev pub faults_of : List Variable → Bool → Submission → List SubmissionFault
faults_of variables repeated s =
    fault_where repeated (duplicate_id s.name)
    ++ flat_map (input_faults variables s.name) s.inputs.entries
    ++ flat_map (variable_faults s.inputs s.name) variables

-- of each in its order, behind those before it
abbrev pub faults_behind : List Variable → List Submission → ℕ × Submission → List SubmissionFault
faults_behind variables submissions at = faults_of variables (is_repeated (take at.0 submissions) at.1) at.1

abbrev pub faults_in : List Variable → List Submission → List SubmissionFault
faults_in variables submissions =
    count_faults (length submissions)
    ++ flat_map (faults_behind variables submissions) (enumerate_from 0 submissions)

-- all faults of submissions, in their order
abbrev pub submission_faults : RunPlan → List Submission → List SubmissionFault
submission_faults plan submissions = faults_in (workflow_inputs plan) submissions

-- ---- what a run takes

-- the submissions have no fault, and these are they with their inputs fitted
pub record AreFitted (plan : RunPlan) (submissions fitted : List Submission) : Type 0 where
  pub faultless : submission_faults plan submissions ≡ []
  pub fitted_are : fitted ≡ map (fitted_submission plan) submissions

-- each has an id as its name
abbrev pub HaveIds : List Submission → Type 0
HaveIds submissions = All (λ (s : Submission). IsId s.name) submissions

-- the inputs of each are sound
abbrev pub HaveSoundInputs : List Submission → Type 0
HaveSoundInputs submissions = All IsSoundSubmission submissions

-- A run of the plan can open with them: no more than it may have, each under an id of its own, with the inputs of the
-- primary workflow.
pub record CanOpen (plan : RunPlan) (submissions : List Submission) : Type 0 where
  pub few : length submissions ≤ max_submissions
  pub ids : HaveIds submissions
  pub names : AreDistinct (map (λ (s : Submission). s.name) submissions)
  pub inputs : All (λ (s : Submission). are_workflow_inputs plan s.inputs ≡ true) submissions

-- ---- parts, for private contracts

-- for each whether an earlier one has its name
abbrev pub repetitions : List Submission → List Bool
repetitions submissions =
    map (λ (at : ℕ × Submission). is_repeated (take at.0 submissions) at.1) (enumerate_from 0 submissions)

-- an input that fits, under its name
abbrev pub fitting_input : List Variable → Text × Literal → Option (Text × Literal)
fitting_input variables entry = option_map (λ (value : Literal). (entry.0, value)) (fitting_value variables entry)

abbrev pub fitting_inputs : List Variable → LiteralMap → LiteralMap
fitting_inputs variables m = record { entries = filter_map (fitting_input variables) m.entries }

-- a submission with those of its inputs that fit
abbrev pub with_fitting_inputs : List Variable → Submission → Submission
with_fitting_inputs variables s = record s { inputs = fitting_inputs variables s.inputs }
