-- The lines that say why submissions are refused.
use Rattle.std.specs.Prelude.{◌≡◌, ◌≢◌, ℕ, List, [], ◌∷◌, ◌++◌, flat_map, codes, string_bytes, Result, Ok, Err, ⊤}
use Rattle.fly_docs.specs.declared.submission.Submission.{Submission}
use Rattle.fly_faults.specs.TypeText.{text_of_type}
use Rattle.fly_state.specs.Plans.{RunPlan}
use Rattle.fly_opening.specs.declared.submissions.SubmissionsFault.{SubmissionsFault}
use Rattle.fly_opening.specs.declared.submissions.SubmissionsFault.TheVariants as refusal
use Rattle.fly_opening.specs.Submissions.{SubmissionFault, no_submissions, too_many_submissions, duplicate_id, variable_not_found, mismatched_types, not_bound, submission_faults}

-- the end of each line
abbrev pub newline : List ℕ
newline = 10 ∷ []

-- what is wrong, and where
abbrev pub fault_line : SubmissionFault → List ℕ
fault_line no_submissions = codes "submissions: NoSubmissions /" ++ newline
fault_line too_many_submissions = codes "submissions: TooManySubmissions /" ++ newline
fault_line (duplicate_id exec) = codes "submissions: DuplicateId " ++ exec ++ newline
fault_line (variable_not_found exec name) =
    codes "submissions: VariableNotFound " ++ exec ++ codes "." ++ name ++ newline
fault_line (mismatched_types exec name kind) =
    codes "submissions: MismatchedTypes " ++ exec ++ codes "." ++ name ++ codes " value to " ++ text_of_type kind
    ++ newline
fault_line (not_bound exec name) = codes "submissions: NotBound " ++ exec ++ codes "." ++ name ++ newline

-- a line for each fault
abbrev pub submission_lines : List SubmissionFault → List ℕ
submission_lines faults = flat_map fault_line faults

-- the submissions have faults, and the text is their lines
pub record AreRefused (plan : RunPlan) (submissions : List Submission) (text : List ℕ) : Type 0 where
  pub faulty : submission_faults plan submissions ≢ []
  pub lines : text ≡ submission_lines (submission_faults plan submissions)

-- why submissions were not fitted: they are refused, or memory was wanting
abbrev pub IsRefusal : RunPlan → List Submission → SubmissionsFault → Type 0
IsRefusal plan submissions (refusal.Refused lines) = AreRefused plan submissions (string_bytes lines)
IsRefusal plan submissions refusal.NoMemory = ⊤
