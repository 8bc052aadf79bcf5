-- What `run` asks of its files before it begins.
use Rattle.std.specs.Prelude.{◌≡◌, ◌≢◌, ℕ, List, [], Option, IfSome, unwrap_or}
use Rattle.fly_ports.specs.Files.{Contents}
use Rattle.fly_docs.specs.declared.closure.Closure.{Closure}
use Rattle.fly_docs.specs.declared.submission.Submission.{Submission}
use Rattle.fly_state.specs.Plans.{plan_for}
use Rattle.fly_opening.specs.Submissions.{submission_faults}
use Rattle.fly_app.specs.RunWords.{RunRequest}
use Rattle.fly_app.specs.Documents.{IsClosureAt, AreSubmissionsAt}

-- where contents are told, there is no file at the path, or one without a byte
abbrev pub IsEmptyAt : Option Contents → List ℕ → Type 0
IsEmptyAt contents path = IfSome contents (λ held. unwrap_or (held path) [] ≡ [])

-- where contents are told, there is a byte at the path
abbrev pub HasBytesAt : Option Contents → List ℕ → Type 0
HasBytesAt contents path = IfSome contents (λ held. unwrap_or (held path) [] ≢ [])

-- The bundle and the submissions of a run: they are those of its files, and the submissions have no fault for the plan
-- of the bundle's closure.
pub record AreDocuments (contents : Option Contents) (r : RunRequest) (closure : Closure)
    (submissions : List Submission) : Type 0 where
  pub bundle : IsClosureAt contents r.bundle closure
  pub submitted : AreSubmissionsAt contents r.submissions submissions
  pub faultless : submission_faults (plan_for closure) submissions ≡ []

-- the run begins: these are its documents, and its journal is new
pub record IsAccepted (contents : Option Contents) (r : RunRequest) (closure : Closure)
    (submissions : List Submission) : Type 0 where
  pub documents : AreDocuments contents r closure submissions
  pub new_journal : IsEmptyAt contents r.journal
