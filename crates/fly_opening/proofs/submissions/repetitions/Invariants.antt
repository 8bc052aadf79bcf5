use Rattle.std.proofs.Common.{◌≡◌, ℕ, take, map}
use Rattle.std.specs.List.{enumerate_from}
use Rattle.fly_docs.specs.declared.submission.Submission.{Submission}
use Rattle.fly_opening.specs.Submissions.{is_repeated}
use Rattle.fly_opening.proofs.NameTables.{HasNames}
use Rattle.fly_opening.proofs.submissions.repetitions.Given as goal

abbrev pub invariant-loop-submission : goal.invariant-loop-submission
invariant-loop-submission l = record {
  names : HasNames (take l.submission-index l.submissions) l.names;
  repeated : l.repeated.items
      ≡ map (λ (at : ℕ × Submission). is_repeated (take at.0 l.submissions) at.1)
      (enumerate_from 0 (take l.submission-index l.submissions));
}
