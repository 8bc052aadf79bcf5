use Rattle.std.proofs.Common.{ℕ, ◌++◌, ◌∷◌, [], take, ◌∙◌, ap, Bool}
use Rattle.fly_docs.specs.declared.submission.Submission.{Submission}
use Rattle.fly_opening.specs.Submissions.{is_repeated}
use Rattle.fly_opening.proofs.NameTables.{names-more, repeated-by}
use Rattle.fly_opening.proofs.Parts.{numbered-more}
use Rattle.fly_opening.proofs.submissions.repetitions.Goals as goal

pub loop-submission-preserved : goal.loop-submission-preserved
loop-submission-preserved c =
    let at = c.loop-submission in
    let all = c.args.submissions.now in
    let x = c.submission-item.result in
    record {
      names = names-more all at.submission-index x at.names c.insert.new.self c.as_str.result
          c.loop-submission-test.true c.submission-item.is at.invariant.names c.as_str.ensures
          c.in_ok-is_new.ensures.updates;
      repeated = numbered-more (λ (p : ℕ × Submission). is_repeated (take p.0 all) p.1) all at.submission-index x
          at.repeated.items c.push.new.self.items c.loop-submission-test.true c.submission-item.is
          at.invariant.repeated
          (c.in_ok-push.ensures.items
          ∙ ap (λ (b : Bool). at.repeated.items ++ b ∷ [])
          (repeated-by (take at.submission-index all) x c.in_ok-is_new.is_new at.names c.as_str.result
          at.invariant.names c.as_str.ensures c.in_ok-is_new.ensures.added));
    }
