use Rattle.std.proofs.Common.{◌++◌, string_bytes, ap, ◌∙◌}
use Rattle.std.proofs.lemmas.Result.{on_ok_weaker}
use Rattle.fly_docs.specs.AttemptName.{path_text, item_text}
use Rattle.fly_report.specs.Lines.{rest_text}
use Rattle.fly_report.proofs.Places.{told-three}
use Rattle.fly_verdicts.specs.EvaluationReport.{seen_line, numbered_counts}
use Rattle.fly_verdicts.specs.Verdicts.{verdict_name, verdict_code}
use Rattle.fly_verdicts.proofs.report.Reporter.push_seen.Goals as goal

pub returns : goal.returns
returns c =
    let seen = c.args.seen.now in
    let plan = c.args.self.now.plan.now in
    let line = seen_line (numbered_counts plan c.args.self.now.launches c.args.execution) plan seen in
    let old = string_bytes c.args.text.now in
    let two = string_bytes c.push_number.new.text in
    on_ok_weaker c.push_verdict.result (λ told.
    told-three old (path_text seen.path) (item_text seen.item) (rest_text line.word line.attempts line.code)
    (string_bytes c.push_path.new.text) two (string_bytes c.push_verdict.new.text)
    (c.in_ok-push_path.ensures ∙ ap (λ q. old ++ path_text q) c.as_slice.ensures) c.in_ok-push_number.ensures
    (told ∙ ap (λ n. two ++ rest_text (verdict_name seen.verdict) n
    (verdict_code seen.verdict)) c.attempts_of-attempts.ensures))
    c.push_verdict.ensures
