use Rattle.std.proofs.Common.{◌++◌, codes, map, None, string_bytes, ap, ◌∙◌}
use Rattle.std.proofs.lemmas.Result.{on_ok_weaker}
use Rattle.fly_report.specs.Lines.{rest_text, line_text, lines_text, outputs_text}
use Rattle.fly_report.proofs.Places.{told-three}
use Rattle.fly_verdicts.specs.EvaluationReport.{verdict_line, seen_line, numbered_counts}
use Rattle.fly_verdicts.specs.Verdicts.{verdict_name, verdict_code, verdict_outputs}
use Rattle.fly_verdicts.proofs.report.Reporter.push_execution.Goals as goal

pub returns : goal.returns
returns c =
    let plan = c.args.self.now.plan.now in
    let v = c.args.evaluated.now in
    let name = c.args.name.now in
    let line = seen_line (numbered_counts plan c.args.self.now.launches c.args.number) plan in
    let old = string_bytes c.args.text.now in
    let one = string_bytes c.push_str.new.self in
    let two = string_bytes c.push_str-2.new.self in
    let three = string_bytes c.push_verdict.new.text in
    let first = told-three old (codes "execution ") name (rest_text (verdict_name v.root) None (verdict_code v.root))
    one two three c.in_ok-push_str.ensures.bytes
    (c.in_ok-push_str-2.ensures.bytes ∙ ap (λ n. one ++ n) c.as_str.ensures) c.in_ok-push_verdict.ensures in
    on_ok_weaker c.push_given.result (λ told.
    told-three old (line_text (verdict_line (codes "execution " ++ name) None v.root)) (lines_text (map line v.list))
    (outputs_text (verdict_outputs v.root)) three (string_bytes c.push_slots.new.text)
    (string_bytes c.push_given.new.text)
    first (c.in_ok-push_slots.ensures ∙ ap (λ xs. three ++ lines_text (map line xs)) c.as_slice.ensures) told)
    c.push_given.ensures
