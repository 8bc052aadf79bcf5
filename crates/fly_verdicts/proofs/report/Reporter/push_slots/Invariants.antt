use Rattle.std.proofs.Common.{◌≡◌, ◌++◌, drop, map, string_bytes}
use Rattle.fly_report.specs.Lines.{lines_text}
use Rattle.fly_verdicts.specs.EvaluationReport.{seen_line, numbered_counts}
use Rattle.fly_verdicts.proofs.report.Reporter.push_slots.Given as goal

abbrev pub invariant-loop-seen : goal.invariant-loop-seen
invariant-loop-seen l =
    let line = seen_line (numbered_counts l.self.plan.now l.self.launches l.execution) l.self.plan.now in
    string_bytes l.text ++ lines_text (map line (drop l.seen-index l.slots))
    ≡ string_bytes l.fn.text ++ lines_text (map line l.slots)
