use Rattle.std.proofs.Common.{◌≡◌, ◌++◌, string_bytes}
use Rattle.fly_report.specs.LaunchCounts.{counts_at}
use Rattle.fly_report.specs.Lines.{lines_text}
use Rattle.fly_report.specs.Report.{slot_lines}
use Rattle.fly_report.proofs.SectionLemmas.{lines_from}
use Rattle.fly_report.proofs.reporter.Reporter.push_nodes.Given as goal

abbrev pub invariant-loop-node : goal.invariant-loop-node
invariant-loop-node l =
    string_bytes l.text
    ++ lines_text (lines_from (λ at. counts_at l.self.launches l.execution at.0) l.state l.self.plan.now l.node)
    ≡ string_bytes l.fn.text
    ++ lines_text (slot_lines (λ at. counts_at l.self.launches l.execution at.0) l.self.plan.now l.state)
