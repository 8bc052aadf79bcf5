use Rattle.std.proofs.Common.{◌≡◌, ◌++◌, drop, map, string_bytes}
use Rattle.std.specs.List.{enumerate_from}
use Rattle.fly_report.specs.LaunchCounts.{counts_at}
use Rattle.fly_report.specs.Lines.{lines_text}
use Rattle.fly_report.specs.Report.{item_line}
use Rattle.fly_report.proofs.reporter.Reporter.push_items.Given as goal

abbrev pub invariant-loop-item : goal.invariant-loop-item
invariant-loop-item l =
    let line = item_line (counts_at l.self.launches l.slot.execution l.slot.node) l.path in
    string_bytes l.text ++ lines_text (map line (enumerate_from l.item (drop l.item l.items)))
    ≡ string_bytes l.fn.text ++ lines_text (map line (enumerate_from 0 l.items))
