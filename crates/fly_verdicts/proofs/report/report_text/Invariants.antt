use Rattle.std.proofs.Common.{◌≡◌, ◌+◌, ◌≤◌, ◌++◌, drop, length, flat_map, count_by, string_bytes}
use Rattle.fly_world.specs.World.{Execution}
use Rattle.fly_report.specs.Lines.{section_text}
use Rattle.fly_verdicts.specs.EvaluationReport.{evaluation_section, succeeds}
use Rattle.fly_verdicts.specs.Grouped.{lists_of, HasListsFrom, settled_at, answered_at}
use Rattle.fly_verdicts.proofs.report.report_text.Given as goal

abbrev pub invariant-loop-number : goal.invariant-loop-number
invariant-loop-number l =
    let w = l.world.world in
    let left = drop l.number w.executions in
    let told = flat_map (λ (x : Execution). section_text (evaluation_section l.plan w x)) in
    (string_bytes l.text ++ told left ≡ told w.executions)
    × (l.succeeded + count_by (succeeds l.plan w) left ≡ count_by (succeeds l.plan w) w.executions)
    × (l.succeeded ≤ l.number)
    × HasListsFrom l.number (length w.executions) (λ i. settled_at l.numbers i w.entries) (lists_of l.settled.items)
    × HasListsFrom l.number (length w.executions) (λ i. answered_at w.entries l.numbers i w.entries)
    (lists_of l.answered.items)
