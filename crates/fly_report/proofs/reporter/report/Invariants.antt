use Rattle.std.proofs.Common.{◌≡◌, ◌+◌, ◌≤◌, ◌++◌, drop, flat_map, count_by, string_bytes}
use Rattle.fly_state.specs.States.{is_succeeded}
use Rattle.fly_world.specs.World.{Execution}
use Rattle.fly_report.specs.Lines.{section_text}
use Rattle.fly_report.specs.Report.{section_of, succeeded_count}
use Rattle.fly_report.proofs.reporter.report.Given as goal

abbrev pub invariant-loop-number : goal.invariant-loop-number
invariant-loop-number l =
    let left = drop l.number l.w.world.executions in
    let text = flat_map (λ (x : Execution). section_text (section_of l.p l.w.world x)) in
    (string_bytes l.text ++ text left ≡ text l.w.world.executions)
    × (l.succeeded + count_by (λ (x : Execution). is_succeeded x.state.root.phase) left ≡ succeeded_count l.w.world)
    × (l.succeeded ≤ l.number)
