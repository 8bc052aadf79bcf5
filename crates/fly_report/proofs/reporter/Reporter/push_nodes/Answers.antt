use Rattle.std.proofs.Common.{◌≡◌, ◌+◌, ◌<◌, ℕ, ◌++◌, length, get_or, Some, string_bytes, refl, ap, ◌∙◌, arith}
use Rattle.std.specs.List.{slice_get}
use Rattle.std.proofs.lemmas.Option.{slice_get_read}
use Rattle.fly_docs.specs.Plans.{PlanNode}
use Rattle.fly_report.specs.LaunchCounts.{counts_at}
use Rattle.fly_report.specs.Lines.{lines_text}
use Rattle.fly_report.specs.Report.{Counts, node_lines, slot_lines}
use Rattle.fly_report.proofs.Places.{there-at, parts-next}
use Rattle.fly_report.proofs.SectionLemmas.{lines-next, lines_from}
use Rattle.fly_report.proofs.reporter.Reporter.push_nodes.Goals as goal

pub loop-node-preserved : goal.loop-node-preserved
loop-node-preserved c =
    let plan = c.args.self.now.plan.now in
    let state = c.args.state.now in
    let at = c.loop-node.node in
    let n = c.index-states-node.result in
    let counts : ℕ × PlanNode → Counts = λ i. counts_at c.args.self.now.launches c.args.execution i.0 in
    let within : at < length plan.nodes = omega (arith, c.loop-node-test.true, c.len-node-end.ensures) in
    let p = there-at plan.nodes at within in
    let there : slice_get state.nodes at ≡ Some n =
    slice_get_read state.nodes (length state.nodes) at n refl (omega (arith, within, c.requires))
    (c.index-states-node.is ∙ ap (λ xs. get_or xs at n) c.as_slice-states.ensures) in
    parts-next (string_bytes c.loop-node.text) (string_bytes c.push_node.new.text)
    (lines_text (node_lines (counts (at, p.0)) p.0 n))
    (lines_text (lines_from counts state plan at)) (lines_text (lines_from counts state plan (at + 1)))
    (string_bytes c.args.text.now ++ lines_text (slot_lines counts plan state)) (c.in_ok-push_node.ensures p.0 p.1)
    (lines-next counts state plan at p.0 n p.1 there) c.loop-node.invariant
