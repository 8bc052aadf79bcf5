use Rattle.std.proofs.Common.{ℕ, ◌++◌, codes, None, string_bytes, sym, ap, ◌∙◌}
use Rattle.std.proofs.lemmas.Result.{on_ok_weaker}
use Rattle.fly_types.specs.declared.text.Text.{Text}
use Rattle.fly_docs.specs.Plans.{PlanNode}
use Rattle.fly_state.specs.declared.slots.ExecState.{ExecState}
use Rattle.fly_report.specs.LaunchCounts.{counts_at}
use Rattle.fly_report.specs.Lines.{Section, rest_text, line_text, lines_text, outputs_text, section_text}
use Rattle.fly_report.specs.Phases.{phase_name}
use Rattle.fly_report.specs.Report.{Counts, code_of, slot_line, slot_lines, outputs_of}
use Rattle.fly_report.proofs.Places.{told-three}
use Rattle.fly_report.proofs.reporter.Reporter.push_execution.Goals as goal

pub returns : goal.returns
returns c =
    let plan = c.args.self.now.plan.now in
    let state = c.args.state.now in
    let name = c.args.name.now in
    let counts : ℕ × PlanNode → Counts = λ at. counts_at c.args.self.now.launches c.args.number at.0 in
    let said : Text → ExecState → Section = λ n s. record {
      own = slot_line (codes "execution " ++ n) None s.root;
      slots = slot_lines counts plan s;
      outputs = outputs_of s.root;
    } in
    let old = string_bytes c.args.text.now in
    let one = string_bytes c.push_str.new.self in
    let two = string_bytes c.push_str-2.new.self in
    let three = string_bytes c.push_slot.new.text in
    let first = told-three old (codes "execution ") name
    (rest_text (phase_name state.root.phase) None (code_of state.root)) one two three c.in_ok-push_str.ensures.bytes
    (c.in_ok-push_str-2.ensures.bytes ∙ ap (λ n. one ++ n) c.as_str.ensures) c.in_ok-push_slot.ensures in
    on_ok_weaker c.push_given.result (λ told. λ x same-name same-state.
    told-three old (line_text (said name state).own) (lines_text (slot_lines counts plan state))
    (outputs_text (outputs_of state.root)) three (string_bytes c.push_nodes.new.text)
    (string_bytes c.push_given.new.text) first c.in_ok-push_nodes.ensures told
    ∙ (λ i. old ++ section_text (said (sym same-name i) (sym same-state i))))
    c.push_given.ensures
