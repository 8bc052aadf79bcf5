use Rattle.std.proofs.Common.{◌≡◌, ◌++◌, map, option_map, string_bytes, sym, ap, ◌∙◌}
use Rattle.std.specs.List.{enumerate_from}
use Rattle.std.proofs.lemmas.Option.{same_Some}
use Rattle.std.proofs.lemmas.Result.{on_ok_weaker}
use Rattle.fly_docs.specs.AttemptName.{path_text}
use Rattle.fly_docs.specs.Plans.{PlanNode}
use Rattle.fly_report.specs.LaunchCounts.{counts_at}
use Rattle.fly_report.specs.Lines.{rest_text, lines_text}
use Rattle.fly_report.specs.Phases.{phase_name}
use Rattle.fly_report.specs.Report.{Counts, code_of, own_attempts, item_line}
use Rattle.fly_report.proofs.Places.{told-three}
use Rattle.fly_report.proofs.reporter.Reporter.push_node.Goals as goal

pub returns : goal.returns
returns c =
    let own = c.args.state.now.own in
    let items = c.args.state.now.items in
    let word = phase_name own.phase in
    let counts : Counts = counts_at c.args.self.now.launches c.args.slot.execution c.args.slot.node in
    let old = string_bytes c.args.text.now in
    let one = string_bytes c.push_path.new.text in
    let two = string_bytes c.push_slot.new.text in
    let three = string_bytes c.push_items.new.text in
    on_ok_weaker c.push_items.result (λ told. λ p node.
    let path : c.as_slice-path.result.now ≡ p.path =
    c.as_slice-path.ensures
    ∙ sym (same_Some _ _ (sym (ap (option_map (λ (q : PlanNode). q.path)) node) ∙ c.path_of.ensures)) in
    let its : c.node-node.result.now ≡ p.node =
    sym (same_Some _ _ (sym (ap (option_map (λ (q : PlanNode). q.node)) node) ∙ c.node-node.ensures)) in
    told-three old (path_text p.path) (rest_text word (own_attempts counts p.node) (code_of own))
    (lines_text (map (item_line counts p.path) (enumerate_from 0 items))) one two three
    (c.in_ok-push_path.ensures ∙ ap (λ q. old ++ path_text q) path)
    (c.in_ok-push_slot.ensures
    ∙ ap (λ o. one ++ rest_text word o (code_of own)) (c.attempts_of.ensures ∙ ap (own_attempts counts) its))
    (told
    ∙ ap (λ q. two ++ lines_text (map (item_line counts q) (enumerate_from 0 c.as_slice.result.now))) path
    ∙ ap (λ xs. two ++ lines_text (map (item_line counts p.path) (enumerate_from 0 xs))) c.as_slice.ensures))
    c.push_items.ensures
