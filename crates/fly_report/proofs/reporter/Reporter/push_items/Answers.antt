use Rattle.std.proofs.Common.{◌≡◌, ◌+◌, ℕ, ◌++◌, map, drop, length, Some, string_bytes, refl, ap, ◌∙◌}
use Rattle.std.specs.List.{slice_get, enumerate_from}
use Rattle.std.proofs.lemmas.Option.{slice_get_read}
use Rattle.fly_docs.specs.AttemptName.{path_text, item_text}
use Rattle.fly_state.specs.declared.slots.SlotState.{SlotState}
use Rattle.fly_report.specs.LaunchCounts.{counts_at}
use Rattle.fly_report.specs.Lines.{Line, rest_text, line_text, lines_text}
use Rattle.fly_report.specs.Phases.{phase_name}
use Rattle.fly_report.specs.Report.{Counts, code_of, item_line}
use Rattle.fly_report.proofs.Places.{drop-next, parts-next, told-three}
use Rattle.fly_report.proofs.reporter.Reporter.push_items.Goals as goal

pub loop-item-preserved : goal.loop-item-preserved
loop-item-preserved c =
    let items = c.args.items.now in
    let path = c.args.path.now in
    let at = c.loop-item.item in
    let state = c.index-items-item.result in
    let counts : Counts = counts_at c.args.self.now.launches c.args.slot.execution c.args.slot.node in
    let line : ℕ × SlotState → Line = item_line counts path in
    let there : slice_get items at ≡ Some state =
    slice_get_read items (length items) at state refl c.loop-item-test.true c.index-items-item.is in
    let word = phase_name state.phase in
    let told = string_bytes c.loop-item.text in
    let one = string_bytes c.push_path.new.text in
    let two = string_bytes c.push_item.new.text in
    let three = string_bytes c.push_slot.new.text in
    parts-next told three (line_text (line (at, state))) (lines_text (map line (enumerate_from at (drop at items))))
    (lines_text (map line (enumerate_from (at + 1) (drop (at + 1) items))))
    (string_bytes c.args.text.now ++ lines_text (map line (enumerate_from 0 items)))
    (told-three told (path_text path) (item_text (Some at))
    (rest_text word (Some (counts (Some at))) (code_of state))
    one two three c.in_ok-push_path.ensures c.in_ok-push_item.ensures
    (c.in_ok-push_slot.ensures ∙ ap (λ n. two ++ rest_text word (Some n) (code_of state)) c.at-attempts.ensures))
    (ap (λ ys. lines_text (map line (enumerate_from at ys))) (drop-next items at state there))
    c.loop-item.invariant
