use Rattle.std.proofs.Common.{ℕ, ◌+◌, List, ◌++◌, string_bytes, append_assoc, ap, sym, ◌∙◌, drop}
use Rattle.fly_report.specs.Lines.{newline}
use Rattle.fly_make.specs.Making.{end_text}
use Rattle.fly_make.proofs.SummaryLemmas.{ends_text, ends-next}
use Rattle.fly_make.proofs.summary.summary.Goals as goal

pub loop-number-preserved : goal.loop-number-preserved
loop-number-preserved c =
    let xs = c.args.world.now.world.executions in
    let state = c.last.result.now in
    let before = string_bytes c.loop-number.text in
    let rest = ends_text (drop (c.loop-number.number + 1) xs) in
    ap (λ (t : List ℕ). t ++ rest ++ newline) c.in_ok-push_end.ensures
    ∙ ap (λ (t : List ℕ). t ++ newline)
    (append_assoc before (end_text state) rest
    ∙ ap (λ (l : List ℕ). before ++ l) (sym (ends-next xs c.loop-number.number state c.last.ensures)))
    ∙ c.loop-number.invariant
