use Rattle.std.proofs.Common.{◌≡◌, ◌++◌, [], List, ℕ, sym, ◌∙◌, ap, string_bytes}
use Rattle.std.specs.String.{string_len}
use Rattle.fly_opening.specs.Lines.{submission_lines}
use Rattle.fly_opening.specs.Submissions.{faults_in, AreFitted}
use Rattle.fly_opening.proofs.Openable.{can-open, fitted-without-lines}
use Rattle.fly_opening.proofs.Parts.{no-items}
use Rattle.fly_opening.proofs.submissions.fit_submissions.Goals as goal

pub returns-then-is_empty-clause-ok : goal.returns-then-is_empty-clause-ok
returns-then-is_empty-clause-ok c =
    let w = c.primary.result.now in
    let lines = c.fit_all.new.lines in
    fitted-without-lines c.args.p.now w c.primary.ensures.named c.args.submissions c.in_ok-fitted.fitted
    (string_bytes lines)
    (c.in_ok-fitted.ensures.lines
    ∙ ap (λ (r : List ℕ). r ++ submission_lines (faults_in w.interface.inputs c.args.submissions))
    c.new-lines.ensures.bytes)
    (no-items (string_bytes lines) (string_len lines) lines.bytes.ok.0 (sym c.is_empty.ensures ∙ c.if-is_empty.true))
    c.in_ok-fitted.ensures.value

pub returns-then-is_empty-clause-opens : goal.returns-then-is_empty-clause-opens
returns-then-is_empty-clause-opens c =
    let w = c.primary.result.now in
    let lines = c.fit_all.new.lines in
    let fitted : AreFitted c.args.p.now c.args.submissions c.in_ok-fitted.fitted =
    fitted-without-lines c.args.p.now w c.primary.ensures.named c.args.submissions c.in_ok-fitted.fitted
    (string_bytes lines)
    (c.in_ok-fitted.ensures.lines
    ∙ ap (λ (r : List ℕ). r ++ submission_lines (faults_in w.interface.inputs c.args.submissions))
    c.new-lines.ensures.bytes)
    (no-items (string_bytes lines) (string_len lines) lines.bytes.ok.0 (sym c.is_empty.ensures ∙ c.if-is_empty.true))
    c.in_ok-fitted.ensures.value in
    λ ids. can-open c.args.p.now w c.primary.ensures.named c.requires.sorted c.args.submissions
    c.in_ok-fitted.fitted c.requires.sound fitted ids
