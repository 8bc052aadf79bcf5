use Rattle.std.proofs.Common.{codes, string_bytes, ◌∙◌}
use Rattle.fly_faults.specs.TypeText.{text_of_type}
use Rattle.fly_opening.proofs.LineLemmas.{line-of-three}
use Rattle.fly_opening.proofs.lines.push_mismatch.Goals as goal

pub returns : goal.returns
returns c =
    line-of-three (codes "submissions: MismatchedTypes ") c.as_str-exec.result.now c.args.exec.now
    c.as_str-name.result.now c.args.name.now c.as_str-kind.result.now (text_of_type c.args.kind.now)
    (string_bytes c.args.lines.now) (string_bytes c.write.new.self)
    c.in_ok-write.ensures.bytes c.as_str-exec.ensures c.as_str-name.ensures
    (c.as_str-kind.ensures ∙ c.in_ok-kind.ensures)
