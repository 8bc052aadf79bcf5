use Rattle.std.proofs.Common.{codes, string_bytes}
use Rattle.fly_opening.proofs.LineLemmas.{line-of-two}
use Rattle.fly_opening.proofs.lines.push_not_found.Goals as goal

pub returns : goal.returns
returns c =
    line-of-two (codes "submissions: VariableNotFound ") c.as_str-exec.result.now c.args.exec.now
    c.as_str-name.result.now c.args.name.now (string_bytes c.args.lines.now) (string_bytes c.write.new.self)
    c.in_ok-write.ensures.bytes c.as_str-exec.ensures c.as_str-name.ensures
