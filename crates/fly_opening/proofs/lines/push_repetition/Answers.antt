use Rattle.std.proofs.Common.{codes, string_bytes}
use Rattle.fly_opening.specs.Submissions.{duplicate_id}
use Rattle.fly_opening.proofs.LineLemmas.{line-of-one, repetition-line}
use Rattle.fly_opening.proofs.lines.push_repetition.Goals as goal

pub returns-in_ok-write : goal.returns-in_ok-write
returns-in_ok-write c =
    repetition-line c.args.is_repeated (duplicate_id c.args.exec.now) (string_bytes c.args.lines.now)
    (string_bytes c.write.new.self) c.if-is_repeated.true
    (line-of-one (codes "submissions: DuplicateId ") c.as_str-exec.result.now c.args.exec.now
    (string_bytes c.args.lines.now) (string_bytes c.write.new.self) c.in_ok-write.ensures.bytes c.as_str-exec.ensures)
