use Rattle.std.proofs.Common.{◌==◌, sym, ap, ◌∙◌}
use Rattle.fly_app.proofs.AcceptingLemmas.{journal-empty, journal-absent, journal-full, journal-refused}
use Rattle.fly_app.proofs.accepting.check_journal.Goals as goal

pub returns-then-is_empty : goal.returns-then-is_empty
returns-then-is_empty g c =
    let read = c.in-Ok.ensures.answer in
    let old = g.F.Files.state c.args.files.now in (
      journal-empty old.contents c.args.path.now c.in-Ok.bytes.items read.1
          (ap (λ n. n == 0) (sym c.in-Ok.bytes.ok.0) ∙ sym c.is_empty.ensures ∙ c.if-is_empty.true),
      read.0,
    )

pub returns-in-Ok : goal.returns-in-Ok
returns-in-Ok g c =
    let read = c.in-Ok.ensures.answer in
    let old = g.F.Files.state c.args.files.now in
    journal-refused old (g.F.Files.state c.read.new.self) c.args.path.now c.not_empty_line.result c.refusal.result read.0
    (journal-full old.contents c.args.path.now c.in-Ok.bytes.items read.1
    (ap (λ n. n == 0) (sym c.in-Ok.bytes.ok.0) ∙ sym c.is_empty.ensures ∙ c.if-is_empty.false)) c.not_empty_line.ensures c.refusal.ensures

pub returns-in-Err-Absent : goal.returns-in-Err-Absent
returns-in-Err-Absent g c =
    let absent = rw c.in-Err-Absent.field-0-is at c.in-Err-Absent.ensures.answer in
    (journal-absent (g.F.Files.state c.args.files.now).contents c.args.path.now absent.1, absent.0)
