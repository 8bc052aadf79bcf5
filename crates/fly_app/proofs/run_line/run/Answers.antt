use Rattle.std.proofs.Common.{Ok, string_bytes, refl, inl}
use Rattle.fly_app.specs.GivenWords.{run_request_of}
use Rattle.fly_app.specs.Answers.{Refusal, Unread}
use Rattle.fly_app.specs.Printing.{unread_text}
use Rattle.fly_app.specs.RunAnswers.{AsksForNoRun, without_memory}
use Rattle.fly_app.proofs.CommandLemmas.{said_line}
use Rattle.fly_app.proofs.RunCommandLemmas.{done_run, said_run, unread_kept}
use Rattle.fly_app.proofs.run_line.run.Goals as goal

pub returns-in-Ok : goal.returns-in-Ok
returns-in-Ok g c = λ words is.
    done_run words (g.F.Files.state c.args.files.now) (g.F.Files.state c.accept.new.files) (g.F.Files.state c.run_and_report.new.files)
    (g.O.Sink.state c.args.out.now) (g.O.Sink.state c.run_and_report.new.out) (g.E.Sink.state c.args.err.now)
    (g.E.Sink.state c.run_and_report.new.err) (g.C.Clock.state c.args.hand.now.clock) (g.C.Clock.state c.run_and_report.new.hand.clock)
    (g.S.Spawner.state c.args.hand.now.spawner) (g.S.Spawner.state c.run_and_report.new.hand.spawner)
    (run_request_of c.args.request.now) c.in-Ok.accepted c.run_and_report.result is c.in-Ok.ensures c.run_and_report.ensures

pub returns-in-Err-Refused : goal.returns-in-Err-Refused
returns-in-Err-Refused g c = λ words is.
    let old = g.F.Files.state c.args.files.now in
    let new = g.F.Files.state c.accept.new.files in
    let out = g.O.Sink.state c.args.out.now in
    let err = g.E.Sink.state c.args.err.now in
    let new_err = g.E.Sink.state c.say.new.err in
    let refused = rw c.in-Err-Refused.field-0-is at c.in-Err-Refused.ensures in
    said_run words old new out err new_err (g.C.Clock.state c.args.hand.now.clock) (g.S.Spawner.state c.args.hand.now.spawner) c.say.result
    (said_line (AsksForNoRun words) old new out err new_err (Refusal (string_bytes c.in-Err-Refused.lines)) (string_bytes c.in-Err-Refused.lines)
    (Ok c.in-Err-Refused.lines) c.say.result (run_request_of c.args.request.now, is, refused.0, refused.1) (inl refused.1) (λ p. p) (λ p. p) refl
    c.say.ensures)

pub returns-in-Err-Unread : goal.returns-in-Err-Unread
returns-in-Err-Unread g c = λ words is.
    let old = g.F.Files.state c.args.files.now in
    let new = g.F.Files.state c.accept.new.files in
    let out = g.O.Sink.state c.args.out.now in
    let err = g.E.Sink.state c.args.err.now in
    let new_err = g.E.Sink.state c.say-in-Err-Unread.new.err in
    let path = c.in-Err-Unread.path.now in
    let unread = rw c.in-Err-Unread.field-0-is at c.in-Err-Unread.ensures in
    said_run words old new out err new_err (g.C.Clock.state c.args.hand.now.clock) (g.S.Spawner.state c.args.hand.now.spawner)
    c.say-in-Err-Unread.result
    (said_line (AsksForNoRun words) old new out err new_err (Unread path) (unread_text path) c.unread_line.result c.say-in-Err-Unread.result
    (run_request_of c.args.request.now, is, unread) (unread_kept old new (run_request_of c.args.request.now) path unread)
    (λ p. p) (λ p. p) c.unread_line.ensures c.say-in-Err-Unread.ensures)

pub returns-in-Err-NoMemory : goal.returns-in-Err-NoMemory
returns-in-Err-NoMemory g c = λ words is.
    let kept = rw c.in-Err-NoMemory.field-0-is at c.in-Err-NoMemory.ensures in
    without_memory
    (record { files = inl kept; out = refl; err = c.out_of_memory.ensures.tried; ends = c.out_of_memory.ensures.status })
    (record { clock = refl; spawner = refl })
