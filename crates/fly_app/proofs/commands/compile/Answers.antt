use Rattle.std.proofs.Common.{◌≡◌, Ok, string_bytes, refl, sym, subst}
use Rattle.fly_app.specs.Outside.{IsUnread}
use Rattle.fly_app.specs.Answers.{Refusal, Unread}
use Rattle.fly_app.specs.Printing.{unread_text}
use Rattle.fly_app.specs.Words.{compile}
use Rattle.fly_app.proofs.CommandLemmas.{done_line, done_text, refusal_of}
use Rattle.fly_app.proofs.commands.compile.Goals as goal

pub returns-in-Ok : goal.returns-in-Ok
returns-in-Ok g c = λ words is.
    let compiled = c.in-Ok.ensures in
    done_text words (g.F.Files.state c.args.files.now) (g.F.Files.state c.closure_line_of_file.new.files) (g.O.Sink.state c.args.out.now) (g.O.Sink.state c.print.new.out)
    (g.E.Sink.state c.args.err.now) (g.E.Sink.state c.print.new.err) (compile c.args.path.now) c.in-Ok.text.items c.print.result is compiled.0 compiled.1
    (rw c.deref.ensures.value at c.print.ensures)

pub returns-in-Err-Refused : goal.returns-in-Err-Refused
returns-in-Err-Refused g c = λ words is.
    let old = g.F.Files.state c.args.files.now in
    let new = g.F.Files.state c.closure_line_of_file.new.files in
    let refusal = refusal_of old new c.args.path.now c.in-Err-Refused.field-0 c.in-Err-Refused.lines c.in-Err-Refused.field-0-is c.in-Err-Refused.ensures in
    done_line words old new (g.O.Sink.state c.args.out.now) (g.E.Sink.state c.args.err.now) (g.E.Sink.state c.say.new.err)
    (Refusal (string_bytes c.in-Err-Refused.lines)) (string_bytes c.in-Err-Refused.lines) (Ok c.in-Err-Refused.lines) c.say.result
    (compile c.args.path.now, is, refusal.0, refusal.1) (λ p. p) (λ p. p) refl c.say.ensures

pub returns-in-Err-Unread : goal.returns-in-Err-Unread
returns-in-Err-Unread g c = λ words is.
    let old = g.F.Files.state c.args.files.now in
    let new = g.F.Files.state c.closure_line_of_file.new.files in
    let file = c.in-Err-Unread.path.now in
    let unread : (file ≡ c.args.path.now) × IsUnread old new c.args.path.now = rw c.in-Err-Unread.field-0-is at c.in-Err-Unread.ensures in
    done_line words old new (g.O.Sink.state c.args.out.now) (g.E.Sink.state c.args.err.now) (g.E.Sink.state c.say-in-Err-Unread.new.err)
    (Unread file) (unread_text file) c.unread_line.result c.say-in-Err-Unread.result
    (compile c.args.path.now, is, unread.0, subst (IsUnread old new) (sym unread.0) unread.1)
    (λ p. p) (λ p. p) c.unread_line.ensures c.say-in-Err-Unread.ensures
