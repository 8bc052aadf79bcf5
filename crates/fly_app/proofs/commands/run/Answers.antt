use Rattle.std.proofs.Common.{refl}
use Rattle.fly_app.specs.Answers.{WrongWord}
use Rattle.fly_app.specs.Help.{help_text, version_text}
use Rattle.fly_app.specs.Printing.{usage_text}
use Rattle.fly_app.specs.Words.{help, version}
use Rattle.fly_app.proofs.CommandLemmas.{done_line, done_text}
use Rattle.fly_app.proofs.commands.run.Goals as goal

pub returns-in-Ok-Help : goal.returns-in-Ok-Help
returns-in-Ok-Help g c =
    let files = g.F.Files.state c.args.files.now in
    done_text c.args.words.now files files (g.O.Sink.state c.args.out.now) (g.O.Sink.state c.print.new.out) (g.E.Sink.state c.args.err.now) (g.E.Sink.state c.print.new.err)
    help help_text c.print.result (rw c.in-Ok-Help.field-0-is at c.in-Ok-Help.ensures.command) refl refl (rw c.as_bytes.ensures.value at c.print.ensures)

pub returns-in-Ok-Version : goal.returns-in-Ok-Version
returns-in-Ok-Version g c =
    let files = g.F.Files.state c.args.files.now in
    done_text c.args.words.now files files (g.O.Sink.state c.args.out.now) (g.O.Sink.state c.print-in-Ok-Version.new.out) (g.E.Sink.state c.args.err.now)
    (g.E.Sink.state c.print-in-Ok-Version.new.err) version version_text c.print-in-Ok-Version.result (rw c.in-Ok-Version.field-0-is at c.in-Ok-Version.ensures.command) refl refl
    (rw c.as_bytes-in-Ok-Version.ensures.value at c.print-in-Ok-Version.ensures)

pub returns-in-Err : goal.returns-in-Err
returns-in-Err g c =
    let files = g.F.Files.state c.args.files.now in
    done_line c.args.words.now files files (g.O.Sink.state c.args.out.now) (g.E.Sink.state c.args.err.now) (g.E.Sink.state c.say.new.err)
    (WrongWord c.in-Err.word) (usage_text c.in-Err.word) c.usage_line.result c.say.result (c.in-Err.ensures.wrong, refl) (λ p. p) (λ p. p) c.usage_line.ensures c.say.ensures
