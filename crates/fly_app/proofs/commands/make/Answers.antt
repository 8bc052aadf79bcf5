use Rattle.std.proofs.Common.{string_bytes, refl}
use Rattle.fly_app.specs.Words.{make}
use Rattle.fly_app.proofs.CommandLemmas.{done_text}
use Rattle.fly_app.proofs.commands.make.Goals as goal

pub returns-in-Ok : goal.returns-in-Ok
returns-in-Ok g c = λ words files is.
    done_text words files files (g.O.Sink.state c.args.out.now) (g.O.Sink.state c.print.new.out)
    (g.E.Sink.state c.args.err.now) (g.E.Sink.state c.print.new.err)
    (make c.args.count) (string_bytes c.in-Ok.text) c.print.result is c.in-Ok.ensures refl
    (rw c.as_bytes.ensures.value at c.print.ensures)
