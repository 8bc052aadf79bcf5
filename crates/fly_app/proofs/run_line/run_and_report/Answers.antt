use Rattle.fly_app.specs.GivenWords.{run_request_of}
use Rattle.fly_app.specs.RunOutside.{work_outside}
use Rattle.fly_app.specs.Running.{setup_for}
use Rattle.fly_app.proofs.RunCommandLemmas.{ran, unkept, short}
use Rattle.fly_app.proofs.run_line.run_and_report.Goals as goal

pub returns-in-Ok : goal.returns-in-Ok
returns-in-Ok g c =
    ran (setup_for c.args.accepted (run_request_of c.args.request.now))
    (work_outside (g.F.Files.state c.args.files.now) (g.C.Clock.state c.args.hand.now.clock) (g.S.Spawner.state c.args.hand.now.spawner))
    (work_outside (g.F.Files.state c.run_accepted.new.files) (g.C.Clock.state c.run_accepted.new.hand.clock)
    (g.S.Spawner.state c.run_accepted.new.hand.spawner))
    c.in-Ok.world.world (g.O.Sink.state c.args.out.now) (g.O.Sink.state c.print_report.new.out) (g.E.Sink.state c.args.err.now)
    (g.E.Sink.state c.print_report.new.err) c.print_report.result c.in-Ok.ensures.runs c.print_report.ensures

pub returns-in-Err-Keep : goal.returns-in-Err-Keep
returns-in-Err-Keep g c =
    unkept (setup_for c.args.accepted (run_request_of c.args.request.now))
    (work_outside (g.F.Files.state c.args.files.now) (g.C.Clock.state c.args.hand.now.clock) (g.S.Spawner.state c.args.hand.now.spawner))
    (work_outside (g.F.Files.state c.run_accepted.new.files) (g.C.Clock.state c.run_accepted.new.hand.clock)
    (g.S.Spawner.state c.run_accepted.new.hand.spawner))
    (g.O.Sink.state c.args.out.now) (g.E.Sink.state c.args.err.now) (g.E.Sink.state c.cannot_write.new.err) c.cannot_write.result
    (rw c.in-Err-Keep.field-0-is at c.in-Err-Keep.ensures.runs) c.cannot_write.ensures.status c.cannot_write.ensures.tried

pub returns : goal.returns
returns g c =
    short (setup_for c.args.accepted (run_request_of c.args.request.now))
    (work_outside (g.F.Files.state c.args.files.now) (g.C.Clock.state c.args.hand.now.clock) (g.S.Spawner.state c.args.hand.now.spawner))
    (work_outside (g.F.Files.state c.run_accepted.new.files) (g.C.Clock.state c.run_accepted.new.hand.clock)
    (g.S.Spawner.state c.run_accepted.new.hand.spawner))
    (g.O.Sink.state c.args.out.now) (g.E.Sink.state c.args.err.now) (g.E.Sink.state c.out_of_memory.new.err) c.out_of_memory.result
    (rw c.in-Err-NoMemory.field-0-is at c.in-Err-NoMemory.ensures.runs) c.out_of_memory.ensures.status c.out_of_memory.ensures.tried
