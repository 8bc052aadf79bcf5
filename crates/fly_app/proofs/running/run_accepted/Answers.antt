use Rattle.fly_app.specs.RunOutside.{work_outside}
use Rattle.fly_app.specs.Running.{setup_with}
use Rattle.fly_app.proofs.RunLemmas.{unopened, stopped, finished}
use Rattle.fly_app.proofs.running.run_accepted.Goals as goal

pub returns-in-Err-Failed-clause-runs : goal.returns-in-Err-Failed-clause-runs
returns-in-Err-Failed-clause-runs g c =
    let run = setup_with c.args.plan.now c.args.hash c.args.submissions c.args.lag c.args.journal.now in
    let gains = rw c.in-Err-Failed.field-0-is at c.in-Err-Failed.ensures.gains in
    unopened run c.in-Ok.world c.in-Ok.ensures c.laws_of_runs.ensures c.legal_journal.ensures
    (g.F.Files.state c.args.files.now) (g.F.Files.state c.keep_journal.new.files)
    (g.C.Clock.state c.args.hand.now.clock) (g.S.Spawner.state c.args.hand.now.spawner) gains.0 gains.1

pub returns-in-Ok-drive-clause-runs : goal.returns-in-Ok-drive-clause-runs
returns-in-Ok-drive-clause-runs g c =
    let run = setup_with c.args.plan.now c.args.hash c.args.submissions c.args.lag c.args.journal.now in
    let after = work_outside (g.F.Files.state c.drive.new.files) (g.C.Clock.state c.drive.new.hand.clock)
    (g.S.Spawner.state c.drive.new.hand.spawner) in
    finished run c.in-Ok.world c.in-Ok.ensures c.laws_of_runs.ensures c.drive.new.world
    (g.F.Files.state c.args.files.now) (g.F.Files.state c.keep_journal.new.files)
    (g.C.Clock.state c.args.hand.now.clock) (g.S.Spawner.state c.args.hand.now.spawner) after c.in-Ok-drive.field-0
    c.in-Ok-drive.ensures c.in-Ok-keep_journal.ensures.gains

pub returns-clause-runs : goal.returns-clause-runs
returns-clause-runs g c =
    let run = setup_with c.args.plan.now c.args.hash c.args.submissions c.args.lag c.args.journal.now in
    let after = work_outside (g.F.Files.state c.drive.new.files) (g.C.Clock.state c.drive.new.hand.clock)
    (g.S.Spawner.state c.drive.new.hand.spawner) in
    stopped run c.in-Ok.world c.in-Ok.ensures c.laws_of_runs.ensures c.drive.new.world
    (g.F.Files.state c.args.files.now) (g.F.Files.state c.keep_journal.new.files)
    (g.C.Clock.state c.args.hand.now.clock) (g.S.Spawner.state c.args.hand.now.spawner) after c.in-Err.fault
    c.in-Err.ensures c.in-Ok-keep_journal.ensures.gains
