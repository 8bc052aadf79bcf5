use Rattle.std.proofs.Common.{rules}
use Rattle.fly_work.specs.Playing.{worker_outside}
use Rattle.fly_app.proofs.DriveLemmas.{drives-file, same-files}
use Rattle.fly_app.proofs.running.drive.Goals as goal

pub returns : goal.returns
returns g c =
    let passes = c.drive_counted-end.ensures.0 in
    let drives = c.drive_counted-end.ensures.1 in
    let same = same-files g.F.Files.state c.args.lag c.args.world.now c.drive_counted-end.new.world _ _ 0 passes
    c.drive_counted-end.result drives in
    let file = drives-file g.F.Files.state c.args.lag c.args.world.now c.drive_counted-end.new.world _ _ 0 passes
    c.drive_counted-end.result drives c.legal_journal.ensures in
    search rules
