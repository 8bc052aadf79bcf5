use Rattle.std.proofs.Common.{Some, refl, ap}
use Rattle.fly_make.proofs.DrivingLemmas.{adding-run}
use Rattle.fly_make.proofs.making.drive.Goals as goal

pub returns-in-Ok : goal.returns-in-Ok
returns-in-Ok g c =
    adding-run c.args.plan.now c.args.world.now c.drive_alone.new.w _ _ _ _ c.in-Ok.field-0
    c.drive_alone.new.hand.spawner c.in-Ok.ensures.drives c.requires.own
    c.requires.opened c.legal_journal.ensures (ap Some c.make.ensures) refl c.runs-sums.ensures.sums
