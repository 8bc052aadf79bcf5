use Rattle.fly_app.proofs.CommandLemmas.{runs}
use Rattle.fly_app.proofs.commands.plain.Goals as goal

pub returns : goal.returns
returns g c = runs _ _ _ _ c.run.ensures
