use Rattle.std.proofs.Common.{◌∙◌}
use Rattle.fly_world.proofs.ReadLemmas.{read-first, read-second}
use Rattle.fly_world.proofs.views.read_number.Goals as goal

pub returns-in-Some : goal.returns-in-Some
returns-in-Some c =
    read-first c.args.store.now.world c.args.from _ c.execution_count-count.ensures.value c.in-Some.number
    c.in-Some.ensures

pub returns-in-None : goal.returns-in-None
returns-in-None c =
    c.first_going_on-in-None.ensures
    ∙ read-second c.args.store.now.world c.args.from _ c.execution_count-count.ensures.value c.in-None.ensures
