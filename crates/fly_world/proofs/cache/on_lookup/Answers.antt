use Rattle.fly_world.specs.Steps.{looked_up}
use Rattle.fly_world.proofs.CacheLemmas.{said}
use Rattle.fly_world.proofs.cache.on_lookup.Goals as goal

pub returns-in-Says-clause-answer : goal.returns-in-Says-clause-answer
returns-in-Says-clause-answer c =
    let s = c.args.store.now in
    said s c.args.exec.now c.args.path.now (looked_up s.world) c.in-Says.reply c.says.result c.in-Says.ensures
    c.says.ensures
