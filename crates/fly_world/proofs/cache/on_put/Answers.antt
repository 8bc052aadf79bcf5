use Rattle.fly_world.specs.Steps.{put}
use Rattle.fly_world.proofs.CacheLemmas.{said}
use Rattle.fly_world.proofs.cache.on_put.Goals as goal

pub returns-in-Says-clause-answer : goal.returns-in-Says-clause-answer
returns-in-Says-clause-answer c =
    let s = c.args.store.now in
    said s c.args.exec.now c.args.path.now (put s.world) c.in-Says.reply c.says.result c.in-Says.ensures
    c.says.ensures
