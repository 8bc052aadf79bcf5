use Rattle.std.proofs.Common.{sym, ap, subst}
use Rattle.fly_world.specs.Journals.{IsHistory}
use Rattle.fly_world.specs.Store.{StoreLists}
use Rattle.fly_world.proofs.WorldLemmas.{legal_more}
use Rattle.fly_world.proofs.SoundLemmas.{legal-sound}
use Rattle.fly_world.proofs.world.World.take.Goals as goal

pub reply_to-reply-requires-clause-of_plan : goal.reply_to-reply-requires-clause-of_plan
reply_to-reply-requires-clause-of_plan c =
    let s = c.self.inside.store in
    legal-sound s.plan _ c.self.inside.closure s.world.entries s.world s.spare
    (rw c.plan.ensures at c.primary-task_nodes.ensures) c.self.invariant

pub invariant_of-self : goal.invariant_of-self
invariant_of-self c =
    let s = c.self.inside.store in
    let done = c.reply_to-reply.ensures in
    rw (c.push.ensures, ap (λ (x : StoreLists). x.plan) done.rest)
    (legal_more s.plan c.self.inside.closure s.world _ _ c.self.invariant done.step)
