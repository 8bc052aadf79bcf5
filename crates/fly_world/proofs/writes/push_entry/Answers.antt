use Rattle.std.proofs.Common.{false, sym, subst}
use Rattle.fly_world.specs.Writes.{PushesCited}
use Rattle.fly_world.proofs.CitedLemmas.{pushes_none}
use Rattle.fly_world.proofs.writes.push_entry.Goals as goal

pub returns-in-None : goal.returns-in-None
returns-in-None c =
    let all = c.args.store.now.world.entries in
    let old = c.args.entries.now.items in
    subst (λ p. PushesCited all p old old false) (sym c.in-Some.is)
    (pushes_none all old c.in-Some.place (sym c.in-None.ensures))
