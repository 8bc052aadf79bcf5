use Rattle.std.proofs.Common.{arith}
use Rattle.std.proofs.lemmas.Int.{ints, to_z-of_z}
use Rattle.fly_world.proofs.store.Store.set_moment.Goals as goal

pub invariant_of-self : goal.invariant_of-self
invariant_of-self c =
    let old = c.self.invariant in
    record {
      numbered_by = old.numbered_by;
      owned = old.owned;
      artifacts = old.artifacts;
      opening_is = old.opening_is;
      few = old.few;
      early = grind (arith, ints, to_z-of_z);
      room = old.room;
    }
