use Rattle.std.proofs.Common.{◌≡◌, take}
use Rattle.fly_world.proofs.MoveLists.{HasSlots, AreGood, state_before}
use Rattle.fly_world.proofs.writes.move_all.Given as goal

abbrev pub invariant-loop-index : goal.invariant-loop-index
invariant-loop-index l = record {
  slots : HasSlots (take l.index l.moves) l.slots;
  good : AreGood l.store.plan l.store.world l.view l.moves l.index;
  state : l.state ≡ state_before l.store.plan l.store.world l.view l.moves l.index;
}
