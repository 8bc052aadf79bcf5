use Rattle.std.proofs.Common.{◌≡◌, Some, slice_get, ◌∙◌, sym, ap}
use Rattle.fly_state.specs.declared.entries.Entry.{Entry}
use Rattle.fly_work.proofs.MemKeepLemmas.{copies-more}
use Rattle.fly_work.proofs.memory_keep.copies_from.Goals as goal

pub loop-place-preserved : goal.loop-place-preserved
loop-place-preserved c =
    let es = c.args.w.now.world.entries in
    let there : slice_get es c.loop-place.place ≡ Some c.in_ok-copy.field-0 =
    c.entry.ensures ∙ ap (λ (e : Entry). Some e) (sym c.in_ok-copy.ensures) in
    rw c.in_ok-push.ensures.items
    (copies-more c.loop-place.copies.items es _ c.loop-place.place c.in_ok-copy.field-0 there
    c.loop-place.invariant)
