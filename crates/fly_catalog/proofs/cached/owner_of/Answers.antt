use Rattle.std.proofs.Common.{string_bytes}
use Rattle.fly_catalog.proofs.CachedLemmas.{owner_from_loop}
use Rattle.fly_catalog.proofs.cached.owner_of.Goals as goal

pub returns : goal.returns
returns c =
    owner_from_loop c.args.exec.now c.args.path.now c.as_slice-id-items.result.now c.loop-id.id-index (string_bytes c.loop-id.text) _
    c.from_string.ensures.value c.loop-id.invariant c.loop-id-test.false c.as_slice-id-items.ensures
