use Rattle.std.proofs.Common.{◌≡◌, ◌++◌, take}
use Rattle.fly_docs.specs.Closures as closures
use Rattle.fly_links.proofs.connecting.push_ids.Given as goal

abbrev pub invariant-loop-place : goal.invariant-loop-place
invariant-loop-place l = l.ids.items ≡ l.initial.ids.items ++ closures.ids_at l.layout (take l.place-index l.places)
