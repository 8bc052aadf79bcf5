use Rattle.std.proofs.Common.{◌+◌, length}
use Rattle.fly_links.specs.Search.{IsSearch, unseen_count}
use Rattle.fly_links.proofs.search.reached_from.Given as goal

abbrev pub invariant-loop-place : goal.invariant-loop-place
invariant-loop-place l = IsSearch l.targets l.start l.seen.items l.pending.items

abbrev pub decreases-loop-place : goal.decreases-loop-place
decreases-loop-place l = unseen_count l.seen.items + length l.pending.items
