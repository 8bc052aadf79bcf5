use Rattle.std.proofs.Common.{◌≡◌, map, take}
use Rattle.fly_links.proofs.ConnectLemmas.{lists_before}
use Rattle.fly_links.proofs.connecting.lists_by_id.Given as goal

abbrev pub invariant-loop-place : goal.invariant-loop-place
invariant-loop-place l = l.lists.entries ≡ lists_before l.layout l.outer l.ends l.other l.rows
    (map (λ n. n.now) (take l.place l.nodes))
