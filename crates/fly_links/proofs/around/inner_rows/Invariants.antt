use Rattle.std.proofs.Common.{◌≡◌, map, take, length}
use Rattle.std.specs.List.{enumerate_from}
use Rattle.fly_links.specs.Around.{inner_places}
use Rattle.fly_links.proofs.around.inner_rows.Given as goal

abbrev pub invariant-loop-place : goal.invariant-loop-place
invariant-loop-place l =
    l.rows.items ≡ map (λ at. inner_places (length l.nodes) at.0 at.1)
    (enumerate_from 0 (map (λ n. n.now) (take l.place l.nodes)))
