use Rattle.std.proofs.Common.{◌≡◌, ◌++◌, ◌-◌, ◌^◌, ◌<◌, ◌≤◌}
use Rattle.std.specs.String.{string_bytes}
use Rattle.jiff_fmt.specs.Text.{places}
use Rattle.fly_scalars.proofs.duration.push_places.Given as goal

abbrev pub invariant-loop-written : goal.invariant-loop-written
invariant-loop-written l =
    (l.place ≡ 10 ^ (9 - l.written)) × (l.left < l.place)
    × (string_bytes l.text ++ places (l.digits - l.written) l.place l.left ≡ string_bytes l.initial.text ++ places l.digits (10 ^ 9) l.initial.left)
