use Rattle.std.proofs.Common.{◌≡◌, take}
use Rattle.fly_rules.specs.Standing.{standing_among}
use Rattle.fly_state.specs.Standing.{meaning_of, known_standing, signs_at}
use Rattle.fly_state.proofs.standing.standing_among.Given as goal

abbrev pub invariant-loop-look : goal.invariant-loop-look
invariant-loop-look l =
    meaning_of l.standing ≡ standing_among (signs_at l.state (known_standing l.known) (take l.look-index l.looks))
