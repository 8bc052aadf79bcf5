use Rattle.std.proofs.Common.{List, length}
use Rattle.fly_round.specs.declared.told.Told.{Told}
use Rattle.fly_round.specs.Rounds.{HasCome}
use Rattle.fly_round.proofs.finding.next_question.Given as goal

abbrev pub invariant-loop-number : goal.invariant-loop-number
invariant-loop-number l =
    (told : List Told) → HasCome l.plan l.v told l.fn.at (length told)
    → HasCome l.plan l.v told (record { next = l.number; half = l.half; missed = l.missed }) (length told)
