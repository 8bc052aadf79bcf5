use Rattle.std.proofs.Common.{◌≡◌, ◌++◌, string_bytes, map, reverse, vec_len}
use Rattle.fly_schema.specs.Places.{steps_text}
use Rattle.fly_schema.specs.Found.{step_of}
use Rattle.fly_schema.proofs.places.place_text.Given as goal

-- the text has the steps that were taken, and with the others behind it all of them
abbrev pub invariant-loop-step : goal.invariant-loop-step
invariant-loop-step l =
    string_bytes l.text ++ steps_text (reverse (map step_of l.steps.items))
    ≡ steps_text (reverse (map step_of l.initial.steps.items))

abbrev pub decreases-loop-step : goal.decreases-loop-step
decreases-loop-step l = vec_len l.steps
