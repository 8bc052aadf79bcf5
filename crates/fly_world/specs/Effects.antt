-- The effect of a move, as it is.
use Rattle.fly_state.specs.declared.effects.Effect.{Effect}

abbrev pub effect_in : Effect → Effect
effect_in e = e
