use Rattle.std.proofs.Common.{◌≡◌, Option, Some, None, option_map, Result, Ok, Err, IfOk, refl, ◌∙◌}
use Rattle.fly_types.specs.declared.memory.NoMemory.{NoMemory}
use Rattle.fly_state.specs.declared.effects.Effect.{Effect}
use Rattle.fly_world.specs.Effects.{effect_in}
use Rattle.fly_world.proofs.effects.effect_of.Goals as goal

same : (e : Option Effect) → option_map effect_in e ≡ e
same None = refl
same (Some e) = refl

as_it_is : (r : Result (Option Effect) NoMemory) (wanted : Option Effect) → IfOk r (λ e. e ≡ wanted)
    → IfOk r (λ e. option_map effect_in e ≡ wanted)
as_it_is (Ok e) wanted is = same e ∙ is
as_it_is (Err fault) wanted is = tt

pub returns : goal.returns
returns c = as_it_is c.effect_of.result _ c.effect_of.ensures
