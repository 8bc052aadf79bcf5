use Rattle.std.proofs.Common.{◌≡◌, take, filter}
use Rattle.std.specs.Option.{option_copied, option_to_list}
use Rattle.fly_cast.specs.Castable.{is_castable}
use Rattle.fly_state.proofs.converts.only_taker.Given as goal

abbrev pub invariant-loop-variant : goal.invariant-loop-variant
invariant-loop-variant l =
    filter (is_castable l.a) (take l.variant-index l.variants) ≡ option_to_list (option_copied l.taker)
