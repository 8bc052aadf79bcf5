use Rattle.std.proofs.Common.{◌≡◌, ◌+◌, ◌*◌, map, true, take}
use Rattle.std.specs.Prelude.{filter}
use Rattle.std.specs.List.{list_all}
use Rattle.std.specs.Option.{option_copied, option_to_list}
use Rattle.fly_types.specs.Levels.{type_levels, largest}
use Rattle.fly_cast.specs.Castable.{is_castable}
use Rattle.fly_cast.proofs.castable.+castable.Given as goal

abbrev pub decreases-is_castable : goal.decreases-is_castable
decreases-is_castable l = 4 * (type_levels l.a.now + type_levels l.b.now) + 1

abbrev pub decreases-do_forms_cast : goal.decreases-do_forms_cast
decreases-do_forms_cast l = 4 * (type_levels l.a.now + type_levels l.b.now)

abbrev pub decreases-do_all_cast : goal.decreases-do_all_cast
decreases-do_all_cast l = 4 * (largest (map type_levels l.variants.now) + type_levels l.b.now) + 2

abbrev pub decreases-only_taker : goal.decreases-only_taker
decreases-only_taker l = 4 * (type_levels l.a.now + largest (map type_levels l.variants.now)) + 2

abbrev pub invariant-do_all_cast-loop-variant : goal.invariant-do_all_cast-loop-variant
invariant-do_all_cast-loop-variant l =
    list_all (λ variant. is_castable variant l.b) (take l.variant-index l.variants) ≡ true

abbrev pub invariant-only_taker-loop-variant : goal.invariant-only_taker-loop-variant
invariant-only_taker-loop-variant l =
    filter (is_castable l.a) (take l.variant-index l.variants) ≡ option_to_list (option_copied l.taker)
