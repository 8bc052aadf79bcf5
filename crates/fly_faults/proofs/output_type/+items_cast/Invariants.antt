use Rattle.std.proofs.Common.{◌≡◌, ◌+◌, ◌*◌, map, take, filter}
use Rattle.std.specs.Option.{option_copied, option_to_list}
use Rattle.fly_types.specs.declared.kinds.LiteralType.TheVariants as type
use Rattle.fly_types.specs.Levels.{type_levels, largest}
use Rattle.fly_cast.specs.Castable.{is_castable}
use Rattle.fly_faults.specs.OutputTypes.{item_type}
use Rattle.fly_faults.proofs.output_type.+items_cast.Given as goal

abbrev pub decreases-do_items_cast : goal.decreases-do_items_cast
decreases-do_items_cast l = 4 * type_levels l.kind.now + 1

abbrev pub decreases-only_taker : goal.decreases-only_taker
decreases-only_taker l = 4 * largest (map type_levels l.variants.now) + 2

abbrev pub invariant-only_taker-loop-variant : goal.invariant-only_taker-loop-variant
invariant-only_taker-loop-variant l =
    filter (is_castable (type.Collection (item_type l.may_lack l.element))) (take l.variant-index l.variants) ≡ option_to_list (option_copied l.taker)
