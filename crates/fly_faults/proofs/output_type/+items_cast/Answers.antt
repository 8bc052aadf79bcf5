use Rattle.std.proofs.Common.{arith, sym, ◌∙◌, ap, is_some, filter}
use Rattle.fly_types.specs.declared.kinds.LiteralType.{out-LiteralType}
use Rattle.fly_types.specs.declared.kinds.LiteralType.TheViews as view
use Rattle.fly_types.specs.declared.kinds.LiteralType.TheVariants as type
use Rattle.fly_cast.specs.Castable.{sole_element, is_castable}
use Rattle.fly_cast.proofs.Levels.{variant-levels}
use Rattle.fly_cast.proofs.Lists.{two_pass, some_copied}
use Rattle.fly_cast.proofs.Fits.{is_some-copied}
use Rattle.fly_faults.proofs.Casts.{list-to_list, list-to_union, list-to_other}
use Rattle.fly_faults.specs.OutputTypes.{item_type}
use Rattle.fly_faults.proofs.output_type.+items_cast.Goals as goal

pub only_taker-do_items_cast-requires : goal.only_taker-do_items_cast-requires
only_taker-do_items_cast-requires t c = (
  omega (
    arith,
    variant-levels c.args.variants.now _ c.variant-item.result c.loop-variant-test.true
        c.variant-item.is,
  ),
  tt,
)

pub only_taker-returns-then-is_some : goal.only_taker-returns-then-is_some
only_taker-returns-then-is_some t c =
    let one = some_copied c.loop-variant.taker (sym c.is_some.ensures ∙ c.if-is_some.true) in
    two_pass (is_castable (type.Collection (item_type c.args.may_lack c.args.element.now))) _ c.loop-variant.variant-index c.variant-item.result
    one.0 c.loop-variant-test.true c.variant-item.is
    (sym c.do_items_cast.ensures ∙ c.if-do_items_cast.true) (c.loop-variant.invariant ∙ one.1)

pub do_items_cast-returns-in-Collection : goal.do_items_cast-returns-in-Collection
do_items_cast-returns-in-Collection t c =
    c.does_item_cast.ensures ∙ ap (is_castable (item_type c.args.may_lack c.args.element.now)) c.get.ensures
    ∙ sym (list-to_list _ _ _ (ap out-LiteralType c.in-Collection.is ∙ view.outs-Collection _))

pub do_items_cast-returns-in-Union : goal.do_items_cast-returns-in-Union
do_items_cast-returns-in-Union t c =
    c.is_some.ensures ∙ is_some-copied c.only_taker.result ∙ ap is_some c.only_taker.ensures
    ∙ ap (λ ts. is_some (sole_element (filter (is_castable (type.Collection (item_type c.args.may_lack c.args.element.now))) ts))) c.as_slice.ensures
    ∙ sym (list-to_union _ _ _ (ap out-LiteralType c.in-Union.is ∙ view.outs-Union _))

pub do_items_cast-returns-in_default : goal.do_items_cast-returns-in_default
do_items_cast-returns-in_default t c = sym (list-to_other _ _ c.in_default.not-Collection c.in_default.not-Union)
