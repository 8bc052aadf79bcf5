use Rattle.std.proofs.Common.{map, arith, refl, sym, subst, ◌∙◌, ap, is_ok}
use Rattle.std.specs.Option.{option_copied}
use Rattle.fly_types.specs.Layer.{TypeLayer}
use Rattle.fly_types.specs.declared.kinds.LiteralType.{LiteralType, out-LiteralType}
use Rattle.fly_types.specs.declared.kinds.LiteralType.TheOpen.{LiteralType-F}
use Rattle.fly_types.specs.declared.kinds.LiteralType.TheViews as type
use Rattle.fly_types.specs.declared.literals.Literal.{out-Literal}
use Rattle.fly_types.specs.declared.literals.Literal.TheViews as literal
use Rattle.fly_types.specs.Levels.{type_levels, largest}
use Rattle.fly_types.specs.Membership.{IsMember}
use Rattle.fly_cast.specs.Castable.{is_castable}
use Rattle.fly_cast.specs.Conversion.{conversion_of, conversion_by_form}
use Rattle.fly_cast.proofs.Converts.{conversion_of-same, conversion_of-differ, levels-at, member-as}
use Rattle.fly_cast.proofs.Levels.{sole_element-levels}
use Rattle.fly_state.proofs.ConvertLemmas.{ok-elements, ok-entries, union-part}
use Rattle.fly_state.proofs.converts.+converts.Goals as goal

pub does_convert-returns-then-is_same : goal.does_convert-returns-then-is_same
does_convert-returns-then-is_same t c =
    c.if-is_same.true ∙ sym (ap is_ok (conversion_of-same _ _ _ _ c.requires c.is_same.ensures c.if-is_same.true))

pub does_convert-returns-else-is_same : goal.does_convert-returns-else-is_same
does_convert-returns-else-is_same t c =
    c.does_form_convert.ensures
    ∙ sym (ap is_ok (conversion_of-differ _ _ _ _ c.requires c.is_same.ensures c.if-is_same.false))

pub do_elements_convert-returns-in-Collection : goal.do_elements_convert-returns-in-Collection
do_elements_convert-returns-in-Collection t c =
    let form = ap out-Literal c.in-Collection.is ∙ literal.outs-Collection _ in
    c.do_all_convert.ensures
    ∙ ok-elements (λ e. conversion_of e c.args.a.now c.args.b.now) c.args.literal.now _ _ form c.as_slice.ensures

pub do_values_convert-returns-in-Map : goal.do_values_convert-returns-in-Map
do_values_convert-returns-in-Map t c =
    let form = ap out-Literal c.in-Map.is ∙ literal.outs-Map _ in
    c.do_all_values_convert.ensures
    ∙ ok-entries (λ e. conversion_of e c.args.a.now c.args.b.now) c.args.literal.now _ _ form c.as_slice.ensures

pub does_value_convert-does_convert-requires : goal.does_value_convert-does_convert-requires
does_value_convert-does_convert-requires t c =
    let parts = union-part c.args.a.now c.args.literal.now _ _ _ refl c.requires.union
    (ap out-Literal c.in-Union.is ∙ literal.outs-Union _ _) c.requires.member in (
      omega (arith, parts.0, ap type_levels c.get-in-Union.ensures),
      subst (λ v. IsMember v c.get.result.now) (sym c.get-in-Union.ensures)
          (subst (IsMember c.in-Union.variant) (sym c.get.ensures) parts.1),
    )

pub does_form_convert-does_convert-requires : goal.does_form_convert-does_convert-requires
does_form_convert-does_convert-requires t c =
    let form = ap out-LiteralType c.in-Union-b.is ∙ type.outs-Union _ in
    let one = sym c.only_taker.ensures ∙ ap option_copied c.in-Some.is in (
      omega (
        arith,
        sole_element-levels (is_castable c.args.a.now) c.as_slice.result.now _ one,
        ap (λ ts. largest (map type_levels ts)) c.as_slice.ensures,
        levels-at c.args.b.now (LiteralType-F.Union c.in-Union-b.variants) form,
      ),
      c.requires,
    )

pub does_form_convert-do_elements_convert-requires : goal.does_form_convert-do_elements_convert-requires
does_form_convert-do_elements_convert-requires t c =
    let from = ap out-LiteralType c.in-Collection.is ∙ type.outs-Collection _ in
    let to = ap out-LiteralType c.in-Collection-b.is ∙ type.outs-Collection _ in
    let form : LiteralType → TypeLayer = λ u. LiteralType-F.Collection u in (
      omega (
        arith,
        levels-at c.args.a.now (form c.in-Collection.from) from,
        levels-at c.args.b.now (form c.in-Collection-b.to) to,
        ap type_levels c.get.ensures,
        ap type_levels c.get-in-Collection-b.ensures,
      ),
      member-as c.args.a.now c.args.literal.now (form c.get.result.now) (from ∙ ap form (sym c.get.ensures))
          c.requires,
    )

pub does_form_convert-do_values_convert-requires : goal.does_form_convert-do_values_convert-requires
does_form_convert-do_values_convert-requires t c =
    let from = ap out-LiteralType c.in-Map.is ∙ type.outs-Map _ in
    let to = ap out-LiteralType c.in-Map-b.is ∙ type.outs-Map _ in
    let form : LiteralType → TypeLayer = λ u. LiteralType-F.Map u in (
      omega (
        arith,
        levels-at c.args.a.now (form c.in-Map.from) from,
        levels-at c.args.b.now (form c.in-Map-b.to) to,
        ap type_levels c.get-in-Map-b.ensures,
        ap type_levels c.get-in-Map-b-2.ensures,
      ),
      member-as c.args.a.now c.args.literal.now (form c.get-in-Map-b.result.now)
          (from ∙ ap form (sym c.get-in-Map-b.ensures)) c.requires,
    )

pub does_form_convert-returns-in-Collection-b : goal.does_form_convert-returns-in-Collection-b
does_form_convert-returns-in-Collection-b t c =
    let form : LiteralType → TypeLayer = λ u. LiteralType-F.Collection u in
    let a = c.args.a.now in let b = c.args.b.now in
    let from = ap out-LiteralType c.in-Collection.is ∙ type.outs-Collection _ ∙ ap form (sym c.get.ensures) in
    let to = ap out-LiteralType c.in-Collection-b.is ∙ type.outs-Collection _
    ∙ ap form (sym c.get-in-Collection-b.ensures) in
    c.do_elements_convert.ensures
    ∙ sym (λ i. is_ok (conversion_by_form conversion_of c.args.literal.now a b (from i) (to i)))

pub does_form_convert-returns-in-Map-b : goal.does_form_convert-returns-in-Map-b
does_form_convert-returns-in-Map-b t c =
    let form : LiteralType → TypeLayer = λ u. LiteralType-F.Map u in
    let a = c.args.a.now in let b = c.args.b.now in
    let from = ap out-LiteralType c.in-Map.is ∙ type.outs-Map _ ∙ ap form (sym c.get-in-Map-b.ensures) in
    let to = ap out-LiteralType c.in-Map-b.is ∙ type.outs-Map _ ∙ ap form (sym c.get-in-Map-b-2.ensures) in
    c.do_values_convert.ensures
    ∙ sym (λ i. is_ok (conversion_by_form conversion_of c.args.literal.now a b (from i) (to i)))
