use Rattle.std.proofs.Common.{◌≡◌, map, ap, ◌∙◌, refl, arith}
use Rattle.std.proofs.lemmas.Grind.{common_steps}
use Rattle.serde_json.specs.View.{view}
use Rattle.fly_types.specs.declared.kinds.LiteralType.TheVariants as types
use Rattle.fly_values.specs.Types.{type_by, type_at, variant_values}
use Rattle.fly_values.proofs.FieldLemmas.{each-item}
use Rattle.fly_values.proofs.TypeLemmas.{type_at-last, type_at-deeper, plain_type-same}
use Rattle.fly_values.proofs.types.+types.Goals as goal

pub type_from-returns-then-depth-eq0 : goal.type_from-returns-then-depth-eq0
type_from-returns-then-depth-eq0 t c =
    rw (type_at-last c.args.depth (view c.args.value) c.if-depth-eq0.true, ← c.fields_of-fields.ensures)
    c.last_type_from.ensures

pub type_from-returns-else-depth-eq0 : goal.type_from-returns-else-depth-eq0
type_from-returns-else-depth-eq0 t c =
    rw (type_at-deeper c.args.depth (view c.args.value) c.if-depth-eq0.false, ← c.fields_of-fields.ensures)
    c.type_of_parts.ensures

pub type_of_parts-returns-in-Some : goal.type_of_parts-returns-in-Some
unfolding type_by
type_of_parts-returns-in-Some t c =
    rw (← c.in-Some.ensures.value) (ap types.Collection (c.in_ok-new.ensures ∙ c.in_ok-element.ensures))

pub type_of_parts-returns-in-Some-take_member : goal.type_of_parts-returns-in-Some-take_member
unfolding type_by
type_of_parts-returns-in-Some-take_member t c =
    let value = c.in-Some-take_member.ensures.value ∙ c.in_default.ensures.members _ refl in
    rw (← c.in_default.ensures.value, ← value) (ap types.Map (c.in_ok-new-2.ensures ∙ c.in_ok-value.ensures))

pub type_of_parts-returns-in-Some-take_member-2 : goal.type_of_parts-returns-in-Some-take_member-2
unfolding type_by
type_of_parts-returns-in-Some-take_member-2 t c =
    let first = c.in_default.ensures in
    let second = c.in_default-take_member.ensures in
    let value = second.value ∙ first.members _ refl in
    let union = c.in-Some-take_member-2.ensures.value ∙ second.members _ refl ∙ first.members _ refl in
    rw (← first.value, ← value, ← union) (ap types.Union c.in_ok-variants_from.ensures)

pub type_of_parts-returns : goal.type_of_parts-returns
unfolding type_by
type_of_parts-returns t c =
    let first = c.in_default.ensures in
    let second = c.in_default-take_member.ensures in
    let third = c.in_default-take_member-2.ensures in
    let value = second.value ∙ first.members _ refl in
    let union = third.value ∙ second.members _ refl ∙ first.members _ refl in
    let same = plain_type-same _ _
    (third.rest _ refl ∙ second.rest _ refl ∙ first.rest _ refl)
    (third.rest _ refl ∙ second.rest _ refl ∙ first.rest _ refl)
    (third.rest _ refl ∙ second.rest _ refl ∙ first.rest _ refl) in
    rw (← first.value, ← value, ← union, ← same) c.plain_type_from.ensures

pub variants_from-returns : goal.variants_from-returns
unfolding variant_values
variants_from-returns t c =
    let whole : c.loop-variant.yielded ≡ c.items_of-variants.result.items = grind (arith, common_steps) in
    rw (← c.fields_of-fields.ensures, ← c.take.ensures.value)
    (c.from_vec.ensures.value ∙ c.loop-variant.invariant.done
    ∙ ap (map (λ v. type_at c.args.depth (view v))) whole
    ∙ each-item (type_at c.args.depth) _ _ c.items_of-variants.ensures)
