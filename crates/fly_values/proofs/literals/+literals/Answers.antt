use Rattle.std.proofs.Common.{◌≡◌, map, ap, ap₂, refl, ◌∙◌, string_bytes, arith}
use Rattle.std.proofs.lemmas.Grind.{common_steps}
use Rattle.serde_json.specs.View.{view}
use Rattle.fly_types.specs.declared.literals.Literal.TheVariants as literals
use Rattle.fly_values.specs.Literals.{union_by, scalar_by, elements_by, entries_by, literal_by, literal_at}
use Rattle.fly_values.proofs.FieldLemmas.{each-item, each-entry}
use Rattle.fly_values.proofs.LiteralLemmas.{literal_at-plain, literal_at-deeper, plain_scalar-same}
use Rattle.fly_values.proofs.literals.+literals.Goals as goal

pub literal_from-returns-then-depth-eq0 : goal.literal_from-returns-then-depth-eq0
literal_from-returns-then-depth-eq0 t c =
    rw (
      literal_at-plain c.args.depth (view c.args.value) c.if-depth-eq0.true,
      ← c.fields_of-fields.ensures,
      ← c.take.ensures.value,
      ← c.fields_of-scalar.ensures,
    ) c.plain_scalar_from.ensures

pub literal_from-returns-else-depth-eq0 : goal.literal_from-returns-else-depth-eq0
literal_from-returns-else-depth-eq0 t c =
    rw (literal_at-deeper c.args.depth (view c.args.value) c.if-depth-eq0.false, ← c.fields_of-fields.ensures)
    c.literal_of_parts.ensures

pub literal_of_parts-returns-in-Some : goal.literal_of_parts-returns-in-Some
unfolding literal_by
literal_of_parts-returns-in-Some t c =
    rw (← c.in-Some.ensures.value) (ap literals.Collection c.in_ok-elements_from.ensures)

pub literal_of_parts-returns-in-Some-take_member : goal.literal_of_parts-returns-in-Some-take_member
unfolding literal_by
literal_of_parts-returns-in-Some-take_member t c =
    let first = c.in_default.ensures in
    let map = c.in-Some-take_member.ensures.value ∙ first.members _ refl in
    rw (← first.value, ← map) (ap literals.Map c.in_ok-entries_from.ensures)

pub literal_of_parts-returns : goal.literal_of_parts-returns
unfolding literal_by
literal_of_parts-returns t c =
    let first = c.in_default.ensures in
    let second = c.in_default-take_member.ensures in
    let map = second.value ∙ first.members _ refl in
    let scalar = c.take-scalar.ensures.value ∙ second.rest _ refl ∙ first.rest _ refl in
    rw (← first.value, ← map, ← scalar) c.scalar_of_parts.ensures

pub scalar_of_parts-returns-in-Some : goal.scalar_of_parts-returns-in-Some
unfolding scalar_by
scalar_of_parts-returns-in-Some t c =
    rw (← c.fields_of-fields.ensures, ← c.in-Some.ensures.value) c.union_from.ensures

pub scalar_of_parts-returns : goal.scalar_of_parts-returns
unfolding scalar_by
scalar_of_parts-returns t c =
    let first = c.in_default.ensures in
    let same = plain_scalar-same _ _ (first.members _ refl) (first.members _ refl) (first.members _ refl)
    (first.members _ refl) (first.members _ refl) in
    rw (← c.fields_of-fields.ensures, ← first.value, ← same) c.plain_scalar_from.ensures

pub union_from-returns : goal.union_from-returns
unfolding union_by
union_from-returns t c =
    let variant = c.take-2.ensures.value ∙ c.take.ensures.rest _ refl in
    rw (← c.fields_of-fields.ensures, ← c.take.ensures.value, ← variant)
    (ap₂ literals.Union (c.in_ok-new.ensures ∙ c.in_ok-inner.ensures) (c.in_ok-new-2.ensures ∙ c.in_ok-variant.ensures))

pub elements_from-returns : goal.elements_from-returns
unfolding elements_by
elements_from-returns t c =
    let of = literal_at c.args.depth in
    let whole : c.loop-item.yielded ≡ c.items_of-items.result.items = grind (arith, common_steps) in
    rw (← c.fields_of-fields.ensures, ← c.take.ensures.value)
    (c.from_vec.ensures.value ∙ c.loop-item.invariant.done ∙ ap (map (λ v. of (view v))) whole
    ∙ each-item of _ _ c.items_of-items.ensures)

pub entries_from-returns : goal.entries_from-returns
unfolding entries_by
entries_from-returns t c =
    let of = literal_at c.args.depth in
    let whole : c.loop-name.yielded ≡ c.fields_of-entries.result.entries = grind (arith, common_steps) in
    rw (← c.fields_of-fields.ensures, ← c.take.ensures.value)
    (c.from_vec.ensures.value ∙ c.loop-name.invariant.done ∙ ap (map (λ e. (string_bytes e.0, of (view e.1)))) whole
    ∙ each-entry (λ e. (e.0, of e.1)) _ _ c.fields_of-entries.ensures)
