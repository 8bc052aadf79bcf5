use Rattle.std.proofs.Common.{◌≡◌, map, ap, refl, ◌∙◌, string_bytes, arith}
use Rattle.std.proofs.lemmas.Grind.{common_steps}
use Rattle.serde_json.specs.View.{view}
use Rattle.fly_docs.specs.declared.binding.Bound.TheVariants as bounds
use Rattle.fly_values.specs.Bindings.{bound_elements_by, bound_entries_by, bound_by, bound_at}
use Rattle.fly_values.proofs.FieldLemmas.{each-item, each-entry}
use Rattle.fly_values.proofs.BindingLemmas.{bound_at-plain, bound_at-deeper, plain_bound-same}
use Rattle.fly_values.proofs.bindings.+bounds.Goals as goal

pub bound_from-returns-then-depth-eq0 : goal.bound_from-returns-then-depth-eq0
bound_from-returns-then-depth-eq0 t c =
    rw (bound_at-plain c.args.depth (view c.args.value) c.if-depth-eq0.true, ← c.fields_of-fields.ensures)
    c.plain_bound_from.ensures

pub bound_from-returns-else-depth-eq0 : goal.bound_from-returns-else-depth-eq0
bound_from-returns-else-depth-eq0 t c =
    rw (bound_at-deeper c.args.depth (view c.args.value) c.if-depth-eq0.false, ← c.fields_of-fields.ensures)
    c.bound_of_parts.ensures

pub bound_of_parts-returns-in-Some : goal.bound_of_parts-returns-in-Some
unfolding bound_by
bound_of_parts-returns-in-Some t c =
    rw (← c.in-Some.ensures.value) (ap bounds.Collection c.in_ok-elements_from.ensures)

pub bound_of_parts-returns-in-Some-take_member : goal.bound_of_parts-returns-in-Some-take_member
unfolding bound_by
bound_of_parts-returns-in-Some-take_member t c =
    let first = c.in_default.ensures in
    let map = c.in-Some-take_member.ensures.value ∙ first.members _ refl in
    rw (← first.value, ← map) (ap bounds.Map c.in_ok-entries_from.ensures)

pub bound_of_parts-returns : goal.bound_of_parts-returns
unfolding bound_by
bound_of_parts-returns t c =
    let first = c.in_default.ensures in
    let second = c.in_default-take_member.ensures in
    let map = second.value ∙ first.members _ refl in
    let same = plain_bound-same _ _ (second.members _ refl ∙ first.members _ refl)
    (second.rest _ refl ∙ first.rest _ refl) in
    rw (← first.value, ← map, ← same) c.plain_bound_from.ensures

pub elements_from-returns : goal.elements_from-returns
unfolding bound_elements_by
elements_from-returns t c =
    let of = bound_at c.args.depth in
    let whole : c.loop-item.yielded ≡ c.items_of-items.result.items = grind (arith, common_steps) in
    rw (← c.fields_of-fields.ensures, ← c.take.ensures.value)
    (c.from_vec.ensures.value ∙ c.loop-item.invariant.done ∙ ap (map (λ v. of (view v))) whole
    ∙ each-item of _ _ c.items_of-items.ensures)

pub entries_from-returns : goal.entries_from-returns
unfolding bound_entries_by
entries_from-returns t c =
    let of = bound_at c.args.depth in
    let whole : c.loop-name.yielded ≡ c.fields_of-entries.result.entries = grind (arith, common_steps) in
    rw (← c.fields_of-fields.ensures, ← c.take.ensures.value)
    (c.from_vec.ensures.value ∙ c.loop-name.invariant.done ∙ ap (map (λ e. (string_bytes e.0, of (view e.1)))) whole
    ∙ each-entry (λ e. (e.0, of e.1)) _ _ c.fields_of-entries.ensures)
