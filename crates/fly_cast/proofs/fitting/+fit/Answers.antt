use Rattle.std.proofs.Common.{arith, sym, ◌∙◌, ap, ◌∷◌, [], ◌++◌, ◌≡◌, length, append_assoc, Some, is_some}
use Rattle.std.specs.Option.{option_map}
use Rattle.std.proofs.lemmas.Result.{err_from_is_err_and}
use Rattle.std.specs.Vec.Iter.{into_iter_items}
use Rattle.fly_types.specs.declared.kinds.LiteralType.{out-LiteralType}
use Rattle.fly_types.specs.declared.kinds.LiteralType.TheViews as type
use Rattle.fly_types.specs.declared.literals.Literal.{out-Literal}
use Rattle.fly_types.specs.declared.literals.Literal.TheVariants as made
use Rattle.fly_types.specs.declared.literals.Literal.TheViews as literal
use Rattle.fly_cast.specs.Fitting.{entry_value, fitting_of}
use Rattle.fly_cast.proofs.Levels.{sole_element-levels}
use Rattle.fly_cast.proofs.Options.{each_value-push}
use Rattle.fly_cast.proofs.Fits.{fitting_of-member, fitting_of-other, fitted-same, fitted-map, stops-each, elements-at, entries-at, form-at-collection, form-at-map}
use Rattle.fly_cast.proofs.fitting.+fit.Goals as goal

pub fit_by_rule-returns-then-is_member : goal.fit_by_rule-returns-then-is_member
fit_by_rule-returns-then-is_member t c = fitting_of-member _ _ _ c.is_member.ensures c.if-is_member.true

pub fit_by_rule-returns : goal.fit_by_rule-returns
fit_by_rule-returns t c =
    fitted-same _ _ _ (fitting_of-other _ _ _ c.is_member.ensures c.if-is_member.false) c.fit_form.ensures

pub fit_form-returns-in-Collection : goal.fit_form-returns-in-Collection
fit_form-returns-in-Collection t c =
    fitted-same _ _ _ (form-at-collection _ _ _ _
    (ap out-LiteralType c.in-Collection.is ∙ type.outs-Collection _) c.get.ensures) c.fit_collection.ensures

pub fit_form-returns-in-Map : goal.fit_form-returns-in-Map
fit_form-returns-in-Map t c =
    fitted-same _ _ _ (form-at-map _ _ _ _ (ap out-LiteralType c.in-Map.is ∙ type.outs-Map _) c.get-in-Map.ensures)
    c.fit_map.ensures

pub fit_into_union-fit_by_rule-requires : goal.fit_into_union-fit_by_rule-requires
fit_into_union-fit_by_rule-requires t c = (
  omega (
    arith,
    sole_element-levels
        (λ v. is_some (fitting_of c.args.literal v)) c.args.variants.now c.in-Some.variant.now (sym c.in-Some.ensures),
  ),
  tt,
)

pub fit_collection-returns-in-Collection : goal.fit_collection-returns-in-Collection
fit_collection-returns-in-Collection t c =
    elements-at _ _ _ _ (ap out-Literal c.in-Collection.is ∙ literal.outs-Collection _) c.into_vec.ensures
    ∙ ap (option_map made.Collection) c.in_ok-fitted-in-Collection.ensures

pub fit_elements-returns-in_err-fit_by_rule : goal.fit_elements-returns-in_err-fit_by_rule
fit_elements-returns-in_err-fit_by_rule t c =
    let p = err_from_is_err_and c.from_residual-in_err-fit_by_rule.result
    c.from_residual-in_err-fit_by_rule.ensures.1 in
    let at = c.loop-element in
    let parts : c.args.elements.items ≡ at.yielded ++ (c.in-Some.element ∷ into_iter_items c.next.new.self) =
    sym c.into_iter-element-iterator.ensures.into_iter_gives.0 ∙ sym at.invariant.all
    ∙ ap (λ xs. at.yielded ++ xs) c.in-Some.ensures.steps.0 in
    rw (p.1, p.2) (stops-each (λ e. fitting_of e c.args.kind.now) _ at.yielded _ c.in-Some.element
    (into_iter_items c.next.new.self)
    c.in_err-fit_by_rule.field-0.0 parts at.invariant.done c.in_err-fit_by_rule.ensures)

pub fit_elements-loop-element-preserved : goal.fit_elements-loop-element-preserved
fit_elements-loop-element-preserved t c =
    let at = c.loop-element in
    let steps : into_iter_items at.element-iterator ≡ c.in-Some.element ∷ into_iter_items c.next.new.self =
    c.in-Some.ensures.steps.0 in record {
      all = append_assoc at.yielded (c.in-Some.element ∷ []) _ ∙ rw (← steps) at.invariant.all;
      left = let was = at.invariant.left in let gone = c.in-Some.ensures.steps.1 in let short = ap length steps in
          omega arith;
      done = each_value-push
          (λ e. fitting_of e c.args.kind.now) at.yielded _ c.in-Some.element _ at.invariant.done
          c.in_ok-fit_by_rule.ensures
          ∙ ap Some (sym c.in_ok-push.ensures.items);
    }

pub fit_map-returns-in-Map : goal.fit_map-returns-in-Map
fit_map-returns-in-Map t c =
    entries-at _ _ _ _ (ap out-Literal c.in-Map.is ∙ literal.outs-Map _) c.into_vec.ensures
    ∙ ap (option_map made.Map) c.in_ok-fitted-in-Map.ensures

pub fit_entries-returns-in_err-value : goal.fit_entries-returns-in_err-value
fit_entries-returns-in_err-value t c =
    let p = err_from_is_err_and c.from_residual-in_err-value.result c.from_residual-in_err-value.ensures.1 in
    let at = c.loop-name in
    let parts : c.args.entries.items
    ≡ at.yielded ++ ((c.in-Some.name, c.in-Some.value) ∷ into_iter_items c.next.new.self) =
    sym c.into_iter-name-iterator.ensures.into_iter_gives.0 ∙ sym at.invariant.all
    ∙ ap (λ xs. at.yielded ++ xs) c.in-Some.ensures.steps.0 in
    rw (p.1, p.2) (stops-each (entry_value (λ e. fitting_of e c.args.kind.now)) _ at.yielded _
    (c.in-Some.name, c.in-Some.value)
    (into_iter_items c.next.new.self) c.in_err-value.field-0.0 parts at.invariant.done
    (fitted-map (λ value. (c.in-Some.name, value)) _ _ c.in_err-value.ensures))

pub fit_entries-loop-name-preserved : goal.fit_entries-loop-name-preserved
fit_entries-loop-name-preserved t c =
    let at = c.loop-name in
    let steps : into_iter_items at.name-iterator
    ≡ (c.in-Some.name, c.in-Some.value) ∷ into_iter_items c.next.new.self = c.in-Some.ensures.steps.0 in record {
      all = append_assoc at.yielded ((c.in-Some.name, c.in-Some.value) ∷ []) _ ∙ rw (← steps) at.invariant.all;
      left = let was = at.invariant.left in let gone = c.in-Some.ensures.steps.1 in let short = ap length steps in
          omega arith;
      done = each_value-push (entry_value (λ e. fitting_of e c.args.kind.now)) at.yielded _
          (c.in-Some.name, c.in-Some.value) _ at.invariant.done
          (ap (option_map (λ value. (c.in-Some.name, value))) c.in_ok-value.ensures)
          ∙ ap Some (sym c.in_ok-push.ensures.items);
    }
