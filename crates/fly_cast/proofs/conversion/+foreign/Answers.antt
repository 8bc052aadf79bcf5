use Rattle.std.proofs.Common.{sym, ◌∙◌, ap, Ok}
use Rattle.fly_types.specs.declared.literals.Literal.{out-Literal}
use Rattle.fly_types.specs.declared.literals.Literal.TheViews as literal
use Rattle.fly_cast.specs.Conversion.{entry_result, each_result, result_map}
use Rattle.fly_cast.specs.Plan.{conversion_by}
use Rattle.fly_cast.proofs.Lists.{split_at, split_first, more, each_result-push, each_result-fails}
use Rattle.fly_cast.proofs.Steps.{foreign-elements, foreign-values, foreign-by}
use Rattle.fly_cast.proofs.conversion.+foreign.Goals as goal

pub foreign_in_elements-returns-in-Some : goal.foreign_in_elements-returns-in-Some
foreign_in_elements-returns-in-Some t c =
    ap (each_result (conversion_by c.args.steps.now))
    (split_at c.args.elements.now c.loop-element.element-index c.element-item.result c.loop-element-test.true
    c.element-item.is)
    ∙ each_result-fails (conversion_by c.args.steps.now) _ _ c.element-item.result _ c.in-Some.text.now
    c.loop-element.invariant c.in-Some.ensures

pub foreign_in_elements-loop-element-preserved : goal.foreign_in_elements-loop-element-preserved
foreign_in_elements-loop-element-preserved t c =
    let next = more c.args.elements.now c.loop-element.element-index c.element-item.result c.loop-element-test.true
    c.element-item.is in
    ap (each_result (conversion_by c.args.steps.now)) next
    ∙ each_result-push (conversion_by c.args.steps.now) _ _ c.element-item.result _ c.loop-element.invariant
    c.in_default.ensures ∙ ap Ok (sym next)

pub foreign_in_values-returns-in-Some : goal.foreign_in_values-returns-in-Some
foreign_in_values-returns-in-Some t c =
    ap (each_result (entry_result (conversion_by c.args.steps.now)))
    (split_at c.args.entries.now c.loop-value.value-index c.loop-value-item.result c.loop-value-test.true
    c.loop-value-item.is)
    ∙ each_result-fails (entry_result (conversion_by c.args.steps.now)) _ _ c.loop-value-item.result _
    c.in-Some.text.now c.loop-value.invariant
    (ap (result_map (λ value. (c.loop-value-item.result.0, value))) c.in-Some.ensures)

pub foreign_in_values-loop-value-preserved : goal.foreign_in_values-loop-value-preserved
foreign_in_values-loop-value-preserved t c =
    let next = more c.args.entries.now c.loop-value.value-index c.loop-value-item.result c.loop-value-test.true
    c.loop-value-item.is in
    ap (each_result (entry_result (conversion_by c.args.steps.now))) next
    ∙ each_result-push (entry_result (conversion_by c.args.steps.now)) _ _ c.loop-value-item.result _
    c.loop-value.invariant
    (ap (result_map (λ value. (c.loop-value-item.result.0, value))) c.in_default.ensures) ∙ ap Ok (sym next)

pub foreign_text-returns-in-Collection : goal.foreign_text-returns-in-Collection
foreign_text-returns-in-Collection t c =
    foreign-by _ _ _ _ (split_first c.args.steps.now _ _ c.in-len1-up.len_at_least c.step-item.is
    c.in-TextsOfElements.is)
    (foreign-elements _ _ _ _ _
    (ap out-Literal c.in-Collection.is ∙ literal.outs-Collection _) c.as_slice.ensures c.foreign_in_elements.ensures)

pub foreign_text-returns-in-Map : goal.foreign_text-returns-in-Map
foreign_text-returns-in-Map t c =
    foreign-by _ _ _ _ (split_first c.args.steps.now _ _ c.in-len1-up.len_at_least c.step-item.is c.in-TextsOfValues.is)
    (foreign-values _ _ _ _ _
    (ap out-Literal c.in-Map.is ∙ literal.outs-Map _) c.as_slice-in-Map.ensures c.foreign_in_values.ensures)
