use Rattle.std.proofs.Common.{arith, sym, ◌∙◌, ap, subst, ◌∷◌, [], ◌++◌, ◌≡◌, length, append_assoc, Ok}
use Rattle.std.proofs.lemmas.Result.{err_from_is_err_and}
use Rattle.std.specs.Vec.Iter.{into_iter_items}
use Rattle.fly_types.specs.declared.literals.Literal.{out-Literal}
use Rattle.fly_types.specs.declared.literals.Literal.TheViews as literal
use Rattle.fly_types.specs.Membership.{IsMember}
use Rattle.fly_types.specs.Levels.{type_levels}
use Rattle.fly_cast.specs.Conversion.{result_map, entry_result}
use Rattle.fly_cast.specs.Plan.{conversion_by}
use Rattle.fly_cast.proofs.Lists.{each_result-push, split_first}
use Rattle.fly_cast.proofs.Converts.{answers-map, stops-each}
use Rattle.fly_cast.proofs.Steps.{answers-by, from-union}
use Rattle.fly_cast.proofs.conversion.+convert.Goals as goal

pub convert_elements-returns-in_err-take_steps : goal.convert_elements-returns-in_err-take_steps
convert_elements-returns-in_err-take_steps t c =
    let p = err_from_is_err_and c.from_residual-in_err-take_steps.result c.from_residual-in_err-take_steps.ensures.1 in
    let at = c.loop-element in
    let parts : c.args.elements.items ≡ at.yielded ++ (c.in-Some.element ∷ into_iter_items c.next.new.self) =
    sym c.into_iter-element-iterator.ensures.into_iter_gives.0 ∙ sym at.invariant.all
    ∙ ap (λ xs. at.yielded ++ xs) c.in-Some.ensures.steps.0 in
    rw (p.1, p.2) (stops-each (conversion_by c.args.steps.now) _ at.yielded _ c.in-Some.element
    (into_iter_items c.next.new.self)
    c.in_err-take_steps.field-0.0 parts at.invariant.done c.in_err-take_steps.ensures)

pub convert_elements-loop-element-preserved : goal.convert_elements-loop-element-preserved
convert_elements-loop-element-preserved t c =
    let at = c.loop-element in
    let steps : into_iter_items at.element-iterator ≡ c.in-Some.element ∷ into_iter_items c.next.new.self =
    c.in-Some.ensures.steps.0 in record {
      all = append_assoc at.yielded (c.in-Some.element ∷ []) _ ∙ rw (← steps) at.invariant.all;
      left = let was = at.invariant.left in let gone = c.in-Some.ensures.steps.1 in let short = ap length steps in
          omega arith;
      done = each_result-push
          (conversion_by c.args.steps.now) at.yielded _ c.in-Some.element _ at.invariant.done c.in_ok-take_steps.ensures
          ∙ ap Ok (sym c.in_ok-push.ensures.items);
    }

pub convert_entries-returns-in_err-value : goal.convert_entries-returns-in_err-value
convert_entries-returns-in_err-value t c =
    let p = err_from_is_err_and c.from_residual-in_err-value.result c.from_residual-in_err-value.ensures.1 in
    let at = c.loop-name in
    let parts : c.args.entries.items
    ≡ at.yielded ++ ((c.in-Some.name, c.in-Some.value) ∷ into_iter_items c.next.new.self) =
    sym c.into_iter-name-iterator.ensures.into_iter_gives.0 ∙ sym at.invariant.all
    ∙ ap (λ xs. at.yielded ++ xs) c.in-Some.ensures.steps.0 in
    rw (p.1, p.2) (stops-each (entry_result (conversion_by c.args.steps.now)) _ at.yielded _
    (c.in-Some.name, c.in-Some.value)
    (into_iter_items c.next.new.self) c.in_err-value.field-0.0 parts at.invariant.done
    (answers-map (λ value. (c.in-Some.name, value)) _ _ c.in_err-value.ensures))

pub convert_entries-loop-name-preserved : goal.convert_entries-loop-name-preserved
convert_entries-loop-name-preserved t c =
    let at = c.loop-name in
    let steps : into_iter_items at.name-iterator
    ≡ (c.in-Some.name, c.in-Some.value) ∷ into_iter_items c.next.new.self = c.in-Some.ensures.steps.0 in record {
      all = append_assoc at.yielded ((c.in-Some.name, c.in-Some.value) ∷ []) _ ∙ rw (← steps) at.invariant.all;
      left = let was = at.invariant.left in let gone = c.in-Some.ensures.steps.1 in let short = ap length steps in
          omega arith;
      done = each_result-push (entry_result (conversion_by c.args.steps.now)) at.yielded _
          (c.in-Some.name, c.in-Some.value) _ at.invariant.done
          (ap (result_map (λ value. (c.in-Some.name, value))) c.in_ok-value.ensures)
          ∙ ap Ok (sym c.in_ok-push.ensures.items);
    }

pub take_steps-convert_by_steps-requires : goal.take_steps-convert_by_steps-requires
take_steps-convert_by_steps-requires t c =
    let parts = from-union c.args.steps.now _ _ _ c.args.literal c.in-Union.value c.in-Union.variant
    (split_first c.args.steps.now _ _ c.in-len1-up.len_at_least c.step-item.is c.in-FromUnion.is) c.requires
    (ap out-Literal c.in-Union.is ∙ literal.outs-Union _ _) in (
      omega (arith, parts.0, ap type_levels c.get.ensures),
      subst (λ v. IsMember v c.into_inner.result) (sym c.get.ensures)
          (subst (λ x. IsMember c.in-Union.variant x) (sym c.into_inner.ensures) parts.1),
    )

pub take_steps-returns-in-Elements : goal.take_steps-returns-in-Elements
take_steps-returns-in-Elements t c =
    answers-by _ _ _ _ (split_first c.args.steps.now _ _ c.in-len1-up.len_at_least c.step-item.is c.in-Elements.is)
    c.convert_collection.ensures

pub take_steps-returns-in-Values : goal.take_steps-returns-in-Values
take_steps-returns-in-Values t c =
    answers-by _ _ _ _ (split_first c.args.steps.now _ _ c.in-len1-up.len_at_least c.step-item.is c.in-Values.is)
    c.convert_map.ensures
