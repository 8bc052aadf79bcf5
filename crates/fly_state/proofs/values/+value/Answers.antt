use Rattle.std.proofs.Common.{◌≡◌, ◌++◌, ◌∷◌, [], IsTrue, Some, Ok, Err, arith, refl, sym, subst, ◌∙◌, ap, filter}
use Rattle.std.specs.List.{All, list_all}
use Rattle.std.specs.Option.{option_copied}
use Rattle.std.proofs.lemmas.List.Elements.{All-get_or}
use Rattle.fly_types.specs.declared.text.Text.{Text}
use Rattle.fly_types.specs.declared.kinds.LiteralType.{out-LiteralType}
use Rattle.fly_types.specs.declared.kinds.LiteralType.TheOpen.{LiteralType-F}
use Rattle.fly_types.specs.declared.kinds.LiteralType.TheViews as type
use Rattle.fly_types.specs.declared.literals.Literal.TheVariants as literal
use Rattle.fly_types.specs.Levels.{type_levels}
use Rattle.fly_cast.specs.Castable.{sole_element}
use Rattle.fly_cast.specs.Conversion.{result_map, each_result, entry_result}
use Rattle.fly_cast.proofs.Converts.{levels-at}
use Rattle.fly_cast.proofs.Levels.{sole_element-levels}
use Rattle.fly_cast.proofs.Lists.{sole_element-passes}
use Rattle.fly_docs.specs.declared.binding.Bound.{Bound, out-Bound}
use Rattle.fly_docs.specs.declared.binding.Bound.TheViews as view
use Rattle.fly_docs.specs.Fitting.{bound_fits}
use Rattle.fly_docs.specs.SlotInputs.{bound_value, variant_value}
use Rattle.fly_state.specs.Origins.{source_in_run}
use Rattle.fly_state.specs.States.{known_in}
use Rattle.fly_state.proofs.BindingFits.{bound_fits-at}
use Rattle.fly_state.proofs.BindingValues.{bound_value-at, collection-unknown, map-unknown}
use Rattle.fly_state.proofs.TakenLemmas.{taken-same, taken-map, stops-taken, taken-more, all-test}
use Rattle.fly_state.proofs.values.+value.Goals as goal

pub take_bound-take_promise-requires-clause-fits : goal.take_bound-take_promise-requires-clause-fits
take_bound-take_promise-requires-clause-fits t c =
    subst IsTrue (bound_fits-at (source_in_run c.args.plan.now) _ _ _ _ (ap out-Bound c.in-Promise.is ∙ view.outs-Promise _ _) refl) c.requires.1

pub take_bound-take_elements-requires : goal.take_bound-take_elements-requires
take_bound-take_elements-requires t c =
    let source = source_in_run c.args.plan.now in
    let fits = bound_fits-at source _ _ _ _ (ap out-Bound c.in-Collection.is ∙ view.outs-Collection _)
    (ap out-LiteralType c.in-Collection-kind.is ∙ type.outs-Collection _) in (
      omega (
        arith,
        levels-at c.args.kind.now (LiteralType-F.Collection c.in-Collection-kind.element)
            (ap out-LiteralType c.in-Collection-kind.is ∙ type.outs-Collection _),
        ap type_levels c.get.ensures,
      ),
      (
        c.requires.0,
        all-test (λ e. bound_fits source e c.get.result.now) c.as_slice.result.now
            ((λ i. list_all (λ e. bound_fits source e (c.get.ensures i)) (c.as_slice.ensures i)) ∙ sym fits ∙ c.requires.1),
      ),
    )

pub take_bound-take_entries-requires : goal.take_bound-take_entries-requires
take_bound-take_entries-requires t c =
    let source = source_in_run c.args.plan.now in
    let fits = bound_fits-at source _ _ _ _ (ap out-Bound c.in-Map.is ∙ view.outs-Map _)
    (ap out-LiteralType c.in-Map-kind.is ∙ type.outs-Map _) in (
      omega (
        arith,
        levels-at c.args.kind.now (LiteralType-F.Map c.in-Map-kind.value)
            (ap out-LiteralType c.in-Map-kind.is ∙ type.outs-Map _),
        ap type_levels c.get-in-Map-kind.ensures,
      ),
      (
        c.requires.0,
        all-test (λ (e : Text × Bound). bound_fits source e.1 c.get-in-Map-kind.result.now) c.as_slice-in-Map-kind.result.now
            ((λ i. list_all (λ (e : Text × Bound). bound_fits source e.1 (c.get-in-Map-kind.ensures i)) (c.as_slice-in-Map-kind.ensures i)) ∙ sym fits ∙ c.requires.1),
      ),
    )

pub take_bound-returns-in-Promise : goal.take_bound-returns-in-Promise
take_bound-returns-in-Promise t c =
    taken-same _ _ c.take_promise.result
    (bound_value-at (source_in_run c.args.plan.now) (known_in c.args.plan.now c.args.state.now []) _ _ _ _
    (ap out-Bound c.in-Promise.is ∙ view.outs-Promise _ _) refl) c.take_promise.ensures

pub take_bound-returns-in-Scalar : goal.take_bound-returns-in-Scalar
take_bound-returns-in-Scalar t c =
    taken-same _ _ c.take_scalar.result
    (bound_value-at (source_in_run c.args.plan.now) (known_in c.args.plan.now c.args.state.now []) _ _ _ _
    (ap out-Bound c.in-Scalar.is ∙ view.outs-Scalar _) refl) c.take_scalar.ensures

pub take_bound-returns-in-Ok : goal.take_bound-returns-in-Ok
take_bound-returns-in-Ok t c =
    let source = source_in_run c.args.plan.now in
    let known = known_in c.args.plan.now c.args.state.now [] in
    bound_value-at source known _ _ _ _ (ap out-Bound c.in-Collection.is ∙ view.outs-Collection _)
    (ap out-LiteralType c.in-Collection-kind.is ∙ type.outs-Collection _)
    ∙ sym (λ i. result_map literal.Collection (each_result (λ e. bound_value source known e (c.get.ensures i)) (c.as_slice.ensures i)))
    ∙ ap (result_map literal.Collection) c.in-Ok.ensures

pub take_bound-returns-in-Err : goal.take_bound-returns-in-Err
take_bound-returns-in-Err t c =
    let source = source_in_run c.args.plan.now in
    let known = known_in c.args.plan.now c.args.state.now [] in
    taken-same _ (result_map literal.Collection (each_result (λ e. bound_value source known e c.get.result.now) c.as_slice.result.now))
    (Err c.in-Err.fault)
    (bound_value-at source known _ _ _ _ (ap out-Bound c.in-Collection.is ∙ view.outs-Collection _)
    (ap out-LiteralType c.in-Collection-kind.is ∙ type.outs-Collection _)
    ∙ sym (λ i. result_map literal.Collection (each_result (λ e. bound_value source known e (c.get.ensures i)) (c.as_slice.ensures i))))
    (taken-map literal.Collection _ c.in-Err.fault c.in-Err.ensures)

pub take_bound-returns-in-Union : goal.take_bound-returns-in-Union
take_bound-returns-in-Union t c =
    let source = source_in_run c.args.plan.now in
    let known = known_in c.args.plan.now c.args.state.now [] in
    taken-same _ _ c.take_variant.result
    (bound_value-at source known _ _ _ _ (ap out-Bound c.in-Collection.is ∙ view.outs-Collection _)
    (ap out-LiteralType c.in-Union.is ∙ type.outs-Union _)
    ∙ sym (ap (λ ts. variant_value (bound_value source known c.args.x.now) (sole_element (filter (bound_fits source c.args.x.now) ts))) c.as_slice-in-Union.ensures))
    c.take_variant.ensures

pub take_bound-returns-in_default : goal.take_bound-returns-in_default
take_bound-returns-in_default t c =
    collection-unknown (source_in_run c.args.plan.now) (known_in c.args.plan.now c.args.state.now []) _ _ _
    (ap out-Bound c.in-Collection.is ∙ view.outs-Collection _) c.in_default.not-Collection c.in_default.not-Union

pub take_bound-returns-in-Ok-take_entries : goal.take_bound-returns-in-Ok-take_entries
take_bound-returns-in-Ok-take_entries t c =
    let source = source_in_run c.args.plan.now in
    let known = known_in c.args.plan.now c.args.state.now [] in
    bound_value-at source known _ _ _ _ (ap out-Bound c.in-Map.is ∙ view.outs-Map _)
    (ap out-LiteralType c.in-Map-kind.is ∙ type.outs-Map _)
    ∙ sym (λ i. result_map literal.Map (each_result (entry_result (λ e. bound_value source known e (c.get-in-Map-kind.ensures i))) (c.as_slice-in-Map-kind.ensures i)))
    ∙ ap (result_map literal.Map) c.in-Ok-take_entries.ensures

pub take_bound-returns-in-Err-take_entries : goal.take_bound-returns-in-Err-take_entries
take_bound-returns-in-Err-take_entries t c =
    let source = source_in_run c.args.plan.now in
    let known = known_in c.args.plan.now c.args.state.now [] in
    taken-same _ (result_map literal.Map (each_result (entry_result (λ e. bound_value source known e c.get-in-Map-kind.result.now)) c.as_slice-in-Map-kind.result.now))
    (Err c.in-Err-take_entries.fault)
    (bound_value-at source known _ _ _ _ (ap out-Bound c.in-Map.is ∙ view.outs-Map _)
    (ap out-LiteralType c.in-Map-kind.is ∙ type.outs-Map _)
    ∙ sym (λ i. result_map literal.Map (each_result (entry_result (λ e. bound_value source known e (c.get-in-Map-kind.ensures i))) (c.as_slice-in-Map-kind.ensures i))))
    (taken-map literal.Map _ c.in-Err-take_entries.fault c.in-Err-take_entries.ensures)

pub take_bound-returns-in-Union-kind : goal.take_bound-returns-in-Union-kind
take_bound-returns-in-Union-kind t c =
    let source = source_in_run c.args.plan.now in
    let known = known_in c.args.plan.now c.args.state.now [] in
    taken-same _ _ c.take_variant-in-Union-kind.result
    (bound_value-at source known _ _ _ _ (ap out-Bound c.in-Map.is ∙ view.outs-Map _)
    (ap out-LiteralType c.in-Union-kind.is ∙ type.outs-Union _)
    ∙ sym (ap (λ ts. variant_value (bound_value source known c.args.x.now) (sole_element (filter (bound_fits source c.args.x.now) ts))) c.as_slice-in-Union-kind.ensures))
    c.take_variant-in-Union-kind.ensures

pub take_bound-returns-in_default-kind : goal.take_bound-returns-in_default-kind
take_bound-returns-in_default-kind t c =
    map-unknown (source_in_run c.args.plan.now) (known_in c.args.plan.now c.args.state.now []) _ _ _
    (ap out-Bound c.in-Map.is ∙ view.outs-Map _) c.in_default-kind.not-Map c.in_default-kind.not-Union

pub take_elements-returns-in-Err : goal.take_elements-returns-in-Err
take_elements-returns-in-Err t c =
    stops-taken (λ e. bound_value (source_in_run c.args.plan.now) (known_in c.args.plan.now c.args.state.now []) e c.args.kind.now)
    c.args.elements.now c.loop-element.element-index c.element-item.result _ c.in-Err.fault c.loop-element-test.true c.element-item.is
    c.loop-element.invariant c.in-Err.ensures

pub take_elements-loop-element-preserved : goal.take_elements-loop-element-preserved
take_elements-loop-element-preserved t c =
    taken-more (λ e. bound_value (source_in_run c.args.plan.now) (known_in c.args.plan.now c.args.state.now []) e c.args.kind.now)
    c.args.elements.now c.loop-element.element-index c.element-item.result _ _ _ c.loop-element-test.true c.element-item.is
    c.loop-element.invariant c.in-Ok.ensures c.in_ok-push-in-Ok.ensures.items

pub take_entries-take_bound-requires : goal.take_entries-take_bound-requires
take_entries-take_bound-requires t c =
    let source = source_in_run c.args.plan.now in
    let kind = c.args.kind.now in
    let pass : Text × Bound → Type 0 = λ e. IsTrue (bound_fits source e.1 kind) in (
      omega arith,
      (
        c.requires.0,
        subst pass (sym c.loop-name-item.is)
            (All-get_or pass c.args.entries.now c.loop-name.name-index c.loop-name-item.result c.loop-name-test.true c.requires.1),
      ),
    )

pub take_entries-returns-in-Err : goal.take_entries-returns-in-Err
take_entries-returns-in-Err t c =
    let value = λ (e : Bound). bound_value (source_in_run c.args.plan.now) (known_in c.args.plan.now c.args.state.now []) e c.args.kind.now in
    let entry = c.loop-name-item.result in
    stops-taken (entry_result value) c.args.entries.now c.loop-name.name-index entry _ c.in-Err.fault c.loop-name-test.true c.loop-name-item.is
    c.loop-name.invariant (taken-map (λ v. (entry.0, v)) (value entry.1) c.in-Err.fault c.in-Err.ensures)

pub take_entries-loop-name-preserved : goal.take_entries-loop-name-preserved
take_entries-loop-name-preserved t c =
    let value = λ (e : Bound). bound_value (source_in_run c.args.plan.now) (known_in c.args.plan.now c.args.state.now []) e c.args.kind.now in
    let entry = c.loop-name-item.result in
    taken-more (entry_result value) c.args.entries.now c.loop-name.name-index entry _ _ (c.in_ok-copy-in-Ok.field-0, c.in-Ok.value)
    c.loop-name-test.true c.loop-name-item.is c.loop-name.invariant
    (ap (result_map (λ v. (entry.0, v))) c.in-Ok.ensures ∙ ap (λ n. Ok (n, c.in-Ok.value)) (sym c.in_ok-copy-in-Ok.ensures))
    c.in_ok-push-in-Ok.ensures.items

pub take_variant-take_bound-requires : goal.take_variant-take_bound-requires
take_variant-take_bound-requires t c =
    let source = source_in_run c.args.plan.now in
    let x = c.args.x.now in
    let one = sym c.only_fitting.ensures ∙ ap option_copied c.in-Some.is in (
      omega (arith, sole_element-levels (bound_fits source x) c.args.variants.now _ one),
      (c.requires, sole_element-passes (bound_fits source x) c.args.variants.now _ one),
    )
