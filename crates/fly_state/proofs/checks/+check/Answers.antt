use Rattle.std.proofs.Common.{[], arith, refl, sym, ◌∙◌, ap}
use Rattle.std.specs.Option.{option_copied}
use Rattle.fly_types.specs.declared.kinds.LiteralType.{out-LiteralType}
use Rattle.fly_types.specs.declared.kinds.LiteralType.TheViews as type
use Rattle.fly_types.specs.declared.literals.Literal.TheVariants as literal
use Rattle.fly_cast.specs.Conversion.{result_map, entry_result}
use Rattle.fly_cast.specs.Fitting.{fitting_of}
use Rattle.fly_cast.proofs.Levels.{sole_element-levels}
use Rattle.fly_docs.specs.declared.binding.Bound.{Bound, out-Bound}
use Rattle.fly_docs.specs.declared.binding.Bound.TheViews as view
use Rattle.fly_docs.specs.Fitting.{bound_fits}
use Rattle.fly_docs.specs.SlotInputs.{bound_value, variant_value}
use Rattle.fly_state.specs.declared.checks.Taking.TheVariants as taking
use Rattle.fly_state.specs.Origins.{source_in_run}
use Rattle.fly_state.specs.States.{known_in}
use Rattle.fly_state.proofs.BindingValues.{bound_value-at, collection-unknown, map-unknown}
use Rattle.fly_state.proofs.TakingLemmas.{taking-same, taking-map, stops-taking, more-there, scalar-there, scalar-unknown}
use Rattle.fly_state.proofs.TakingLemmas.{taking-collection, taking-entries, taking-variants}
use Rattle.fly_state.proofs.checks.+check.Goals as goal

pub check_bound-returns-in-Promise : goal.check_bound-returns-in-Promise
check_bound-returns-in-Promise t c =
    let known = known_in c.args.plan.now c.args.state.now [] in
    taking-same _ _ c.check_promise.result
    (bound_value-at (source_in_run c.args.plan.now) known _ _ _ _
    (ap out-Bound c.in-Promise.is ∙ view.outs-Promise _ _) refl) c.check_promise.ensures

pub check_bound-returns-then-does_fit : goal.check_bound-returns-then-does_fit
check_bound-returns-then-does_fit t c =
    let known = known_in c.args.plan.now c.args.state.now [] in
    taking-same _ _ taking.There
    (bound_value-at (source_in_run c.args.plan.now) known _ _ _ _
    (ap out-Bound c.in-Scalar.is ∙ view.outs-Scalar _) refl)
    (scalar-there (fitting_of c.in-Scalar.literal c.args.kind.now) (sym c.does_fit.ensures ∙ c.if-does_fit.true))

pub check_bound-returns-else-does_fit : goal.check_bound-returns-else-does_fit
check_bound-returns-else-does_fit t c =
    let known = known_in c.args.plan.now c.args.state.now [] in
    taking-same _ _ taking.Unknown
    (bound_value-at (source_in_run c.args.plan.now) known _ _ _ _
    (ap out-Bound c.in-Scalar.is ∙ view.outs-Scalar _) refl)
    (scalar-unknown (fitting_of c.in-Scalar.literal c.args.kind.now) (sym c.does_fit.ensures ∙ c.if-does_fit.false))

pub check_bound-returns-in-Collection-kind : goal.check_bound-returns-in-Collection-kind
check_bound-returns-in-Collection-kind t c =
    taking-collection _ _ _ _ _ _ _ _ _ (ap out-Bound c.in-Collection.is ∙ view.outs-Collection _)
    (ap out-LiteralType c.in-Collection-kind.is ∙ type.outs-Collection _)
    c.as_slice.ensures c.get.ensures c.check_elements.ensures

pub check_bound-returns-in-Map-kind : goal.check_bound-returns-in-Map-kind
check_bound-returns-in-Map-kind t c =
    taking-entries _ _ _ _ _ _ _ _ _ (ap out-Bound c.in-Map.is ∙ view.outs-Map _)
    (ap out-LiteralType c.in-Map-kind.is ∙ type.outs-Map _)
    c.as_slice-in-Map-kind.ensures c.get-in-Map-kind.ensures c.check_entries.ensures

pub check_bound-returns-in-Union : goal.check_bound-returns-in-Union
check_bound-returns-in-Union t c =
    taking-variants _ _ _ _ _ _ _ _ (ap out-Bound c.in-Collection.is ∙ view.outs-Collection _)
    (ap out-LiteralType c.in-Union.is ∙ type.outs-Union _)
    c.as_slice-in-Union.ensures refl c.check_variants.ensures

pub check_bound-returns-in-Union-kind : goal.check_bound-returns-in-Union-kind
check_bound-returns-in-Union-kind t c =
    taking-variants _ _ _ _ _ _ _ _ (ap out-Bound c.in-Map.is ∙ view.outs-Map _)
    (ap out-LiteralType c.in-Union-kind.is ∙ type.outs-Union _)
    c.as_slice-in-Union-kind.ensures refl c.check_variants-in-Union-kind.ensures

pub check_bound-returns-in_default : goal.check_bound-returns-in_default
check_bound-returns-in_default t c =
    let known = known_in c.args.plan.now c.args.state.now [] in
    taking-same _ _ taking.Unknown
    (collection-unknown (source_in_run c.args.plan.now) known _ _ _
    (ap out-Bound c.in-Collection.is ∙ view.outs-Collection _) c.in_default.not-Collection c.in_default.not-Union) tt

pub check_bound-returns-in_default-kind : goal.check_bound-returns-in_default-kind
check_bound-returns-in_default-kind t c =
    let known = known_in c.args.plan.now c.args.state.now [] in
    taking-same _ _ taking.Unknown
    (map-unknown (source_in_run c.args.plan.now) known _ _ _
    (ap out-Bound c.in-Map.is ∙ view.outs-Map _) c.in_default-kind.not-Map c.in_default-kind.not-Union) tt

pub check_variants-check_bound-requires : goal.check_variants-check_bound-requires
check_variants-check_bound-requires t c =
    let fits = bound_fits (source_in_run c.args.plan.now) c.args.x.now in
    let one = sym c.only_fitting.ensures ∙ ap option_copied c.in-Some.is in (
      omega (arith, sole_element-levels fits c.args.variants.now _ one),
      c.requires,
    )

pub check_variants-returns-in-Some : goal.check_variants-returns-in-Some
check_variants-returns-in-Some t c =
    let known = known_in c.args.plan.now c.args.state.now [] in
    let value = bound_value (source_in_run c.args.plan.now) known c.args.x.now in
    let variant = c.in-Some.variant.now in
    taking-same _ (result_map (λ l. literal.Union l variant) (value variant)) c.check_bound.result
    (ap (variant_value value) (sym c.only_fitting.ensures ∙ ap option_copied c.in-Some.is))
    (taking-map (λ l. literal.Union l variant) (value variant) c.check_bound.result c.check_bound.ensures)

pub check_elements-loop-element-preserved : goal.check_elements-loop-element-preserved
check_elements-loop-element-preserved t c =
    let known = known_in c.args.plan.now c.args.state.now [] in
    more-there (λ e. bound_value (source_in_run c.args.plan.now) known e c.args.kind.now)
    c.args.elements.now c.loop-element.element-index c.element-item.result c.loop-element-test.true c.element-item.is
    c.loop-element.invariant c.in-There.ensures

pub check_elements-returns-in_default : goal.check_elements-returns-in_default
check_elements-returns-in_default t c =
    let known = known_in c.args.plan.now c.args.state.now [] in
    stops-taking (λ e. bound_value (source_in_run c.args.plan.now) known e c.args.kind.now)
    c.args.elements.now c.loop-element.element-index c.element-item.result c.check_bound.result
    c.loop-element-test.true c.element-item.is c.loop-element.invariant c.in_default.not-There c.check_bound.ensures

pub check_entries-loop-value-preserved : goal.check_entries-loop-value-preserved
check_entries-loop-value-preserved t c =
    let known = known_in c.args.plan.now c.args.state.now [] in
    let value = λ (e : Bound). bound_value (source_in_run c.args.plan.now) known e c.args.kind.now in
    let entry = c.loop-value-item.result in
    more-there (entry_result value) c.args.entries.now c.loop-value.value-index entry c.loop-value-test.true
    c.loop-value-item.is c.loop-value.invariant
    (taking-map (λ v. (entry.0, v)) (value entry.1) taking.There c.in-There.ensures)

pub check_entries-returns-in_default : goal.check_entries-returns-in_default
check_entries-returns-in_default t c =
    let known = known_in c.args.plan.now c.args.state.now [] in
    let value = λ (e : Bound). bound_value (source_in_run c.args.plan.now) known e c.args.kind.now in
    let entry = c.loop-value-item.result in
    stops-taking (entry_result value) c.args.entries.now c.loop-value.value-index entry c.check_bound.result
    c.loop-value-test.true c.loop-value-item.is c.loop-value.invariant c.in_default.not-There
    (taking-map (λ v. (entry.0, v)) (value entry.1) c.check_bound.result c.check_bound.ensures)
