use Rattle.std.proofs.Common.{arith, sym, ◌∙◌, ap, refl, is_some, filter}
use Rattle.std.specs.List.{list_all}
use Rattle.fly_types.specs.declared.kinds.LiteralType.{out-LiteralType}
use Rattle.fly_types.specs.declared.kinds.LiteralType.TheViews as type
use Rattle.fly_docs.specs.declared.binding.Bound.{out-Bound}
use Rattle.fly_docs.specs.declared.binding.Bound.TheViews as view
use Rattle.fly_cast.specs.Castable.{sole_element}
use Rattle.fly_cast.proofs.Fits.{is_some-copied}
use Rattle.fly_docs.specs.Fitting.{source_fits}
use Rattle.fly_state.proofs.BindingFits.{bound_fits-at, collection-misfit, map-misfit}
use Rattle.fly_docs.specs.Fitting.{bound_fits}
use Rattle.fly_cast.proofs.Levels.{variant-levels}
use Rattle.fly_cast.proofs.Lists.{two_pass, some_copied}
use Rattle.fly_state.specs.Origins.{source_in_run}
use Rattle.fly_state.proofs.fits.+bound_fits.Goals as goal

pub only_fitting-does_bound_fit-requires : goal.only_fitting-does_bound_fit-requires
only_fitting-does_bound_fit-requires t c = (
  omega (
    arith,
    variant-levels c.args.variants.now _ c.variant-item.result c.loop-variant-test.true
        c.variant-item.is,
  ),
  tt,
)

pub only_fitting-returns-then-is_some : goal.only_fitting-returns-then-is_some
only_fitting-returns-then-is_some t c =
    let one = some_copied c.loop-variant.fitting (sym c.is_some.ensures ∙ c.if-is_some.true) in
    two_pass (bound_fits (source_in_run c.args.plan.now) c.args.x.now) _ c.loop-variant.variant-index c.variant-item.result
    one.0 c.loop-variant-test.true c.variant-item.is
    (sym c.does_bound_fit.ensures ∙ c.if-does_bound_fit.true) (c.loop-variant.invariant ∙ one.1)

pub does_bound_fit-returns-in-Promise : goal.does_bound_fit-returns-in-Promise
does_bound_fit-returns-in-Promise t c =
    c.fits.ensures ∙ ap (source_fits c.args.kind.now) c.source.ensures
    ∙ sym (bound_fits-at (source_in_run c.args.plan.now) _ _ _ _ (ap out-Bound c.in-Promise.is ∙ view.outs-Promise _ _) refl)

pub does_bound_fit-returns-in-Scalar : goal.does_bound_fit-returns-in-Scalar
does_bound_fit-returns-in-Scalar t c =
    c.does_fit.ensures
    ∙ sym (bound_fits-at (source_in_run c.args.plan.now) _ _ _ _ (ap out-Bound c.in-Scalar.is ∙ view.outs-Scalar _) refl)

pub does_bound_fit-returns-in-Collection-kind : goal.does_bound_fit-returns-in-Collection-kind
does_bound_fit-returns-in-Collection-kind t c =
    c.do_bounds_fit.ensures
    ∙ (λ i. list_all (λ e. bound_fits (source_in_run c.args.plan.now) e (c.get.ensures i)) (c.as_slice.ensures i))
    ∙ sym (bound_fits-at (source_in_run c.args.plan.now) _ _ _ _ (ap out-Bound c.in-Collection.is ∙ view.outs-Collection _)
    (ap out-LiteralType c.in-Collection-kind.is ∙ type.outs-Collection _))

pub does_bound_fit-returns-in-Map-kind : goal.does_bound_fit-returns-in-Map-kind
does_bound_fit-returns-in-Map-kind t c =
    c.do_entries_fit.ensures
    ∙ (λ i. list_all (λ e. bound_fits (source_in_run c.args.plan.now) e.1 (c.get-in-Map-kind.ensures i)) (c.as_slice-in-Map-kind.ensures i))
    ∙ sym (bound_fits-at (source_in_run c.args.plan.now) _ _ _ _ (ap out-Bound c.in-Map.is ∙ view.outs-Map _)
    (ap out-LiteralType c.in-Map-kind.is ∙ type.outs-Map _))

pub does_bound_fit-returns-in-Union : goal.does_bound_fit-returns-in-Union
does_bound_fit-returns-in-Union t c =
    c.is_some.ensures ∙ is_some-copied c.only_fitting.result ∙ ap is_some c.only_fitting.ensures
    ∙ ap (λ ts. is_some (sole_element (filter (bound_fits (source_in_run c.args.plan.now) c.args.x.now) ts))) c.as_slice-in-Union.ensures
    ∙ sym (bound_fits-at (source_in_run c.args.plan.now) _ _ _ _ (ap out-Bound c.in-Collection.is ∙ view.outs-Collection _)
    (ap out-LiteralType c.in-Union.is ∙ type.outs-Union _))

pub does_bound_fit-returns-in-Union-kind : goal.does_bound_fit-returns-in-Union-kind
does_bound_fit-returns-in-Union-kind t c =
    c.is_some-in-Union-kind.ensures ∙ is_some-copied c.only_fitting-in-Union-kind.result ∙ ap is_some c.only_fitting-in-Union-kind.ensures
    ∙ ap (λ ts. is_some (sole_element (filter (bound_fits (source_in_run c.args.plan.now) c.args.x.now) ts))) c.as_slice-in-Union-kind.ensures
    ∙ sym (bound_fits-at (source_in_run c.args.plan.now) _ _ _ _ (ap out-Bound c.in-Map.is ∙ view.outs-Map _)
    (ap out-LiteralType c.in-Union-kind.is ∙ type.outs-Union _))

pub does_bound_fit-returns-in_default : goal.does_bound_fit-returns-in_default
does_bound_fit-returns-in_default t c =
    sym (collection-misfit (source_in_run c.args.plan.now) _ _ _ (ap out-Bound c.in-Collection.is ∙ view.outs-Collection _)
    c.in_default.not-Collection c.in_default.not-Union)

pub does_bound_fit-returns-in_default-kind : goal.does_bound_fit-returns-in_default-kind
does_bound_fit-returns-in_default-kind t c =
    sym (map-misfit (source_in_run c.args.plan.now) _ _ _ (ap out-Bound c.in-Map.is ∙ view.outs-Map _)
    c.in_default-kind.not-Map c.in_default-kind.not-Union)
