use Rattle.std.proofs.Common.{arith, sym, ◌∙◌, ap, is_some}
use Rattle.fly_types.specs.declared.kinds.LiteralType.{out-LiteralType}
use Rattle.fly_types.specs.declared.kinds.LiteralType.TheViews as type
use Rattle.fly_types.specs.declared.literals.Literal.{out-Literal}
use Rattle.fly_types.specs.declared.literals.Literal.TheViews as literal
use Rattle.fly_cast.specs.Fitting.{fitting_of}
use Rattle.fly_cast.proofs.Levels.{variant-levels}
use Rattle.fly_cast.proofs.Lists.{two_pass, some_copied}
use Rattle.fly_cast.proofs.Fits.{fitting_of-member, fitting_of-other, form-at-collection, form-at-map, elements-test, entries-test, fitting_into_one-test, plain-fits, is_some-copied}
use Rattle.fly_cast.proofs.fitting.+does_fit.Goals as goal

pub does_fit-returns-then-is_member : goal.does_fit-returns-then-is_member
does_fit-returns-then-is_member t c =
    c.if-is_member.true ∙ sym (ap is_some (fitting_of-member _ _ _ c.is_member.ensures c.if-is_member.true))

pub does_fit-returns-else-is_member : goal.does_fit-returns-else-is_member
does_fit-returns-else-is_member t c =
    c.does_form_fit.ensures ∙ sym (ap is_some (fitting_of-other _ _ _ c.is_member.ensures c.if-is_member.false))

pub does_form_fit-returns-in-Collection-literal : goal.does_form_fit-returns-in-Collection-literal
does_form_fit-returns-in-Collection-literal t c =
    c.do_elements_fit.ensures
    ∙ sym (ap is_some (form-at-collection _ _ _ _
    (ap out-LiteralType c.in-Collection.is ∙ type.outs-Collection _) c.get.ensures)
    ∙ elements-test (λ e. fitting_of e c.get.result.now) _ _ _
    (ap out-Literal c.in-Collection-literal.is ∙ literal.outs-Collection _) c.as_slice.ensures)

pub does_form_fit-returns-in-Map-literal : goal.does_form_fit-returns-in-Map-literal
does_form_fit-returns-in-Map-literal t c =
    c.do_values_fit.ensures
    ∙ sym (ap is_some (form-at-map _ _ _ _
    (ap out-LiteralType c.in-Map.is ∙ type.outs-Map _) c.get-in-Map-literal.ensures)
    ∙ entries-test (λ e. fitting_of e c.get-in-Map-literal.result.now) _ _ _
    (ap out-Literal c.in-Map-literal.is ∙ literal.outs-Map _)
    c.as_slice-in-Map-literal.ensures)

pub does_fit_union-returns-in_default : goal.does_fit_union-returns-in_default
does_fit_union-returns-in_default t c =
    c.is_some.ensures ∙ is_some-copied c.only_fitting.result ∙ ap is_some c.only_fitting.ensures
    ∙ sym (ap is_some (plain-fits (fitting_of c.args.literal.now) _ _ c.in_default.not-Union)
    ∙ fitting_into_one-test (fitting_of c.args.literal.now) _)

pub only_fitting-does_fit-requires : goal.only_fitting-does_fit-requires
only_fitting-does_fit-requires t c = (
  omega (
    arith,
    variant-levels c.args.variants.now _ c.variant-item.result c.loop-variant-test.true
        c.variant-item.is,
  ),
  tt,
)

pub only_fitting-returns-then-is_some : goal.only_fitting-returns-then-is_some
only_fitting-returns-then-is_some t c =
    let one = some_copied c.loop-variant.fitting (sym c.is_some.ensures ∙ c.if-is_some.true) in
    two_pass (λ v. is_some (fitting_of c.args.literal.now v)) _ c.loop-variant.variant-index c.variant-item.result
    one.0 c.loop-variant-test.true c.variant-item.is
    (sym c.does_fit.ensures ∙ c.if-does_fit.true) (c.loop-variant.invariant ∙ one.1)
