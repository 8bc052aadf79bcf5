use Rattle.std.proofs.Common.{refl, ap, subst, ◌∙◌, ◌↔◌, IsTrue, List}
use Rattle.std.specs.List.{All}
use Rattle.fly_types.specs.declared.text.Text.{Text}
use Rattle.fly_types.specs.Sound.{AreNamesSorted}
use Rattle.fly_types.proofs.Lists.{all_more, all_done}
use Rattle.fly_docs.specs.declared.binding.Bound.{Bound, out-Bound}
use Rattle.fly_docs.specs.declared.binding.Bound.TheOpen.{Bound-F}
use Rattle.fly_docs.specs.declared.binding.Bound.TheViews as view
use Rattle.fly_docs.specs.Form.{IsBoundInForm}
use Rattle.fly_forms.proofs.BoundLayers.{answers_bound}
use Rattle.fly_forms.proofs.bindings.+bound_in_form.Goals as goal

pub are_bounds_in_form-loop-bound-preserved : goal.are_bounds_in_form-loop-bound-preserved
are_bounds_in_form-loop-bound-preserved t c =
    all_more IsBoundInForm _ _ c.bound-item.result c.loop-bound-test.true c.bound-item.is c.loop-bound.invariant
    (c.is_bound_in_form.ensures.0 c.if-not-is_bound_in_form.false)

pub are_bounds_in_form-returns : goal.are_bounds_in_form-returns
are_bounds_in_form-returns t c = (
  λ _. all_done IsBoundInForm _ _ c.loop-bound-test.false c.loop-bound.invariant,
  λ _.
      refl,
)

pub are_values_in_form-loop-value-preserved : goal.are_values_in_form-loop-value-preserved
are_values_in_form-loop-value-preserved t c =
    all_more (λ (e : Text × Bound). IsBoundInForm e.1) _ _ c.loop-value-item.result c.loop-value-test.true
    c.loop-value-item.is c.loop-value.invariant
    (c.is_bound_in_form.ensures.0 c.if-not-is_bound_in_form.false)

pub are_values_in_form-returns : goal.are_values_in_form-returns
are_values_in_form-returns t c = (
  λ _. all_done (λ (e : Text × Bound). IsBoundInForm e.1) _ _ c.loop-value-test.false c.loop-value.invariant,
  λ _. refl,
)

pub is_bound_in_form-returns-in-Scalar : goal.is_bound_in_form-returns-in-Scalar
is_bound_in_form-returns-in-Scalar t c =
    let answer = c.is_no_container.ensures in
    answers_bound c.args.bound.now (Bound-F.Scalar c.in-Scalar.literal)
    (ap out-Bound c.in-Scalar.is ∙ view.outs-Scalar _)
    (λ r. (answer.0 r, tt), λ h. answer.1 h.0)

pub is_bound_in_form-returns-in-Collection : goal.is_bound_in_form-returns-in-Collection
is_bound_in_form-returns-in-Collection t c =
    let answer = subst (λ (xs : List Bound). IsTrue c.are_bounds_in_form.result ↔ All IsBoundInForm xs)
    c.as_slice.ensures c.are_bounds_in_form.ensures in
    answers_bound c.args.bound.now (Bound-F.Collection c.in-Collection.elements)
    (ap out-Bound c.in-Collection.is ∙ view.outs-Collection _)
    (λ r. (tt, answer.0 r), λ h. answer.1 h.1)

pub is_bound_in_form-returns-in-Map : goal.is_bound_in_form-returns-in-Map
is_bound_in_form-returns-in-Map t c =
    let answer = subst (λ (es : List (Text × Bound)). IsTrue
    c.is_map_in_form.result ↔ (AreNamesSorted es × All (λ (e : Text × Bound). IsBoundInForm e.1) es))
    c.as_slice-in-Map.ensures c.is_map_in_form.ensures in
    answers_bound c.args.bound.now (Bound-F.Map c.in-Map.entries) (ap out-Bound c.in-Map.is ∙ view.outs-Map _) answer

pub is_bound_in_form-returns-in-Promise : goal.is_bound_in_form-returns-in-Promise
is_bound_in_form-returns-in-Promise t c =
    answers_bound c.args.bound.now (Bound-F.Promise c.in-Promise.node c.in-Promise.var)
    (ap out-Bound c.in-Promise.is ∙ view.outs-Promise _ _)
    (λ _. (tt, tt), λ _. refl)
