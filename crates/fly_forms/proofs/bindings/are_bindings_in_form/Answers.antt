use Rattle.std.proofs.Common.{refl}
use Rattle.fly_types.proofs.Lists.{all_more, all_done}
use Rattle.fly_docs.specs.declared.binding.Binding.{Binding}
use Rattle.fly_docs.specs.Form.{IsBoundInForm}
use Rattle.fly_forms.proofs.bindings.are_bindings_in_form.Goals as goal

pub loop-binding-preserved : goal.loop-binding-preserved
loop-binding-preserved c =
    all_more (λ (b : Binding). IsBoundInForm b.bound) _ _ c.binding-item.result c.loop-binding-test.true
    c.binding-item.is c.loop-binding.invariant
    (c.is_bound_in_form.ensures.0 c.if-not-is_bound_in_form.false)

pub returns : goal.returns
returns c = (
  λ _. all_done (λ (b : Binding). IsBoundInForm b.bound) _ _ c.loop-binding-test.false c.loop-binding.invariant,
  λ _. refl,
)
