use Rattle.std.proofs.Common.{take}
use Rattle.fly_docs.specs.Form.{AreBindingsInForm}
use Rattle.fly_forms.proofs.bindings.are_bindings_in_form.Given as goal

abbrev pub invariant-loop-binding : goal.invariant-loop-binding
invariant-loop-binding l = AreBindingsInForm (take l.binding-index l.bindings)
