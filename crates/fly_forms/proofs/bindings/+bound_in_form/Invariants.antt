use Rattle.std.proofs.Common.{take}
use Rattle.std.specs.List.{All}
use Rattle.fly_docs.specs.Form.{IsBoundInForm}
use Rattle.fly_forms.proofs.bindings.+bound_in_form.Given as goal

abbrev pub invariant-are_bounds_in_form-loop-bound : goal.invariant-are_bounds_in_form-loop-bound
invariant-are_bounds_in_form-loop-bound l = All IsBoundInForm (take l.bound-index l.bounds)

abbrev pub invariant-are_values_in_form-loop-value : goal.invariant-are_values_in_form-loop-value
invariant-are_values_in_form-loop-value l = All (λ entry. IsBoundInForm entry.1) (take l.value-index l.entries)
