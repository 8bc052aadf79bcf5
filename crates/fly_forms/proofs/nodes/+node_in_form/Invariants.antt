use Rattle.std.proofs.Common.{take}
use Rattle.std.specs.List.{All}
use Rattle.fly_forms.specs.Nodes.{IsCaseInForm}
use Rattle.fly_forms.proofs.nodes.+node_in_form.Given as goal

abbrev pub invariant-are_cases_in_form-loop-case : goal.invariant-are_cases_in_form-loop-case
invariant-are_cases_in_form-loop-case l = All IsCaseInForm (take l.case-index l.cases)
