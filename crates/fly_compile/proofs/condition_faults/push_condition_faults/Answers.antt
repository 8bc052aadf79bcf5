use Rattle.std.proofs.Common.{ℕ, sym, ◌∙◌, ◌++◌, ◌&&◌, [], ap, map, cond, codes}
use Rattle.std.specs.Prelude.{not, decimal}
use Rattle.std.specs.List.{flat_map, enumerate_from}
use Rattle.std.specs.Option.{option_to_list}
use Rattle.fly_docs.specs.declared.node.Case.{Case}
use Rattle.fly_docs.specs.Conditions.{branch_variables, condition_fault}
use Rattle.fly_faults.specs.declared.fault.Code.TheVariants as code
use Rattle.fly_faults.specs.NodeFaults.{kind_text}
use Rattle.fly_faults.specs.Places.{fault_with}
use Rattle.fly_compile.specs.Scopes.{source_there}
use Rattle.fly_faults.proofs.Loops.{on_ok}
use Rattle.fly_compile.proofs.condition_faults.push_condition_faults.Goals as goal

pub returns : goal.returns
returns c =
    on_ok c.push_case_faults.result
    (λ pushed. pushed
    ∙ ap (λ variables. c.args.faults.now.items
    ++ flat_map (λ (at : ℕ × Case). map (λ kind. fault_with code.ExprFault c.args.site.now.place (decimal at.0 ++ codes " " ++ kind_text kind))
    (option_to_list (condition_fault variables at.1))) (enumerate_from 0 c.args.cases.now)) c.in_ok-variables.ensures
    ∙ (λ i. c.args.faults.now.items
    ++ cond ((sym c.if-not-are_sound.false ∙ c.requires) i && not ((sym c.if-branch.false ∙ c.in_ok-bind_anything.ensures) i))
    (flat_map (λ (at : ℕ × Case). map (λ kind. fault_with code.ExprFault c.args.site.now.place (decimal at.0 ++ codes " " ++ kind_text kind))
    (option_to_list (condition_fault (branch_variables (source_there c.args.site.now.sources.now) c.args.inputs.now) at.1))) (enumerate_from 0 c.args.cases.now)) []))
    c.push_case_faults.ensures
