use Rattle.std.proofs.Common.{◌≡◌, [], option_map, option_and_then, sym, ap, ◌∙◌, subst}
use Rattle.std.specs.Option.{option_copied}
use Rattle.std.proofs.lemmas.Option.{none-some, same_Some}
use Rattle.fly_docs.specs.declared.task.Task.{Task}
use Rattle.fly_docs.specs.Plans.{PlanNode}
use Rattle.fly_docs.specs.SlotInputs.{bound_value, values_of}
use Rattle.fly_state.specs.Checks.{IsTakingOf}
use Rattle.fly_state.specs.Origins.{source_in_run}
use Rattle.fly_state.specs.Plans.{task_of}
use Rattle.fly_state.specs.States.{known_in}
use Rattle.fly_state.proofs.TaskNodes.{task-node}
use Rattle.fly_state.proofs.legal.inputs.Goals as goal

pub returns-in_default : goal.returns-in_default
returns-in_default c = λ n planned.
    let plan = c.args.p.now in
    let node = task-node plan c.primary.result.now c.primary.ensures c.args.state.now c.args.number n planned in
    absurd (none-some node.task
    (sym (ap option_copied c.in_default.is) ∙ c.task.ensures
    ∙ ap (option_and_then (task_of plan)) planned ∙ node.runs))

pub returns : goal.returns
returns c = λ n planned.
    let plan = c.args.p.now in
    let s = c.args.state.now in
    let node = task-node plan c.primary.result.now c.primary.ensures s c.args.number n planned in
    let task : c.in-Some.task.now ≡ node.task =
    same_Some _ _ (sym (ap option_copied c.in-Some.is) ∙ c.task.ensures
    ∙ ap (option_and_then (task_of plan)) planned ∙ node.runs) in
    let inputs = c.as_slice.ensures ∙ ap (λ (t : Task). t.interface.inputs) task in
    let own : c.node.result.now ≡ n.node =
    same_Some _ _ (sym c.node.ensures ∙ ap (option_map (λ (p : PlanNode). p.node)) planned) in
    let value = bound_value (source_in_run plan) (known_in plan s []) in
    subst (λ wanted. IsTakingOf wanted c.check_variables.result)
    ((λ i. values_of value (inputs i) (own i).inputs) ∙ sym node.takes) c.check_variables.ensures
