use Rattle.std.proofs.Common.{◌≡◌, [], Some, option_map, option_and_then, sym, ap, ◌∙◌, subst}
use Rattle.std.specs.Option.{option_copied}
use Rattle.std.proofs.lemmas.Option.{none-some, same_Some}
use Rattle.fly_docs.specs.declared.node.Node.{Node}
use Rattle.fly_docs.specs.declared.task.Task.{Task}
use Rattle.fly_docs.specs.Plans.{PlanNode}
use Rattle.fly_docs.specs.SlotInputs.{bound_value, values_of}
use Rattle.fly_state.specs.Origins.{source_in_run}
use Rattle.fly_state.specs.PlanTables.{outer_node}
use Rattle.fly_state.specs.Plans.{task_of}
use Rattle.fly_state.specs.States.{known_in}
use Rattle.fly_state.specs.Values.{IsTaken, FitVariables}
use Rattle.fly_state.proofs.EffectNodes.{fit-inputs}
use Rattle.fly_state.proofs.OuterPlans.{planned-outer}
use Rattle.fly_state.proofs.TaskNodes.{task-node}
use Rattle.fly_state.proofs.taking.task_inputs.Goals as goal

pub returns-in_default : goal.returns-in_default
returns-in_default c = λ n planned.
    let plan = c.args.plan.now in
    let node = task-node plan c.primary.result.now c.primary.ensures c.args.state.now c.args.number n planned in
    let runs = c.task.ensures ∙ ap (option_and_then (task_of plan)) planned ∙ node.runs in
    absurd (none-some node.task (sym (ap option_copied c.in_default.is) ∙ runs))

pub take_variables-requires-clause-fit : goal.take_variables-requires-clause-fit
take_variables-requires-clause-fit c =
    let plan = c.args.plan.now in
    let w = c.primary.result.now in
    let i = c.args.number in
    let task = c.in-Some.task.now in
    let node = planned-outer plan w c.primary.ensures i c.requires.number in
    let p : PlanNode = outer_node w (i, node.0) in
    let runs : task_of plan p ≡ Some task =
    sym (ap (option_and_then (task_of plan)) node.1) ∙ sym c.task.ensures ∙ ap option_copied c.in-Some.is in
    let own : c.node.result.now ≡ p.node =
    same_Some _ _ (sym c.node.ensures ∙ ap (option_map (λ (q : PlanNode). q.node)) node.1) in
    let source = source_in_run plan in
    subst (FitVariables source c.node.result.now.inputs) (sym c.as_slice.ensures)
    (subst (λ (m : Node). FitVariables source m.inputs task.interface.inputs) (sym own)
    (fit-inputs plan w c.primary.ensures c.args.state.now i p task node.1 runs))

pub returns : goal.returns
returns c = λ n planned.
    let plan = c.args.plan.now in
    let s = c.args.state.now in
    let node = task-node plan c.primary.result.now c.primary.ensures s c.args.number n planned in
    let runs = c.task.ensures ∙ ap (option_and_then (task_of plan)) planned ∙ node.runs in
    let task : c.in-Some.task.now ≡ node.task = same_Some _ _ (sym (ap option_copied c.in-Some.is) ∙ runs) in
    let inputs = c.as_slice.ensures ∙ ap (λ (t : Task). t.interface.inputs) task in
    let own : c.node.result.now ≡ n.node =
    same_Some _ _ (sym c.node.ensures ∙ ap (option_map (λ (p : PlanNode). p.node)) planned) in
    let value = bound_value (source_in_run plan) (known_in plan s []) in
    subst (λ wanted. IsTaken wanted c.take_variables.result)
    ((λ i. values_of value (inputs i) (own i).inputs) ∙ sym node.takes) c.take_variables.ensures
