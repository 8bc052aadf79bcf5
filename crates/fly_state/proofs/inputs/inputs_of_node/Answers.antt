use Rattle.std.proofs.Common.{◌≡◌, [], Some, None, Ok, Err, map, option_map, option_and_then, sym, ap, ◌∙◌, subst}
use Rattle.std.specs.Option.{option_copied}
use Rattle.std.proofs.lemmas.Option.{none-some, same_Some}
use Rattle.fly_docs.specs.declared.node.Node.{Node}
use Rattle.fly_docs.specs.declared.task.Task.{Task}
use Rattle.fly_docs.specs.Plans.{PlanNode}
use Rattle.fly_docs.specs.SlotInputs.{bound_value, values_of}
use Rattle.fly_state.specs.Origins.{source_in_run}
use Rattle.fly_state.specs.PlanTables.{outer_node}
use Rattle.fly_state.specs.Plans.{node_numbered, task_of}
use Rattle.fly_state.specs.Sites.{binding_place}
use Rattle.fly_state.specs.States.{known_in}
use Rattle.fly_state.specs.declared.values.ValueFault.{ValueFault}
use Rattle.fly_state.specs.Values.{IsTaken, FitVariables}
use Rattle.fly_state.proofs.AskedInputs.{asked-node}
use Rattle.fly_state.proofs.NotUnknown.{IsClear}
use Rattle.fly_state.proofs.OuterTypes.{known-types}
use Rattle.fly_state.proofs.inputs.inputs_of_node.Goals as goal

pub unreachable-requires : goal.unreachable-requires
unreachable-requires c =
    let plan = c.args.p.now in
    let s = c.args.s.now in
    let asked = asked-node plan c.primary.result.now c.primary.ensures s c.requires.of_plan c.args.number c.requires.asked in
    none-some asked.task (sym (ap option_copied c.in_default.is) ∙ c.task.ensures ∙ asked.runs)

pub node-requires : goal.node-requires
node-requires c =
    let plan = c.args.p.now in
    let s = c.args.s.now in
    let asked = asked-node plan c.primary.result.now c.primary.ensures s c.requires.of_plan c.args.number c.requires.asked in
    asked.small

pub bindings-requires : goal.bindings-requires
bindings-requires c =
    let plan = c.args.p.now in
    let s = c.args.s.now in
    let asked = asked-node plan c.primary.result.now c.primary.ensures s c.requires.of_plan c.args.number c.requires.asked in
    asked.small

pub take_variables-requires-clause-known : goal.take_variables-requires-clause-known
take_variables-requires-clause-known c =
    known-types c.args.p.now c.primary.result.now c.primary.ensures c.args.s.now c.requires.of_plan

pub take_variables-requires-clause-fit : goal.take_variables-requires-clause-fit
take_variables-requires-clause-fit c =
    let plan = c.args.p.now in
    let s = c.args.s.now in
    let asked = asked-node plan c.primary.result.now c.primary.ensures s c.requires.of_plan c.args.number c.requires.asked in
    let task : c.in-Some.task.now ≡ asked.task = same_Some _ _ (sym (ap option_copied c.in-Some.is) ∙ c.task.ensures ∙ asked.runs) in
    let inputs = c.as_slice.ensures ∙ ap (λ (t : Task). t.interface.inputs) task in
    let node : c.node.result.now ≡ asked.node = same_Some _ _ (sym c.node.ensures ∙ ap (option_map (λ (p : PlanNode). p.node)) asked.planned) in
    subst (FitVariables (source_in_run plan) c.node.result.now.inputs) (sym inputs)
    (subst (λ (m : Node). FitVariables (source_in_run plan) m.inputs asked.task.interface.inputs) (sym node) asked.fit)

pub take_variables-requires-clause-places : goal.take_variables-requires-clause-places
take_variables-requires-clause-places c =
    let plan = c.args.p.now in
    let s = c.args.s.now in
    let asked = asked-node plan c.primary.result.now c.primary.ensures s c.requires.of_plan c.args.number c.requires.asked in
    let task : c.in-Some.task.now ≡ asked.task = same_Some _ _ (sym (ap option_copied c.in-Some.is) ∙ c.task.ensures ∙ asked.runs) in
    let inputs = c.as_slice.ensures ∙ ap (λ (t : Task). t.interface.inputs) task in
    let node : c.node.result.now ≡ asked.node = same_Some _ _ (sym c.node.ensures ∙ ap (option_map (λ (p : PlanNode). p.node)) asked.planned) in
    c.bindings.ensures (outer_node c.primary.result.now (c.args.number, asked.node)) asked.task asked.planned
    (sym (ap (option_and_then (task_of plan)) asked.planned) ∙ asked.runs)
    ∙ sym (λ i. map (binding_place (node i).inputs) (inputs i))

pub returns-in-Ok : goal.returns-in-Ok
returns-in-Ok c =
    let plan = c.args.p.now in
    let s = c.args.s.now in
    let asked = asked-node plan c.primary.result.now c.primary.ensures s c.requires.of_plan c.args.number c.requires.asked in
    let task : c.in-Some.task.now ≡ asked.task = same_Some _ _ (sym (ap option_copied c.in-Some.is) ∙ c.task.ensures ∙ asked.runs) in
    let inputs = c.as_slice.ensures ∙ ap (λ (t : Task). t.interface.inputs) task in
    let node : c.node.result.now ≡ asked.node = same_Some _ _ (sym c.node.ensures ∙ ap (option_map (λ (p : PlanNode). p.node)) asked.planned) in
    let value = bound_value (source_in_run plan) (known_in plan s []) in
    let both : values_of value c.as_slice.result.now c.node.result.now.inputs ≡ values_of value asked.task.interface.inputs asked.node.inputs =
    λ i. values_of value (inputs i) (node i).inputs in
    asked.wanted ∙ sym both ∙ c.in-Ok.ensures

pub returns-in-Err-Outside : goal.returns-in-Err-Outside
returns-in-Err-Outside c =
    let plan = c.args.p.now in
    let s = c.args.s.now in
    let asked = asked-node plan c.primary.result.now c.primary.ensures s c.requires.of_plan c.args.number c.requires.asked in
    let task : c.in-Some.task.now ≡ asked.task = same_Some _ _ (sym (ap option_copied c.in-Some.is) ∙ c.task.ensures ∙ asked.runs) in
    let inputs = c.as_slice.ensures ∙ ap (λ (t : Task). t.interface.inputs) task in
    let node : c.node.result.now ≡ asked.node = same_Some _ _ (sym c.node.ensures ∙ ap (option_map (λ (p : PlanNode). p.node)) asked.planned) in
    let value = bound_value (source_in_run plan) (known_in plan s []) in
    let both : values_of value c.as_slice.result.now c.node.result.now.inputs ≡ values_of value asked.task.interface.inputs asked.node.inputs =
    λ i. values_of value (inputs i) (node i).inputs in
    let told = subst (λ (d : ValueFault). IsTaken (values_of value c.as_slice.result.now c.node.result.now.inputs) (Err d)) c.in-Err-Outside.field-0-is
    c.in-Err-Outside.ensures in
    asked.wanted ∙ sym both ∙ told

pub unreachable-requires-in-Err-Unknown : goal.unreachable-requires-in-Err-Unknown
unreachable-requires-in-Err-Unknown c =
    let plan = c.args.p.now in
    let s = c.args.s.now in
    let asked = asked-node plan c.primary.result.now c.primary.ensures s c.requires.of_plan c.args.number c.requires.asked in
    let task : c.in-Some.task.now ≡ asked.task = same_Some _ _ (sym (ap option_copied c.in-Some.is) ∙ c.task.ensures ∙ asked.runs) in
    let inputs = c.as_slice.ensures ∙ ap (λ (t : Task). t.interface.inputs) task in
    let node : c.node.result.now ≡ asked.node = same_Some _ _ (sym c.node.ensures ∙ ap (option_map (λ (p : PlanNode). p.node)) asked.planned) in
    let value = bound_value (source_in_run plan) (known_in plan s []) in
    let both : values_of value c.as_slice.result.now c.node.result.now.inputs ≡ values_of value asked.task.interface.inputs asked.node.inputs =
    λ i. values_of value (inputs i) (node i).inputs in
    let told = subst (λ (d : ValueFault). IsTaken (values_of value c.as_slice.result.now c.node.result.now.inputs) (Err d)) c.in-Err-Unknown.field-0-is
    c.in-Err-Unknown.ensures in
    subst IsClear (sym both ∙ told) asked.clear
