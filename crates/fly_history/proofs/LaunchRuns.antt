-- What is launched runs, in the current version, with the inputs that it is launched with.
use Rattle.std.proofs.Common.{◌≡◌, inl, inr, ℕ, Bool, true, false, not, ◌&&◌, eqb, List, [], ◌∷◌, Option, Some, None, Ok, Err, option_map, option_to_list, unwrap_or, refl, sym, ◌∙◌, ap, subst, ⊎_elim}
use Rattle.std.specs.List.{list_any, slice_get}
use Rattle.std.proofs.lemmas.Bool.{and_parts, or_cases, false≢true, not-false, eqb-true}
use Rattle.std.proofs.lemmas.List.Quantifiers.{position-Some}
use Rattle.std.proofs.lemmas.Option.{none-some, same_Some, get_or_from_slice_get}
use Rattle.fly_types.specs.declared.literals.LiteralMap.{LiteralMap}
use Rattle.fly_types.proofs.SameLemmas.{same_map-Decides}
use Rattle.fly_cast.proofs.Options.{map-some}
use Rattle.fly_docs.specs.declared.attempt_name.AttemptName.{AttemptName}
use Rattle.fly_docs.specs.declared.node.Node.{Node}
use Rattle.fly_docs.specs.declared.workflow.Workflow.{Workflow}
use Rattle.fly_docs.specs.Plans.{PlanNode, is_array}
use Rattle.fly_docs.specs.SlotInputs.{Taken}
use Rattle.fly_state.specs.declared.slots.SlotState.{SlotState}
use Rattle.fly_state.specs.declared.slots.NodeState.{NodeState}
use Rattle.fly_state.specs.declared.slots.ExecState.{ExecState}
use Rattle.fly_state.specs.declared.entries.Entry.{Entry}
use Rattle.fly_state.specs.declared.entries.Op.{Op}
use Rattle.fly_state.specs.declared.entries.Op.TheVariants as op
use Rattle.fly_state.specs.declared.entries.Reply.TheVariants as reply
use Rattle.fly_state.specs.Inputs.{inputs_of_node, inputs_at}
use Rattle.fly_state.specs.Laws.{slot_at}
use Rattle.fly_state.specs.PlanTables.{IsOuterPlan, outer_node}
use Rattle.fly_state.specs.Plans.{RunPlan, same_path, node_numbered}
use Rattle.fly_state.specs.States.{fresh_node, own_state, phase_of, is_running}
use Rattle.fly_state.proofs.OuterNodes.{not-array}
use Rattle.fly_state.proofs.OuterPlans.{numbered-outer}
use Rattle.fly_state.proofs.OuterSteps.{same-path}
use Rattle.fly_world.specs.World.{World, Execution, execution_named, is_launched}
use Rattle.fly_world.specs.Changes.{adds_launch}
use Rattle.fly_world.specs.Journals.{IsStepBy, Step}
use Rattle.fly_world.specs.ReadOff.{launches_by}
use Rattle.fly_world.specs.Spots.{Spot, spot_of, has_attempts, attempt_spot, runs, is_value, has_inputs, are_ids}
use Rattle.fly_world.specs.Steps.{Answer, says, does, step, first_fitting, if_known, launched, on_launch}
use Rattle.fly_world.proofs.AnswerLemmas.{tested, on_option, allowed}
use Rattle.fly_world.proofs.StepLemmas.{HasInputsOf, spot_at, where_named-is, where_named-has}

-- ---- the step

none-launched : (name : AttemptName) (names : List AttemptName) → [] ≡ name ∷ names → ⊥
none-launched name names e = none-some name (ap (λ ns. slice_get ns 0) e)

module _ (plan : RunPlan) (w : World) (name : AttemptName) where
  -- the attempt's slot runs at it
  abbrev pub IsRunning : Type 0
  IsRunning = (spot : Spot) × (attempt_spot plan w name ≡ Some spot) × (runs spot name ≡ true)

  module _ (other : AttemptName) (inputs : LiteralMap) where
    -- where the answer launches the attempt, it runs
    abbrev RunsAt : Answer → Type 0
    RunsAt a = launches_by (op.Launch other inputs) a.reply ≡ name ∷ [] → IsRunning

    launched-runs : (spot : Spot) → attempt_spot plan w other ≡ Some spot → RunsAt (launched plan w other inputs spot)
    launched-runs spot there =
        let done : Answer = does reply.Launched (adds_launch other inputs) in
        let idle = not (runs spot other) in
        let differ = not (has_inputs plan spot other inputs) in
        tested RunsAt (is_launched w other) (says reply.Already)
        (first_fitting ((idle, says reply.NotRunning) ∷ (differ, says reply.BadInputs) ∷ []) done)
        (λ e none. absurd (none-launched name [] none))
        (λ free. tested RunsAt idle (says reply.NotRunning) (first_fitting ((differ, says reply.BadInputs) ∷ []) done)
        (λ e none. absurd (none-launched name [] none))
        (λ going. tested RunsAt differ (says reply.BadInputs) done
        (λ e none. absurd (none-launched name [] none))
        (λ e is.
        let same : other ≡ name = same_Some other name (ap (λ ns. slice_get ns 0) is) in (
          spot,
          subst (λ m. attempt_spot plan w m ≡ Some spot) same there,
          subst (λ m. runs spot m ≡ true) same (not-false (runs spot other) going),
        ))))

    launch-runs : (a : Answer) → on_launch plan w other inputs ≡ Some a → RunsAt a
    launch-runs a h =
        let f : Spot → Answer = launched plan w other inputs in
        allowed RunsAt (are_ids other.exec other.path) (if_known f (attempt_spot plan w other)) a h
        (on_option RunsAt f (attempt_spot plan w other) (says reply.Unknown) launched-runs
        (λ none. absurd (none-launched name [] none)))

    answer-runs : (worker : ℕ) (a : Answer) → step plan w worker (op.Launch other inputs) ≡ Some a → RunsAt a
    unfolding step
    answer-runs worker a h = launch-runs a h

    by-runs : (e : Entry) (new : World) (o : Option Answer) → step plan w e.worker (op.Launch other inputs) ≡ o
        → IsStepBy w e new o
        → launches_by (op.Launch other inputs) e.reply ≡ name ∷ [] → IsRunning
    by-runs e new None h s is = absurd s
    by-runs e new (Some a) h (inl answered) is =
        answer-runs e.worker a h (subst (λ r. launches_by (op.Launch other inputs) r ≡ name ∷ []) answered.reply is)
    by-runs e new (Some a) h (inr refused) is =
        absurd
        (none-launched name [] (subst (λ r. launches_by (op.Launch other inputs) r ≡ name ∷ []) refused.reply is))

  -- a step that launches it finds it running
  pub step-runs : (e : Entry) (new : World) → Step plan w e new → launches_by e.op e.reply ≡ name ∷ [] → IsRunning
  step-runs e new s is = by e.op s is
    where
      by : (o : Op) → IsStepBy w e new (step plan w e.worker o) → launches_by o e.reply ≡ name ∷ [] → IsRunning
      by (op.Launch other inputs) s is = by-runs other inputs e new (step plan w e.worker (op.Launch other inputs))
          refl s is
      by _ s is = absurd (none-launched name [] is)

-- ---- the slot

values-same : (t : Taken LiteralMap) (inputs : LiteralMap) → is_value t inputs ≡ true → t ≡ Ok inputs
values-same (Ok m) inputs e = ap Ok ((same_map-Decides m inputs).0 e)
values-same (Err fault) inputs e = absurd (false≢true e)

-- the inputs of a slot are those of the node of its number
inputs-of-number : (plan : RunPlan) (s : ExecState) (i : ℕ) (p : PlanNode) → node_numbered plan i ≡ Some p
    → inputs_at plan s (record { node = Some i; item = None }) ≡ inputs_of_node plan s p None
inputs-of-number plan s i p planned = rw planned refl

no-item : (n : Node) (item : Option ℕ) → is_array n ≡ false → has_attempts n item ≡ true → None ≡ item
no-item n None single has = refl
no-item n (Some k) single has = absurd (false≢true (sym single ∙ has))

-- the slot of a node that passes the test of an attempt runs at it
slot-runs : (s : ExecState) (i k : ℕ)
    → list_any (λ (x : SlotState). is_running x.phase && eqb x.attempt k)
    (option_to_list (option_map (λ (m : NodeState). m.own) (slice_get s.nodes i))) ≡ true
    → (is_running (phase_of s i) ≡ true) × ((own_state s i).attempt ≡ k)
slot-runs s i k e = by (slice_get s.nodes i) e
  where
    by : (o : Option NodeState)
        → list_any (λ (x : SlotState). is_running x.phase && eqb x.attempt k)
        (option_to_list (option_map (λ (m : NodeState). m.own) o)) ≡ true
        → (is_running (unwrap_or o fresh_node).own.phase ≡ true) × ((unwrap_or o fresh_node).own.attempt ≡ k)
    by None e = absurd (false≢true e)
    by (Some m) e =
        ⊎_elim
        (λ here.
        let parts = and_parts (is_running m.own.phase) (eqb m.own.attempt k) here in
        (parts.0, eqb-true m.own.attempt k parts.1))
        (λ none. absurd (false≢true none))
        (or_cases (is_running m.own.phase && eqb m.own.attempt k) false e)

-- A task node whose slot in the current version of its execution runs at the attempt, and takes these inputs.
pub record RunsNode (plan : RunPlan) (f : Workflow) (w : World) (name : AttemptName) (inputs : LiteralMap)
    : Type 0 where
  pub execution : ℕ × Execution
  pub named : execution_named w name.exec ≡ Some execution
  pub number : ℕ
  pub node : Node
  pub there : slice_get f.nodes number ≡ Some node
  pub path : (outer_node f (number, node)).path ≡ name.path
  pub item : None ≡ name.item
  pub running : is_running (phase_of execution.1.state number) ≡ true
  pub attempt : (own_state execution.1.state number).attempt ≡ name.attempt
  pub takes : inputs_of_node plan execution.1.state (outer_node f (number, node)) None ≡ Ok inputs

-- what is launched is such an attempt
pub launch-node : (plan : RunPlan) (f : Workflow) → IsOuterPlan plan f
    → (w : World) (name : AttemptName) (inputs : LiteralMap)
    → HasInputsOf plan w name inputs → IsRunning plan w name → RunsNode plan f w name inputs
launch-node plan f outer w name inputs given going =
    let spot = given.0 in
    let place = where_named-is name (spot_of plan w name.exec name.path) spot given.1 in
    let at = spot_at plan name.path (execution_named w name.exec) spot place in
    let i = spot.number in
    let s = spot.execution.1.state in
    let node = map-some (λ m. outer_node f (i, m)) (slice_get f.nodes i) spot.node
    (sym (numbered-outer plan f outer i) ∙ at.2) in
    let p = outer_node f (i, node.0) in
    let planned : node_numbered plan i ≡ Some p = at.2 ∙ ap Some node.2 in
    let attempts = subst (λ (q : PlanNode). has_attempts q.node name.item ≡ true) node.2
    (where_named-has name (spot_of plan w name.exec name.path) spot given.1) in
    let single : None ≡ name.item = no-item node.0 name.item (not-array plan f outer i node.0 node.1) attempts in
    let first = position-Some (λ (q : PlanNode). same_path name.path q.path) plan.nodes i p at.1 in
    let same : same_path name.path p.path ≡ true =
    subst (λ (q : PlanNode). same_path name.path q.path ≡ true) (get_or_from_slice_get plan.nodes i p p planned)
    first.1 in
    let spots : going.0 ≡ spot = same_Some going.0 spot (sym going.1 ∙ given.1) in
    let test : SlotState → Bool = λ x. is_running x.phase && eqb x.attempt name.attempt in
    let passes = subst (λ o. list_any test (option_to_list (slot_at s (record { node = Some i; item = o }))) ≡ true)
    (sym single)
    (subst (λ x. runs x name ≡ true) spots going.2) in
    let slot = slot-runs s i name.attempt passes in
    let wanted : inputs_at plan s (record { node = Some i; item = None }) ≡ Ok inputs =
    values-same (inputs_at plan s (record { node = Some i; item = None })) inputs
    (subst (λ o. is_value (inputs_at plan s (record { node = Some i; item = o })) inputs ≡ true) (sym single)
    given.2) in
    record {
      execution = spot.execution;
      named = at.0;
      number = i;
      node = node.0;
      there = node.1;
      path = sym (same-path name.path p.path same);
      item = single;
      running = slot.0;
      attempt = slot.1;
      takes = sym (inputs-of-number plan s i p planned) ∙ wanted;
    }
