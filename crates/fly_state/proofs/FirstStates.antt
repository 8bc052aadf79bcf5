-- Version 0 is a state of the plan.
use Rattle.std.proofs.Common.{◌≡◌, ℕ, Bool, true, false, ◌||◌, length, Contains, Option, Some, None, option_map, unwrap_or, refl, sym, ◌∙◌, ap, subst}
use Rattle.std.specs.List.{slice_get}
use Rattle.std.proofs.lemmas.Bool.{and_parts, false≢true, or_right}
use Rattle.std.proofs.lemmas.List.{length-map}
use Rattle.std.proofs.lemmas.Option.{same_Some, slice_get-map}
use Rattle.fly_types.specs.declared.literals.LiteralMap.{LiteralMap}
use Rattle.fly_policy.specs.Outcome.{AreOutputs}
use Rattle.fly_graph.proofs.Members.{Contains-nil}
use Rattle.fly_docs.specs.declared.workflow.Workflow.{Workflow}
use Rattle.fly_docs.specs.Lookups.{primary_of}
use Rattle.fly_docs.specs.Plans.{PlanNode}
use Rattle.fly_state.specs.declared.slots.SlotState.{SlotState}
use Rattle.fly_state.specs.declared.slots.NodeState.{NodeState}
use Rattle.fly_state.specs.declared.slots.ExecState.{ExecState}
use Rattle.fly_state.specs.Laws.{IsKeptState}
use Rattle.fly_state.specs.Moves.{is_queued, is_retryable}
use Rattle.fly_state.specs.OfPlan.{IsTypedSlot, IsNodeOfPlan, IsRootOfPlan, has_items, has_asked_inputs, is_aborted, is_begun, is_untouched, needs_inputs}
use Rattle.fly_state.specs.Plans.{RunPlan, instance_of, is_workflow, case_nodes}
use Rattle.fly_state.specs.States.{fresh_node, first_state, node_state, is_running}
use Rattle.fly_state.specs.OfPlan.{input_variables, output_variables}

-- each of its nodes is fresh
fresh-node : (plan : RunPlan) (inputs : LiteralMap) (i : ℕ) → node_state (first_state plan inputs) i ≡ fresh_node
fresh-node plan inputs i =
    ap (λ o. unwrap_or o fresh_node) (slice_get-map (λ (p : PlanNode). fresh_node) plan.nodes i)
    ∙ by (slice_get plan.nodes i)
  where
    by : (o : Option PlanNode) → unwrap_or (option_map (λ (p : PlanNode). fresh_node) o) fresh_node ≡ fresh_node
    by None = refl
    by (Some p) = refl

module _ (plan : RunPlan) (inputs : LiteralMap) where
  abbrev first : ExecState
  first = first_state plan inputs

  -- no test passes that a fresh node fails
  fails-fresh : {B : Type 0} (test : NodeState → Bool) (i : ℕ) → test fresh_node ≡ false
      → test (node_state first i) ≡ true → B
  fails-fresh test i none e = absurd (false≢true (sym none ∙ ap test (sym (fresh-node plan inputs i)) ∙ e))

  no-item : {B : Type 0} (i : ℕ) (item : SlotState) → Contains (node_state first i).items item → B
  no-item i item has = absurd
      (Contains-nil item (subst (λ (n : NodeState). Contains n.items item) (fresh-node plan inputs i) has))

  node-first : (i : ℕ) (p : PlanNode) → IsNodeOfPlan plan first i p
  node-first i p = record {
    typed = subst (λ (n : NodeState). IsTypedSlot (length (case_nodes p.node)) (input_variables plan p)
        (output_variables plan p) n.own)
        (sym (fresh-node plan inputs i))
        (record { choice = tt; taken = tt; given = tt; complete = λ done. absurd (false≢true done) });
    items = λ item has. no-item i item has;
    has_inputs = λ both.
        fails-fresh (λ n. needs_inputs n.own.phase) i refl
        (and_parts (is_workflow p.node) (needs_inputs (node_state first i).own.phase) both).1;
    inside = or_right (is_begun plan first (instance_of p)) (is_untouched (node_state first i))
        (ap is_untouched (fresh-node plan inputs i));
    promised = λ j asked has. fails-fresh has_asked_inputs i refl asked;
    faultless = λ goes. fails-fresh (λ n. is_queued n.own.phase || is_running n.own.phase || has_items n) i refl goes;
    array = λ some. fails-fresh has_items i refl some;
    counted = λ some. fails-fresh has_items i refl some;
    aborted = λ gone. fails-fresh (λ n. is_aborted n.own.phase) i refl gone;
    item_aborted = λ item has gone. no-item i item has;
  }

  root-first : (w : Workflow) → AreOutputs w.interface.inputs inputs → IsRootOfPlan plan w first
  root-first w typed = record {
    typed = record { choice = tt; taken = typed; given = tt; complete = λ done. absurd (false≢true done) };
    has_inputs = refl;
    aborted = λ gone. absurd (false≢true gone);
  }

  pub first-kept : (w : Workflow) → primary_of plan.documents ≡ Some w → AreOutputs w.interface.inputs inputs
      → IsKeptState plan first
  first-kept w named typed = record {
    of_plan = record {
      count = length-map plan.nodes (λ (p : PlanNode). fresh_node);
      root = λ x is. root-first x (subst (λ (y : Workflow). AreOutputs y.interface.inputs inputs)
          (same_Some w x (sym named ∙ is)) typed);
      nodes = λ i p planned. node-first i p;
    };
    retries = λ i p planned again. fails-fresh (λ n. is_retryable n.own.phase) i refl again;
  }
