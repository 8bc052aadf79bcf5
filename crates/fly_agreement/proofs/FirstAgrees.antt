-- The first version agrees: nothing has happened in it but that the root runs.
use Rattle.std.proofs.Common.{◌≡◌, ℕ, Bool, true, false, ◌||◌, Option, Some, None, option_map, unwrap_or, refl, sym, ◌∙◌, ap, subst}
use Rattle.std.specs.List.{slice_get}
use Rattle.std.proofs.lemmas.Bool.{and_parts, false≢true}
use Rattle.std.proofs.lemmas.Option.{none-some, slice_get-map}
use Rattle.fly_types.specs.declared.literals.LiteralMap.{LiteralMap}
use Rattle.fly_docs.specs.Plans.{PlanNode}
use Rattle.fly_state.specs.declared.slots.SlotState.{SlotState}
use Rattle.fly_state.specs.declared.slots.NodeState.{NodeState}
use Rattle.fly_state.specs.declared.slots.ExecState.{ExecState}
use Rattle.fly_state.specs.Plans.{RunPlan}
use Rattle.fly_state.specs.States.{fresh_node, first_state, node_state, is_running, is_not_yet_started}
use Rattle.fly_state.specs.Moves.{is_queued, is_retryable, is_succeeding}
use Rattle.fly_state.specs.OfPlan.{is_aborted}
use Rattle.fly_eval.specs.declared.verdict.Verdict.{Verdict}
use Rattle.fly_eval.specs.declared.results.Results.{Results}
use Rattle.fly_eval.specs.declared.results.Hits.{Hits}
use Rattle.fly_eval.specs.Evaluation.{Entering, whole_sight, root_verdict}
use Rattle.fly_agreement.specs.Agreement.{TellsVerdict, has_run, is_under_way, AgreesNode, AgreesRoot, Agrees}

-- each of its nodes is fresh
fresh-node : (plan : RunPlan) (inputs : LiteralMap) (i : ℕ) → node_state (first_state plan inputs) i ≡ fresh_node
fresh-node plan inputs i =
    ap (λ o. unwrap_or o fresh_node) (slice_get-map (λ (p : PlanNode). fresh_node) plan.nodes i)
    ∙ by (slice_get plan.nodes i)
  where
    by : (o : Option PlanNode) → unwrap_or (option_map (λ (p : PlanNode). fresh_node) o) fresh_node ≡ fresh_node
    by None = refl
    by (Some p) = refl

module _ (plan : RunPlan) (inputs : LiteralMap) (results : Results) (hits : Hits) where
  abbrev first : ExecState
  first = first_state plan inputs

  -- no test passes that a fresh node fails
  fails-fresh : {B : Type 0} (test : NodeState → Bool) (i : ℕ) → test fresh_node ≡ false
      → test (node_state first i) ≡ true → B
  fails-fresh test i none e = absurd (false≢true (sym none ∙ ap test (sym (fresh-node plan inputs i)) ∙ e))

  node-agrees : (i : ℕ) (p : PlanNode) (e : Entering) (v : Verdict) → AgreesNode plan results hits first i p e v
  node-agrees i p e v = record {
    inputs = λ m is. absurd (none-some m (sym (ap (λ (n : NodeState). n.own.inputs) (fresh-node plan inputs i)) ∙ is));
    items = λ h. fails-fresh has_run i refl (and_parts _ _ h).1;
    choice = λ case is. absurd (none-some case (sym (ap (λ (n : NodeState). n.own.choice) (fresh-node plan inputs i)) ∙ is));
    running = λ h. fails-fresh (λ n. is_running n.own.phase) i refl (and_parts _ _ h).1;
    retryable = λ h. fails-fresh (λ n. is_retryable n.own.phase) i refl (and_parts _ _ h).1;
    missed = λ h. fails-fresh (λ n. is_running n.own.phase || is_retryable n.own.phase) i refl (and_parts _ _ h).1;
    succeeding = λ h. fails-fresh (λ n. is_succeeding n.own.phase) i refl h;
    final = subst (λ (n : NodeState). TellsVerdict n.own v) (sym (fresh-node plan inputs i)) tt;
    aborted = λ h. fails-fresh (λ n. is_aborted n.own.phase) i refl h;
    inside = λ outer is fresh. ap (λ (n : NodeState). is_not_yet_started n.own.phase || is_aborted n.own.phase) (fresh-node plan inputs i);
    has_inputs = λ h. fails-fresh (λ n. is_under_way n.own.phase) i refl (and_parts _ _ h).1;
    unanswered = λ h. fails-fresh (λ n. is_queued n.own.phase) i refl (and_parts _ _ h).1;
  }

  no-item : (i item : ℕ) (slot : SlotState) → slice_get (node_state first i).items item ≡ Some slot → ⊥
  no-item i item slot there =
      none-some slot (sym (ap (λ (n : NodeState). slice_get n.items item) (fresh-node plan inputs i)) ∙ there)

  root-agrees : (v : Verdict) → AgreesRoot plan inputs first v
  root-agrees v = record {
    inputs = refl;
    succeeding = λ h. absurd (false≢true h);
    final = tt;
    aborted = λ h. absurd (false≢true h);
  }

  pub first-agrees : Agrees plan inputs results hits first
  first-agrees = record {
    root = root-agrees (root_verdict plan inputs results hits);
    nodes = λ i p planned. node-agrees i p ((whole_sight plan inputs results hits).entering i) ((whole_sight plan inputs results hits).verdict i);
    items = λ i p item slot planned there. absurd (no-item i item slot there);
  }
