-- In a state that agrees, a node that was asked for its inputs takes what evaluation enters it with.
use Rattle.std.proofs.Common.{◌≡◌, ℕ, true, false, not, if◌then◌else◌, ◌||◌, ◌++◌, [], bytes_eq, Contains, Some, None, Ok, Err, option_and_then, is_ok, refl, sym, ◌∙◌, ap, subst}
use Rattle.std.specs.List.{slice_get}
use Rattle.std.proofs.lemmas.Bool.{and_from, or_left, or_right, false≢true}
use Rattle.std.proofs.lemmas.List.Elements.{Contains-append_left}
use Rattle.std.proofs.lemmas.Option.{none-some, same_Some}
use Rattle.fly_types.specs.declared.text.Text.{Text}
use Rattle.fly_types.specs.declared.literals.LiteralMap.{LiteralMap}
use Rattle.fly_cast.proofs.Options.{map-some}
use Rattle.fly_docs.specs.declared.node.Node.{Node}
use Rattle.fly_docs.specs.declared.workflow.Workflow.{Workflow}
use Rattle.fly_docs.specs.Bindings.{sources_of}
use Rattle.fly_docs.specs.Edges.{named_ids}
use Rattle.fly_docs.specs.Names.{start_node}
use Rattle.fly_docs.specs.Plans.{PlanNode, is_array}
use Rattle.fly_docs.specs.SlotInputs.{Taken}
use Rattle.fly_graph.proofs.Members.{Contains-filter_from}
use Rattle.fly_rules.specs.Standing.{Standing, waiting, blocked, skipped, ready}
use Rattle.fly_state.specs.declared.phase.Phase.{Phase}
use Rattle.fly_state.specs.declared.phase.Phase.TheVariants as phase
use Rattle.fly_state.specs.declared.slots.SlotState.{SlotState}
use Rattle.fly_state.specs.declared.slots.ExecState.{ExecState}
use Rattle.fly_state.specs.Inputs.{inputs_of_node}
use Rattle.fly_state.specs.Moves.{is_retryable}
use Rattle.fly_state.specs.OfPlan.{IsOfPlan, IsNodeOfPlan, HasFaultlessRetries, is_aborted, has_items, has_asked_inputs}
use Rattle.fly_state.specs.PlanTables.{IsOuterPlan, outer_node}
use Rattle.fly_state.specs.Plans.{RunPlan, number_in, looks, is_task, is_task_target}
use Rattle.fly_state.specs.States as state_of
use Rattle.fly_state.specs.States.{node_state, own_state, phase_of, is_not_yet_started, is_skipped, is_succeeded}
use Rattle.fly_state.proofs.AskedInputs.{task-there, some-there}
use Rattle.fly_state.proofs.Lists.{in_filter_map}
use Rattle.fly_state.proofs.OuterNodes.{numbered-node, planned-at}
use Rattle.fly_state.proofs.OuterPlans.{numbered-outer}
use Rattle.fly_eval.specs.declared.verdict.Verdict.{Verdict}
use Rattle.fly_eval.specs.declared.results.Results.{Results}
use Rattle.fly_eval.specs.declared.results.Hits.{Hits}
use Rattle.fly_eval.specs.Evaluation as eval
use Rattle.fly_eval.specs.Evaluation.{Entering, Sight, whole_sight}
use Rattle.fly_agreement.specs.Agreement.{given_inputs, TellsIn, is_under_way, AgreesNode, Agrees}
use Rattle.fly_eval.proofs.Points.{named-looked}
use Rattle.fly_eval.proofs.Sights.{seen, seen-verdict, inputs-are}
use Rattle.fly_agreement.proofs.StandingSeen.{if-same, option-same, tells}

-- ---- phases

retryable-under_way : (f : Phase) → is_retryable f ≡ true → is_under_way f ≡ true
retryable-under_way phase.RetryableFailure e = refl
retryable-under_way _ e = absurd (false≢true e)

under_way-begun : (f : Phase) → is_under_way f ≡ true
    → not (is_not_yet_started f || is_skipped f || is_aborted f) ≡ true
under_way-begun phase.Queued e = refl
under_way-begun phase.Running e = refl
under_way-begun phase.RetryableFailure e = refl
under_way-begun phase.Succeeding e = refl
under_way-begun _ e = absurd (false≢true e)

-- what succeeded gave the outputs of its verdict
succeeded-outputs : (f : Phase) (slot : SlotState) (v : Verdict) → TellsIn f slot v → is_succeeded f ≡ true
    → eval.outputs_in v ≡ (if is_succeeded f then slot.outputs else None)
succeeded-outputs phase.Succeeded slot v says e = ap eval.outputs_in says.2 ∙ sym says.1
succeeded-outputs _ slot v says e = absurd (false≢true e)

-- a node that is given inputs takes them
pub given-taken : (s : Standing) (t : Taken LiteralMap) (m : LiteralMap)
    → given_inputs (record { standing = s; inputs = t }) ≡ Some m → t ≡ Ok m
given-taken waiting t m is = absurd (none-some m is)
given-taken blocked t m is = absurd (none-some m is)
given-taken skipped t m is = absurd (none-some m is)
given-taken ready (Ok x) m is = ap Ok (same_Some x m is)
given-taken ready (Err fault) m is = absurd (none-some m is)

module _ (plan : RunPlan) (w : Workflow) (outer : IsOuterPlan plan w) (inputs : LiteralMap) (results : Results)
    (hits : Hits)
    (s : ExecState) (of_plan : IsOfPlan plan s) (agrees : Agrees plan inputs results hits s) where
  abbrev sight : Sight
  sight = whole_sight plan inputs results hits

  module _ (i : ℕ) (n : Node) (there : slice_get w.nodes i ≡ Some n) where
    abbrev p : PlanNode
    p = outer_node w (i, n)

    -- what is seen there of those that it looks at
    abbrev sight_there : Sight
    sight_there = seen plan w outer inputs results hits i n there

    node : AgreesNode plan results hits s i p (sight.entering i) (sight.verdict i)
    node = agrees.nodes i p (planned-at plan w outer i n there)

    kept : IsNodeOfPlan plan s i p
    kept = of_plan.nodes i p (planned-at plan w outer i n there)

    -- ---- a node that was asked

    module _ (asked : has_asked_inputs (node_state s i) ≡ true) where
      -- it looks at what it promises from
      looked : (id : Text) (j : ℕ) → Contains (sources_of n.inputs) id → bytes_eq id start_node ≡ false
          → number_in plan [] id ≡ Some j
          → Contains (looks plan i) j
      looked id j has other is =
          let named : Contains (named_ids n) id = Contains-filter_from (λ name. not (bytes_eq name start_node))
          (sources_of n.inputs ++ n.upstream) id (Contains-append_left (sources_of n.inputs) n.upstream id has)
          (ap not other) in
          subst (λ js. Contains js j) (named-looked plan w outer i n there)
          (in_filter_map (number_in plan []) (named_ids n) id j named is)

      -- each that it promises from gave the outputs of its verdict
      given-same : (id : Text) (j : ℕ) → Contains (sources_of n.inputs) id → bytes_eq id start_node ≡ false
          → number_in plan [] id ≡ Some j
          → eval.outputs_in (sight_there.verdict j) ≡ state_of.outputs_in (own_state s j)
      given-same id j has other is =
          let at = numbered-node plan w outer id j is in
          let good = kept.promised j asked (in_filter_map (number_in plan []) (sources_of n.inputs) id j has is) in
          ap eval.outputs_in (seen-verdict plan w outer inputs results hits i n there j (looked id j has other is))
          ∙ succeeded-outputs (phase_of s j) (own_state s j) (sight.verdict j)
          (tells plan w outer inputs results hits s agrees j at.0 at.1) good

      known-same : (id : Text) → Contains (sources_of n.inputs) id
          → eval.known_in plan inputs sight_there [] id ≡ state_of.known_in plan s [] id
      known-same id has =
          if-same (bytes_eq id start_node) (Some inputs)
          (option_and_then (λ j. eval.outputs_in (sight_there.verdict j)) (number_in plan [] id))
          s.root.inputs
          (option_and_then (λ j. state_of.outputs_in (own_state s j)) (number_in plan [] id))
          (λ start. sym agrees.root.inputs)
          (λ other.
          option-same (λ j. eval.outputs_in (sight_there.verdict j))
          (λ j. state_of.outputs_in (own_state s j)) (number_in plan [] id) (λ j is. given-same id j has other is))

      -- it takes what evaluation does
      pub asked-inputs : (sight.entering i).inputs ≡ inputs_of_node plan s p None
      asked-inputs = inputs-are plan w outer inputs results hits i n there (state_of.known_in plan s []) known-same

    -- ---- a node that is under way

    module _ (goes : is_under_way (phase_of s i) ≡ true) where
      -- it is given inputs
      pub under_way-given : (m : LiteralMap) × (given_inputs (sight.entering i) ≡ Some m)
      under_way-given =
          let runs : is_task n ≡ true = ap is_task_target (task-there plan w outer i n there).2 in
          let taken = some-there (own_state s i).inputs
          (node.has_inputs
          (and_from (is_task n || is_array n) (is_under_way (phase_of s i)) (or_left (is_task n) (is_array n) runs)
          goes)) in
          (taken.0, node.inputs taken.0 taken.1)

      -- those that its slot takes in the state
      pub under_way-inputs : inputs_of_node plan s p None ≡ Ok under_way-given.0
      under_way-inputs =
          let asked = or_right (has_items (node_state s i)) _ (under_way-begun (phase_of s i) goes) in
          let e = sight.entering i in
          sym (asked-inputs asked) ∙ given-taken e.standing e.inputs under_way-given.0 under_way-given.1

  -- so those of a node that may be tried again have no fault
  pub faultless-retries : HasFaultlessRetries plan s
  faultless-retries i p planned fails =
      let at = map-some (λ m. outer_node w (i, m)) (slice_get w.nodes i) p
      (sym (numbered-outer plan w outer i) ∙ planned) in
      let takes = under_way-inputs i at.0 at.1 (retryable-under_way (phase_of s i) fails) in
      subst (λ q. is_ok (inputs_of_node plan s q None) ≡ true) (sym at.2) (ap is_ok takes)
