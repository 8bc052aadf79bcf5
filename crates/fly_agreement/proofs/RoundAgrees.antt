-- A round of a plan of task nodes that are not cached leads from a state that agrees to another.
use Rattle.std.proofs.Common.{◌≡◌, ℕ, ◌<◌, true, List, [], ◌∷◌, fold, length, Contains, Option, Some, None, option_and_then, unwrap_or, refl, sym, ◌∙◌, ap, subst, arith, ⊎_elim}
use Rattle.std.specs.List.{slice_get}
use Rattle.std.proofs.Math.ListN.{set}
use Rattle.std.proofs.lemmas.Bool.{and_parts, cases_order, true≢false}
use Rattle.std.proofs.lemmas.List.{length-set, get_or-set_same, get_or-set_other}
use Rattle.std.proofs.lemmas.Option.{none-some, slice_get_within, unwrap_or-slice_get}
use Rattle.fly_types.specs.declared.literals.LiteralMap.{LiteralMap}
use Rattle.fly_cast.proofs.Options.{map-some}
use Rattle.fly_docs.specs.declared.node.Node.{Node}
use Rattle.fly_docs.specs.declared.workflow.Workflow.{Workflow}
use Rattle.fly_docs.specs.Plans.{PlanNode, is_array}
use Rattle.fly_state.specs.declared.slots.SlotState.{SlotState}
use Rattle.fly_state.specs.declared.slots.NodeState.{NodeState}
use Rattle.fly_state.specs.declared.slots.ExecState.{ExecState}
use Rattle.fly_state.specs.declared.effects.Effect.{Effect}
use Rattle.fly_state.specs.declared.moves.Step.{Step}
use Rattle.fly_state.specs.declared.moves.Step.TheVariants as step
use Rattle.fly_state.specs.declared.entries.Entry.{Entry}
use Rattle.fly_state.specs.declared.view.View.{View}
use Rattle.fly_state.specs.Laws.{IsKeptState}
use Rattle.fly_state.specs.Moves.{of_slot, where_true, is_cached, is_retryable, closed_instance_slot, node_effect, item_effect, root_effect, may_step, effect_of, state_with, with_node}
use Rattle.fly_state.specs.OfPlan.{IsViewOfPlan, IsEntryOfPlan, HasFaultlessRetries, has_items}
use Rattle.fly_state.specs.PlanTables.{IsOuterPlan, outer_node}
use Rattle.fly_state.specs.Plans.{RunPlan, node_numbered, instance_of, is_task}
use Rattle.fly_state.specs.Rounds.{CitedMove, with_move, state_after}
use Rattle.fly_state.specs.States.{fresh_node, node_state, own_state, phase_of, is_running}
use Rattle.fly_state.proofs.FinalLemmas.{where_true-test, where_true-there, option_and_then-there}
use Rattle.fly_state.proofs.OuterNodes.{planned-at, not-array}
use Rattle.fly_state.proofs.OuterPlans.{numbered-outer, count-outer}
use Rattle.fly_state.proofs.OuterRounds.{round-kept}
use Rattle.fly_eval.specs.declared.results.Results.{Results}
use Rattle.fly_eval.specs.declared.results.Hits.{Hits}
use Rattle.fly_eval.specs.Evaluation.{whole_sight, root_verdict}
use Rattle.fly_agreement.specs.Agreement.{has_run, is_under_way, AgreesNode, Agrees}
use Rattle.fly_agreement.specs.Laws.{HasNoCached, HasKnownResults}
use Rattle.fly_eval.proofs.Points.{outer-none}
use Rattle.fly_agreement.proofs.NodeSlots.{IsFit, fit-own}
use Rattle.fly_agreement.proofs.NodeSteps.{fit-step}
use Rattle.fly_agreement.proofs.RootClose.{IsFitRoot, root-own, root-closed}

-- ---- nodes of a state

node_state-with : (s : ExecState) (i j : ℕ) (n : NodeState) → j ≡ i → i < length s.nodes → node_state (with_node s i n) j ≡ n
node_state-with s i j n same within =
    ap (node_state (with_node s i n)) same
    ∙ unwrap_or-slice_get (set s.nodes i n) i fresh_node
    ∙ get_or-set_same s.nodes i n fresh_node within

node_state-other : (s : ExecState) (i j : ℕ) (n : NodeState) → (j ≡ i → ⊥) → node_state (with_node s i n) j ≡ node_state s j
node_state-other s i j n apart =
    unwrap_or-slice_get (set s.nodes i n) j fresh_node
    ∙ get_or-set_other s.nodes i j n fresh_node apart
    ∙ sym (unwrap_or-slice_get s.nodes j fresh_node)

cases-same : {B : Type 0} (i j : ℕ) → (i ≡ j → B) → ((i ≡ j → ⊥) → B) → B
cases-same i j same apart =
    ⊎_elim same
    (⊎_elim (λ lt. apart (λ e. omega (arith, e, lt))) (λ gt. apart (λ e. omega (arith, e, gt))))
    (cases_order i j)

some-items : (n : NodeState) (item : ℕ) (slot : SlotState) → slice_get n.items item ≡ Some slot → has_items n ≡ true
some-items n item slot there = by n.items refl
  where
    by : (items : List SlotState) → n.items ≡ items → has_items n ≡ true
    by [] is = absurd (none-some slot (sym (ap (λ xs. slice_get xs item) is) ∙ there))
    by (x ∷ items) is = rw is refl

module _ (plan : RunPlan) (w : Workflow) (outer : IsOuterPlan plan w) (inputs : LiteralMap) (results : Results) (hits : Hits)
    (v : View) (of_plan : IsViewOfPlan plan v) (retries : HasFaultlessRetries plan v.state) (uncached : HasNoCached plan)
    (known : HasKnownResults plan v results) (agrees : Agrees plan inputs results hits v.state) where
  abbrev Fit : (i : ℕ) (n : Node) → slice_get w.nodes i ≡ Some n → SlotState → Type 0
  Fit i n there = IsFit plan w outer inputs results hits v of_plan.state uncached known agrees i n there

  abbrev FitRoot : SlotState → Type 0
  FitRoot = IsFitRoot plan w outer inputs results hits v.state agrees (root_verdict plan inputs results hits)

  fit-root : (st : Step) (e : Effect) → root_effect plan v.state st ≡ Some e → FitRoot e.slot
  fit-root step.Close e h =
      let made = map-some of_slot (closed_instance_slot plan v.state []) e (where_true-there (is_running v.state.root.phase) _ e h) in
      subst (λ (x : Effect). FitRoot x.slot) (sym made.2) (root-closed plan w outer inputs results hits v.state agrees made.0 made.1)
  fit-root _ e h = absurd (none-some e h)

  -- ---- after some of the moves

  -- Each slot is one that may stand after a round.
  record IsAfter (s : ExecState) : Type 0 where
    count : length s.nodes ≡ length plan.nodes
    root : FitRoot s.root
    nodes : (i : ℕ) (n : Node) (there : slice_get w.nodes i ≡ Some n) → Fit i n there (own_state s i)

  at-first : IsAfter v.state
  at-first = record {
    count = of_plan.state.count;
    root = root-own plan w outer inputs results hits v.state agrees;
    nodes = λ i n there. fit-own plan w outer inputs results hits v of_plan.state uncached known agrees i n there;
  }

  module _ (entries : List Entry) (st : Step) (e : Effect) (s : ExecState) (h : IsAfter s) where
    abbrev at_node : ℕ → PlanNode → Option Effect
    at_node i p = where_true (may_step plan v.state (instance_of p) st) (node_effect plan v entries i p st)

    abbrev at_item : ℕ → ℕ → PlanNode → Option Effect
    at_item i k p =
        where_true (may_step plan v.state (instance_of p) st)
        (option_and_then (λ slot. item_effect plan v p k slot st) (slice_get (node_state v.state i).items k))

    -- the effect on the node of a number
    node-step : (i j : ℕ) (n : Node) (there : slice_get w.nodes j ≡ Some n) → j ≡ i
        → option_and_then (at_node i) (node_numbered plan i) ≡ Some e → Fit j n there e.slot × (e.items ≡ None)
    node-step i j n there same legal =
        let p = outer_node w (j, n) in
        let here : at_node j p ≡ Some e =
        sym (ap (option_and_then (at_node j)) (planned-at plan w outer j n there))
        ∙ subst (λ k. option_and_then (at_node k) (node_numbered plan k) ≡ Some e) (sym same) legal in
        let test = may_step plan v.state [] st in
        let effect = node_effect plan v entries j p st in
        fit-step plan w outer inputs results hits v of_plan.state uncached known agrees j n there entries st e
        (where_true-test test effect e here) (where_true-there test effect e here)

    moved-node : (i : ℕ) → option_and_then (at_node i) (node_numbered plan i) ≡ Some e
        → IsAfter (state_with s (record { node = Some i; item = None }) e)
    moved-node i legal =
        let new : NodeState = record { own = e.slot; items = unwrap_or e.items (node_state s i).items } in record {
          count = length-set s.nodes i new ∙ h.count;
          root = h.root;
          nodes = λ j n there.
              cases-same j i
              (λ same.
              let small : i < length s.nodes =
              omega (arith, same, slice_get_within w.nodes j n there, h.count, count-outer plan w outer) in
              let is = node_state-with s i j new same small in
              subst (λ (x : NodeState). Fit j n there x.own) (sym is) (node-step i j n there same legal).0)
              (λ apart.
              let is = node_state-other s i j new apart in
              subst (λ (x : NodeState). Fit j n there x.own) (sym is) (h.nodes j n there));
        }

    no-item : (i k : ℕ) → option_and_then (at_item i k) (node_numbered plan i) ≡ Some e → ⊥
    no-item i k legal =
        let found = option_and_then-there (at_item i k) (node_numbered plan i) e legal in
        let node = map-some (λ m. outer_node w (i, m)) (slice_get w.nodes i) found.0 (sym (numbered-outer plan w outer i) ∙ found.1) in
        let made = where_true-there (may_step plan v.state (instance_of found.0) st) _ e found.2 in
        let slot = option_and_then-there (λ slot. item_effect plan v found.0 k slot st) (slice_get (node_state v.state i).items k) e made in
        let array = (of_plan.state.nodes i (outer_node w (i, node.0)) (planned-at plan w outer i node.0 node.1)).array
        (some-items (node_state v.state i) k slot.0 slot.1) in
        true≢false (sym array ∙ not-array plan w outer i node.0 node.1)

    moved : (to item : Option ℕ) → effect_of plan v entries (record { at = record { node = to; item = item }; step = st }) ≡ Some e
        → IsAfter (state_with s (record { node = to; item = item }) e)
    moved None None legal = record { count = h.count; root = fit-root st e legal; nodes = h.nodes }
    moved None (Some k) legal = absurd (none-some e legal)
    moved (Some i) None legal = moved-node i legal
    moved (Some i) (Some k) legal = absurd (no-item i k legal)

  after-move : (m : CitedMove) (s : ExecState) → IsAfter s → IsAfter (with_move plan v s m)
  after-move m s h = by (effect_of plan v m.entries m.move) refl
    where
      by : (o : Option Effect) → effect_of plan v m.entries m.move ≡ o → IsAfter (with_move plan v s m)
      by None e = rw e h
      by (Some x) e = rw e (moved m.entries m.move.step x s h m.move.at.node m.move.at.item e)

  after-moves : (ms : List CitedMove) (s : ExecState) → IsAfter s → IsAfter (fold (with_move plan v) s ms)
  after-moves [] s h = h
  after-moves (m ∷ ms) s h = after-moves ms (with_move plan v s m) (after-move m s h)

  -- ---- what comes of it

  module _ (s : ExecState) (h : IsAfter s) (kept : IsKeptState plan s) where
    node-after : (i : ℕ) (n : Node) → slice_get w.nodes i ≡ Some n
        → AgreesNode plan results hits s i (outer_node w (i, n)) ((whole_sight plan inputs results hits).entering i)
        ((whole_sight plan inputs results hits).verdict i)
    node-after i n there =
        let p = outer_node w (i, n) in
        let planned = planned-at plan w outer i n there in
        let fit = h.nodes i n there in record {
          inputs = fit.given;
          items = λ has. absurd (true≢false (sym (and_parts (is_array n) (has_run (node_state s i)) has).0 ∙ not-array plan w outer i n there));
          choice = fit.choice;
          running = λ runs. fit.running (and_parts (is_task n) (is_running (phase_of s i)) runs).1;
          retryable = λ fails. fit.retryable (and_parts (is_task n) (is_retryable (phase_of s i)) fails).1;
          missed = λ has. absurd (true≢false (sym (and_parts (is_cached plan p) _ has).0 ∙ uncached i p planned));
          succeeding = fit.succeeding;
          final = fit.final;
          aborted = (kept.of_plan.nodes i p planned).aborted;
          inside = λ around is fresh. absurd (none-some around (sym (outer-none plan w outer i n there) ∙ is));
          has_inputs = λ goes. fit.has_inputs (and_parts _ (is_under_way (phase_of s i)) goes).1;
          unanswered = λ has. absurd (true≢false (sym (and_parts (is_cached plan p) _ has).0 ∙ uncached i p planned));
        }

    numbered : (i : ℕ) (p : PlanNode) → node_numbered plan i ≡ Some p → (n : Node) × (slice_get w.nodes i ≡ Some n) × (p ≡ outer_node w (i, n))
    numbered i p e = map-some (λ m. outer_node w (i, m)) (slice_get w.nodes i) p (sym (numbered-outer plan w outer i) ∙ e)

    no-items : (i : ℕ) (p : PlanNode) (item : ℕ) (slot : SlotState) → node_numbered plan i ≡ Some p
        → slice_get (node_state s i).items item ≡ Some slot → ⊥
    no-items i p item slot planned there =
        let node = numbered i p planned in
        let array = (kept.of_plan.nodes i (outer_node w (i, node.0)) (planned-at plan w outer i node.0 node.1)).array
        (some-items (node_state s i) item slot there) in
        true≢false (sym array ∙ not-array plan w outer i node.0 node.1)

    agrees-after : Agrees plan inputs results hits s
    agrees-after = record {
      root = record {
        inputs = h.root.given ∙ agrees.root.inputs;
        succeeding = h.root.succeeding;
        final = h.root.final;
        aborted = (kept.of_plan.root w outer.named).aborted;
      };
      nodes = λ i p planned.
          let node = numbered i p planned in
          subst (λ (q : PlanNode). AgreesNode plan results hits s i q ((whole_sight plan inputs results hits).entering i)
          ((whole_sight plan inputs results hits).verdict i)) (sym node.2) (node-after i node.0 node.1);
      items = λ i p item slot planned there. absurd (no-items i p item slot planned there);
    }

  -- a round keeps agreement
  pub round-agrees : (moves : List CitedMove)
      → ((m : CitedMove) (e : Entry) → Contains moves m → Contains m.entries e → IsEntryOfPlan plan e)
      → Agrees plan inputs results hits (state_after plan v moves)
  round-agrees moves cited =
      agrees-after (state_after plan v moves) (after-moves moves v.state at-first) (round-kept plan w outer v of_plan retries moves cited)
