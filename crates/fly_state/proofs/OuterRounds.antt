-- A round of a plan of task nodes leads from a state of the plan to a state of the plan.
use Rattle.std.proofs.Common.{◌≡◌, ℕ, ◌<◌, Bool, true, false, not, ◌||◌, if◌then◌else◌, List, [], ◌∷◌, set, fold, length, codes, bytes_eq, Contains, Option, Some, None, Ok, Err, is_ok, is_some, option_and_then, unwrap_or, IsTrue, refl, sym, ◌∙◌, ap, subst, arith, ⊎_elim}
use Rattle.std.specs.List.{slice_get, list_any, range_with_len}
use Rattle.std.proofs.lemmas.Bool.{and_from, and_parts, cases_Bool, cases_order, false≢true, true≢false, or_cases, or_left, or_right}
use Rattle.std.proofs.lemmas.List.{length-set, get_or-set_same, get_or-set_other}
use Rattle.std.proofs.lemmas.Option.{none-some, same_Some, slice_get_cases, slice_get_within, slice_get_past, unwrap_or-slice_get}
use Rattle.std.proofs.lemmas.Slice.Eq.{bytes_eq-Decides}
use Rattle.fly_types.specs.declared.text.Text.{Text}
use Rattle.fly_types.specs.declared.literals.LiteralMap.{LiteralMap}
use Rattle.fly_policy.specs.Outcome.{AreOutputs}
use Rattle.fly_cast.proofs.Options.{map-some}
use Rattle.fly_graph.proofs.Members.{Contains-nil}
use Rattle.fly_docs.specs.declared.binding.Binding.{Binding}
use Rattle.fly_docs.specs.declared.node.Node.{Node}
use Rattle.fly_docs.specs.declared.workflow.Workflow.{Workflow}
use Rattle.fly_docs.specs.Bindings.{Promised}
use Rattle.fly_docs.specs.Fitting.{bound_fits}
use Rattle.fly_docs.specs.Lookups.{primary_of}
use Rattle.fly_docs.specs.Names.{start_node}
use Rattle.fly_docs.specs.NodeInterfaces.{Source}
use Rattle.fly_docs.specs.Plans.{PlanNode}
use Rattle.fly_docs.specs.SlotInputs.{Taken, workflow_outputs, known_literal}
use Rattle.fly_docs.specs.SlotInputs as docs
use Rattle.fly_state.specs.declared.phase.Phase.{Phase}
use Rattle.fly_state.specs.declared.phase.Phase.TheVariants as phase
use Rattle.fly_state.specs.declared.slots.SlotState.{SlotState}
use Rattle.fly_state.specs.declared.slots.NodeState.{NodeState}
use Rattle.fly_state.specs.declared.slots.ExecState.{ExecState}
use Rattle.fly_state.specs.declared.moves.Step.{Step}
use Rattle.fly_state.specs.declared.moves.Step.TheVariants as step
use Rattle.fly_state.specs.declared.entries.Entry.{Entry}
use Rattle.fly_state.specs.declared.view.View.{View}
use Rattle.fly_state.specs.Inputs.{inputs_of_node}
use Rattle.fly_state.specs.Laws.{IsKeptState}
use Rattle.fly_state.specs.Moves.{Effect, of_slot, where_true, is_queued, is_retryable, failed_slot, succeeded_slot, slot_with_outputs, has_failure, misses_output, closed_instance_slot, node_effect, item_effect, root_effect, may_step, effect_of, state_with, with_node}
use Rattle.fly_state.specs.OfPlan.{IsTypedSlot, IsNodeOfPlan, IsRootOfPlan, IsViewOfPlan, IsEntryOfPlan, HasFaultlessRetries, has_items, is_aborted, needs_inputs, is_untouched}
use Rattle.fly_state.specs.Origins.{source_in_run}
use Rattle.fly_state.specs.PlanTables.{IsOuterPlan, outer_node}
use Rattle.fly_state.specs.Plans.{RunPlan, node_numbered, number_in, instance_of, is_workflow, is_workflow_target}
use Rattle.fly_state.specs.Rounds.{CitedMove, with_move, state_after}
use Rattle.fly_state.specs.States.{fresh_node, node_state, own_state, phase_of, is_final, is_failure, is_running, is_succeeded, is_broken, outputs_in, known_in}
use Rattle.fly_state.specs.Values.{FitVariables}
use Rattle.fly_state.proofs.AskedInputs.{found-in, sources-same}
use Rattle.fly_state.proofs.FinalLemmas.{where_true-test, where_true-there, option_and_then-there}
use Rattle.fly_state.proofs.KnownMore.{values-extend}
use Rattle.fly_state.proofs.Lists.{first_in, later_in}
use Rattle.fly_state.proofs.OuterNodes.{planned-at, not-array, its, inputs-bound}
use Rattle.fly_state.proofs.OuterPlans.{numbered-outer, count-outer, broken-outer, failure-outer, begun-outer}
use Rattle.fly_state.proofs.OuterSteps.{IsFine, fine-own, fine-step, is_asked, retryable-going}
use Rattle.fly_state.proofs.OuterTypes.{known-types}
use Rattle.fly_state.proofs.TakenTypes.{values-typed}

-- ---- nodes of a state

node_state-with : (s : ExecState) (i j : ℕ) (n : NodeState) → j ≡ i → i < length s.nodes
    → node_state (with_node s i n) j ≡ n
node_state-with s i j n same within =
    ap (node_state (with_node s i n)) same
    ∙ unwrap_or-slice_get (set s.nodes i n) i fresh_node
    ∙ get_or-set_same s.nodes i n fresh_node within

node_state-other : (s : ExecState) (i j : ℕ) (n : NodeState) → (j ≡ i → ⊥)
    → node_state (with_node s i n) j ≡ node_state s j
node_state-other s i j n apart =
    unwrap_or-slice_get (set s.nodes i n) j fresh_node
    ∙ get_or-set_other s.nodes i j n fresh_node apart
    ∙ sym (unwrap_or-slice_get s.nodes j fresh_node)

none-of : (n : NodeState) → n.items ≡ [] → has_items n ≡ false
none-of n e = rw e refl

-- without a test of items there are none
nothing-in : (n : NodeState) → has_items n ≡ false → n.items ≡ []
nothing-in n e = by n.items refl
  where
    by : (items : List SlotState) → n.items ≡ items → items ≡ []
    by [] is = refl
    by (item ∷ items) is = let some : has_items n ≡ true = rw is refl in absurd (true≢false (sym some ∙ e))

cases-same : {B : Type 0} (i j : ℕ) → (i ≡ j → B) → ((i ≡ j → ⊥) → B) → B
cases-same i j same apart =
    ⊎_elim same
    (⊎_elim (λ lt. apart (λ e. omega (arith, e, lt))) (λ gt. apart (λ e. omega (arith, e, gt))))
    (cases_order i j)

any-more : {X : Type 0} (p q : X → Bool) (xs : List X) → ((x : X) → p x ≡ true → q x ≡ true) → list_any p xs ≡ true
    → list_any q xs ≡ true
any-more p q [] more e = absurd (false≢true e)
any-more p q (x ∷ xs) more e =
    ⊎_elim (λ here. or_left (q x) (list_any q xs) (more x here))
    (λ rest. or_right (q x) (list_any q xs) (any-more p q xs more rest))
    (or_cases (p x) (list_any p xs) e)

succeeded-final : (f : Phase) → is_succeeded f ≡ true → is_final f ≡ true
succeeded-final phase.Succeeded e = refl
succeeded-final _ e = absurd (false≢true e)

failure-final : (f : Phase) → is_failure f ≡ true → is_final f ≡ true
failure-final phase.Failed e = refl
failure-final phase.TimedOut e = refl
failure-final _ e = absurd (false≢true e)

given-there : (slot : SlotState) (m : LiteralMap) → outputs_in slot ≡ Some m → is_succeeded slot.phase ≡ true
given-there slot m e =
    ⊎_elim (λ good. good)
    (λ other. absurd (none-some m (sym (ap (λ b. if b then slot.outputs else None) other) ∙ e)))
    (cases_Bool (is_succeeded slot.phase))

module _ (plan : RunPlan) (w : Workflow) (outer : IsOuterPlan plan w) (v : View) (of_plan : IsViewOfPlan plan v)
    (retries : HasFaultlessRetries plan v.state) where
  abbrev Fine : (i : ℕ) (n : Node) → slice_get w.nodes i ≡ Some n → SlotState → Type 0
  Fine i n there = IsFine plan w outer v of_plan retries i n there

  -- ---- the root

  -- A root that the state may have after a round.
  record IsFineRoot (slot : SlotState) : Type 0 where
    typed : IsTypedSlot 0 w.interface.inputs w.interface.outputs slot
    inputs : slot.inputs ≡ v.state.root.inputs
    aborted : is_aborted slot.phase ≡ true → is_broken plan v.state [] ≡ true

  root_of : IsRootOfPlan plan w v.state
  root_of = of_plan.state.root w outer.named

  root-own : IsFineRoot v.state.root
  root-own = record { typed = root_of.typed; inputs = refl; aborted = root_of.aborted }

  root-failed : (code : Text) → IsFineRoot (failed_slot v.state.root code)
  root-failed code = record {
    typed = record {
      choice = root_of.typed.choice;
      taken = root_of.typed.taken;
      given = root_of.typed.given;
      complete = λ done. absurd (false≢true done);
    };
    inputs = refl;
    aborted = λ gone. absurd (false≢true gone);
  }

  outputs-fit : FitVariables (source_in_run plan) w.outputs w.interface.outputs
  outputs-fit x has b bound =
      let binding = found-in (λ (y : Binding). bytes_eq y.var x.name) w.outputs b bound in
      subst (λ (source : Promised → Source). IsTrue (bound_fits source b.bound x.kind))
      (sym (sources-same plan w outer))
      (outer.typed.outputs.fits x b has binding.0 ((bytes_eq-Decides b.var x.name).0 binding.1))

  root-outputs : (m : LiteralMap) → workflow_outputs plan.documents w (known_in plan v.state []) ≡ Ok m
      → AreOutputs w.interface.outputs m
  root-outputs m e =
      values-typed (source_in_run plan) (known_in plan v.state []) (known-types plan w outer v.state of_plan.state)
      w.outputs w.interface.outputs m
      outputs-fit (ap (λ source. docs.values_of (docs.bound_value source (known_in plan v.state []))
      w.interface.outputs w.outputs) (sources-same plan w outer) ∙ e)

  root-given : (t : Taken LiteralMap) (slot : SlotState)
      → ((m : LiteralMap) → t ≡ Ok m → AreOutputs w.interface.outputs m)
      → slot_with_outputs v.state.root t ≡ Some slot → IsFineRoot slot
  root-given (Ok m) slot typed e =
      subst IsFineRoot (same_Some (succeeded_slot v.state.root m) slot e) (record {
        typed = record {
          choice = root_of.typed.choice;
          taken = root_of.typed.taken;
          given = typed m refl;
          complete =
              λ done. refl;
        };
        inputs = refl;
        aborted = λ gone. absurd (false≢true gone);
      })
  root-given (Err (docs.enum_outside text)) slot typed e =
      subst IsFineRoot (same_Some (failed_slot v.state.root (codes "EnumOutside")) slot e)
      (root-failed (codes "EnumOutside"))
  root-given (Err _) slot typed e = absurd (none-some slot e)

  -- by whether a node failed, and whether an output is missing
  abbrev closed_by : Workflow → Bool → Bool → Option SlotState
  closed_by x failed missing =
      if failed then Some (failed_slot v.state.root (codes "NodeFailed"))
      else (if missing then Some (failed_slot v.state.root (codes "OutputMissing"))
      else slot_with_outputs v.state.root (workflow_outputs plan.documents x (known_in plan v.state [])))

  root-by : (failed missing : Bool) (slot : SlotState) → closed_by w failed missing ≡ Some slot → IsFineRoot slot
  root-by true missing slot e = subst IsFineRoot (same_Some _ slot e) (root-failed (codes "NodeFailed"))
  root-by false true slot e = subst IsFineRoot (same_Some _ slot e) (root-failed (codes "OutputMissing"))
  root-by false false slot e = root-given (workflow_outputs plan.documents w (known_in plan v.state [])) slot
      root-outputs e

  root-closed : (slot : SlotState) → closed_instance_slot plan v.state [] ≡ Some slot → IsFineRoot slot
  root-closed slot e =
      let closes = option_and_then-there _ (primary_of plan.documents) slot (where_true-there _ _ slot e) in
      let same : closes.0 ≡ w = same_Some closes.0 w (sym closes.1 ∙ outer.named) in
      root-by (has_failure plan v.state []) (misses_output plan v.state [] w) slot
      (subst (λ (x : Workflow). closed_by x (has_failure plan v.state []) (misses_output plan v.state [] x) ≡ Some
      slot) same closes.2)

  fine-root : (st : Step) (e : Effect) → root_effect plan v.state st ≡ Some e → IsFineRoot e.slot
  fine-root step.Close e h =
      let made = map-some of_slot (closed_instance_slot plan v.state []) e
      (where_true-there (is_running v.state.root.phase) _ e h) in
      subst (λ (x : Effect). IsFineRoot x.slot) (sym made.2) (root-closed made.0 made.1)
  fine-root _ e h = absurd (none-some e h)

  -- ---- after some of the moves

  -- Each slot is one that may stand after a round.
  record IsAfter (s : ExecState) : Type 0 where
    count : length s.nodes ≡ length plan.nodes
    root : IsFineRoot s.root
    nodes : (i : ℕ) (n : Node) (there : slice_get w.nodes i ≡ Some n)
        → Fine i n there (own_state s i) × ((node_state s i).items ≡ [])

  first-items : (i : ℕ) (n : Node) → slice_get w.nodes i ≡ Some n → (node_state v.state i).items ≡ []
  first-items i n there =
      let node = of_plan.state.nodes i (outer_node w (i, n)) (planned-at plan w outer i n there) in
      nothing-in (node_state v.state i)
      (⊎_elim (λ some. absurd (true≢false (sym (node.array some) ∙ not-array plan w outer i n there))) (λ none. none)
      (cases_Bool (has_items (node_state v.state i))))

  at-first : IsAfter v.state
  at-first = record {
    count = of_plan.state.count;
    root = root-own;
    nodes = λ i n there. (fine-own plan w outer v of_plan retries i n there, first-items i n there);
  }

  module _ (entries : List Entry) (cited : (e : Entry) → Contains entries e → IsEntryOfPlan plan e) (st : Step)
      (e : Effect) (s : ExecState) (h : IsAfter s) where
    abbrev at_node : ℕ → PlanNode → Option Effect
    at_node i p = where_true (may_step plan v.state (instance_of p) st) (node_effect plan v entries i p st)

    abbrev at_item : ℕ → ℕ → PlanNode → Option Effect
    at_item i k p =
        where_true (may_step plan v.state (instance_of p) st)
        (option_and_then (λ slot. item_effect plan v p k slot st) (slice_get (node_state v.state i).items k))

    -- the effect on the node of a number
    node-step : (i j : ℕ) (n : Node) (there : slice_get w.nodes j ≡ Some n) → j ≡ i
        → option_and_then (at_node i) (node_numbered plan i) ≡ Some e
        → Fine j n there e.slot × (e.items ≡ None)
    node-step i j n there same legal =
        let p = outer_node w (j, n) in
        let here : at_node j p ≡ Some e =
        sym (ap (option_and_then (at_node j)) (planned-at plan w outer j n there))
        ∙ subst (λ k. option_and_then (at_node k) (node_numbered plan k) ≡ Some e) (sym same) legal in
        let test = may_step plan v.state [] st in
        let effect = node_effect plan v entries j p st in
        fine-step plan w outer v of_plan retries j n there entries st e cited (where_true-test test effect e here)
        (where_true-there test effect e here)

    moved-node : (i : ℕ) → option_and_then (at_node i) (node_numbered plan i) ≡ Some e
        → IsAfter (state_with s (record { node = Some i; item = None }) e)
    moved-node i legal =
        let old = (node_state s i).items in
        let new : NodeState = record { own = e.slot; items = unwrap_or e.items old } in record {
          count = length-set s.nodes i new ∙ h.count;
          root = h.root;
          nodes = λ j n there.
              cases-same j i
              (λ same.
              let small : i < length s.nodes =
              omega (arith, same, slice_get_within w.nodes j n there, h.count, count-outer plan w outer) in
              let is = node_state-with s i j new same small in
              let fine = node-step i j n there same legal in (
                subst (λ (x : NodeState). Fine j n there x.own) (sym is) fine.0,
                ap (λ (x : NodeState). x.items) is ∙ ap (λ o. unwrap_or o old) fine.1
                    ∙ ap (λ k. (node_state s k).items) (sym same) ∙ (h.nodes j n there).1,
              ))
              (λ apart.
              let is = node_state-other s i j new apart in
              subst (λ (x : NodeState). Fine j n there x.own × (x.items ≡ [])) (sym is) (h.nodes j n there));
        }

    no-item : (i k : ℕ) → option_and_then (at_item i k) (node_numbered plan i) ≡ Some e → ⊥
    no-item i k legal =
        let found = option_and_then-there (at_item i k) (node_numbered plan i) e legal in
        let node = map-some (λ m. outer_node w (i, m)) (slice_get w.nodes i) found.0
        (sym (numbered-outer plan w outer i) ∙ found.1) in
        let made = where_true-there (may_step plan v.state (instance_of found.0) st) _ e found.2 in
        let slot = option_and_then-there (λ slot. item_effect plan v found.0 k slot st)
        (slice_get (node_state v.state i).items k) e made in
        none-some slot.0 (sym (ap (λ xs. slice_get xs k) (first-items i node.0 node.1)) ∙ slot.1)

    moved : (to item : Option ℕ)
        → effect_of plan v entries (record { at = record { node = to; item = item }; step = st }) ≡ Some e
        → IsAfter (state_with s (record { node = to; item = item }) e)
    moved None None legal = record { count = h.count; root = fine-root st e legal; nodes = h.nodes }
    moved None (Some k) legal = absurd (none-some e legal)
    moved (Some i) None legal = moved-node i legal
    moved (Some i) (Some k) legal = absurd (no-item i k legal)

  after-move : (m : CitedMove) → ((e : Entry) → Contains m.entries e → IsEntryOfPlan plan e) → (s : ExecState)
      → IsAfter s → IsAfter (with_move plan v s m)
  after-move m cited s h = by (effect_of plan v m.entries m.move) refl
    where
      by : (o : Option Effect) → effect_of plan v m.entries m.move ≡ o → IsAfter (with_move plan v s m)
      by None e = rw e h
      by (Some x) e = rw e (moved m.entries cited m.move.step x s h m.move.at.node m.move.at.item e)

  after-moves : (ms : List CitedMove)
      → ((m : CitedMove) (e : Entry) → Contains ms m → Contains m.entries e → IsEntryOfPlan plan e)
      → (s : ExecState) → IsAfter s → IsAfter (fold (with_move plan v) s ms)
  after-moves [] cited s h = h
  after-moves (m ∷ ms) cited s h =
      after-moves ms (λ x e has. cited x e (later_in m ms x has)) (with_move plan v s m)
      (after-move m (λ e. cited m e (first_in m ms)) s h)

  -- ---- what comes of it

  module _ (s : ExecState) (h : IsAfter s) where
    -- what is final stays
    stays : (j : ℕ) → is_final (phase_of v.state j) ≡ true → own_state s j ≡ own_state v.state j
    stays j final =
        ⊎_elim (λ found. (h.nodes j found.0 found.2).0.stays final)
        (λ past.
        let none : slice_get v.state.nodes j ≡ None =
        slice_get_past v.state.nodes j (omega (arith, past.0, of_plan.state.count, count-outer plan w outer)) in
        absurd (false≢true (sym (ap (λ o. is_final (unwrap_or o fresh_node).own.phase) none) ∙ final)))
        (slice_get_cases w.nodes j).1

    succeeds : (j : ℕ) → is_succeeded (phase_of v.state j) ≡ true → is_succeeded (phase_of s j) ≡ true
    succeeds j good = ap (λ (x : SlotState). is_succeeded x.phase)
        (stays j (succeeded-final (phase_of v.state j) good)) ∙ good

    fails : (j : ℕ) → is_failure (phase_of v.state j) ≡ true → is_failure (phase_of s j) ≡ true
    fails j bad = ap (λ (x : SlotState). is_failure x.phase) (stays j (failure-final (phase_of v.state j) bad)) ∙ bad

    -- a broken instance stays broken
    breaks : is_broken plan v.state [] ≡ true → is_broken plan s [] ≡ true
    breaks broken =
        let parts = and_parts (not w.fail_late) (has_failure plan v.state [])
        (sym (broken-outer plan w outer v.state) ∙ broken) in
        let some = any-more (λ i. is_failure (phase_of v.state i)) (λ i. is_failure (phase_of s i))
        (range_with_len 0 (length plan.nodes)) fails
        (sym (failure-outer plan w outer v.state) ∙ parts.1) in
        broken-outer plan w outer s
        ∙ and_from (not w.fail_late) (has_failure plan s []) parts.0 (failure-outer plan w outer s ∙ some)

    -- what is known stays known
    known-more : (id : Text) (m : LiteralMap) → known_in plan v.state [] id ≡ Some m → known_in plan s [] id ≡ Some m
    known-more id m e = by (bytes_eq id start_node) refl
      where
        known_by : ExecState → Bool → Option LiteralMap
        known_by x b = if b then x.root.inputs else option_and_then (λ i. outputs_in (own_state x i))
            (number_in plan [] id)

        by : (b : Bool) → bytes_eq id start_node ≡ b → known_in plan s [] id ≡ Some m
        by true start =
            ap (known_by s) start ∙ h.root.inputs ∙ sym (ap (known_by v.state) start) ∙ e
        by false other =
            let there = option_and_then-there (λ i. outputs_in (own_state v.state i)) (number_in plan [] id) m
            (sym (ap (known_by v.state) other) ∙ e) in
            let same = stays there.0 (succeeded-final (phase_of v.state there.0)
            (given-there (own_state v.state there.0) m there.2)) in
            ap (known_by s) other
            ∙ ap (option_and_then (λ i. outputs_in (own_state s i))) there.1
            ∙ ap outputs_in same ∙ there.2

    module _ (i : ℕ) (n : Node) (there : slice_get w.nodes i ≡ Some n) where
      abbrev p : PlanNode
      p = outer_node w (i, n)

      fine : Fine i n there (own_state s i)
      fine = (h.nodes i n there).0

      nothing : has_items (node_state s i) ≡ false
      nothing = none-of (node_state s i) (h.nodes i n there).1

      -- inputs without fault stay so
      faultless-still : is_ok (inputs_of_node plan v.state p None) ≡ true
          → is_ok (inputs_of_node plan s p None) ≡ true
      faultless-still good = by (inputs_of_node plan v.state p None) refl good
        where
          by : (t : Taken LiteralMap) → inputs_of_node plan v.state p None ≡ t → is_ok t ≡ true
              → is_ok (inputs_of_node plan s p None) ≡ true
          by (Err fault) is ok = absurd (false≢true ok)
          by (Ok m) is ok =
              ap is_ok (inputs-bound plan w outer i n there s
              ∙ values-extend (source_in_run plan) (known_in plan v.state []) (known_in plan s []) known-more n.inputs
              (its plan w outer i n there).1.interface.inputs m
              (sym (inputs-bound plan w outer i n there v.state) ∙ is))

      no_items : {B : Type 0} → has_items (node_state s i) ≡ true → B
      no_items some = absurd (true≢false (sym some ∙ nothing))

      no_item : {B : Type 0} (item : SlotState) → Contains (node_state s i).items item → B
      no_item item has = absurd (Contains-nil item (subst (λ xs. Contains xs item) (h.nodes i n there).1 has))

      node-after : IsNodeOfPlan plan s i p
      node-after = record {
        typed = fine.typed;
        items = λ item has. no_item item has;
        has_inputs = λ both.
            absurd (true≢false (sym (and_parts (is_workflow n) (needs_inputs (phase_of s i)) both).0
            ∙ ap is_workflow_target (its plan w outer i n there).2));
        inside = or_left _ (is_untouched (node_state s i)) (begun-outer plan w outer s);
        promised = λ j asked has.
            ⊎_elim (λ some. no_items some) (λ started. succeeds j (fine.promised started j has))
            (or_cases (has_items (node_state s i)) (is_asked (phase_of s i)) asked);
        faultless = λ goes.
            ⊎_elim
            (λ going. faultless-still
            (fine.faultless (or_left (is_queued (phase_of s i) || is_running (phase_of s i))
            (is_retryable (phase_of s i)) going)))
            (λ some. no_items some)
            (or_cases (is_queued (phase_of s i) || is_running (phase_of s i)) (has_items (node_state s i)) goes);
        array = λ some. no_items some;
        counted = λ some. no_items some;
        aborted = λ gone. breaks (fine.aborted gone);
        item_aborted = λ item has gone. no_item item has;
      }

    root-after : IsRootOfPlan plan w s
    root-after = record {
      typed = h.root.typed;
      has_inputs = ap is_some h.root.inputs ∙ root_of.has_inputs;
      aborted = λ gone. breaks (h.root.aborted gone);
    }

    numbered-node : (i : ℕ) (p : PlanNode) → node_numbered plan i ≡ Some p
        → (n : Node) × (slice_get w.nodes i ≡ Some n) × (p ≡ outer_node w (i, n))
    numbered-node i p e = map-some (λ m. outer_node w (i, m)) (slice_get w.nodes i) p
        (sym (numbered-outer plan w outer i) ∙ e)

    kept-after : IsKeptState plan s
    kept-after = record {
      of_plan = record {
        count = h.count;
        root = λ x named. subst (λ y. IsRootOfPlan plan y s) (same_Some w x (sym outer.named ∙ named)) root-after;
        nodes = λ i p planned.
            let node = numbered-node i p planned in
            subst (IsNodeOfPlan plan s i) (sym node.2) (node-after i node.0 node.1);
      };
      retries = λ i p planned again.
          let node = numbered-node i p planned in
          subst (λ q. is_ok (inputs_of_node plan s q None) ≡ true) (sym node.2)
          (faultless-still i node.0 node.1 ((fine i node.0 node.1).faultless (retryable-going (phase_of s i) again)));
    }

  -- a round keeps the state of the plan
  pub round-kept : (moves : List CitedMove)
      → ((m : CitedMove) (e : Entry) → Contains moves m → Contains m.entries e → IsEntryOfPlan plan e)
      → IsKeptState plan (state_after plan v moves)
  round-kept moves cited = kept-after (state_after plan v moves) (after-moves moves cited v.state at-first)
