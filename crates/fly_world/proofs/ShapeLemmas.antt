-- Versions keep their shape: as many nodes as the plan, items of arrays alone, the submitted inputs, and outputs
-- where they were given.
use Rattle.std.proofs.Common.{◌≡◌, ◌⊎◌, inl, inr, ℕ, Bool, true, false, List, [], ◌∷◌, ◌++◌, map, set, fold, length, All, Option, Some, None, option_map, option_and_then, unwrap_or, IfSome, refl, sym, subst, ap, ◌∙◌, ⊎_elim}
use Rattle.std.specs.List.{slice_get}
use Rattle.std.proofs.lemmas.List.{length-set, length-map, map-append}
use Rattle.std.proofs.lemmas.List.Elements.{All-nil, All-set, All-push, All-contains, Contains-push}
use Rattle.std.proofs.lemmas.Option.{none-some, same_Some, slice_get-map}
use Rattle.fly_types.specs.declared.literals.LiteralMap.{LiteralMap}
use Rattle.fly_docs.specs.Plans.{PlanNode, is_array}
use Rattle.fly_state.specs.declared.slots.SlotState.{SlotState}
use Rattle.fly_state.specs.declared.slots.NodeState.{NodeState}
use Rattle.fly_state.specs.declared.slots.ExecState.{ExecState}
use Rattle.fly_state.specs.declared.moves.Step.{Step}
use Rattle.fly_state.specs.declared.entries.Entry.{Entry}
use Rattle.fly_state.specs.declared.view.View.{View}
use Rattle.fly_state.specs.Plans.{RunPlan, node_numbered, instance_of}
use Rattle.fly_state.specs.States.{fresh_node, first_state, node_state}
use Rattle.fly_state.specs.declared.effects.Effect.{Effect}
use Rattle.fly_state.specs.Moves.{effect_of, node_effect, item_effect, may_step, where_true, state_with}
use Rattle.fly_state.specs.Rounds.{CitedMove, with_move, state_after}
use Rattle.fly_world.specs.World.{World, Execution, Past, empty_world, current_view}
use Rattle.fly_world.specs.Changes.{Change, no_change, moment_becomes, catalog_becomes, lets_go, adds_execution, adds_launch, adds_claim, adds_outcome, adds_version, with_change, with_version}
use Rattle.fly_world.specs.Steps.{cited_move}
use Rattle.fly_world.specs.ReadOff.{versions_of}
use Rattle.fly_world.specs.Journals.{IsHistory}
use Rattle.fly_world.specs.Versions.{IsComplete, IsShaped, HasShapedVersions, is_root_phase}
use Rattle.fly_world.proofs.StepLemmas.{Permits}
use Rattle.fly_world.proofs.JournalLemmas.{along_changes}
use Rattle.fly_world.proofs.EffectLemmas.{given}
use Rattle.fly_world.proofs.CompleteLemmas.{IsWhole, idle, node-complete, node-whole, item-whole, root-whole}
use Rattle.fly_world.proofs.TypeLemmas.{contained}
use Rattle.fly_world.proofs.FinalSlots.{set_cases, node_is, named_there, state_current}

there_then : {X Y : Type 0} (f : X → Option Y) (o : Option X) (y : Y) → option_and_then f o ≡ Some y → (x : X)
    × (o ≡ Some x) × (f x ≡ Some y)
there_then f None y h = absurd (none-some y h)
there_then f (Some x) y h = (x, refl, h)

there_where : {X : Type 0} (b : Bool) (o : Option X) (y : X) → where_true b o ≡ Some y → o ≡ Some y
there_where true o y h = h
there_where false o y h = absurd (none-some y h)

-- ---- moves

module _ (plan : RunPlan) (v : View) (inputs : LiteralMap) (first : IsShaped plan inputs v.state) where
  abbrev Shaped : ExecState → Type 0
  Shaped s = IsShaped plan inputs s

  -- items are of arrays alone after a change of the items of one node
  arrays_with : (s : ExecState) (i : ℕ) (new : NodeState) → Shaped s
      → ((p : PlanNode) → node_numbered plan i ≡ Some p → (m : NodeState) → slice_get s.nodes i ≡ Some m
      → (new.items ≡ []) ⊎ (is_array p.node ≡ true))
      → (j : ℕ) (n : NodeState) (p : PlanNode) → slice_get (set s.nodes i new) j ≡ Some n → node_numbered plan j
      ≡ Some p
      → (n.items ≡ []) ⊎ (is_array p.node ≡ true)
  arrays_with s i new h made j n p there numbered = ⊎_elim
      (λ here. ⊎_elim (λ none. inl (ap (λ (x : NodeState). x.items) here.1 ∙ none)) inr
      (made p (subst (λ k. node_numbered plan k ≡ Some p) here.0 numbered) here.2.0 here.2.1))
      (λ other. h.arrays j n p other numbered)
      (set_cases s.nodes i j new n there)

  complete_with : (s : ExecState) (i : ℕ) (new : NodeState) → Shaped s → IsComplete new.own
      → ((m : NodeState) → slice_get s.nodes i ≡ Some m → All IsComplete new.items)
      → (j : ℕ) (n : NodeState) → slice_get (set s.nodes i new) j ≡ Some n → IsComplete n.own × All IsComplete n.items
  complete_with s i new h own items j n there = ⊎_elim
      (λ here. (
        subst (λ (x : NodeState). IsComplete x.own) (sym here.1) own,
        subst (λ (x : NodeState). All IsComplete x.items) (sym here.1) (items here.2.0 here.2.1),
      ))
      (λ other. h.complete.nodes j n other)
      (set_cases s.nodes i j new n there)

  same_node : (i : ℕ) (p q : PlanNode) → node_numbered plan i ≡ Some p → node_numbered plan i ≡ Some q → p ≡ q
  same_node i p q a b = same_Some p q (sym a ∙ b)

  shaped_node : (s : ExecState) (i : ℕ) (p : PlanNode) (e : Effect) → Shaped s → node_numbered plan i ≡ Some p
      → IsWhole (is_array p.node) e
      → Shaped (state_with s (record { node = Some i; item = None }) e)
  shaped_node s i p e h numbered whole =
      let old = (node_state s i).items in
      let new : NodeState = record { own = e.slot; items = unwrap_or e.items old } in
      record {
        count = length-set s.nodes i new ∙ h.count;
        arrays = arrays_with s i new h (λ q is m there. ⊎_elim
            (λ none. ⊎_elim
            (λ empty. inl (ap (λ (o : Option (List SlotState)). unwrap_or o old) none
            ∙ ap (λ (x : NodeState). x.items) (node_is s i m there) ∙ empty))
            inr (h.arrays i m q there is))
            (λ array. inr (subst (λ (x : PlanNode). is_array x.node ≡ true) (same_node i p q numbered is) array))
            whole.array_only);
        inputs_are = h.inputs_are;
        root_phase = h.root_phase;
        complete = record {
          root = h.complete.root;
          nodes = complete_with s i new h whole.own
              (λ m there. items_whole e.items whole.items old (node-complete s h.complete i).1);
        };
      }
    where
      items_whole : (o : Option (List SlotState)) → IfSome o (All IsComplete) → (old : List SlotState)
          → All IsComplete old
          → All IsComplete (unwrap_or o old)
      items_whole None made old complete = complete
      items_whole (Some items) made old complete = made

  shaped_item : (s : ExecState) (i k : ℕ) (e : Effect) → Shaped s → IsComplete e.slot
      → Shaped (state_with s (record { node = Some i; item = Some k }) e)
  shaped_item s i k e h complete =
      let old = (node_state s i).items in
      let new : NodeState = record (node_state s i) { items = set old k e.slot } in
      record {
        count = length-set s.nodes i new ∙ h.count;
        arrays = arrays_with s i new h (λ q is m there. ⊎_elim
            (λ empty. inl (ap (λ xs. set xs k e.slot)
            (ap (λ (x : NodeState). x.items) (node_is s i m there) ∙ empty)))
            inr (h.arrays i m q there is));
        inputs_are = h.inputs_are;
        root_phase = h.root_phase;
        complete = record {
          root = h.complete.root;
          nodes = complete_with s i new h (node-complete s h.complete i).0
              (λ m there. All-set IsComplete old k e.slot complete (node-complete s h.complete i).1);
        };
      }

  shaped_root : (s : ExecState) (item : Option ℕ) (e : Effect) → Shaped s → IsComplete e.slot
      → e.slot.inputs ≡ Some inputs → is_root_phase e.slot.phase ≡ true
      → Shaped (state_with s (record { node = None; item = item }) e)
  shaped_root s item e h complete given closed = record {
    count = h.count;
    arrays = h.arrays;
    inputs_are = given;
    root_phase = closed;
    complete = record { root = complete; nodes = h.complete.nodes };
  }

  shaped_by : (es : List Entry) (st : Step) (e : Effect) (s : ExecState) (to item : Option ℕ)
      → effect_of plan v es (record { at = record { node = to; item = item }; step = st }) ≡ Some e → Shaped s
      → Shaped (state_with s (record { node = to; item = item }) e)
  shaped_by es st e s None None legal h =
      let made = root-whole plan v.state st e legal in
      shaped_root s None e h made.0 (made.1.0 ∙ first.inputs_are) made.1.1
  shaped_by es st e s None (Some k) legal h = absurd (none-some e legal)
  shaped_by es st e s (Some i) None legal h =
      let found = there_then (λ p. where_true (may_step plan v.state (instance_of p) st)
      (node_effect plan v es i p st)) (node_numbered plan i) e legal in
      let p = found.0 in
      shaped_node s i p e h found.1
      (node-whole plan v i p first.complete es st e
      (there_where (may_step plan v.state (instance_of p) st) (node_effect plan v es i p st) e found.2))
  shaped_by es st e s (Some i) (Some k) legal h =
      let items = (node_state v.state i).items in
      let made : PlanNode → Option Effect = λ p. option_and_then (λ slot. item_effect plan v p k slot st)
      (slice_get items k) in
      let found = there_then (λ p. where_true (may_step plan v.state (instance_of p) st) (made p))
      (node_numbered plan i) e legal in
      let p = found.0 in
      let slot = there_then (λ slot. item_effect plan v p k slot st) (slice_get items k) e
      (there_where (may_step plan v.state (instance_of p) st) (made p) e found.2) in
      shaped_item s i k e h (item-whole plan v p k slot.0 st e slot.2)

  shaped_by_move : (m : CitedMove) (s : ExecState) → Shaped s → Shaped (with_move plan v s m)
  shaped_by_move m s h = by (effect_of plan v m.entries m.move) refl
    where
      by : (o : Option Effect) → effect_of plan v m.entries m.move ≡ o → Shaped (with_move plan v s m)
      by None e = rw e h
      by (Some x) e = rw e (shaped_by m.entries m.move.step x s m.move.at.node m.move.at.item e h)

  shaped_by_moves : (ms : List CitedMove) (s : ExecState) → Shaped s → Shaped (fold (with_move plan v) s ms)
  shaped_by_moves [] s h = h
  shaped_by_moves (m ∷ ms) s h = shaped_by_moves ms (with_move plan v s m) (shaped_by_move m s h)

  shaped-after : (ms : List CitedMove) → Shaped (state_after plan v ms)
  shaped-after ms = shaped_by_moves ms v.state first

-- ---- worlds

first-shaped : (plan : RunPlan) (inputs : LiteralMap) → IsShaped plan inputs (first_state plan inputs)
first-shaped plan inputs = record {
  count = length-map plan.nodes (λ (p : PlanNode). fresh_node);
  arrays = λ i n p there numbered. inl (ap (λ (x : NodeState). x.items) (sym (fresh i n there)));
  inputs_are = refl;
  root_phase = refl;
  complete = record {
    root = idle;
    nodes = λ i n there. (
      subst (λ (x : NodeState). IsComplete x.own) (fresh i n there) idle,
      subst (λ (x : NodeState). All IsComplete x.items) (fresh i n there) (All-nil IsComplete),
    );
  };
}
  where
    fresh : (i : ℕ) (n : NodeState) → slice_get (map (λ (p : PlanNode). fresh_node) plan.nodes) i ≡ Some n
        → fresh_node ≡ n
    fresh i n there =
        let found = given (λ (p : PlanNode). fresh_node) (slice_get plan.nodes i) n
        (sym (slice_get-map (λ (p : PlanNode). fresh_node) plan.nodes i) ∙ there) in
        same_Some fresh_node n (sym (ap (option_map (λ (p : PlanNode). fresh_node)) found.1)
        ∙ sym (slice_get-map (λ (p : PlanNode). fresh_node) plan.nodes i) ∙ there)

-- an execution with shaped versions
abbrev IsShapedAll : RunPlan → Execution → Type 0
IsShapedAll plan x = All (IsShaped plan x.inputs) (versions_of x)

abbrev ShapedWorld : RunPlan → World → Type 0
ShapedWorld plan w = All (IsShapedAll plan) w.executions

-- the current version is one of them
current-shaped : (plan : RunPlan) (x : Execution) → IsShapedAll plan x → IsShaped plan x.inputs x.state
current-shaped plan x all =
    All-contains (IsShaped plan x.inputs) (versions_of x) x.state all
    (Contains-push (map (λ (p : Past). p.state) x.past) x.state)

module _ (plan : RunPlan) (w : World) (h : ShapedWorld plan w) where
  shaped_version : (at : ℕ × Execution) (state : ExecState) → Permits plan w (adds_version at state)
      → IsShapedAll plan (with_version state (length w.entries) at.1)
  shaped_version at state permits =
      let there = named_there w permits.exec at permits.named in
      let old = All-contains (IsShapedAll plan) w.executions at.1 h (contained w.executions at.0 at.1 there) in
      let view = current_view w at in
      let start = subst (IsShaped plan at.1.inputs) (sym (state_current at.1)) (current-shaped plan at.1 old) in
      let new = subst (IsShaped plan at.1.inputs) (sym permits.state_is)
      (shaped-after plan view at.1.inputs start (map (cited_move w) permits.moves)) in
      subst (All (IsShaped plan at.1.inputs))
      (ap (λ vs. vs ++ state ∷ []) (sym
      (map-append (λ (p : Past). p.state) at.1.past
      (record { state = at.1.state; until = length w.entries } ∷ []))))
      (All-push (IsShaped plan at.1.inputs) (versions_of at.1) state old new)

  shaped_change : (c : Change) → Permits plan w c → ShapedWorld plan (with_change w c)
  shaped_change no_change permits = h
  shaped_change (moment_becomes moment) permits = h
  shaped_change (catalog_becomes catalog) permits = h
  shaped_change (lets_go ends) permits = h
  shaped_change (adds_execution name inputs state) permits =
      All-push (IsShapedAll plan) w.executions (record { name = name; inputs = inputs; past = []; state = state }) h
      (All-push (IsShaped plan inputs) [] state (All-nil (IsShaped plan inputs))
      (subst (IsShaped plan inputs) (sym permits.1) (first-shaped plan inputs)))
  shaped_change (adds_launch name inputs) permits = h
  shaped_change (adds_claim name) permits = h
  shaped_change (adds_outcome name o) permits = h
  shaped_change (adds_version at state) permits =
      All-set (IsShapedAll plan) w.executions at.0 (with_version state (length w.entries) at.1)
      (shaped_version at state permits) h

pub history-shaped : (plan : RunPlan) (closure : List ℕ) (journal : List Entry) (w : World)
    → IsHistory plan closure journal w
    → HasShapedVersions plan w
history-shaped plan closure journal w history x s there is =
    let all = along_changes plan (ShapedWorld plan) (λ v e at. at)
    (λ v c at permits. shaped_change plan v at c permits) empty_world w journal
    (All-nil (IsShapedAll plan)) history.leads in
    All-contains (IsShaped plan x.inputs) (versions_of x) s
    (All-contains (IsShapedAll plan) w.executions x all there) is
