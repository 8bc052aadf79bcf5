-- A slot that is final stands unchanged.
use Rattle.std.proofs.Common.{◌≡◌, ◌≢◌, ◌⊎◌, inl, inr, ℕ, zero, suc, ◌+◌, Bool, true, false, List, [], ◌∷◌, ◌++◌, map, length, fold, find, Option, Some, None, option_map, option_and_then, unwrap_or, refl, sym, subst, ap, ◌∙◌, ⊎_elim, set, arith, cond, bytes_eq}
use Rattle.std.specs.List.{slice_get, enumerate_from}
use Rattle.std.specs.Option.{option_map_or}
use Rattle.std.proofs.lemmas.Bool.{true≢false, false≢true}
use Rattle.std.proofs.lemmas.Bool.Decides.{eqb_tells}
use Rattle.std.proofs.lemmas.Option.{none-some, same_Some, slice_get_past, slice_get-map}
use Rattle.fly_types.specs.declared.text.Text.{Text}
use Rattle.fly_types.specs.declared.literals.LiteralMap.{LiteralMap}
use Rattle.fly_docs.specs.Plans.{PlanNode}
use Rattle.fly_state.specs.declared.phase.Phase.{Phase}
use Rattle.fly_state.specs.declared.phase.Phase.TheVariants as phase
use Rattle.fly_state.specs.declared.slots.SlotState.{SlotState}
use Rattle.fly_state.specs.declared.slots.NodeState.{NodeState}
use Rattle.fly_state.specs.declared.slots.ExecState.{ExecState}
use Rattle.fly_state.specs.declared.moves.At.{At}
use Rattle.fly_state.specs.declared.moves.Move.{Move}
use Rattle.fly_state.specs.declared.moves.Step.{Step}
use Rattle.fly_state.specs.declared.entries.Entry.{Entry}
use Rattle.fly_state.specs.declared.view.View.{View}
use Rattle.fly_state.specs.Plans.{RunPlan, node_numbered, instance_of}
use Rattle.fly_state.specs.States.{fresh_node, first_state, node_state, phase_of, is_final, is_not_yet_started}
use Rattle.fly_state.specs.declared.effects.Effect.{Effect}
use Rattle.fly_state.specs.Moves.{effect_of, node_effect, may_step, where_true, is_queued, state_with}
use Rattle.fly_state.specs.Rounds.{CitedMove, with_move, state_after}
use Rattle.fly_state.specs.Laws.{slot_at}
use Rattle.fly_state.proofs.FinalLemmas.{effect_of-not_final}
use Rattle.fly_world.specs.World.{World, Execution, Past, empty_world, execution_named, current_of, state_at, current_view}
use Rattle.fly_world.specs.Changes.{Change, no_change, moment_becomes, catalog_becomes, lets_go, adds_execution, adds_launch, adds_claim, adds_outcome, adds_version, with_change, with_version}
use Rattle.fly_world.specs.Steps.{cited_move}
use Rattle.fly_world.specs.Journals.{Leads, IsHistory}
use Rattle.fly_world.proofs.StepLemmas.{Permits}
use Rattle.fly_world.proofs.JournalLemmas.{along_changes}
use Rattle.fly_world.proofs.EffectLemmas.{is_early, IsMade, node-made, in_then, in_where, given}

-- ---- lists with one element changed

module _ {X : Type 0} where
  pub set_apart : (xs : List X) (i j : ℕ) (y x : X) → slice_get xs j ≡ Some x → j ≢ i → slice_get (set xs i y) j
      ≡ Some x
  set_apart [] i j y x h apart = h
  set_apart (z ∷ zs) zero zero y x h apart = absurd (apart refl)
  set_apart (z ∷ zs) zero (suc j) y x h apart = h
  set_apart (z ∷ zs) (suc i) zero y x h apart = h
  set_apart (z ∷ zs) (suc i) (suc j) y x h apart = set_apart zs i j y x h (λ same. apart (ap suc same))

  pub set_there : (xs : List X) (i : ℕ) (y x : X) → slice_get xs i ≡ Some x → slice_get (set xs i y) i ≡ Some y
  set_there [] i y x h = absurd (none-some x h)
  set_there (z ∷ zs) zero y x h = refl
  set_there (z ∷ zs) (suc i) y x h = set_there zs i y x h

  pub get_front : (xs ys : List X) (i : ℕ) (x : X) → slice_get xs i ≡ Some x → slice_get (xs ++ ys) i ≡ Some x
  get_front [] ys i x h = absurd (none-some x h)
  get_front (z ∷ zs) ys zero x h = h
  get_front (z ∷ zs) ys (suc i) x h = get_front zs ys i x h

  -- what stands in a list after a change of one element
  pub set_cases : (xs : List X) (i j : ℕ) (y x : X) → slice_get (set xs i y) j ≡ Some x
      → ((j ≡ i) × (x ≡ y) × ((z : X) × (slice_get xs i ≡ Some z))) ⊎ (slice_get xs j ≡ Some x)
  set_cases [] i j y x h = inr h
  set_cases (z ∷ zs) zero zero y x h = inl (refl, sym (same_Some y x h), (z, refl))
  set_cases (z ∷ zs) zero (suc j) y x h = inr h
  set_cases (z ∷ zs) (suc i) zero y x h = inr h
  set_cases (z ∷ zs) (suc i) (suc j) y x h = ⊎_elim (λ here. inl (ap suc here.0, here.1, here.2)) inr
      (set_cases zs i j y x h)

  push_cases : (xs : List X) (y : X) (i : ℕ) (x : X) → slice_get (xs ++ y ∷ []) i ≡ Some x
      → (slice_get xs i ≡ Some x) ⊎ (x ≡ y)
  push_cases [] y zero x h = inr (sym (same_Some y x h))
  push_cases [] y (suc i) x h = absurd (none-some x h)
  push_cases (z ∷ zs) y zero x h = inl h
  push_cases (z ∷ zs) y (suc i) x h = push_cases zs y i x h

own_there : (o : Option NodeState) (slot : SlotState) → option_map (λ (n : NodeState). n.own) o ≡ Some slot
    → (n : NodeState) × (o ≡ Some n) × (n.own ≡ slot)
own_there None slot h = absurd (none-some slot h)
own_there (Some n) slot h = (n, refl, same_Some _ _ h)

own_of : (o : Option NodeState) (n : NodeState) (slot : SlotState) → o ≡ Some n → n.own ≡ slot
    → option_map (λ (n : NodeState). n.own) o ≡ Some slot
own_of None n slot h is_slot = absurd (none-some n h)
own_of (Some m) n slot h is_slot = ap Some (ap (λ (x : NodeState). x.own) (same_Some _ _ h) ∙ is_slot)

item_there : (o : Option NodeState) (k : ℕ) (slot : SlotState)
    → option_and_then (λ (n : NodeState). slice_get n.items k) o ≡ Some slot
    → (n : NodeState) × (o ≡ Some n) × (slice_get n.items k ≡ Some slot)
item_there None k slot h = absurd (none-some slot h)
item_there (Some n) k slot h = (n, refl, h)

item_of : (o : Option NodeState) (n : NodeState) (k : ℕ) (slot : SlotState) → o ≡ Some n → slice_get n.items k
    ≡ Some slot
    → option_and_then (λ (n : NodeState). slice_get n.items k) o ≡ Some slot
item_of None n k slot h there = absurd (none-some n h)
item_of (Some m) n k slot h there = ap (λ (x : NodeState). slice_get x.items k) (same_Some m n h) ∙ there

-- ---- nodes without items

-- a node to which nothing has happened, or that is queued, has no items
abbrev NoEarlyItems : ExecState → Type 0
NoEarlyItems s = (i : ℕ) (n : NodeState) → slice_get s.nodes i ≡ Some n → is_early n.own.phase ≡ true → n.items ≡ []

queued-early : (f : Phase) → is_queued f ≡ true → is_early f ≡ true
queued-early phase.Queued h = refl
queued-early phase.NotYetStarted h = absurd (false≢true h)
queued-early phase.Running h = absurd (false≢true h)
queued-early phase.RetryableFailure h = absurd (false≢true h)
queued-early phase.Succeeding h = absurd (false≢true h)
queued-early phase.Succeeded h = absurd (false≢true h)
queued-early phase.Failed h = absurd (false≢true h)
queued-early phase.TimedOut h = absurd (false≢true h)
queued-early phase.Skipped h = absurd (false≢true h)
queued-early phase.Aborted h = absurd (false≢true h)

fresh-early : (f : Phase) → is_not_yet_started f ≡ true → is_early f ≡ true
fresh-early phase.NotYetStarted h = refl
fresh-early phase.Queued h = refl
fresh-early phase.Running h = absurd (false≢true h)
fresh-early phase.RetryableFailure h = absurd (false≢true h)
fresh-early phase.Succeeding h = absurd (false≢true h)
fresh-early phase.Succeeded h = absurd (false≢true h)
fresh-early phase.Failed h = absurd (false≢true h)
fresh-early phase.TimedOut h = absurd (false≢true h)
fresh-early phase.Skipped h = absurd (false≢true h)
fresh-early phase.Aborted h = absurd (false≢true h)

not_both : (f : Phase) → is_not_yet_started f ≡ true → is_queued f ≡ true → ⊥
not_both phase.NotYetStarted fresh queued = false≢true queued
not_both phase.Queued fresh queued = false≢true fresh
not_both phase.Running fresh queued = false≢true queued
not_both phase.RetryableFailure fresh queued = false≢true queued
not_both phase.Succeeding fresh queued = false≢true queued
not_both phase.Succeeded fresh queued = false≢true queued
not_both phase.Failed fresh queued = false≢true queued
not_both phase.TimedOut fresh queued = false≢true queued
not_both phase.Skipped fresh queued = false≢true queued
not_both phase.Aborted fresh queued = false≢true queued

-- what a move on a node makes of it
made_of : (plan : RunPlan) (v : View) (es : List Entry) (i : ℕ) (st : Step) (e : Effect)
    → effect_of plan v es (record { at = record { node = Some i; item = None }; step = st }) ≡ Some e
    → IsMade (phase_of v.state i) e
made_of plan v es i st e h =
    let made : PlanNode → Option Effect = λ p. where_true (may_step plan v.state (instance_of p) st)
    (node_effect plan v es i p st) in
    in_then (IsMade (phase_of v.state i)) made
    (λ p. in_where (IsMade (phase_of v.state i)) (may_step plan v.state (instance_of p) st)
    (node_effect plan v es i p st)
    (λ e. node-made plan v es i p st e)) (node_numbered plan i) e h

-- the node of a number, where it is there
pub node_is : (s : ExecState) (i : ℕ) (n : NodeState) → slice_get s.nodes i ≡ Some n → node_state s i ≡ n
node_is s i n h = ap (λ (o : Option NodeState). unwrap_or o fresh_node) h

-- ---- moves

module _ (plan : RunPlan) (v : View) (early : NoEarlyItems v.state) where
  -- a node that is early now has no items, and neither has one to which nothing had happened at the view
  abbrev HasFew : ExecState → Type 0
  HasFew s = (i : ℕ) (n : NodeState) → slice_get s.nodes i ≡ Some n
      → (is_early n.own.phase ≡ true → n.items ≡ []) × (is_not_yet_started (phase_of v.state i) ≡ true → n.items ≡ [])

  few_at_first : HasFew v.state
  few_at_first i n there = (
    early i n there,
    λ fresh. early i n there (fresh-early n.own.phase
        (subst (λ (x : NodeState). is_not_yet_started x.own.phase ≡ true) (node_is v.state i n there) fresh)),
  )

  -- a node to which nothing had happened gets no items
  no_items : (i : ℕ) (e : Effect) (items : List SlotState) → IsMade (phase_of v.state i) e
      → is_not_yet_started (phase_of v.state i) ≡ true
      → unwrap_or e.items items ≡ items
  no_items i e items made fresh =
      ⊎_elim (λ none. ap (λ (o : Option (List SlotState)). unwrap_or o items) none)
      (λ queued. absurd (not_both (phase_of v.state i) fresh queued)) made.items

  few_node : (es : List Entry) (st : Step) (e : Effect) (s : ExecState) (i : ℕ) → IsMade (phase_of v.state i) e
      → HasFew s
      → HasFew (state_with s (record { node = Some i; item = None }) e)
  few_node es st e s i made few j n there =
      let new : NodeState = record { own = e.slot; items = unwrap_or e.items (node_state s i).items } in
      ⊎_elim
      (λ here.
      let old = here.2 in
      let empty : is_not_yet_started (phase_of v.state i) ≡ true → n.items ≡ [] =
      λ fresh. ap (λ (x : NodeState). x.items) here.1 ∙ no_items i e (node_state s i).items made fresh
      ∙ ap (λ (x : NodeState). x.items) (node_is s i old.0 old.1) ∙ (few i old.0 old.1).1 fresh in (
        λ is. empty (made.early (subst (λ (x : NodeState). is_early x.own.phase ≡ true) here.1 is)),
        λ fresh. empty (subst (λ k. is_not_yet_started (phase_of v.state k) ≡ true) here.0 fresh),
      ))
      (λ other. few j n other)
      (set_cases s.nodes i j new n there)

  few_item : (e : Effect) (s : ExecState) (i k : ℕ) → HasFew s
      → HasFew (state_with s (record { node = Some i; item = Some k }) e)
  few_item e s i k few j n there =
      let new : NodeState = record (node_state s i) { items = set (node_state s i).items k e.slot } in
      ⊎_elim
      (λ here.
      let old = here.2 in
      let is_old = node_is s i old.0 old.1 in
      let from : old.0.items ≡ [] → n.items ≡ [] =
      λ none. ap (λ (x : NodeState). x.items) here.1
      ∙ ap (λ xs. set xs k e.slot) (ap (λ (x : NodeState). x.items) is_old ∙ none) in
      let own : n.own ≡ old.0.own = ap (λ (x : NodeState). x.own) here.1 ∙ ap (λ (x : NodeState). x.own) is_old in (
        λ is. from ((few i old.0 old.1).0 (subst (λ (x : SlotState). is_early x.phase ≡ true) own is)),
        λ fresh. from ((few i old.0 old.1).1
            (subst (λ m. is_not_yet_started (phase_of v.state m) ≡ true) here.0 fresh)),
      ))
      (λ other. few j n other)
      (set_cases s.nodes i j new n there)

  few_by : (es : List Entry) (st : Step) (e : Effect) (s : ExecState) (to item : Option ℕ)
      → effect_of plan v es (record { at = record { node = to; item = item }; step = st }) ≡ Some e → HasFew s
      → HasFew (state_with s (record { node = to; item = item }) e)
  few_by es st e s None item legal few = few
  few_by es st e s (Some i) None legal few = few_node es st e s i (made_of plan v es i st e legal) few
  few_by es st e s (Some i) (Some k) legal few = few_item e s i k few

  few_by_move : (m : CitedMove) (s : ExecState) → HasFew s → HasFew (with_move plan v s m)
  few_by_move m s few = by (effect_of plan v m.entries m.move) refl
    where
      by : (o : Option Effect) → effect_of plan v m.entries m.move ≡ o → HasFew (with_move plan v s m)
      by None e = rw e few
      by (Some x) e = rw e (few_by m.entries m.move.step x s m.move.at.node m.move.at.item e few)

  few_by_moves : (ms : List CitedMove) (s : ExecState) → HasFew s → HasFew (fold (with_move plan v) s ms)
  few_by_moves [] s few = few
  few_by_moves (m ∷ ms) s few = few_by_moves ms (with_move plan v s m) (few_by_move m s few)

  no_early-after : (ms : List CitedMove) → NoEarlyItems (state_after plan v ms)
  no_early-after ms i n there = (few_by_moves ms v.state few_at_first i n there).0

module _ (plan : RunPlan) (v : View) (early : NoEarlyItems v.state) (node item : Option ℕ) (slot : SlotState)
    (at : slot_at v.state (record { node = node; item = item }) ≡ Some slot)
    (final : is_final slot.phase ≡ true) where
  -- no legal move is on this slot
  spared : (es : List Entry) (m : Move) (e : Effect) → effect_of plan v es m ≡ Some e → slot_at v.state m.at
      ≡ Some slot → ⊥
  spared es m e legal there = true≢false (sym final ∙ effect_of-not_final plan v es m e slot legal there)

  abbrev At_slot : ExecState → Option ℕ → Option ℕ → Type 0
  At_slot s n i = slot_at s (record { node = n; item = i }) ≡ Some slot

  -- what a move makes of any slot leaves this one
  left_by : (es : List Entry) (st : Step) (e : Effect) (s : ExecState) (to k mine part : Option ℕ) → mine ≡ node
      → part ≡ item
      → effect_of plan v es (record { at = record { node = to; item = k }; step = st }) ≡ Some e
      → At_slot s mine part → At_slot (state_with s (record { node = to; item = k }) e) mine part
  left_by es st e s None None None None same whole legal h =
      absurd (spared es (record { at = record { node = None; item = None }; step = st }) e legal
      (subst (λ n. At_slot v.state n None) (sym same) (subst (At_slot v.state node) (sym whole) at)))
  left_by es st e s None (Some k) None None same whole legal h = absurd (none-some e legal)
  left_by es st e s (Some i) k None None same whole legal h = left_root e s i k h
    where
      left_root : (e : Effect) (s : ExecState) (i : ℕ) (k : Option ℕ) → At_slot s None None
          → At_slot (state_with s (record { node = Some i; item = k }) e) None None
      left_root e s i None h = h
      left_root e s i (Some k) h = h
  left_by es st e s to k None (Some part) same whole legal h = absurd (none-some slot h)
  left_by es st e s None k (Some j) None same whole legal h = h
  left_by es st e s None k (Some j) (Some part) same whole legal h = h
  left_by es st e s (Some i) None (Some j) None same whole legal h = ⊎_elim
      (λ equal. absurd (spared es (record { at = record { node = Some i; item = None }; step = st }) e legal
      (subst (λ n. At_slot v.state n None) (sym same ∙ ap Some equal.1)
      (subst (At_slot v.state node) (sym whole) at))))
      (λ other.
      let there = own_there (slice_get s.nodes j) slot h in
      let new : NodeState = record { own = e.slot; items = unwrap_or e.items (node_state s i).items } in
      own_of (slice_get (set s.nodes i new) j) there.0 slot
      (set_apart s.nodes i j new there.0 there.1 other.1) there.2)
      (eqb_tells j i)
  left_by es st e s (Some i) (Some k) (Some j) None same whole legal h =
      let there = own_there (slice_get s.nodes j) slot h in
      let new : NodeState = record (node_state s i) { items = set (node_state s i).items k e.slot } in
      ⊎_elim
      (λ equal.
      let here = subst (λ n. slice_get s.nodes n ≡ Some there.0) equal.1 there.1 in
      let is_own : new.own ≡ slot = ap (λ (x : NodeState). x.own) (node_is s i there.0 here) ∙ there.2 in
      own_of (slice_get (set s.nodes i new) j) new slot
      (subst (λ n. slice_get (set s.nodes i new) n ≡ Some new) (sym equal.1)
      (set_there s.nodes i new there.0 here)) is_own)
      (λ other. own_of (slice_get (set s.nodes i new) j) there.0 slot
      (set_apart s.nodes i j new there.0 there.1 other.1) there.2)
      (eqb_tells j i)
  left_by es st e s (Some i) None (Some j) (Some part) same whole legal h =
      let there = item_there (slice_get s.nodes j) part slot h in
      let new : NodeState = record { own = e.slot; items = unwrap_or e.items (node_state s i).items } in
      let made = made_of plan v es i st e legal in
      ⊎_elim
      (λ equal.
      let here = subst (λ n. slice_get s.nodes n ≡ Some there.0) equal.1 there.1 in
      let kept : e.items ≡ None = ⊎_elim (λ none. none)
      (λ queued. absurd (no_items_there i j part equal.1 same whole queued)) made.items in
      let items : new.items ≡ there.0.items =
      ap (λ (o : Option (List SlotState)). unwrap_or o (node_state s i).items) kept
      ∙ ap (λ (x : NodeState). x.items) (node_is s i there.0 here) in
      item_of (slice_get (set s.nodes i new) j) new part slot
      (subst (λ n. slice_get (set s.nodes i new) n ≡ Some new) (sym equal.1) (set_there s.nodes i new there.0 here))
      (ap (λ xs. slice_get xs part) items ∙ there.2))
      (λ other. item_of (slice_get (set s.nodes i new) j) there.0 part slot
      (set_apart s.nodes i j new there.0 there.1 other.1) there.2)
      (eqb_tells j i)
    where
      no_items_there : (i j part : ℕ) → j ≡ i → Some j ≡ node → Some part ≡ item → is_queued (phase_of v.state i)
          ≡ true → ⊥
      no_items_there i j part equal same whole queued =
          let mine = subst (λ n. At_slot v.state n (Some part)) (sym same)
          (subst (At_slot v.state node) (sym whole) at) in
          let old = item_there (slice_get v.state.nodes j) part slot mine in
          let here = subst (λ n. slice_get v.state.nodes n ≡ Some old.0) equal old.1 in
          let is_early_there = queued-early old.0.own.phase
          (subst (λ (x : NodeState). is_queued x.own.phase ≡ true) (node_is v.state i old.0 here) queued) in
          none-some slot (sym (ap (λ xs. slice_get xs part) (early i old.0 here is_early_there)) ∙ old.2)
  left_by es st e s (Some i) (Some k) (Some j) (Some part) same whole legal h =
      let there = item_there (slice_get s.nodes j) part slot h in
      let new : NodeState = record (node_state s i) { items = set (node_state s i).items k e.slot } in
      ⊎_elim
      (λ equal.
      let here = subst (λ n. slice_get s.nodes n ≡ Some there.0) equal.1 there.1 in
      let old : slice_get (node_state s i).items part ≡ Some slot =
      ap (λ (x : NodeState). slice_get x.items part) (node_is s i there.0 here) ∙ there.2 in
      let items : slice_get new.items part ≡ Some slot = ⊎_elim
      (λ one. absurd (spared es (record { at = record { node = Some i; item = Some k }; step = st }) e legal
      (subst (λ n. At_slot v.state n (Some k)) (sym same ∙ ap Some equal.1)
      (subst (At_slot v.state node) (sym whole ∙ ap Some one.1) at))))
      (λ two. set_apart (node_state s i).items k part e.slot slot old two.1)
      (eqb_tells part k) in
      item_of (slice_get (set s.nodes i new) j) new part slot
      (subst (λ n. slice_get (set s.nodes i new) n ≡ Some new) (sym equal.1)
      (set_there s.nodes i new there.0 here)) items)
      (λ other. item_of (slice_get (set s.nodes i new) j) there.0 part slot
      (set_apart s.nodes i j new there.0 there.1 other.1) there.2)
      (eqb_tells j i)

  left_by_move : (m : CitedMove) (s : ExecState) → At_slot s node item → At_slot (with_move plan v s m) node item
  left_by_move m s h = by (effect_of plan v m.entries m.move) refl
    where
      by : (o : Option Effect) → effect_of plan v m.entries m.move ≡ o → At_slot (with_move plan v s m) node item
      by None e = rw e h
      by (Some x) e = rw e (left_by m.entries m.move.step x s m.move.at.node m.move.at.item node item refl refl e h)

  left_by_moves : (ms : List CitedMove) (s : ExecState) → At_slot s node item
      → At_slot (fold (with_move plan v) s ms) node item
  left_by_moves [] s h = h
  left_by_moves (m ∷ ms) s h = left_by_moves ms (with_move plan v s m) (left_by_move m s h)

  final-after : (ms : List CitedMove) → At_slot (state_after plan v ms) node item
  final-after ms = left_by_moves ms v.state at

-- ---- worlds

-- the execution that a name finds stands at its number
found_at : (p : ℕ × Execution → Bool) (k : ℕ) (xs : List Execution) (at : ℕ × Execution)
    → find p (enumerate_from k xs) ≡ Some at
    → (i : ℕ) × (at.0 ≡ k + i) × (slice_get xs i ≡ Some at.1)
found_at p k [] at h = absurd (none-some at h)
found_at p k (x ∷ xs) at h = by (p (k, x)) h (found_at p (k + 1) xs at)
  where
    by : (b : Bool) → cond b (Some (k, x)) (find p (enumerate_from (k + 1) xs)) ≡ Some at
        → (find p (enumerate_from (k + 1) xs) ≡ Some at → (i : ℕ) × (at.0 ≡ (k + 1) + i)
        × (slice_get xs i ≡ Some at.1))
        → (i : ℕ) × (at.0 ≡ k + i) × (slice_get (x ∷ xs) i ≡ Some at.1)
    by true h later =
        let same = same_Some (k, x) at h in
        (0, sym (ap (λ (a : ℕ × Execution). a.0) same) ∙ omega arith, ap Some (ap (λ (a : ℕ × Execution). a.1) same))
    by false h later =
        let rest = later h in
        (suc rest.0, rest.1 ∙ omega arith, rest.2)

pub named_there : (w : World) (exec : Text) (at : ℕ × Execution) → execution_named w exec ≡ Some at
    → slice_get w.executions at.0 ≡ Some at.1
named_there w exec at h =
    let found = found_at (λ (x : ℕ × Execution). bytes_eq exec x.1.name) 0 w.executions at h in
    subst (λ n. slice_get w.executions n ≡ Some at.1) (sym (found.1 ∙ omega arith)) found.2

-- the state of the current version
pub state_current : (x : Execution) → state_at x (current_of x) ≡ x.state
state_current x = ap (λ (o : Option Past). option_map_or (λ (p : Past). p.state) o x.state)
    (slice_get_past x.past (length x.past) (omega arith))

first_items : (plan : RunPlan) (inputs : LiteralMap) → NoEarlyItems (first_state plan inputs)
first_items plan inputs i n there is =
    let found = given (λ (p : PlanNode). fresh_node) (slice_get plan.nodes i) n
    (sym (slice_get-map (λ (p : PlanNode). fresh_node) plan.nodes i) ∙ there) in
    ap (λ (x : NodeState). x.items) (sym (same_Some fresh_node n
    (sym (ap (option_map (λ (p : PlanNode). fresh_node)) found.1)
    ∙ sym (slice_get-map (λ (p : PlanNode). fresh_node) plan.nodes i) ∙ there)))

abbrev NoEarly : World → Type 0
NoEarly w = (number : ℕ) (x : Execution) → slice_get w.executions number ≡ Some x → NoEarlyItems x.state

-- the view of the current version has its state
early_view : (w : World) (at : ℕ × Execution) → NoEarlyItems at.1.state → NoEarlyItems (current_view w at).state
early_view w at h = subst NoEarlyItems (sym (state_current at.1)) h

module _ (plan : RunPlan) (w : World) (h : NoEarly w) where
  early_version : (at : ℕ × Execution) (state : ExecState) → Permits plan w (adds_version at state)
      → NoEarlyItems state
  early_version at state permits =
      let there = named_there w permits.exec at permits.named in
      subst NoEarlyItems (sym permits.state_is)
      (no_early-after plan (current_view w at) (early_view w at (h at.0 at.1 there))
      (map (cited_move w) permits.moves))

  early_change : (c : Change) → Permits plan w c → NoEarly (with_change w c)
  early_change no_change permits = h
  early_change (moment_becomes moment) permits = h
  early_change (catalog_becomes catalog) permits = h
  early_change (lets_go ends) permits = h
  early_change (adds_execution name inputs state) permits = λ number x there.
      let new : Execution = record { name = name; inputs = inputs; past = []; state = state } in
      ⊎_elim (λ old. h number x old)
      (λ is. subst (λ (y : Execution). NoEarlyItems y.state) (sym is)
      (subst NoEarlyItems (sym permits.1) (first_items plan inputs)))
      (push_cases w.executions new number x there)
  early_change (adds_launch name inputs) permits = h
  early_change (adds_claim name) permits = h
  early_change (adds_outcome name o) permits = h
  early_change (adds_version at state) permits = λ number x there.
      ⊎_elim (λ here. subst (λ (y : Execution). NoEarlyItems y.state) (sym here.1) (early_version at state permits))
      (λ old. h number x old)
      (set_cases w.executions at.0 number (with_version state (length w.entries) at.1) x there)

module _ (number : ℕ) (node item : Option ℕ) (slot : SlotState) (final : is_final slot.phase ≡ true) where
  abbrev Stands : World → Type 0
  Stands w = (x : Execution) × (slice_get w.executions number ≡ Some x)
      × (slot_at x.state (record { node = node; item = item }) ≡ Some slot)

  stands_version : (plan : RunPlan) (w : World) (at : ℕ × Execution) (state : ExecState) → NoEarly w → Stands w
      → Permits plan w (adds_version at state) → Stands (with_change w (adds_version at state))
  stands_version plan w at state early h permits = ⊎_elim
      (λ equal.
      let there = named_there w permits.exec at permits.named in
      let same : h.0 ≡ at.1 = same_Some h.0 at.1 (sym h.1 ∙ ap (slice_get w.executions) equal.1 ∙ there) in
      let view = current_view w at in
      let here : At = record { node = node; item = item } in
      let old : slot_at view.state here ≡ Some slot =
      ap (λ (s : ExecState). slot_at s here) (state_current at.1 ∙ sym (ap (λ (x : Execution). x.state) same))
      ∙ h.2 in
      let new = with_version state (length w.entries) at.1 in (
        new,
        subst (λ n. slice_get (set w.executions at.0 new) n ≡ Some new) (sym equal.1)
            (set_there w.executions at.0 new at.1 there),
        ap (λ (s : ExecState). slot_at s here) permits.state_is
            ∙ final-after plan view (early_view w at (early at.0 at.1 there)) node item slot old final
            (map (cited_move w) permits.moves),
      ))
      (λ other. (
        h.0,
        set_apart w.executions at.0 number
            (with_version state (length w.entries) at.1) h.0 h.1 other.1,
        h.2,
      ))
      (eqb_tells number at.0)

  stands_change : (plan : RunPlan) (w : World) (c : Change) → NoEarly w → Stands w → Permits plan w c
      → Stands (with_change w c)
  stands_change plan w no_change early h permits = h
  stands_change plan w (moment_becomes moment) early h permits = h
  stands_change plan w (catalog_becomes catalog) early h permits = h
  stands_change plan w (lets_go ends) early h permits = h
  stands_change plan w (adds_execution name inputs state) early h permits =
      (h.0, get_front w.executions _ number h.0 h.1, h.2)
  stands_change plan w (adds_launch name inputs) early h permits = h
  stands_change plan w (adds_claim name) early h permits = h
  stands_change plan w (adds_outcome name o) early h permits = h
  stands_change plan w (adds_version at state) early h permits = stands_version plan w at state early h permits

  abbrev Lasts : World → Type 0
  Lasts w = NoEarly w × Stands w

  lasts_along : (plan : RunPlan) (w new : World) (entries : List Entry) → Leads plan w entries new → Lasts w
      → Lasts new
  lasts_along plan w new entries leads h =
      along_changes plan Lasts (λ v e there. there)
      (λ v c there permits.
      (early_change plan v there.0 c permits, stands_change plan v c there.0 there.1 permits)) w new entries h leads

  pub final-stays : (plan : RunPlan) (closure : List ℕ) (journal entries : List Entry) (w new : World)
      → IsHistory plan closure journal w
      → Leads plan w entries new → Stands w → Stands new
  final-stays plan closure journal entries w new history leads h =
      let early = along_changes plan NoEarly (λ v e there. there)
      (λ v c there permits. early_change plan v there c permits) empty_world w journal
      (λ n x there. absurd (none-some x there)) history.leads in
      (lasts_along plan w new entries leads (early, h)).1
