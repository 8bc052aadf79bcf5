-- The shape of a run of a plan of task nodes: in each version the root runs or is final, no node has items, and no
-- attempt is at or over its node's limit.
use Rattle.std.proofs.Common.{◌≡◌, ◌⊎◌, inl, inr, ℕ, ◌<◌, Bool, cond, true, false, not, ◌&&◌, ◌||◌, ◌==◌, List, [], ◌∷◌, ◌++◌, map, fold, length, All, Contains, Option, Some, None, Ok, Err, option_map, option_and_then, option_to_list, unwrap_or, codes, refl, sym, subst, ap, ◌∙◌, eqb}
use Rattle.std.specs.List.{slice_get, list_any}
use Rattle.std.proofs.lemmas.Bool.{and_parts, eqb-true, false≢true, not-false}
use Rattle.std.proofs.lemmas.List.{map-append}
use Rattle.std.proofs.lemmas.List.Elements.{All-nil, All-push, All-set, All-contains, Contains-push}
use Rattle.std.proofs.lemmas.Option.{none-some, same_Some, slice_get-map}
use Rattle.fly_types.specs.declared.literals.LiteralMap.{LiteralMap}
use Rattle.fly_cast.proofs.Options.{map-some}
use Rattle.fly_docs.specs.declared.attempt_name.AttemptName.{AttemptName}
use Rattle.fly_docs.specs.declared.workflow.Workflow.{Workflow}
use Rattle.fly_docs.specs.Plans.{PlanNode}
use Rattle.fly_docs.specs.SlotInputs as docs
use Rattle.fly_docs.specs.SlotInputs.{Taken, workflow_outputs}
use Rattle.fly_state.specs.declared.slots.SlotState.{SlotState}
use Rattle.fly_state.specs.declared.slots.NodeState.{NodeState}
use Rattle.fly_state.specs.declared.slots.ExecState.{ExecState}
use Rattle.fly_state.specs.declared.moves.Step.{Step}
use Rattle.fly_state.specs.declared.moves.Step.TheVariants as step
use Rattle.fly_state.specs.declared.entries.Entry.{Entry}
use Rattle.fly_state.specs.declared.entries.Op.{Op}
use Rattle.fly_state.specs.declared.entries.Op.TheVariants as op
use Rattle.fly_state.specs.declared.entries.Reply.{Reply}
use Rattle.fly_state.specs.declared.entries.Reply.TheVariants as reply
use Rattle.fly_state.specs.declared.view.View.{View}
use Rattle.fly_state.specs.Laws.{slot_at}
use Rattle.fly_state.specs.declared.effects.Effect.{Effect}
use Rattle.fly_state.specs.Moves.{of_slot, where_true, attempt_limit, is_succeeding, failed_slot, succeeded_slot, has_failure, misses_output, slot_with_outputs, closed_instance_slot, node_effect, item_effect, root_effect, may_step, effect_of, state_with}
use Rattle.fly_state.specs.PlanTables.{IsOuterPlan, outer_node}
use Rattle.fly_state.specs.Plans.{RunPlan, node_numbered, instance_of, workflow_in}
use Rattle.fly_state.specs.Rounds.{CitedMove, with_move, state_after}
use Rattle.fly_state.specs.Standing.{is_settled}
use Rattle.fly_state.specs.States.{fresh_node, first_state, node_state, own_state, phase_of, is_final, is_running, instance_state, known_in}
use Rattle.fly_state.proofs.FinalLemmas.{where_true-test, where_true-there, option_and_then-there}
use Rattle.fly_state.proofs.OuterPlans.{numbered-outer}
use Rattle.fly_world.specs.declared.versions.Past.{Past}
use Rattle.fly_world.specs.World.{World, Execution, Launch, empty_world, execution_named, current_view, is_launched}
use Rattle.fly_world.specs.Changes.{Change, no_change, moment_becomes, catalog_becomes, lets_go, adds_execution, adds_launch, adds_claim, adds_outcome, adds_version, with_change, with_version}
use Rattle.fly_world.specs.Journals.{IsStepBy, Step as StepOf, IsHistory}
use Rattle.fly_world.specs.ReadOff.{versions_of, launches_by}
use Rattle.fly_world.specs.Spots.{Spot, spot_of, attempt_spot, runs, has_inputs, are_ids}
use Rattle.fly_world.specs.Steps.{Answer, says, does, step as step_of, first_fitting, if_known, launched, on_launch, cited_move}
use Rattle.fly_world.specs.Versions.{IsNodeOfAttempt}
use Rattle.fly_world.proofs.AnswerLemmas.{tested, on_option, allowed}
use Rattle.fly_world.proofs.EffectLemmas.{in_some, in_where, in_then, in_either}
use Rattle.fly_world.proofs.FinalSlots.{named_there, state_current}
use Rattle.fly_world.proofs.JournalLemmas.{step_cases, along}
use Rattle.fly_world.proofs.StepLemmas.{Permits, launch_in, spot_at, where_named-is}
use Rattle.fly_world.proofs.TypeLemmas.{contained}
use Rattle.fly_work.specs.Drives.{IsUncached}
use Rattle.fly_work.proofs.SlotSteps.{IsTimely, IsRaised, step-raises}
use Rattle.fly_work.proofs.Sums.{set-at}

-- A version of a run.
pub record IsRunState (plan : RunPlan) (s : ExecState) : Type 0 where
  pub root : (is_running s.root.phase ≡ true) ⊎ (is_final s.root.phase ≡ true)
  pub timely : (i : ℕ) (p : PlanNode) → node_numbered plan i ≡ Some p → IsTimely (attempt_limit plan p) (own_state s i)
  pub whole : IsUncached plan → (i : ℕ) → is_succeeding (phase_of s i) ≡ false
  pub items : (i : ℕ) → (node_state s i).items ≡ []

-- each version is one of a run, and what was launched is below the limit of its node
pub record HasRunShape (plan : RunPlan) (w : World) : Type 0 where
  pub versions : (x : Execution) (s : ExecState) → Contains w.executions x → Contains (versions_of x) s
      → IsRunState plan s
  pub launches : (l : Launch) (p : PlanNode) → Contains w.launches l → IsNodeOfAttempt plan l.name p
      → l.name.attempt < attempt_limit plan p

-- the current version of an execution
pub current-run : (plan : RunPlan) (w : World) → HasRunShape plan w → (i : ℕ) (x : Execution)
    → slice_get w.executions i ≡ Some x → IsRunState plan x.state
current-run plan w shape i x there =
    shape.versions x x.state (contained w.executions i x there)
    (Contains-push (map (λ (q : Past). q.state) x.past) x.state)

-- ---- the end of the root

abbrev Ends : SlotState → Type 0
Ends slot = is_final slot.phase ≡ true

outputs-end : (slot : SlotState) (t : Taken LiteralMap) (x : SlotState) → slot_with_outputs slot t ≡ Some x → Ends x
outputs-end slot (Ok outputs) x h = in_some Ends (succeeded_slot slot outputs) refl x h
outputs-end slot (Err (docs.enum_outside text)) x h = in_some Ends (failed_slot slot (codes "EnumOutside")) refl x h
outputs-end slot (Err (docs.unequal_lengths first second)) x h = absurd (none-some x h)
outputs-end slot (Err (docs.too_many_items count)) x h = absurd (none-some x h)
outputs-end slot (Err docs.unknown) x h = absurd (none-some x h)

module _ (plan : RunPlan) (s : ExecState) where
  closing-end : (w : Workflow) (x : SlotState)
      → cond (has_failure plan s []) (Some (failed_slot (instance_state plan s []) (codes "NodeFailed")))
      (cond (misses_output plan s [] w) (Some (failed_slot (instance_state plan s []) (codes "OutputMissing")))
      (slot_with_outputs (instance_state plan s []) (workflow_outputs plan.documents w (known_in plan s [])))) ≡ Some x
      → Ends x
  closing-end w x h =
      let slot = instance_state plan s [] in
      let failed : SlotState = failed_slot slot (codes "NodeFailed") in
      let missing : SlotState = failed_slot slot (codes "OutputMissing") in
      let outputs = workflow_outputs plan.documents w (known_in plan s []) in
      in_either Ends (has_failure plan s []) (Some failed)
      (cond (misses_output plan s [] w) (Some missing) (slot_with_outputs slot outputs))
      (in_some Ends failed refl)
      (in_either Ends (misses_output plan s [] w) (Some missing) (slot_with_outputs slot outputs)
      (in_some Ends missing refl)
      (outputs-end slot outputs)) x h

  root-ends : (x : SlotState) → closed_instance_slot plan s [] ≡ Some x → Ends x
  root-ends x h = in_where Ends (is_settled plan s []) _ (in_then Ends _ closing-end (workflow_in plan [])) x h

-- ---- moves

-- What a legal move makes: of the root that runs, one that is final; of a node a slot that is further on. Nothing
-- else is moved.
abbrev pub IsMade : RunPlan → View → Option ℕ → Option ℕ → Effect → Type 0
IsMade plan v None None e = (is_running v.state.root.phase ≡ true) × (is_final e.slot.phase ≡ true)
IsMade plan v (Some i) None e =
    (p : PlanNode) × (node_numbered plan i ≡ Some p)
    × IsRaised plan (attempt_limit plan p) (own_state v.state i) e.slot × (e.items ≡ None)
IsMade plan v None (Some k) e = ⊥
IsMade plan v (Some i) (Some k) e = ⊥

module _ (plan : RunPlan) (f : Workflow) (outer : IsOuterPlan plan f) (v : View)
    (start : IsRunState plan v.state) where
  made-root : (st : Step) (e : Effect) → root_effect plan v.state st ≡ Some e → IsMade plan v None None e
  made-root step.Close e h =
      let closed = option_map of_slot (closed_instance_slot plan v.state []) in
      let slot = map-some of_slot (closed_instance_slot plan v.state []) e
      (where_true-there (is_running v.state.root.phase) closed e h) in (
        where_true-test (is_running v.state.root.phase) closed e h,
        subst (λ (x : Effect). Ends x.slot) (sym slot.2) (root-ends plan v.state slot.0 slot.1),
      )
  made-root _ e h = absurd (none-some e h)

  made-node : (es : List Entry) (st : Step) (e : Effect) (i : ℕ)
      → option_and_then (λ p. where_true (may_step plan v.state (instance_of p) st) (node_effect plan v es i p st))
      (node_numbered plan i) ≡ Some e → IsMade plan v (Some i) None e
  made-node es st e i h =
      let found = option_and_then-there
      (λ p. where_true (may_step plan v.state (instance_of p) st) (node_effect plan v es i p st))
      (node_numbered plan i) e h in
      let node = map-some (λ m. outer_node f (i, m)) (slice_get f.nodes i) found.0
      (sym (numbered-outer plan f outer i) ∙ found.1) in
      let effect = where_true-there (may_step plan v.state (instance_of found.0) st)
      (node_effect plan v es i found.0 st) e found.2 in
      let raised = step-raises plan f outer v i node.0 node.1 es st e
      (subst (λ q. node_effect plan v es i q st ≡ Some e) node.2 effect) in (
        found.0,
        found.1,
        subst (λ q. IsRaised plan (attempt_limit plan q) (own_state v.state i) e.slot) (sym node.2) raised.0,
        raised.1,
      )

  no-item : (st : Step) (e : Effect) (i k : ℕ)
      → option_and_then (λ p. where_true (may_step plan v.state (instance_of p) st)
      (option_and_then (λ slot. item_effect plan v p k slot st) (slice_get (node_state v.state i).items k)))
      (node_numbered plan i) ≡ Some e → ⊥
  no-item st e i k h =
      let items = (node_state v.state i).items in
      let found = option_and_then-there (λ p. where_true (may_step plan v.state (instance_of p) st)
      (option_and_then (λ slot. item_effect plan v p k slot st) (slice_get items k))) (node_numbered plan i) e h in
      let effect = where_true-there (may_step plan v.state (instance_of found.0) st)
      (option_and_then (λ slot. item_effect plan v found.0 k slot st) (slice_get items k)) e found.2 in
      let slot = option_and_then-there (λ slot. item_effect plan v found.0 k slot st) (slice_get items k) e effect in
      none-some slot.0 (sym (ap (λ xs. slice_get xs k) (start.items i)) ∙ slot.1)

  pub made-by : (es : List Entry) (st : Step) (e : Effect) (to item : Option ℕ)
      → effect_of plan v es (record { at = record { node = to; item = item }; step = st }) ≡ Some e
      → IsMade plan v to item e
  made-by es st e None None h = made-root st e h
  made-by es st e None (Some k) h = absurd (none-some e h)
  made-by es st e (Some i) None h = made-node es st e i h
  made-by es st e (Some i) (Some k) h = absurd (no-item st e i k h)

  -- ---- states

  moved : (e : Effect) (s : ExecState) (to item : Option ℕ) → IsMade plan v to item e → IsRunState plan s
      → IsRunState plan (state_with s (record { node = to; item = item }) e)
  moved e s None None made h = record { root = inr made.1; timely = h.timely; whole = h.whole; items = h.items }
  moved e s None (Some k) made h = absurd made
  moved e s (Some i) (Some k) made h = absurd made
  moved e s (Some i) None made h =
      let old = (node_state s i).items in
      let new : NodeState = record { own = e.slot; items = unwrap_or e.items old } in
      record {
        root = h.root;
        timely = λ j p planned.
            set-at (λ (m : NodeState). IsTimely (attempt_limit plan p) m.own) s.nodes i j new fresh_node
            (h.timely j p planned)
            (λ same.
            let is : made.0 ≡ p = same_Some made.0 p (sym made.1 ∙ sym (ap (node_numbered plan) same) ∙ planned) in
            subst (λ q. IsTimely (attempt_limit plan q) e.slot) is (made.2.timely (start.timely i made.0 made.1)));
        whole = λ uncached j.
            set-at (λ (m : NodeState). is_succeeding m.own.phase ≡ false) s.nodes i j new fresh_node
            (h.whole uncached j) (λ same. made.2.whole uncached);
        items = λ j.
            set-at (λ (m : NodeState). m.items ≡ []) s.nodes i j new fresh_node (h.items j)
            (λ same. ap (λ o. unwrap_or o old) made.3 ∙ h.items i);
      }

  moved-by : (m : CitedMove) (s : ExecState) → IsRunState plan s → IsRunState plan (with_move plan v s m)
  moved-by m s h = by (effect_of plan v m.entries m.move) refl
    where
      by : (o : Option Effect) → effect_of plan v m.entries m.move ≡ o → IsRunState plan (with_move plan v s m)
      by None e = rw e h
      by (Some x) e =
          rw e (moved x s m.move.at.node m.move.at.item
          (made-by m.entries m.move.step x m.move.at.node m.move.at.item e) h)

  moved-all : (ms : List CitedMove) (s : ExecState) → IsRunState plan s
      → IsRunState plan (fold (with_move plan v) s ms)
  moved-all [] s h = h
  moved-all (m ∷ ms) s h = moved-all ms (with_move plan v s m) (moved-by m s h)

  round-runs : (ms : List CitedMove) → IsRunState plan (state_after plan v ms)
  round-runs ms = moved-all ms v.state start

-- ---- version 0

first-runs : (plan : RunPlan) (inputs : LiteralMap) → IsRunState plan (first_state plan inputs)
first-runs plan inputs = record {
  root = inl refl;
  timely = λ i p planned.
      subst (λ (n : NodeState). IsTimely (attempt_limit plan p) n.own) (sym (fresh i))
      (record { running = λ e. absurd (false≢true e); retryable = λ e. absurd (false≢true e) });
  whole = λ uncached i. ap (λ (n : NodeState). is_succeeding n.own.phase) (fresh i);
  items = λ i. ap (λ (n : NodeState). n.items) (fresh i);
}
  where
    by : (o : Option PlanNode) → unwrap_or (option_map (λ (p : PlanNode). fresh_node) o) fresh_node ≡ fresh_node
    by None = refl
    by (Some p) = refl

    fresh : (i : ℕ) → node_state (first_state plan inputs) i ≡ fresh_node
    fresh i =
        ap (λ o. unwrap_or o fresh_node) (slice_get-map (λ (p : PlanNode). fresh_node) plan.nodes i)
        ∙ by (slice_get plan.nodes i)

-- ---- launches

-- the node of an attempt runs at it in the current version
abbrev RunsAt : RunPlan → World → AttemptName → Type 0
RunsAt plan w name = (spot : Spot) × (attempt_spot plan w name ≡ Some spot) × (runs spot name ≡ true)

abbrev is_launched_reply : Reply → Bool
is_launched_reply reply.Launched = true
is_launched_reply _ = false

launched-op : (o : Op) (r : Reply) (name : AttemptName) → launches_by o r ≡ name ∷ []
    → (inputs : LiteralMap) × (o ≡ op.Launch name inputs) × (r ≡ reply.Launched)
launched-op (op.Launch other inputs) reply.Launched name e =
    let same : other ≡ name = cc in (inputs, ap (λ n. op.Launch n inputs) same, refl)
launched-op _ _ name e = let none : ⊥ = cc in absurd none

module _ (plan : RunPlan) (w : World) (name : AttemptName) (inputs : LiteralMap) where
  abbrev Runs : Answer → Type 0
  Runs a = is_launched_reply a.reply ≡ true → RunsAt plan w name

  launched-runs : (a : Answer) → on_launch plan w name inputs ≡ Some a → Runs a
  launched-runs a h =
      allowed Runs (are_ids name.exec name.path)
      (if_known (launched plan w name inputs) (attempt_spot plan w name)) a h
      (on_option Runs (launched plan w name inputs) (attempt_spot plan w name) (says reply.Unknown)
      (λ spot there.
      let done : Answer = does reply.Launched (adds_launch name inputs) in
      let idle = not (runs spot name) in
      let other = not (has_inputs plan spot name inputs) in
      tested Runs (is_launched w name) (says reply.Already)
      (first_fitting ((idle, says reply.NotRunning) ∷ (other, says reply.BadInputs) ∷ []) done)
      (λ e same. absurd (false≢true same))
      (λ free. tested Runs idle (says reply.NotRunning) (first_fitting ((other, says reply.BadInputs) ∷ []) done)
      (λ e same. absurd (false≢true same))
      (λ going. tested Runs other (says reply.BadInputs) done
      (λ e same. absurd (false≢true same))
      (λ e same. (spot, there, not-false (runs spot name) going)))))
      (λ same. absurd (false≢true same)))

  step-runs : (worker : ℕ) (a : Answer) → step_of plan w worker (op.Launch name inputs) ≡ Some a → Runs a
  unfolding step_of
  step-runs worker a h = launched-runs a h

  runs-by : (e : Entry) (new : World) (o : Option Answer) → step_of plan w e.worker (op.Launch name inputs) ≡ o
      → e.reply ≡ reply.Launched → IsStepBy w e new o → RunsAt plan w name
  runs-by e new None h replied s = absurd s
  runs-by e new (Some a) h replied (inl answered) =
      step-runs e.worker a h (ap is_launched_reply (sym answered.reply ∙ replied))
  runs-by e new (Some a) h replied (inr refused) =
      absurd (false≢true (ap is_launched_reply (sym refused.reply ∙ replied)))

-- the slot that runs at the attempt
slot-runs : (s : ExecState) (i : ℕ) (item : Option ℕ) (attempt : ℕ) → (node_state s i).items ≡ []
    → list_any (λ (slot : SlotState). is_running slot.phase && slot.attempt == attempt)
    (option_to_list (slot_at s (record { node = Some i; item = item }))) ≡ true
    → (is_running (phase_of s i) ≡ true) × ((own_state s i).attempt ≡ attempt)
slot-runs s i item attempt none = by (slice_get s.nodes i) item refl none
  where
    one : (b : Bool) → b || false ≡ true → b ≡ true
    one true e = refl
    one false e = e

    any_of : Option SlotState → Bool
    any_of o = list_any (λ (slot : SlotState). is_running slot.phase && eqb slot.attempt attempt) (option_to_list o)

    by : (o : Option NodeState) (part : Option ℕ) → slice_get s.nodes i ≡ o → (unwrap_or o fresh_node).items ≡ []
        → any_of (slot_at s (record { node = Some i; item = part })) ≡ true
        → (is_running (phase_of s i) ≡ true) × ((own_state s i).attempt ≡ attempt)
    by None None there empty e =
        absurd (false≢true (sym (ap (λ o. any_of (option_map (λ (n : NodeState). n.own) o)) there) ∙ e))
    by None (Some k) there empty e =
        absurd (false≢true (sym (ap (λ o. any_of (option_and_then (λ (n : NodeState). slice_get n.items k) o)) there)
        ∙ e))
    by (Some n) None there empty e =
        let both = and_parts (is_running n.own.phase) (eqb n.own.attempt attempt)
        (one _ (sym (ap (λ o. any_of (option_map (λ (m : NodeState). m.own) o)) there) ∙ e)) in
        let is : own_state s i ≡ n.own = ap (λ o. (unwrap_or o fresh_node).own) there in (
          ap (λ (x : SlotState). is_running x.phase) is ∙ both.0,
          ap (λ (x : SlotState). x.attempt) is ∙ eqb-true n.own.attempt attempt both.1,
        )
    by (Some n) (Some k) there empty e =
        absurd (false≢true (sym (ap (λ o. any_of (option_and_then (λ (m : NodeState). slice_get m.items k) o)) there
        ∙ ap (λ xs. any_of (slice_get xs k)) empty) ∙ e))

-- ---- worlds

module _ (plan : RunPlan) (f : Workflow) (outer : IsOuterPlan plan f) where
  abbrev AllRun : Execution → Type 0
  AllRun x = All (IsRunState plan) (versions_of x)

  abbrev IsSmallLaunch : Launch → Type 0
  IsSmallLaunch l = (p : PlanNode) → IsNodeOfAttempt plan l.name p → l.name.attempt < attempt_limit plan p

  abbrev RunWorld : World → Type 0
  RunWorld w = All AllRun w.executions × All IsSmallLaunch w.launches

  current-runs : (x : Execution) → AllRun x → IsRunState plan x.state
  current-runs x all =
      All-contains (IsRunState plan) (versions_of x) x.state all
      (Contains-push (map (λ (q : Past). q.state) x.past) x.state)

  module _ (w : World) (h : RunWorld w) where
    all-run : (i : ℕ) (x : Execution) → slice_get w.executions i ≡ Some x → AllRun x
    all-run i x there = All-contains AllRun w.executions x h.0 (contained w.executions i x there)

    version-runs : (at : ℕ × Execution) (state : ExecState) → Permits plan w (adds_version at state)
        → AllRun (with_version state (length w.entries) at.1)
    version-runs at state permits =
        let old = all-run at.0 at.1 (named_there w permits.exec at permits.named) in
        let view = current_view w at in
        let start = subst (IsRunState plan) (sym (state_current at.1)) (current-runs at.1 old) in
        let new = subst (IsRunState plan) (sym permits.state_is)
        (round-runs plan f outer view start (map (cited_move w) permits.moves)) in
        subst (All (IsRunState plan))
        (ap (λ vs. vs ++ state ∷ []) (sym
        (map-append (λ (q : Past). q.state) at.1.past (record { state = at.1.state; until = length w.entries } ∷ []))))
        (All-push (IsRunState plan) (versions_of at.1) state old new)

    executions-run : (c : Change) → Permits plan w c → All AllRun (with_change w c).executions
    executions-run no_change permits = h.0
    executions-run (moment_becomes moment) permits = h.0
    executions-run (catalog_becomes catalog) permits = h.0
    executions-run (lets_go ends) permits = h.0
    executions-run (adds_execution name inputs state) permits =
        All-push AllRun w.executions (record { name = name; inputs = inputs; past = []; state = state }) h.0
        (All-push (IsRunState plan) [] state (All-nil (IsRunState plan))
        (subst (IsRunState plan) (sym permits.1) (first-runs plan inputs)))
    executions-run (adds_launch name inputs) permits = h.0
    executions-run (adds_claim name) permits = h.0
    executions-run (adds_outcome name o) permits = h.0
    executions-run (adds_version at state) permits =
        All-set AllRun w.executions at.0 (with_version state (length w.entries) at.1) (version-runs at state permits)
        h.0

    launch-small : (name : AttemptName) → RunsAt plan w name → (p : PlanNode) → IsNodeOfAttempt plan name p
        → name.attempt < attempt_limit plan p
    launch-small name at p node =
        let spot = at.0 in
        let place = where_named-is name (spot_of plan w name.exec name.path) spot at.1 in
        let found = spot_at plan name.path (execution_named w name.exec) spot place in
        let number : node.0 ≡ spot.number = same_Some node.0 spot.number (sym node.1 ∙ found.1) in
        let planned : node_numbered plan spot.number ≡ Some p = sym (ap (node_numbered plan) number) ∙ node.2 in
        let x = spot.execution.1 in
        let state = current-runs x (all-run spot.execution.0 x (named_there w name.exec spot.execution found.0)) in
        let run = slot-runs x.state spot.number name.item name.attempt (state.items spot.number) at.2 in
        subst (λ k. k < attempt_limit plan p) run.1 ((state.timely spot.number p planned).running run.0)

    launches-small : (c : Change) → ((name : AttemptName) (inputs : LiteralMap) → c ≡ adds_launch name inputs
        → RunsAt plan w name) → All IsSmallLaunch (with_change w c).launches
    launches-small no_change at = h.1
    launches-small (moment_becomes moment) at = h.1
    launches-small (catalog_becomes catalog) at = h.1
    launches-small (lets_go ends) at = h.1
    launches-small (adds_execution name inputs state) at = h.1
    launches-small (adds_launch name inputs) at =
        All-push IsSmallLaunch w.launches (record { name = name; inputs = inputs; place = length w.entries }) h.1
        (launch-small name (at name inputs refl))
    launches-small (adds_claim name) at = h.1
    launches-small (adds_outcome name o) at = h.1
    launches-small (adds_version at state) runs = h.1

    step-kept : (e : Entry) (new : World) → StepOf plan w e new → RunWorld new
    step-kept e new s =
        step_cases plan RunWorld w new e s (λ c permits tells. (
          executions-run c permits,
          launches-small c (λ name inputs is.
              let told : launches_by e.op e.reply ≡ name ∷ [] = tells.0 ∙ ap launch_in is in
              let by = launched-op e.op e.reply name told in
              runs-by plan w name by.0 e new (step_of plan w e.worker (op.Launch name by.0)) refl by.2
              (subst (λ o. IsStepBy w e new (step_of plan w e.worker o)) by.1 s)),
        ))

  -- the world of a legal journal has the shape of a run
  pub run-shapes : (closure : List ℕ) (journal : List Entry) (w : World) → IsHistory plan closure journal w
      → HasRunShape plan w
  run-shapes closure journal w history =
      let kept = along plan RunWorld (λ v next e at s. step-kept v at e next s) empty_world w journal
      (All-nil AllRun, All-nil IsSmallLaunch) history.leads in
      record {
        versions = λ x s there is. All-contains (IsRunState plan) (versions_of x) s
            (All-contains AllRun w.executions x kept.0 there) is;
        launches = λ l p there node. All-contains IsSmallLaunch w.launches l kept.1 there p node;
      }
