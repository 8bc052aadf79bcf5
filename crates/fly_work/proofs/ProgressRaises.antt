-- An accepted Write and a claim make progress, and no other change takes any back.
use Rattle.std.proofs.Common.{◌≡◌, ◌⊎◌, inl, inr, ℕ, ◌<◌, ◌≤◌, Bool, true, false, ◌&&◌, ◌||◌, cond, eqb, List, [], ◌∷◌, ◌++◌, map, set, fold, find, length, bytes_eq, All, Contains, Option, Some, None, is_some, unwrap_or, refl, sym, subst, ap, ◌∙◌, arith, le_refl, get_or-set_same, length-set}
use Rattle.std.specs.List.{slice_get, list_any, enumerate_from, range_with_len}
use Rattle.std.proofs.lemmas.Bool.{false≢true, true≢false, or_left, or_right}
use Rattle.std.proofs.lemmas.List.Elements.{All-head, All-tail, All-contains, Contains-push}
use Rattle.std.proofs.lemmas.List.Folds.{list_any-append}
use Rattle.std.proofs.lemmas.List.Quantifiers.{position-Some}
use Rattle.std.proofs.lemmas.List.Sums.{sum_by_push}
use Rattle.std.proofs.lemmas.Option.{same_Some, slice_get_within, get_or_from_slice_get, unwrap_or-slice_get}
use Rattle.fly_cast.proofs.Options.{map-some}
use Rattle.fly_types.specs.declared.text.Text.{Text}
use Rattle.fly_docs.specs.declared.attempt_name.AttemptName.{AttemptName}
use Rattle.fly_docs.specs.declared.workflow.Workflow.{Workflow}
use Rattle.fly_docs.specs.Plans.{PlanNode}
use Rattle.fly_state.specs.declared.phase.Phase.{Phase}
use Rattle.fly_state.specs.declared.phase.Phase.TheVariants as phase
use Rattle.fly_state.specs.declared.slots.NodeState.{NodeState}
use Rattle.fly_state.specs.declared.slots.ExecState.{ExecState}
use Rattle.fly_state.specs.declared.moves.Move.{Move}
use Rattle.fly_state.specs.declared.entries.Entry.{Entry}
use Rattle.fly_state.specs.declared.entries.Op.TheVariants as op
use Rattle.fly_state.specs.declared.entries.Reply.TheVariants as reply
use Rattle.fly_state.specs.declared.view.View.{View}
use Rattle.fly_state.specs.declared.effects.Effect.{Effect}
use Rattle.fly_state.specs.Moves.{effect_of, is_legal, attempt_limit, same_item, state_with}
use Rattle.fly_state.specs.PlanTables.{IsOuterPlan, outer_node}
use Rattle.fly_state.specs.Plans.{RunPlan, Path, same_path, node_numbered}
use Rattle.fly_state.specs.Rounds.{CitedMove, IsRound, with_move, state_after}
use Rattle.fly_state.specs.States.{fresh_node, node_state, own_state, is_final, is_running}
use Rattle.fly_state.proofs.Lists.{of_map}
use Rattle.fly_state.proofs.OuterNodes.{not-array}
use Rattle.fly_state.proofs.OuterPlans.{numbered-outer}
use Rattle.fly_state.proofs.OuterSteps.{same-path}
use Rattle.fly_world.specs.declared.versions.Past.{Past}
use Rattle.fly_world.specs.World.{World, Execution, Launch, Claim, same_name, is_claimed, current_view}
use Rattle.fly_world.specs.Called.{entry_of}
use Rattle.fly_world.specs.Changes.{Change, no_change, moment_becomes, catalog_becomes, lets_go, adds_execution, adds_launch, adds_claim, adds_outcome, adds_version, with_change, with_version}
use Rattle.fly_world.specs.Journals.{Step, IsHistory}
use Rattle.fly_world.specs.Spots.{has_attempts}
use Rattle.fly_world.specs.Steps.{cited_move}
use Rattle.fly_world.specs.Versions.{IsNodeOfAttempt, IsNameOfPlan, execution_names}
use Rattle.fly_world.proofs.FinalSlots.{named_there, state_current}
use Rattle.fly_world.proofs.JournalLemmas.{step_cases}
use Rattle.fly_world.proofs.LaunchLemmas.{found_there, same_name-refl}
use Rattle.fly_world.proofs.NameLemmas.{history-named}
use Rattle.fly_world.proofs.ShapeLemmas.{history-shaped}
use Rattle.fly_world.proofs.StepLemmas.{Permits, claim_in}
use Rattle.fly_world.proofs.TypeLemmas.{contained}
use Rattle.fly_world.proofs.WriteLemmas.{write-round}
use Rattle.fly_work.specs.Progress.{is_claim_of, claimed_count, node_progress, root_progress, execution_progress, progress}
use Rattle.fly_work.proofs.RunShapes.{IsRunState, HasRunShape, IsMade, made-by, current-run, run-shapes}
use Rattle.fly_work.proofs.SlotSteps.{progress_of}
use Rattle.fly_work.proofs.Sums.{sums-le, sums-lt, set-lt, counts-le, counts-lt, in-range, numbered-at, at-number, set-at}

-- ---- roots

running-root : (f : Phase) → is_running f ≡ true → root_progress f ≡ 0
running-root phase.Running e = refl
running-root _ e = absurd (false≢true e)

final-root : (f : Phase) → is_final f ≡ true → root_progress f ≡ 1
final-root phase.NotYetStarted e = absurd (false≢true e)
final-root phase.Queued e = absurd (false≢true e)
final-root phase.Running e = absurd (false≢true e)
final-root phase.RetryableFailure e = absurd (false≢true e)
final-root phase.Succeeding e = absurd (false≢true e)
final-root _ e = refl

-- ---- states

module _ (plan : RunPlan) where
  -- each slot is as far on as in another state, or further
  record IsOn (from s : ExecState) : Type 0 where
    root : root_progress from.root.phase ≤ root_progress s.root.phase
    nodes : (i : ℕ) (p : PlanNode) → node_numbered plan i ≡ Some p
        → progress_of (attempt_limit plan p) (own_state from i) ≤ progress_of (attempt_limit plan p) (own_state s i)

  -- one slot is further on
  abbrev IsFurther : ExecState → ExecState → Type 0
  IsFurther from s =
      (root_progress from.root.phase < root_progress s.root.phase)
      ⊎ ((i : ℕ) × (p : PlanNode) × (node_numbered plan i ≡ Some p)
      × (progress_of (attempt_limit plan p) (own_state from i) < progress_of (attempt_limit plan p) (own_state s i)))

  -- after a move at least
  record IsMovedOn (from s : ExecState) : Type 0 where
    on : IsOn from s
    further : IsFurther from s
    count : length s.nodes ≡ length plan.nodes

  nowhere-less : (s : ExecState) → IsOn s s
  nowhere-less s = record { root = le_refl _; nodes = λ i p planned. le_refl _ }

  -- ---- moves

  module _ (f : Workflow) (outer : IsOuterPlan plan f) (v : View) (start : IsRunState plan v.state) where
    moved-on : (e : Effect) (s : ExecState) (to item : Option ℕ) → length s.nodes ≡ length plan.nodes
        → IsMade plan v to item e → IsOn v.state s
        → IsMovedOn v.state (state_with s (record { node = to; item = item }) e)
    moved-on e s None None count made h =
        let old = running-root v.state.root.phase made.0 in
        let new = final-root e.slot.phase made.1 in
        record {
          on = record { root = omega (arith, old, new); nodes = h.nodes };
          further = inl (omega (arith, old, new));
          count = count;
        }
    moved-on e s None (Some k) count made h = absurd made
    moved-on e s (Some i) (Some k) count made h = absurd made
    moved-on e s (Some i) None count made h =
        let new : NodeState = record { own = e.slot; items = unwrap_or e.items (node_state s i).items } in
        let raised = made.2.higher (start.timely i made.0 made.1) in
        record {
          on = record {
            root = h.root;
            nodes = λ j p planned.
                set-at (λ (m : NodeState). progress_of (attempt_limit plan p) (own_state v.state j)
                ≤ progress_of (attempt_limit plan p) m.own) s.nodes i j new fresh_node (h.nodes j p planned)
                (λ same.
                let is : made.0 ≡ p = same_Some made.0 p (sym made.1 ∙ sym (ap (node_numbered plan) same) ∙ planned) in
                let more : progress_of (attempt_limit plan p) (own_state v.state i)
                < progress_of (attempt_limit plan p) e.slot =
                subst (λ q. progress_of (attempt_limit plan q) (own_state v.state i)
                < progress_of (attempt_limit plan q) e.slot) is raised in
                subst (λ k. progress_of (attempt_limit plan p) (own_state v.state k)
                ≤ progress_of (attempt_limit plan p) e.slot) (sym same) (omega (arith, more)));
          };
          further = inr (
            i,
            made.0,
            made.1,
            subst (λ (m : NodeState). progress_of (attempt_limit plan made.0) (own_state v.state i)
                < progress_of (attempt_limit plan made.0) m.own)
                (sym (there s i new (omega (arith, count, slice_get_within plan.nodes i made.0 made.1)))) raised,
          );
          count = length-set s.nodes i new ∙ count;
        }
      where
        there : (s : ExecState) (i : ℕ) (new : NodeState) → i < length s.nodes
            → unwrap_or (slice_get (set s.nodes i new) i) fresh_node ≡ new
        there s i new within =
            unwrap_or-slice_get (set s.nodes i new) i fresh_node ∙ get_or-set_same s.nodes i new fresh_node within

    legal-on : (m : CitedMove) (s : ExecState) → is_legal plan v m.entries m.move ≡ true
        → length s.nodes ≡ length plan.nodes → IsOn v.state s → IsMovedOn v.state (with_move plan v s m)
    legal-on m s legal count h = by (effect_of plan v m.entries m.move) refl
      where
        by : (o : Option Effect) → effect_of plan v m.entries m.move ≡ o → IsMovedOn v.state (with_move plan v s m)
        by None e = absurd (false≢true (sym (ap is_some e) ∙ legal))
        by (Some x) e =
            rw e (moved-on x s m.move.at.node m.move.at.item count
            (made-by plan f outer v start m.entries m.move.step x m.move.at.node m.move.at.item e) h)

    abbrev Legal : CitedMove → Type 0
    Legal m = is_legal plan v m.entries m.move ≡ true

    all-on : (m : CitedMove) (ms : List CitedMove) → All Legal (m ∷ ms) → (s : ExecState)
        → length s.nodes ≡ length plan.nodes → IsOn v.state s
        → IsMovedOn v.state (fold (with_move plan v) s (m ∷ ms))
    all-on m [] legal s count h = legal-on m s (All-head Legal m [] legal) count h
    all-on m (k ∷ ms) legal s count h =
        let one = legal-on m s (All-head Legal m (k ∷ ms) legal) count h in
        all-on k ms (All-tail Legal m (k ∷ ms) legal) (with_move plan v s m) one.count one.on

    -- a round moves on
    round-on : (moves : List CitedMove) → IsRound plan v moves → length v.state.nodes ≡ length plan.nodes
        → IsMovedOn v.state (state_after plan v moves)
    round-on moves round count = by moves round.some round.legal
      where
        by : (ms : List CitedMove) → 1 ≤ length ms → All Legal ms
            → IsMovedOn v.state (fold (with_move plan v) v.state ms)
        by [] some legal = absurd (omega (arith, some))
        by (m ∷ ms) some legal = all-on m ms legal v.state count (nowhere-less v.state)

  -- ---- executions

  module _ (w : World) (x : Execution) (place : ℕ) (state : ExecState) (on : IsOn x.state state) where
    abbrev next : Execution
    next = with_version state place x

    nodes-le : (at : ℕ × PlanNode) → Contains (enumerate_from 0 plan.nodes) at
        → node_progress plan w x at ≤ node_progress plan w next at
    nodes-le at has =
        let le = on.nodes at.0 at.1 (numbered-at plan.nodes at has) in
        omega (arith, le)

    execution-le : execution_progress plan w x ≤ execution_progress plan w next
    execution-le =
        let root = on.root in
        let nodes = sums-le (node_progress plan w x) (node_progress plan w next) (enumerate_from 0 plan.nodes)
        nodes-le in
        omega (arith, root, nodes)

    execution-lt : IsFurther x.state state → execution_progress plan w x < execution_progress plan w next
    execution-lt (inl root) =
        let nodes = sums-le (node_progress plan w x) (node_progress plan w next) (enumerate_from 0 plan.nodes)
        nodes-le in
        omega (arith, root, nodes)
    execution-lt (inr node) =
        let root = on.root in
        let i = node.0 in
        let p = node.1 in
        let further = node.3 in
        let more : node_progress plan w x (i, p) < node_progress plan w next (i, p) = omega (arith, further) in
        let nodes = sums-lt (node_progress plan w x) (node_progress plan w next) (enumerate_from 0 plan.nodes) (i, p)
        nodes-le (at-number plan.nodes i p node.2) more in
        omega (arith, root, nodes)

-- ---- claims

-- an attempt of a node has one claim
same-claim : (name : AttemptName) (c : Claim) → name.item ≡ None
    → is_claim_of name.exec name.path name.attempt c ≡ same_name name c.name
same-claim name c none =
    ap (λ o. bytes_eq name.exec c.name.exec && same_path name.path c.name.path && same_item o c.name.item
    && eqb name.attempt c.name.attempt) (sym none)

unclaimed-none : (name : AttemptName) (cs : List Claim) → name.item ≡ None
    → is_some (find (λ (c : Claim). same_name name c.name) cs) ≡ false
    → list_any (is_claim_of name.exec name.path name.attempt) cs ≡ false
unclaimed-none name [] none free = refl
unclaimed-none name (c ∷ cs) none free = by (same_name name c.name) refl free (unclaimed-none name cs none)
  where
    by : (b : Bool) → same_name name c.name ≡ b
        → is_some (cond b (Some c) (find (λ (c : Claim). same_name name c.name) cs)) ≡ false
        → (is_some (find (λ (c : Claim). same_name name c.name) cs) ≡ false
        → list_any (is_claim_of name.exec name.path name.attempt) cs ≡ false)
        → list_any (is_claim_of name.exec name.path name.attempt) (c ∷ cs) ≡ false
    by true same e rest = absurd (true≢false e)
    by false same e rest =
        ap (λ b. b || list_any (is_claim_of name.exec name.path name.attempt) cs) (same-claim name c none ∙ same)
        ∙ rest e

module _ (plan : RunPlan) (w : World) (c : Claim) where
  abbrev claiming : World
  claiming = record w { claims = w.claims ++ c ∷ [] }

  any-more : (p : Claim → Bool) → list_any p w.claims ≡ true → list_any p (w.claims ++ c ∷ []) ≡ true
  any-more p some =
      list_any-append p w.claims (c ∷ []) ∙ or_left (list_any p w.claims) (list_any p (c ∷ [])) some

  claimed-le : (exec : Text) (path : Path) (limit : ℕ)
      → claimed_count w exec path limit ≤ claimed_count claiming exec path limit
  claimed-le exec path limit =
      counts-le (λ k. list_any (is_claim_of exec path k) w.claims)
      (λ k. list_any (is_claim_of exec path k) (w.claims ++ c ∷ [])) (range_with_len 0 limit)
      (λ k. any-more (is_claim_of exec path k))

  claimed-lt : c.name.item ≡ None → is_claimed w c.name ≡ false → (limit : ℕ) → c.name.attempt < limit
      → claimed_count w c.name.exec c.name.path limit < claimed_count claiming c.name.exec c.name.path limit
  claimed-lt none free limit small =
      let p = is_claim_of c.name.exec c.name.path c.name.attempt in
      let here : p c ≡ true = same-claim c.name c none ∙ same_name-refl c.name in
      counts-lt (λ k. list_any (is_claim_of c.name.exec c.name.path k) w.claims)
      (λ k. list_any (is_claim_of c.name.exec c.name.path k) (w.claims ++ c ∷ [])) (range_with_len 0 limit)
      c.name.attempt (λ k. any-more (is_claim_of c.name.exec c.name.path k)) (in-range limit c.name.attempt small)
      (unclaimed-none c.name w.claims none free)
      (list_any-append p w.claims (c ∷ [])
      ∙ or_right (list_any p w.claims) (list_any p (c ∷ [])) (or_left (p c) false here))

  module _ (x : Execution) where
    claim-nodes-le : (at : ℕ × PlanNode) → Contains (enumerate_from 0 plan.nodes) at
        → node_progress plan w x at ≤ node_progress plan claiming x at
    claim-nodes-le at has =
        let le = claimed-le x.name at.1.path (attempt_limit plan at.1) in
        omega (arith, le)

    claim-execution-le : execution_progress plan w x ≤ execution_progress plan claiming x
    claim-execution-le =
        let nodes = sums-le (node_progress plan w x) (node_progress plan claiming x) (enumerate_from 0 plan.nodes)
        claim-nodes-le in
        omega (arith, nodes)

    claim-execution-lt : x.name ≡ c.name.exec → (i : ℕ) (p : PlanNode) → node_numbered plan i ≡ Some p
        → p.path ≡ c.name.path → c.name.item ≡ None → is_claimed w c.name ≡ false
        → c.name.attempt < attempt_limit plan p
        → execution_progress plan w x < execution_progress plan claiming x
    claim-execution-lt exec i p planned path none free small =
        let counts = claimed-lt none free (attempt_limit plan p) small in
        let here : claimed_count w x.name p.path (attempt_limit plan p)
        < claimed_count claiming x.name p.path (attempt_limit plan p) =
        subst (λ a. claimed_count w a p.path (attempt_limit plan p)
        < claimed_count claiming a p.path (attempt_limit plan p))
        (sym exec)
        (subst (λ b. claimed_count w c.name.exec b (attempt_limit plan p)
        < claimed_count claiming c.name.exec b (attempt_limit plan p)) (sym path) counts) in
        let more : node_progress plan w x (i, p) < node_progress plan claiming x (i, p) = omega (arith, here) in
        let nodes = sums-lt (node_progress plan w x) (node_progress plan claiming x) (enumerate_from 0 plan.nodes)
        (i, p) claim-nodes-le (at-number plan.nodes i p planned) more in
        omega (arith, nodes)

  claim-le : progress plan w ≤ progress plan claiming
  claim-le =
      sums-le (execution_progress plan w) (execution_progress plan claiming) w.executions
      (λ x has. claim-execution-le x)

  claim-lt : (x : Execution) → Contains w.executions x
      → execution_progress plan w x < execution_progress plan claiming x → progress plan w < progress plan claiming
  claim-lt x has more =
      sums-lt (execution_progress plan w) (execution_progress plan claiming) w.executions x
      (λ y there. claim-execution-le y) has more

-- ---- changes

module _ (plan : RunPlan) (f : Workflow) (outer : IsOuterPlan plan f) (closure : List ℕ) (journal : List Entry)
    (w : World)
    (history : IsHistory plan closure journal w) where
  shape : HasRunShape plan w
  shape = run-shapes plan f outer closure journal w history

  -- the next version is further on
  version-on : (at : ℕ × Execution) (state : ExecState) → Permits plan w (adds_version at state)
      → IsMovedOn plan at.1.state state
  version-on at state permits =
      let there = named_there w permits.exec at permits.named in
      let view = current_view w at in
      let same = state_current at.1 in
      let run = subst (IsRunState plan) (sym same) (current-run plan w shape at.0 at.1 there) in
      let shaped = history-shaped plan closure journal w history at.1 at.1.state
      (contained w.executions at.0 at.1 there) (Contains-push (map (λ (q : Past). q.state) at.1.past) at.1.state) in
      let count = subst (λ (s : ExecState). length s.nodes ≡ length plan.nodes) (sym same) shaped.count in
      let moved = round-on plan f outer view run (map (cited_move w) permits.moves) permits.round count in
      subst (IsMovedOn plan at.1.state) (sym permits.state_is)
      (subst (λ s. IsMovedOn plan s (state_after plan view (map (cited_move w) permits.moves))) same moved)

  version-lt : (at : ℕ × Execution) (state : ExecState) → Permits plan w (adds_version at state)
      → progress plan w < progress plan (with_change w (adds_version at state))
  version-lt at state permits =
      let moved = version-on at state permits in
      set-lt (execution_progress plan w) w.executions at.0 at.1 (with_version state (length w.entries) at.1)
      (named_there w permits.exec at permits.named)
      (execution-lt plan w at.1 (length w.entries) state moved.on moved.further)

  -- no change takes progress back
  pub change-on : (c : Change) → Permits plan w c → progress plan w ≤ progress plan (with_change w c)
  change-on no_change permits = le_refl _
  change-on (moment_becomes moment) permits = le_refl _
  change-on (catalog_becomes catalog) permits = le_refl _
  change-on (lets_go ends) permits = le_refl _
  change-on (adds_execution name inputs state) permits =
      let more = sum_by_push (execution_progress plan w) w.executions
      (record { name = name; inputs = inputs; past = []; state = state }) in
      omega (arith, more)
  change-on (adds_launch name inputs) permits = le_refl _
  change-on (adds_claim name) permits =
      claim-le plan w (record { name = name; moment = w.moment; place = length w.entries })
  change-on (adds_outcome name o) permits = le_refl _
  change-on (adds_version at state) permits = let lt = version-lt at state permits in omega (arith, lt)

  -- an accepted Write makes progress
  pub write-raises : (new : World) (worker : ℕ) (exec : Text) (base version : ℕ) (moves : List Move)
      → Step plan w (entry_of worker (op.Write exec base moves) (reply.Written version)) new
      → progress plan w < progress plan new
  write-raises new worker exec base version moves s =
      let made = write-round plan w exec base version moves new worker s in
      let state = state_after plan (current_view w made.execution) (map (cited_move w) moves) in
      let permits : Permits plan w (adds_version made.execution state) =
      record { exec = exec; moves = moves; named = made.named; round = made.round; state_is = refl } in
      subst (λ u. progress plan w < progress plan u) (sym made.after) (version-lt made.execution state permits)

  -- ---- claims

  -- an attempt of the plan is of a node itself
  no-item : (name : AttemptName) (p : PlanNode) → IsNodeOfAttempt plan name p → has_attempts p.node name.item ≡ true
      → name.item ≡ None
  no-item name p at attempts = by name.item attempts
    where
      by : (o : Option ℕ) → has_attempts p.node o ≡ true → o ≡ None
      by None has = refl
      by (Some k) has =
          let node = map-some (λ m. outer_node f (at.0, m)) (slice_get f.nodes at.0) p
          (sym (numbered-outer plan f outer at.0) ∙ at.2) in
          absurd (false≢true (sym (ap (λ (q : PlanNode). has_attempts q.node (Some k)) node.2
          ∙ not-array plan f outer at.0 node.0 node.1) ∙ has))

  -- its path is its node's
  same-node : (name : AttemptName) (p : PlanNode) → IsNodeOfAttempt plan name p → p.path ≡ name.path
  same-node name p at =
      let found = position-Some (λ (q : PlanNode). same_path name.path q.path) plan.nodes at.0 p at.1 in
      let is = get_or_from_slice_get plan.nodes at.0 p p at.2 in
      sym (same-path name.path p.path (subst (λ (q : PlanNode). same_path name.path q.path ≡ true) is found.1))

  claimed-raises : (name : AttemptName) → Permits plan w (adds_claim name)
      → progress plan w < progress plan (with_change w (adds_claim name))
  claimed-raises name permits =
      let l = permits.1.0 in
      let has = found_there _ w.launches l permits.1.1 in
      let of_plan : IsNameOfPlan plan (execution_names w) name =
      subst (IsNameOfPlan plan (execution_names w)) permits.1.2
      (All-contains (λ (x : Launch). IsNameOfPlan plan (execution_names w) x.name) w.launches l
      (history-named plan closure journal w history).launched has) in
      let p = of_plan.0 in
      let node = of_plan.1 in
      let small : name.attempt < attempt_limit plan p =
      subst (λ (n : AttemptName). n.attempt < attempt_limit plan p) permits.1.2
      (shape.launches l p has (subst (λ n. IsNodeOfAttempt plan n p) (sym permits.1.2) node)) in
      let x = of_map (λ (y : Execution). y.name) w.executions name.exec of_plan.3 in
      let c : Claim = record { name = name; moment = w.moment; place = length w.entries } in
      claim-lt plan w c x.0 x.1
      (claim-execution-lt plan w c x.0 x.2 node.0 p node.2 (same-node name p node)
      (no-item name p node of_plan.2) permits.0 small)

  -- an attempt that is handed out makes progress
  pub claim-raises : (new : World) (worker : ℕ) (name : AttemptName)
      → Step plan w (entry_of worker op.Claim (reply.Claimed name)) new → progress plan w < progress plan new
  claim-raises new worker name s =
      step_cases plan (λ u. progress plan w < progress plan u) w new (entry_of worker op.Claim (reply.Claimed name)) s
      (λ c permits tells. by c permits tells.1)
    where
      by : (c : Change) → Permits plan w c → name ∷ [] ≡ claim_in c → progress plan w < progress plan (with_change w c)
      by (adds_claim other) permits told = claimed-raises other permits
      by no_change permits told = let none : ⊥ = cc in absurd none
      by (moment_becomes moment) permits told = let none : ⊥ = cc in absurd none
      by (catalog_becomes catalog) permits told = let none : ⊥ = cc in absurd none
      by (lets_go ends) permits told = let none : ⊥ = cc in absurd none
      by (adds_execution exec inputs state) permits told = let none : ⊥ = cc in absurd none
      by (adds_launch other inputs) permits told = let none : ⊥ = cc in absurd none
      by (adds_outcome other o) permits told = let none : ⊥ = cc in absurd none
      by (adds_version at state) permits told = let none : ⊥ = cc in absurd none
