-- The moves of a round in a plan of uncached tasks: at most one of each slot, each legal by the view alone, and legal
-- too where more is known.
use Rattle.std.proofs.Common.{◌≡◌, ◌⊎◌, inl, inr, ⊎_elim, ℕ, zero, suc, ◌+◌, ◌<◌, ◌≤◌, Bool, true, false, ◌&&◌, ◌||◌, cond, List, [], ◌∷◌, ◌++◌, map, filter, flat_map, length, take, get_or, Contains, Option, Some, None, option_map, option_and_then, option_to_list, is_some, refl, sym, ◌∙◌, ap, subst, arith}
use Rattle.std.specs.List.{slice_get, list_any, enumerate_from}
use Rattle.std.proofs.lemmas.Bool.{cases_Bool, false≢true, true≢false, ne_eqb}
use Rattle.std.proofs.lemmas.List.{append_assoc}
use Rattle.std.proofs.lemmas.List.Elements.{Contains-append_cases}
use Rattle.std.proofs.lemmas.Option.{none-some, same_Some}
use Rattle.fly_graph.proofs.Members.{Contains-nil, Contains-cons_cases, Contains-filter}
use Rattle.fly_policy.specs.declared.outcome.Outcome.{Outcome}
use Rattle.fly_docs.specs.declared.task.Task.{Task}
use Rattle.fly_docs.specs.declared.workflow.Workflow.{Workflow}
use Rattle.fly_docs.specs.Lookups.{is_same}
use Rattle.fly_docs.specs.Plans.{PlanNode, is_array}
use Rattle.fly_state.specs.declared.phase.Phase.{Phase}
use Rattle.fly_state.specs.declared.phase.Phase.TheVariants as phase
use Rattle.fly_state.specs.declared.slots.SlotState.{SlotState}
use Rattle.fly_state.specs.declared.moves.At.{At}
use Rattle.fly_state.specs.declared.moves.Move.{Move}
use Rattle.fly_state.specs.declared.moves.Step.{Step}
use Rattle.fly_state.specs.declared.moves.Step.TheVariants as step
use Rattle.fly_state.specs.declared.view.View.{View}
use Rattle.fly_state.specs.declared.view.Known.{Known}
use Rattle.fly_state.specs.declared.effects.Effect.{Effect}
use Rattle.fly_state.specs.Moves.{of_slot, where_true, may_run, is_queued, is_succeeding, outcome_in, run_slot, run_array_effect, run_task_effect, same_item, root_effect, node_effect, may_step, is_legal}
use Rattle.fly_state.specs.OfPlan.{IsViewOfPlan}
use Rattle.fly_state.specs.PlanTables.{IsOuterPlan}
use Rattle.fly_state.specs.Plans.{RunPlan, node_numbered, instance_of, case_nodes, is_task, task_of, task_target}
use Rattle.fly_state.specs.Rounds.{CitedMove, cited_places}
use Rattle.fly_state.specs.States.{own_state, node_state, phase_of, is_final, is_running, is_broken}
use Rattle.fly_state.proofs.AskedInputs.{found-in}
use Rattle.fly_state.proofs.Lists.{of_map}
use Rattle.fly_state.proofs.TaskNodes.{TaskNode, task-node}
use Rattle.fly_round.specs.declared.told.Told.{Told}
use Rattle.fly_round.specs.Answers.{answers_in}
use Rattle.fly_round.specs.Moves.{told_of, plain_steps, citing_steps, cited_move, possible_moves, slot_moves, at_node, at_item, node_moves, root_moves, round_moves}
use Rattle.fly_round.specs.Questions.{entry_of}
use Rattle.fly_round.specs.Steps.{move_at, first_step, queued_step, abort_step}
use Rattle.fly_round.proofs.ComeLemmas.{no-items}
use Rattle.fly_round.proofs.StepLemmas.{node-broken, node-first, node-queued, node-running, node-retry, node-final}
use Rattle.fly_world.specs.Steps.{same_slot}
use Rattle.fly_work.specs.Drives.{IsUncached}

-- ---- steps that cite nothing

abbrev pub is_plain : Step → Bool
is_plain (step.Run None None) = true
is_plain (step.Run (Some place) lease) = false
is_plain (step.Run None (Some place)) = false
is_plain (step.Hit place) = false
is_plain (step.Stored place) = false
is_plain _ = true

pub plain-cites : (s : Step) → is_plain s ≡ true → cited_places s ≡ []
plain-cites (step.Run None None) e = refl
plain-cites (step.Run (Some place) lease) e = absurd (false≢true e)
plain-cites (step.Run None (Some place)) e = absurd (false≢true e)
plain-cites (step.Hit place) e = absurd (false≢true e)
plain-cites (step.Stored place) e = absurd (false≢true e)
plain-cites _ e = refl

citing-not-plain : (mine : List Told) (s : Step) → Contains (citing_steps mine) s → is_plain s ≡ false
citing-not-plain [] s has = absurd (Contains-nil s has)
citing-not-plain (a ∷ []) s has =
    ⊎_elim (λ same. ap is_plain (sym same))
    (λ more. ⊎_elim (λ same. ap is_plain (sym same))
    (λ rest. ⊎_elim (λ same. ap is_plain (sym same)) (λ none. absurd (Contains-nil s none))
    (Contains-cons_cases (step.Stored a.place) [] s rest))
    (Contains-cons_cases (step.Hit a.place) (step.Stored a.place ∷ []) s more))
    (Contains-cons_cases (step.Run (Some a.place) None) (step.Hit a.place ∷ step.Stored a.place ∷ []) s has)
citing-not-plain (a ∷ b ∷ []) s has =
    ⊎_elim (λ same. ap is_plain (sym same)) (λ none. absurd (Contains-nil s none))
    (Contains-cons_cases (step.Run (Some a.place) (Some b.place)) [] s has)
citing-not-plain (a ∷ b ∷ c ∷ more) s has = absurd (Contains-nil s has)

-- ---- tasks

pub uncached-task : (plan : RunPlan) (s : _) (p : PlanNode) → IsUncached plan → (node : TaskNode plan s p)
    → node.task.cached ≡ false
uncached-task plan s p uncached node =
    let has = (found-in (λ (t : Task). is_same t.id node.id) plan.documents.tasks node.task
    (sym (ap (task_target plan.documents) node.target) ∙ node.runs)).0 in
    sym (ap (λ (t : Task). t.cached) has.2) ∙ uncached has.0 node.task has.1

-- ---- legal moves

module _ (plan : RunPlan) (v : View) where
  abbrev legal_in : CitedMove → Bool
  legal_in m = is_legal plan v m.entries m.move

  -- a move of a slot that cites nothing is legal by the view alone
  slot-legal : (at : At) (cases : ℕ) (mine : List Told) (m : Move) → Contains (slot_moves plan v at cases mine) m
      → is_plain m.step ≡ true → is_legal plan v [] m ≡ true
  slot-legal at cases mine m has plain =
      let es = map entry_of mine in
      let found = of_map (λ (c : CitedMove). c.move) (filter legal_in (possible_moves at cases mine)) m has in
      let c = found.0 in
      let left = Contains-filter legal_in (possible_moves at cases mine) c found.1 in
      ⊎_elim
      (λ front.
      let s = of_map (cited_move at []) (plain_steps cases) c front in
      let none : c.entries ≡ [] = ap (λ (x : CitedMove). x.entries) (sym s.2) in
      subst (λ x. is_legal plan v [] x ≡ true) found.2 (subst (λ xs. is_legal plan v xs c.move ≡ true) none left.1))
      (λ back.
      let s = of_map (cited_move at es) (citing_steps mine) c back in
      let same : s.0 ≡ m.step = ap (λ (x : CitedMove). x.move.step) s.2 ∙ ap (λ (x : Move). x.step) found.2 in
      absurd (true≢false (sym plain ∙ ap is_plain (sym same) ∙ citing-not-plain mine s.0 s.1)))
      (Contains-append_cases (map (cited_move at []) (plain_steps cases))
      (map (cited_move at es) (citing_steps mine)) c left.0)

  -- the root does nothing but close
  root-one : root_moves plan v ≡ map (move_at None)
      (option_to_list (where_true (is_some (root_effect plan v.state step.Close)) (Some step.Close)))
  root-one = by (is_some (root_effect plan v.state step.Close))
    where
      by : (b : Bool) → map (λ (c : CitedMove). c.move)
          (cond b (cited_move (record { node = None; item = None }) [] step.Close ∷ []) [])
          ≡ map (move_at None) (option_to_list (where_true b (Some step.Close)))
      by true = refl
      by false = refl

  -- ---- where more is known

  module _ (launches : List Known) where
    abbrev pub more_known : View
    more_known = record v { launches = launches }

    may_run-same : (p : PlanNode) (t : Task) → may_run v p t None None [] ≡ may_run more_known p t None None []
    may_run-same p t = by t.cached t.serializable
      where
        by : (c s : Bool) → may_run v p (record t { cached = c; serializable = s }) None None []
            ≡ may_run more_known p (record t { cached = c; serializable = s }) None None []
        by true true = refl
        by true false = refl
        by false true = refl
        by false false = refl

    module _ (more : (p : PlanNode) (a : ℕ) (o : Outcome) → outcome_in v p None a ≡ Some o
        → is_some (outcome_in more_known p None a) ≡ true) where
      settles : (b c r : Bool) (g : Outcome → SlotState) (x y : Option Outcome)
          → ((o : Outcome) → x ≡ Some o → is_some y ≡ true)
          → is_some (where_true b (option_map of_slot (where_true c (where_true r (option_map g x))))) ≡ true
          → is_some (where_true b (option_map of_slot (where_true c (where_true r (option_map g y))))) ≡ true
      settles false c r g x y grows h = absurd (false≢true h)
      settles true false r g x y grows h = absurd (false≢true h)
      settles true true false g x y grows h = absurd (false≢true h)
      settles true true true g None y grows h = absurd (false≢true h)
      settles true true true g (Some o) None grows h = absurd (false≢true (grows o refl))
      settles true true true g (Some o) (Some q) grows h = refl

      legal-node : (i : ℕ) (s : Step) → is_plain s ≡ true → is_legal plan v [] (move_at (Some i) s) ≡ true
          → is_legal plan more_known [] (move_at (Some i) s) ≡ true
      legal-node i (step.Run None None) plain h =
          ap is_some (by (node_numbered plan i)) ∙ h
        where
          slot : SlotState
          slot = own_state v.state i

          task : (p : PlanNode) → run_task_effect plan more_known [] i p None None
              ≡ run_task_effect plan v [] i p None None
          task p = with_task (task_of plan p)
            where
              with_task : (o : Option Task)
                  → option_and_then (λ t. where_true (may_run more_known p t None None [])
                  (Some (of_slot (run_slot slot)))) o
                  ≡ option_and_then (λ t. where_true (may_run v p t None None []) (Some (of_slot (run_slot slot)))) o
              with_task None = refl
              with_task (Some t) = ap (λ b. where_true b (Some (of_slot (run_slot slot)))) (sym (may_run-same p t))

          by : (o : Option PlanNode)
              → option_and_then (λ p. where_true (may_step plan v.state (instance_of p) (step.Run None None))
              (node_effect plan more_known [] i p (step.Run None None))) o
              ≡ option_and_then (λ p. where_true (may_step plan v.state (instance_of p) (step.Run None None))
              (node_effect plan v [] i p (step.Run None None))) o
          by None = refl
          by (Some p) =
              ap (λ x. where_true (may_step plan v.state (instance_of p) (step.Run None None))
              (where_true (is_queued (phase_of v.state i))
              (cond (is_array p.node) (run_array_effect plan v [] i p None None) x))) (task p)
      legal-node i (step.Run (Some place) lease) plain h = absurd (false≢true plain)
      legal-node i (step.Run None (Some place)) plain h = absurd (false≢true plain)
      legal-node i step.Settle plain h = by (node_numbered plan i) h
        where
          made : View → PlanNode → Option Effect
          made u p = where_true (may_step plan v.state (instance_of p) step.Settle)
              (node_effect plan u [] i p step.Settle)

          by : (o : Option PlanNode) → is_some (option_and_then (made v) o) ≡ true
              → is_some (option_and_then (made more_known) o) ≡ true
          by None h = h
          by (Some p) h =
              settles (may_step plan v.state (instance_of p) step.Settle) (is_task p.node)
              (is_running (own_state v.state i).phase) _
              (outcome_in v p None (own_state v.state i).attempt)
              (outcome_in more_known p None (own_state v.state i).attempt)
              (more p (own_state v.state i).attempt) h
      legal-node i _ plain h = h

      -- a move that is legal stays so
      pub legal-stays : (node : Option ℕ) (s : Step) → is_plain s ≡ true → is_legal plan v [] (move_at node s) ≡ true
          → is_legal plan more_known [] (move_at node s) ≡ true
      legal-stays None s plain h = h
      legal-stays (Some i) s plain h = legal-node i s plain h

-- ---- moves of nodes in plan order, and then of the root

module _ (plan : RunPlan) (v : View) where
  -- It cites nothing, is no move of an item, and is legal by the view alone.
  pub record IsGood (m : Move) : Type 0 where
    pub own : m ≡ move_at m.at.node m.step
    pub plain : is_plain m.step ≡ true
    pub legal : is_legal plan v [] m ≡ true

  -- good moves of nodes of rising numbers, at least this one, and then perhaps one of the root
  abbrev pub Rises : ℕ → List Move → Type 0
  Rises n [] = Unit {0}
  Rises n (m ∷ ms) =
      IsGood m × (((i : ℕ) × (m.at.node ≡ Some i) × (n ≤ i) × Rises (i + 1) ms) ⊎ ((m.at.node ≡ None) × (ms ≡ [])))

  rises-sooner : (n k : ℕ) (ms : List Move) → k ≤ n → Rises n ms → Rises k ms
  rises-sooner n k [] le rises = tt
  rises-sooner n k (m ∷ ms) le rises =
      (rises.0, ⊎_elim (λ at. inl (at.0, at.1, omega (arith, le, at.2), at.3)) inr rises.1)

  pub good-at : (n : ℕ) (ms : List Move) → Rises n ms → (k : ℕ) (d : Move) → k < length ms → IsGood (get_or ms k d)
  good-at n [] rises k d lt = absurd (omega arith)
  good-at n (m ∷ ms) rises zero d lt = rises.0
  good-at n (m ∷ ms) rises (suc k) d lt =
      ⊎_elim (λ at. good-at (at.0 + 1) ms at.3 k d (omega arith))
      (λ last. let none = ap length last.1 in absurd (omega (arith, none, lt))) rises.1

  node-at : (n : ℕ) (ms : List Move) → Rises n ms → (k : ℕ) (d : Move) → k < length ms
      → ((get_or ms k d).at.node ≡ None) ⊎ ((j : ℕ) × ((get_or ms k d).at.node ≡ Some j) × (n ≤ j))
  node-at n [] rises k d lt = absurd (omega arith)
  node-at n (m ∷ ms) rises zero d lt = ⊎_elim (λ at. inr (at.0, at.1, at.2)) (λ last. inl last.0) rises.1
  node-at n (m ∷ ms) rises (suc k) d lt =
      ⊎_elim
      (λ at. ⊎_elim inl (λ more. inr (more.0, more.1, omega (arith, more.2, at.2)))
      (node-at (at.0 + 1) ms at.3 k d (omega arith)))
      (λ last. let none = ap length last.1 in absurd (omega (arith, none, lt))) rises.1

  -- the slot of a move is that of none before it
  pub apart-at : (n : ℕ) (ms : List Move) → Rises n ms → (k : ℕ) (d : Move) → k < length ms
      → list_any (λ (e : Move). same_slot e.at (get_or ms k d).at) (take k ms) ≡ false
  apart-at n [] rises k d lt = absurd (omega arith)
  apart-at n (m ∷ ms) rises zero d lt = refl
  apart-at n (m ∷ ms) rises (suc k) d lt =
      ⊎_elim
      (λ at.
      let x = get_or ms k d in
      ap (λ b. b || list_any (λ (e : Move). same_slot e.at x.at) (take k ms))
      (ap (λ b. b && same_item m.at.item x.at.item)
      (ap (λ o. same_item o x.at.node) at.1 ∙ other at.0 x.at.node (node-at (at.0 + 1) ms at.3 k d (omega arith))))
      ∙ apart-at (at.0 + 1) ms at.3 k d (omega arith))
      (λ last. let none = ap length last.1 in absurd (omega (arith, none, lt))) rises.1
    where
      other : (i : ℕ) (o : Option ℕ) → (o ≡ None) ⊎ ((j : ℕ) × (o ≡ Some j) × (i + 1 ≤ j))
          → same_item (Some i) o ≡ false
      other i o cases =
          ⊎_elim (λ none. ap (same_item (Some i)) none)
          (λ at. ap (same_item (Some i)) at.1 ∙ ne_eqb i at.0 (λ same. absurd (omega (arith, at.2, same)))) cases

-- ---- the moves of a round

module _ (plan : RunPlan) (f : Workflow) (outer : IsOuterPlan plan f) (uncached : IsUncached plan) (v : View)
    (of_plan : IsViewOfPlan plan v) (unstored : (i : ℕ) → is_succeeding (phase_of v.state i) ≡ false)
    (told : List Told) where
  -- The moves of a node: at most one, that cites nothing.
  record IsOne (i : ℕ) (ms : List Move) : Type 0 where
    move : Option Step
    moves_are : ms ≡ map (move_at (Some i)) (option_to_list move)
    plain : (s : Step) → move ≡ Some s → is_plain s ≡ true

  module _ (i : ℕ) (p : PlanNode) (planned : node_numbered plan i ≡ Some p) where
    abbrev node : TaskNode plan v.state p
    node = task-node plan f outer v.state i p planned

    abbrev Moves : Type 0
    Moves = IsOne i (node_moves plan v told (i, p))

    one : (o : Option Step) → node_moves plan v told (i, p) ≡ map (move_at (Some i)) (option_to_list o)
        → ((s : Step) → o ≡ Some s → is_plain s ≡ true) → Moves
    one o are plain = record { move = o; moves_are = are; plain = plain }

    aborts : (s : Step) → Some step.Abort ≡ Some s → is_plain s ≡ true
    aborts s e = ap is_plain (sym (same_Some step.Abort s e))

    aborts-plain : (g : Phase) (s : Step) → abort_step g ≡ Some s → is_plain s ≡ true
    aborts-plain phase.NotYetStarted s e = aborts s e
    aborts-plain phase.Queued s e = aborts s e
    aborts-plain phase.Running s e = aborts s e
    aborts-plain phase.RetryableFailure s e = aborts s e
    aborts-plain phase.Succeeding s e = aborts s e
    aborts-plain _ s e = absurd (none-some s e)

    first-plain : (a b c : Bool) (s : Step) → first_step a b c ≡ Some s → is_plain s ≡ true
    first-plain true b c s e = ap is_plain (sym (same_Some step.Queue s e))
    first-plain false true c s e = ap is_plain (sym (same_Some step.InputFail s e))
    first-plain false false true s e = ap is_plain (sym (same_Some step.Skip s e))
    first-plain false false false s e = absurd (none-some s e)

    settle-plain : (b : Bool) (s : Step) → where_true b (Some step.Settle) ≡ Some s → is_plain s ≡ true
    settle-plain true s e = ap is_plain (sym (same_Some step.Settle s e))
    settle-plain false s e = absurd (none-some s e)

    nothing-plain : (s : Step) → None ≡ Some s → is_plain s ≡ true
    nothing-plain s e = absurd (none-some s e)

    ended : (f : Phase) → is_final f ≡ true → is_broken plan v.state [] ≡ false → (own_state v.state i).phase ≡ f
        → Moves
    ended g final whole is = one None
        (node-final plan f outer v of_plan i p planned told whole g final is) nothing-plain

    by-phase : is_broken plan v.state [] ≡ false → (g : Phase) → (own_state v.state i).phase ≡ g → Moves
    by-phase whole phase.NotYetStarted is =
        one _ (node-first plan f outer v of_plan i p planned told whole is) (first-plain _ _ _)
    by-phase whole phase.Queued is =
        one (Some (step.Run None None))
        (node-queued plan f outer v of_plan i p planned told whole is
        ∙ ap (λ b. map (move_at (Some i))
        (option_to_list (queued_step b node.task.serializable (answers_in (told_of v told p)))))
        (uncached-task plan v.state p uncached node))
        (λ s e. ap is_plain (sym (same_Some (step.Run None None) s e)))
    by-phase whole phase.Running is =
        one _ (node-running plan f outer v of_plan i p planned told whole is) (settle-plain _)
    by-phase whole phase.RetryableFailure is =
        one (Some step.Retry) (node-retry plan f outer v of_plan i p planned told whole is)
        (λ s e. ap is_plain (sym (same_Some step.Retry s e)))
    by-phase whole phase.Succeeding is = absurd (true≢false (sym (ap is_succeeding is) ∙ unstored i))
    by-phase whole phase.Succeeded is = ended phase.Succeeded refl whole is
    by-phase whole phase.Failed is = ended phase.Failed refl whole is
    by-phase whole phase.TimedOut is = ended phase.TimedOut refl whole is
    by-phase whole phase.Skipped is = ended phase.Skipped refl whole is
    by-phase whole phase.Aborted is = ended phase.Aborted refl whole is

    -- at most one move of a node is legal, and it cites nothing
    node-one : Moves
    node-one =
        ⊎_elim
        (λ broken.
        let g = (own_state v.state i).phase in
        one (abort_step g) (node-broken plan f outer v of_plan i p planned told broken g refl) (aborts-plain g))
        (λ whole. by-phase whole (own_state v.state i).phase refl)
        (cases_Bool (is_broken plan v.state []))

    node-legal : (m : Move) → Contains (node_moves plan v told (i, p)) m → is_plain m.step ≡ true
        → is_legal plan v [] m ≡ true
    node-legal m has plain =
        let own = slot_moves plan v (at_node i) (length (case_nodes p.node)) (told_of v told p) in
        let of_items : List SlotState → List Move =
        λ items. flat_map (λ (item : ℕ × SlotState). slot_moves plan v (at_item i item.0) 0 [])
        (enumerate_from 0 items) in
        let none : of_items (node_state v.state i).items ≡ [] =
        ap of_items (no-items plan f outer v of_plan i p planned) in
        ⊎_elim (λ front. slot-legal plan v (at_node i) (length (case_nodes p.node)) (told_of v told p) m front plain)
        (λ back. absurd (Contains-nil m (subst (λ ms. Contains ms m) none back)))
        (Contains-append_cases own (of_items (node_state v.state i).items) m has)

    node-good : (s : Step) → node-one.move ≡ Some s → IsGood plan v (move_at (Some i) s)
    node-good s is =
        let m = move_at (Some i) s in
        let has : Contains (node_moves plan v told (i, p)) m =
        subst (λ ms. Contains ms m) (sym (node-one.moves_are
        ∙ ap (λ o. map (move_at (Some i)) (option_to_list o)) is)) (0, omega arith, refl) in
        record { own = refl; plain = node-one.plain s is; legal = node-legal m has (node-one.plain s is) }

  root-rises : (n : ℕ) → Rises plan v n (root_moves plan v)
  root-rises n = by (is_some (root_effect plan v.state step.Close)) refl
    where
      by : (b : Bool) → is_some (root_effect plan v.state step.Close) ≡ b → Rises plan v n (root_moves plan v)
      by true is =
          subst (Rises plan v n) (sym (root-one plan v
          ∙ ap (λ b. map (move_at None) (option_to_list (where_true b (Some step.Close)))) is))
          (record { own = refl; plain = refl; legal = is }, inr (refl, refl))
      by false is =
          subst (Rises plan v n) (sym (root-one plan v
          ∙ ap (λ b. map (move_at None) (option_to_list (where_true b (Some step.Close)))) is)) tt

  nodes-rise : (k : ℕ) (ps : List PlanNode)
      → ((j : ℕ) (p : PlanNode) → slice_get ps j ≡ Some p → node_numbered plan (k + j) ≡ Some p)
      → Rises plan v k (flat_map (node_moves plan v told) (enumerate_from k ps) ++ root_moves plan v)
  nodes-rise k [] at = root-rises k
  nodes-rise k (p ∷ ps) at =
      let planned : node_numbered plan k ≡ Some p =
      (let e : k + 0 ≡ k = omega arith in subst (λ n. node_numbered plan n ≡ Some p) e (at 0 p refl)) in
      let more : (j : ℕ) (q : PlanNode) → slice_get ps j ≡ Some q → node_numbered plan ((k + 1) + j) ≡ Some q =
      λ j q there. (let e : k + suc j ≡ (k + 1) + j =
      omega arith in subst (λ n. node_numbered plan n ≡ Some q) e (at (suc j) q there)) in
      let rest = flat_map (node_moves plan v told) (enumerate_from (k + 1) ps) in
      let own = node-one k p planned in
      subst (Rises plan v k) (sym (append_assoc (node_moves plan v told (k, p)) rest (root_moves plan v)))
      (subst (λ ms. Rises plan v k (ms ++ (rest ++ root_moves plan v))) (sym own.moves_are)
      (by own.move (node-good k p planned) (rest ++ root_moves plan v) (nodes-rise (k + 1) ps more)))
    where
      by : (o : Option Step) → ((s : Step) → o ≡ Some s → IsGood plan v (move_at (Some k) s)) → (ms : List Move)
          → Rises plan v (k + 1) ms → Rises plan v k (map (move_at (Some k)) (option_to_list o) ++ ms)
      by None good ms rises = rises-sooner plan v (k + 1) k ms (omega arith) rises
      by (Some s) good ms rises = (good s refl, inl (k, refl, omega arith, rises))

  -- all moves of a round, in plan order
  pub round-rises : Rises plan v 0 (round_moves plan v told)
  round-rises =
      nodes-rise 0 plan.nodes (λ j p there.
      (let e : j ≡ 0 + j = omega arith in subst (λ n. node_numbered plan n ≡ Some p) e there))
