-- Where a round has no move: its nodes are at rest, but for attempts that run and whose ends aren't known.
use Rattle.std.proofs.Common.{◌≡◌, ℕ, zero, suc, ◌+◌, ◌<◌, Bool, true, false, ◌&&◌, ◌||◌, cond, if◌then◌else◌, List, [], ◌∷◌, map, flat_map, length, Contains, Option, Some, None, option_map, option_to_list, is_some, Ok, Err, refl, sym, ◌∙◌, ap, subst, arith}
use Rattle.std.specs.List.{slice_get, list_all, list_any, enumerate_from}
use Rattle.std.proofs.lemmas.Bool.{and_from, false≢true, true≢false, or_left, or_right}
use Rattle.std.proofs.lemmas.Option.{none-some, same_Some}
use Rattle.fly_types.specs.declared.literals.LiteralMap.{LiteralMap}
use Rattle.fly_exprs.proofs.Faultless.{empty-append}
use Rattle.fly_docs.specs.declared.node.Node.{Node}
use Rattle.fly_docs.specs.declared.task.Task.{Task}
use Rattle.fly_docs.specs.declared.workflow.Workflow.{Workflow}
use Rattle.fly_docs.specs.Lookups.{is_same}
use Rattle.fly_docs.specs.Plans.{PlanNode}
use Rattle.fly_docs.specs.SlotInputs as docs
use Rattle.fly_docs.specs.SlotInputs.{Taken}
use Rattle.fly_rules.specs.Standing.{Standing, waiting, blocked, skipped, ready, is_waiting_standing, is_blocked_standing, is_skipped_standing, is_ready_standing, standing_among}
use Rattle.fly_state.specs.declared.phase.Phase.{Phase}
use Rattle.fly_state.specs.declared.phase.Phase.TheVariants as phase
use Rattle.fly_state.specs.declared.slots.SlotState.{SlotState}
use Rattle.fly_state.specs.declared.slots.ExecState.{ExecState}
use Rattle.fly_state.specs.declared.moves.Step.{Step}
use Rattle.fly_state.specs.declared.moves.Step.TheVariants as step
use Rattle.fly_state.specs.declared.view.View.{View}
use Rattle.fly_state.specs.Inputs.{inputs_of_node, value_in, fault_code}
use Rattle.fly_state.specs.Moves.{of_slot, where_true, is_ready, is_succeeding, outcome_in, closed_instance_slot, node_effect}
use Rattle.fly_state.specs.OfPlan.{IsViewOfPlan, may_ask_inputs, promised_numbers}
use Rattle.fly_state.specs.PlanTables.{IsOuterPlan, outer_node}
use Rattle.fly_state.specs.Plans.{RunPlan, node_numbered, looks, task_target}
use Rattle.fly_state.specs.Rounds.{CitedMove}
use Rattle.fly_state.specs.Standing.{sign_of, signs_at, standing_of, is_at_rest}
use Rattle.fly_state.specs.States.{own_state, phase_of, is_final, is_not_yet_started, is_running, is_succeeded, is_broken}
use Rattle.fly_state.proofs.AskedInputs.{found-in, clear-inputs}
use Rattle.fly_state.proofs.Lists.{first_in, later_in, enumerated-at}
use Rattle.fly_state.proofs.NotUnknown.{IsClear}
use Rattle.fly_state.proofs.OuterNodes.{its, planned-at, takes, inputs-bound, ready-sources}
use Rattle.fly_state.proofs.OuterPlans.{going_on-outer, case-none}
use Rattle.fly_state.proofs.StandingLemmas.{by_outer, standing-fixed}
use Rattle.fly_state.proofs.TaskNodes.{TaskNode, task-node}
use Rattle.fly_round.specs.declared.told.Told.{Told}
use Rattle.fly_round.specs.Moves.{at_root, cited_move, told_of, node_moves, root_moves, round_moves}
use Rattle.fly_round.specs.Answers.{answers_in}
use Rattle.fly_round.specs.Steps.{move_at, first_step, queued_step, abort_step}
use Rattle.fly_round.proofs.StepLemmas.{allowed, effect-there, node-broken, node-first, node-queued, node-running, node-retry}
use Rattle.fly_work.specs.Drives.{IsUncached}
use Rattle.fly_work.proofs.EndLemmas.{no-sign}

-- ---- where nothing is made

nothing-made : {X Y : Type 0} (f : X → Y) (o : Option X) → map f (option_to_list o) ≡ [] → o ≡ None
nothing-made f None e = refl
nothing-made f (Some x) e = cc

nothing-at : {X Y : Type 0} (f : X → List Y) (xs : List X) (i : ℕ) (x : X) → flat_map f xs ≡ []
    → slice_get xs i ≡ Some x → f x ≡ []
nothing-at f [] i x e at = absurd (none-some x at)
nothing-at f (y ∷ ys) zero x e at = ap f (sym (same_Some y x at)) ∙ (empty-append (f y) (flat_map f ys) e).0
nothing-at f (y ∷ ys) (suc i) x e at = nothing-at f ys i x (empty-append (f y) (flat_map f ys) e).1 at

all-passes : {X : Type 0} (p : X → Bool) (xs : List X) → ((x : X) → Contains xs x → p x ≡ true) → list_all p xs ≡ true
all-passes p [] each = refl
all-passes p (x ∷ xs) each =
    and_from (p x) (list_all p xs) (each x (first_in x xs)) (all-passes p xs (λ y has. each y (later_in x xs y has)))

abort-none : (f : Phase) → abort_step f ≡ None → is_final f ≡ true
abort-none phase.NotYetStarted e = cc
abort-none phase.Queued e = cc
abort-none phase.Running e = cc
abort-none phase.RetryableFailure e = cc
abort-none phase.Succeeding e = cc
abort-none phase.Succeeded e = refl
abort-none phase.Failed e = refl
abort-none phase.TimedOut e = refl
abort-none phase.Skipped e = refl
abort-none phase.Aborted e = refl

first-none : (queues fails skips : Bool) → first_step queues fails skips ≡ None
    → (queues ≡ false) × (fails ≡ false) × (skips ≡ false)
first-none true fails skips e = cc
first-none false true skips e = cc
first-none false false true e = cc
first-none false false false e = (refl, refl, refl)

-- inputs that are known have a value, or a fault with a code
clear-there : (taken : Taken LiteralMap) → IsClear taken → is_some (value_in taken) ≡ false
    → is_some (fault_code taken) ≡ false → ⊥
clear-there (Ok inputs) clear value fault = true≢false value
clear-there (Err (docs.enum_outside text)) clear value fault = true≢false fault
clear-there (Err (docs.unequal_lengths first second)) clear value fault = clear
clear-there (Err (docs.too_many_items count)) clear value fault = clear
clear-there (Err docs.unknown) clear value fault = clear

-- ---- standings

-- a node waits only for one that is awaited
unawaited-among : (xs : List Standing) → list_any is_waiting_standing xs ≡ false
    → is_waiting_standing (standing_among xs) ≡ false
unawaited-among xs none =
    by (list_any is_skipped_standing xs) (list_any is_waiting_standing xs) (list_any is_blocked_standing xs) none
  where
    by : (a b c : Bool) → b ≡ false
        → is_waiting_standing (if a then skipped else (if b then waiting else (if c then blocked else ready))) ≡ false
    by true b c e = refl
    by false true c e = absurd (true≢false e)
    by false false true e = refl
    by false false false e = refl

-- one at rest isn't awaited
unawaited-sign : (f : Phase) (x : Standing) → is_final f || (is_not_yet_started f && is_blocked_standing x) ≡ true
    → is_waiting_standing (sign_of f x) ≡ false
unawaited-sign phase.NotYetStarted blocked e = refl
unawaited-sign phase.NotYetStarted waiting e = absurd (false≢true e)
unawaited-sign phase.NotYetStarted skipped e = absurd (false≢true e)
unawaited-sign phase.NotYetStarted ready e = absurd (false≢true e)
unawaited-sign phase.Queued x e = absurd (false≢true e)
unawaited-sign phase.Running x e = absurd (false≢true e)
unawaited-sign phase.RetryableFailure x e = absurd (false≢true e)
unawaited-sign phase.Succeeding x e = absurd (false≢true e)
unawaited-sign phase.Succeeded x e = refl
unawaited-sign phase.Failed x e = refl
unawaited-sign phase.TimedOut x e = refl
unawaited-sign phase.Skipped x e = refl
unawaited-sign phase.Aborted x e = refl

-- ---- tasks

uncached-task : (plan : RunPlan) (s : ExecState) (p : PlanNode) → IsUncached plan → (node : TaskNode plan s p)
    → node.task.cached ≡ false
uncached-task plan s p uncached node =
    let has = (found-in (λ (t : Task). is_same t.id node.id) plan.documents.tasks node.task
    (sym (ap (task_target plan.documents) node.target) ∙ node.runs)).0 in
    sym (ap (λ (t : Task). t.cached) has.2) ∙ uncached has.0 node.task has.1

-- ---- the moves of a round

module _ (plan : RunPlan) (v : View) (told : List Told) (quiet : round_moves plan v told ≡ []) where
  abbrev apart : (flat_map (node_moves plan v told) (enumerate_from 0 plan.nodes) ≡ []) × (root_moves plan v ≡ [])
  apart = empty-append (flat_map (node_moves plan v told) (enumerate_from 0 plan.nodes)) (root_moves plan v) quiet

  -- no node has one
  pub quiet-node : (i : ℕ) (p : PlanNode) → node_numbered plan i ≡ Some p → node_moves plan v told (i, p) ≡ []
  quiet-node i p planned =
      let same : 0 + i ≡ i = omega arith in
      nothing-at (node_moves plan v told) (enumerate_from 0 plan.nodes) i (i, p) apart.0
      (enumerated-at 0 plan.nodes i
      ∙ ap (λ k. option_map (λ (q : PlanNode). (k, q)) (slice_get plan.nodes i)) same
      ∙ ap (option_map (λ (q : PlanNode). (i, q))) planned)

  -- the root has none, so it can't close
  pub quiet-root : is_running v.state.root.phase ≡ true → is_some (closed_instance_slot plan v.state []) ≡ false
  quiet-root runs =
      let end = closed_instance_slot plan v.state [] in
      no-end (is_running v.state.root.phase) end runs
      (no-closing (is_some (where_true (is_running v.state.root.phase) (option_map of_slot end))) apart.1)
    where
      no-closing : (b : Bool)
          → map (λ (m : CitedMove). m.move) (cond b (cited_move at_root [] step.Close ∷ []) []) ≡ [] → b ≡ false
      no-closing true e = cc
      no-closing false e = refl

      no-end : (b : Bool) (o : Option SlotState) → b ≡ true → is_some (where_true b (option_map of_slot o)) ≡ false
          → is_some o ≡ false
      no-end true None goes e = refl
      no-end true (Some slot) goes e = absurd (true≢false e)
      no-end false o goes e = absurd (false≢true goes)

-- ---- a node without moves

module _ (plan : RunPlan) (w : Workflow) (outer : IsOuterPlan plan w) (v : View) (of_plan : IsViewOfPlan plan v)
    (told : List Told) (i : ℕ) (n : Node) (there : slice_get w.nodes i ≡ Some n) where
  abbrev p : PlanNode
  p = outer_node w (i, n)

  abbrev slot : SlotState
  slot = own_state v.state i

  abbrev planned : node_numbered plan i ≡ Some p
  planned = planned-at plan w outer i n there

  abbrev stands : Standing
  stands = standing_of plan v.state i

  module _ (quiet : node_moves plan v told (i, p) ≡ []) where
    -- in a broken run it is final
    pub stopped : is_broken plan v.state [] ≡ true → is_final slot.phase ≡ true
    stopped broken =
        abort-none slot.phase (nothing-made (move_at (Some i)) (abort_step slot.phase)
        (sym (node-broken plan w outer v of_plan i p planned told broken slot.phase refl) ∙ quiet))

    module _ (whole : is_broken plan v.state [] ≡ false) where
      -- ---- a node that isn't started

      -- the inputs of a node that is ready are known
      clear-ready : is_ready plan v.state i ≡ true → IsClear (inputs_of_node plan v.state p None)
      clear-ready go =
          let sources = all-passes (λ j. is_succeeded (phase_of v.state j)) (promised_numbers plan p)
          (ready-sources plan w outer i n there v.state of_plan.state go whole) in
          let asked : may_ask_inputs plan v.state i p ≡ true =
          or_left _ _ (and_from _ _ (and_from _ _ (going_on-outer plan w outer v.state) go) sources) in
          subst IsClear (sym (inputs-bound plan w outer i n there v.state))
          (clear-inputs plan w outer v.state of_plan.state i n there asked
          (its plan w outer i n there).1.interface.inputs (takes plan w outer i n there))

      module _ (fresh : slot.phase ≡ phase.NotYetStarted)
          (rested : (u : ℕ) → Contains (looks plan i) u → is_at_rest plan v.state u ≡ true)
          (small : i < length plan.nodes) where
        abbrev effect : Step → Bool
        effect s = is_some (node_effect plan v [] i p s)

        -- no first step is legal
        abbrev none : (effect step.Queue ≡ false) × (effect step.InputFail ≡ false) × (effect step.Skip ≡ false)
        none = first-none (effect step.Queue) (effect step.InputFail) (effect step.Skip)
            (nothing-made (move_at (Some i))
            (first_step (effect step.Queue) (effect step.InputFail) (effect step.Skip))
            (sym (node-first plan w outer v of_plan i p planned told whole fresh) ∙ quiet))

        refused : (s : Step) → effect s ≡ false
            → allowed plan w outer v of_plan i p planned phase.NotYetStarted [] s ≡ false
        refused s fails =
            sym (effect-there plan w outer v of_plan i p planned [] s
            ∙ ap (λ f. allowed plan w outer v of_plan i p planned f [] s) fresh) ∙ fails

        unawaited : is_waiting_standing stands ≡ false
        unawaited =
            ap is_waiting_standing (standing-fixed plan v.state outer.order outer.order_is i small
            ∙ by_outer plan v.state i p (standing_of plan v.state) planned (case-none plan w outer p))
            ∙ unawaited-among (signs_at v.state (standing_of plan v.state) (looks plan i))
            (no-sign is_waiting_standing v.state (standing_of plan v.state) (looks plan i) (λ u has.
            unawaited-sign (phase_of v.state u) (standing_of plan v.state u) (rested u has)))

        stuck : is_blocked_standing stands ≡ true
        stuck = by stands refl
          where
            by : (x : Standing) → stands ≡ x → is_blocked_standing stands ≡ true
            by blocked is = ap is_blocked_standing is
            by waiting is = absurd (true≢false (sym (ap is_waiting_standing is) ∙ unawaited))
            by skipped is =
                absurd (true≢false (sym (ap (λ x. is_skipped_standing x && true) is) ∙ refused step.Skip none.2))
            by ready is =
                let go = ap is_ready_standing is in
                let taken = inputs_of_node plan v.state p None in
                absurd (clear-there taken
                (clear-ready (and_from _ _ (ap is_not_yet_started fresh) go))
                (sym (ap (λ b. b && is_some (value_in taken)) go) ∙ refused step.Queue none.0)
                (sym (ap (λ b. b && is_some (fault_code taken)) go) ∙ refused step.InputFail none.1))

      -- ---- by its phase

      module _ (uncached : IsUncached plan) (unstored : is_succeeding slot.phase ≡ false)
          (ended : is_running slot.phase ≡ true → is_some (outcome_in v p None slot.attempt) ≡ true)
          (rested : (u : ℕ) → Contains (looks plan i) u → is_at_rest plan v.state u ≡ true)
          (small : i < length plan.nodes) where
        abbrev node : TaskNode plan v.state p
        node = task-node plan w outer v.state i p planned

        not-queued : slot.phase ≡ phase.Queued → ⊥
        not-queued is =
            let task = node.task in
            let answers = answers_in (told_of v told p) in
            let nothing : queued_step task.cached task.serializable answers ≡ None =
            nothing-made (move_at (Some i)) (queued_step task.cached task.serializable answers)
            (sym (node-queued plan w outer v of_plan i p planned told whole is) ∙ quiet) in
            none-some (step.Run None None)
            (sym nothing
            ∙ ap (λ b. queued_step b task.serializable answers) (uncached-task plan v.state p uncached node))

        not-running : slot.phase ≡ phase.Running → ⊥
        not-running is =
            let there_is = is_some (outcome_in v p None slot.attempt) in
            let nothing : where_true there_is (Some step.Settle) ≡ None =
            nothing-made (move_at (Some i)) (where_true there_is (Some step.Settle))
            (sym (node-running plan w outer v of_plan i p planned told whole is) ∙ quiet) in
            none-some step.Settle
            (sym nothing ∙ ap (λ b. where_true b (Some step.Settle)) (ended (ap is_running is)))

        not-retryable : slot.phase ≡ phase.RetryableFailure → ⊥
        not-retryable is =
            none-some step.Retry (sym (nothing-made (move_at (Some i)) (Some step.Retry)
            (sym (node-retry plan w outer v of_plan i p planned told whole is) ∙ quiet)))

        pub quiet-rests : is_at_rest plan v.state i ≡ true
        quiet-rests = by slot.phase refl
          where
            final : (f : Phase) → slot.phase ≡ f → is_final f ≡ true → is_at_rest plan v.state i ≡ true
            final f is ends = or_left _ _ (ap is_final is ∙ ends)

            by : (f : Phase) → slot.phase ≡ f → is_at_rest plan v.state i ≡ true
            by phase.NotYetStarted is =
                or_right _ _ (and_from _ _ (ap is_not_yet_started is) (stuck is rested small))
            by phase.Queued is = absurd (not-queued is)
            by phase.Running is = absurd (not-running is)
            by phase.RetryableFailure is = absurd (not-retryable is)
            by phase.Succeeding is = absurd (true≢false (sym (ap is_succeeding is) ∙ unstored))
            by phase.Succeeded is = final phase.Succeeded is refl
            by phase.Failed is = final phase.Failed is refl
            by phase.TimedOut is = final phase.TimedOut is refl
            by phase.Skipped is = final phase.Skipped is refl
            by phase.Aborted is = final phase.Aborted is refl
