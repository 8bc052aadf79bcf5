-- What a round of uncached tasks asks does not go by what was told; an attempt that runs and is not known is launched
-- by its question.
use Rattle.std.proofs.Common.{◌≡◌, ⊎_elim, ℕ, ◌+◌, ◌<◌, ◌==◌, Bool, true, false, not, ◌&&◌, ◌||◌, cond, List, [], ◌∷◌, ◌++◌, flat_map, filter_map, length, take, Option, Some, None, Ok, Err, option_map, option_to_list, unwrap_or, is_ok, refl, sym, ◌∙◌, ap, subst, arith}
use Rattle.std.specs.List.{slice_get, list_any, enumerate_from}
use Rattle.std.proofs.lemmas.Bool.{and_from, cases_Bool, eq-eqb, eqb-true, false≢true, true≢false, or_left, or_right}
use Rattle.std.proofs.lemmas.Option.{none-some, slice_get_cases, slice_get_within}
use Rattle.fly_types.specs.declared.literals.LiteralMap.{LiteralMap}
use Rattle.fly_types.proofs.SameLemmas.{same_map-Decides}
use Rattle.fly_docs.specs.declared.attempt_name.AttemptName.{AttemptName}
use Rattle.fly_docs.specs.declared.node.Node.{Node}
use Rattle.fly_docs.specs.declared.node.Case.{Case}
use Rattle.fly_docs.specs.declared.node.Target.{Target, out-Target}
use Rattle.fly_docs.specs.declared.node.Target.TheOpen.{Target-F}
use Rattle.fly_docs.specs.declared.task.Task.{Task}
use Rattle.fly_docs.specs.declared.workflow.Workflow.{Workflow}
use Rattle.fly_docs.specs.Lookups.{is_same}
use Rattle.fly_docs.specs.Plans.{PlanNode}
use Rattle.fly_docs.specs.SlotInputs.{Taken}
use Rattle.fly_state.specs.declared.phase.Phase.{Phase}
use Rattle.fly_state.specs.declared.phase.Phase.TheVariants as phase
use Rattle.fly_state.specs.declared.slots.SlotState.{SlotState}
use Rattle.fly_state.specs.declared.slots.NodeState.{NodeState}
use Rattle.fly_state.specs.declared.slots.ExecState.{ExecState}
use Rattle.fly_state.specs.declared.entries.Entry.{Entry}
use Rattle.fly_state.specs.declared.entries.Op.TheVariants as op
use Rattle.fly_state.specs.declared.entries.Reply.{Reply}
use Rattle.fly_state.specs.declared.entries.Reply.TheVariants as reply
use Rattle.fly_state.specs.declared.moves.Step.TheVariants as step
use Rattle.fly_state.specs.declared.view.View.{View}
use Rattle.fly_state.specs.Inputs.{inputs_of_node, inputs_at, value_in}
use Rattle.fly_state.specs.Laws.{slot_at}
use Rattle.fly_state.specs.Moves.{where_true}
use Rattle.fly_state.specs.OfPlan.{IsViewOfPlan}
use Rattle.fly_state.specs.PlanTables.{IsOuterPlan}
use Rattle.fly_state.specs.Plans.{RunPlan, node_numbered, number_of, instance_of, is_task, task_of, task_target}
use Rattle.fly_state.specs.States.{fresh_node, node_state, own_state, phase_of, is_running, is_broken}
use Rattle.fly_state.proofs.AskedInputs.{found-in}
use Rattle.fly_state.proofs.TaskNodes.{task-node}
use Rattle.fly_round.specs.declared.told.Told.{Told}
use Rattle.fly_round.specs.Attempts.{is_number}
use Rattle.fly_round.specs.Moves.{node_moves, root_moves, round_moves}
use Rattle.fly_round.specs.Questions.{Question, launch, reserve, is_missed, is_reserved, known_attempt, question_by, first_question, first_in, second_question, second_in, item_question, node_questions, questions}
use Rattle.fly_round.specs.Steps.{move_at}
use Rattle.fly_round.proofs.ComeLemmas.{numbered-at}
use Rattle.fly_round.proofs.Lists.{slice_get-flat_map, slice_get-front}
use Rattle.fly_round.proofs.PathLemmas.{path-number, path-same}
use Rattle.fly_round.proofs.StepLemmas.{node-broken}
use Rattle.fly_world.specs.World.{World, Execution, execution_named, is_launched}
use Rattle.fly_world.specs.Called.{entry_of}
use Rattle.fly_world.specs.Changes.{with_change, with_entry, adds_launch}
use Rattle.fly_world.specs.Journals.{Step}
use Rattle.fly_world.specs.Spots.{Spot, are_ids, has_attempts, attempt_spot, is_value, runs, has_inputs}
use Rattle.fly_world.specs.Steps.{Answer, says, does, step as step_of, first_fitting, if_known, launched}
use Rattle.fly_world.proofs.AnswerLemmas.{tested, allowed}
use Rattle.fly_world.proofs.LaunchLemmas.{name_of_launch}
use Rattle.fly_work.specs.Drives.{IsUncached}
use Rattle.fly_work.proofs.AttemptSteps.{name-last}
use Rattle.fly_work.proofs.AttemptSpots.{answered, spot-there}
use Rattle.fly_work.proofs.ViewLaunches.{IsOwn}

-- ---- questions

module _ (plan : RunPlan) (uncached : IsUncached plan) where
  plain-task : (p : PlanNode) (t : Task) → task_of plan p ≡ Some t → t.cached ≡ false
  plain-task p t is = by (out-Target p.node.target) is
    where
      by : (layer : Target-F Target Case Node) → task_target plan.documents layer ≡ Some t → t.cached ≡ false
      by (Target-F.Task id) there =
          let has = (found-in (λ (x : Task). is_same x.id id) plan.documents.tasks t there).0 in
          sym (ap (λ (x : Task). x.cached) has.2) ∙ uncached has.0 t has.1
      by (Target-F.Workflow id) there = absurd (none-some t there)
      by (Target-F.Array id min_successes) there = absurd (none-some t there)
      by (Target-F.Branch cases otherwise error) there = absurd (none-some t there)

  never-reserved : (p : PlanNode) → is_reserved plan p ≡ false
  never-reserved p = by (task_of plan p) refl
    where
      by : (o : Option Task) → task_of plan p ≡ o
          → list_any (λ (t : Task). t.cached && t.serializable) (option_to_list o) ≡ false
      by None is = refl
      by (Some t) is = ap (λ b. (b && t.serializable) || false) (plain-task p t is)

  second-none : (missed : Bool) (at : ℕ × PlanNode) (f : Phase) → second_in plan missed at f ≡ None
  second-none missed at phase.Queued =
      ap (λ b. where_true (b && missed) (Some (reserve at.1.path))) (never-reserved at.1)
  second-none missed at phase.Running = ap (λ b. where_true b (Some (reserve at.1.path))) (never-reserved at.1)
  second-none missed at _ = refl

  module _ (v : View) (told : List Told) where
    node-same : (at : ℕ × PlanNode) → node_questions plan v told at ≡ node_questions plan v [] at
    node-same at =
        let asked : Option Question → List Question =
        λ o. cond (is_broken plan v.state (instance_of at.1)) []
        (option_to_list (first_question plan v at) ++ option_to_list o
        ++ filter_map (item_question plan v at.1) (enumerate_from 0 (node_state v.state at.0).items)) in
        ap asked (second-none (is_missed v told at.1) at (phase_of v.state at.0)
        ∙ sym (second-none (is_missed v [] at.1) at (phase_of v.state at.0)))

    -- what is asked does not go by what was told
    pub questions-same : questions plan v told ≡ questions plan v []
    questions-same = λ k. flat_map (λ at. node-same at k) (enumerate_from 0 plan.nodes)

-- ---- an attempt that runs

-- A node that runs an attempt with these inputs.
pub record IsWanted (plan : RunPlan) (v : View) (number : ℕ) (p : PlanNode) (inputs : LiteralMap) : Type 0 where
  pub planned : node_numbered plan number ≡ Some p
  pub runs : is_running (phase_of v.state number) ≡ true
  pub task : is_task p.node ≡ true
  pub value : inputs_of_node plan v.state p None ≡ Ok inputs

abbrev pub attempt_at : View → ℕ → ℕ
attempt_at v number = (own_state v.state number).attempt

running-is : (f : Phase) → is_running f ≡ true → f ≡ phase.Running
running-is phase.Running e = refl
running-is _ e = absurd (false≢true e)

ok-there : {X : Type 0} (t : Taken X) → is_ok t ≡ true → (x : X) × (t ≡ Ok x)
ok-there (Ok x) e = (x, refl)
ok-there (Err fault) e = absurd (false≢true e)

module _ (plan : RunPlan) (f : Workflow) (outer : IsOuterPlan plan f) (v : View) (of_plan : IsViewOfPlan plan v) where
  -- a node that runs has inputs
  pub wanted-there : (number : ℕ) (p : PlanNode) → node_numbered plan number ≡ Some p
      → is_running (phase_of v.state number) ≡ true → is_task p.node ≡ true
      → (inputs : LiteralMap) × IsWanted plan v number p inputs
  wanted-there number p planned goes task =
      let node = of_plan.state.nodes number p planned in
      let ok = node.faultless (or_left _ _ (or_right _ _ goes)) in
      let inputs = ok-there (inputs_of_node plan v.state p None) ok in
      (inputs.0, record { planned = planned; runs = goes; task = task; value = inputs.1 })

  -- a run in which a node runs and no move is legal isn't broken
  pub quiet-whole : (told : List Told) (number : ℕ) (p : PlanNode) → node_numbered plan number ≡ Some p
      → is_running (phase_of v.state number) ≡ true → round_moves plan v told ≡ [] → is_broken plan v.state [] ≡ false
  quiet-whole told number p planned goes quiet =
      ⊎_elim (λ broken. absurd (aborts broken)) (λ whole. whole) (cases_Bool (is_broken plan v.state []))
    where
      aborts : is_broken plan v.state [] ≡ true → ⊥
      aborts broken =
          let m = move_at (Some number) step.Abort in
          let moves = node_moves plan v told in
          let all = enumerate_from 0 plan.nodes in
          let own : slice_get (moves (number, p)) 0 ≡ Some m =
          ap (λ ms. slice_get ms 0)
          (node-broken plan f outer v of_plan number p planned told broken phase.Running
          (running-is (phase_of v.state number) goes)) in
          let there = slice_get-flat_map moves all number (number, p) 0 m
          (numbered-at plan f outer v of_plan number p planned) own in
          let k = length (flat_map moves (take number all)) + 0 in
          none-some m
          (sym (ap (λ ms. slice_get ms k) quiet) ∙ slice_get-front (flat_map moves all) (root_moves plan v) k m there)

  module _ (whole : is_broken plan v.state [] ≡ false) (number : ℕ) (p : PlanNode) (inputs : LiteralMap)
      (wanted : IsWanted plan v number p inputs) (unknown : known_attempt v p None (attempt_at v number) ≡ None) where
    abbrev question : Question
    question = launch p.path None (attempt_at v number) inputs

    first-is : first_question plan v (number, p) ≡ Some question
    first-is =
        ap (first_in plan v (number, p)) (running-is (phase_of v.state number) wanted.runs)
        ∙ ap (λ b. where_true b (question_by plan v p None (attempt_at v number)
        (known_attempt v p None (attempt_at v number)))) wanted.task
        ∙ ap (question_by plan v p None (attempt_at v number)) unknown
        ∙ ap (λ t. option_map (launch p.path None (attempt_at v number)) (value_in t)) wanted.value

    -- its launch is asked
    pub launch-asked : (j : ℕ) × (slice_get (questions plan v []) j ≡ Some question)
    launch-asked =
        let ask = node_questions plan v [] in
        let all = enumerate_from 0 plan.nodes in
        let second = option_to_list (second_question plan v [] (number, p)) in
        let of_items = filter_map (item_question plan v p) (enumerate_from 0 (node_state v.state number).items) in
        let inside = (task-node plan f outer v.state number p wanted.planned).inside in
        let own : slice_get (ask (number, p)) 0 ≡ Some question =
        ap (λ b. slice_get (cond b [] ((option_to_list (first_question plan v (number, p)) ++ second) ++ of_items)) 0)
        (ap (is_broken plan v.state) inside ∙ whole)
        ∙ ap (λ o. slice_get ((option_to_list o ++ second) ++ of_items) 0) first-is in (
          length (flat_map ask (take number all)) + 0,
          slice_get-flat_map ask all number (number, p) 0 question
              (numbered-at plan f outer v of_plan number p wanted.planned) own,
        )

  -- ---- its launch

  module _ (w : World) (at : ℕ × Execution) (named : execution_named w v.name ≡ Some at) (state : v.state ≡ at.1.state)
      (number : ℕ) (p : PlanNode) (inputs : LiteralMap) (wanted : IsWanted plan v number p inputs)
      (name : AttemptName) (own : IsOwn v.name p (attempt_at v number) name) where
    abbrev spot : Spot
    spot = record { execution = at; number = number; node = p }

    numbered : number_of plan p.path ≡ Some number
    numbered = by (number_of plan p.path)
        (sym (path-number plan f outer number p p.path wanted.planned) ∙ path-same p.path p.path refl)
      where
        by : (o : Option ℕ) → is_number number o ≡ true → o ≡ Some number
        by None e = absurd (false≢true e)
        by (Some k) e = ap Some (sym (eqb-true number k e))

    spot-is : attempt_spot plan w name ≡ Some spot
    spot-is =
        spot-there plan w name at number p (subst (λ n. execution_named w n ≡ Some at) (sym own.exec_is) named)
        (subst (λ path. number_of plan path ≡ Some number) (sym own.path_is) numbered) wanted.planned
        (subst (λ item. has_attempts p.node item ≡ true) (sym own.item_is) wanted.task)

    own-slot : slot_at at.1.state (record { node = Some number; item = None }) ≡ Some (own_state at.1.state number)
    own-slot =
        ⊎_elim
        (λ found. ap (option_map (λ (n : NodeState). n.own)) found.2
        ∙ sym (ap (λ (o : Option NodeState). Some (unwrap_or o fresh_node).own) found.2))
        (λ past. absurd (omega (arith, past.0, long))) (slice_get_cases at.1.state.nodes number).1
      where
        long : number < length at.1.state.nodes
        long =
            let within = slice_get_within plan.nodes number p wanted.planned in
            let count = of_plan.state.count in
            subst (λ (s : ExecState). number < length s.nodes) state (omega (arith, within, count))

    runs-there : runs spot name ≡ true
    runs-there =
        let test : SlotState → Bool = λ slot. is_running slot.phase && (slot.attempt == name.attempt) in
        ap (λ item. list_any test (option_to_list
        (slot_at at.1.state (record { node = Some number; item = item })))) own.item_is
        ∙ ap (λ o. list_any test (option_to_list o)) own-slot
        ∙ or_left _ _
        (and_from _ _ (subst (λ (s : ExecState). is_running (phase_of s number) ≡ true) state wanted.runs)
        (eq-eqb (own_state at.1.state number).attempt name.attempt
        (ap (λ (s : ExecState). (own_state s number).attempt) (sym state) ∙ sym own.attempt_is)))

    inputs-there : has_inputs plan spot name inputs ≡ true
    inputs-there =
        ap (λ item. is_value (inputs_at plan at.1.state
        (record { node = Some number; item = item })) inputs) own.item_is
        ∙ ap (λ t. is_value t inputs) at-node
        ∙ (same_map-Decides inputs inputs).1 refl
      where
        at-node : inputs_at plan at.1.state (record { node = Some number; item = None }) ≡ Ok inputs
        at-node =
            let planned = wanted.planned in
            let here : inputs_at plan at.1.state
            (record { node = Some number; item = None }) ≡ inputs_of_node plan at.1.state p None =
            rw planned refl in
            here ∙ subst (λ (s : ExecState). inputs_of_node plan s p None ≡ Ok inputs) state wanted.value

    module _ (worker : ℕ) (r : Reply) where
      abbrev e : Entry
      e = entry_of worker (op.Launch name inputs) r

      abbrev Launches : Answer → Type 0
      Launches a = is_launched (with_entry (with_change w a.change) e) name ≡ true

      launched-at : Launches (launched plan w name inputs spot)
      launched-at =
          let done : Answer = does reply.Launched (adds_launch name inputs) in
          let idle = not (runs spot name) in
          let other = not (has_inputs plan spot name inputs) in
          tested Launches (is_launched w name) (says reply.Already)
          (first_fitting ((idle, says reply.NotRunning) ∷ (other, says reply.BadInputs) ∷ []) done) (λ there. there)
          (λ free. tested Launches idle (says reply.NotRunning)
          (first_fitting ((other, says reply.BadInputs) ∷ []) done)
          (λ idles. absurd (true≢false (sym idles ∙ ap not runs-there)))
          (λ yes. tested Launches other (says reply.BadInputs) done
          (λ differs. absurd (true≢false (sym differs ∙ ap not inputs-there)))
          (λ right. name-last name_of_launch name w.launches
          (record { name = name; inputs = inputs; place = length w.entries }) refl)))

      launched-step : (a : Answer) → step_of plan w worker (op.Launch name inputs) ≡ Some a → Launches a
      unfolding step_of
      launched-step a is =
          allowed Launches (are_ids name.exec name.path)
          (if_known (launched plan w name inputs) (attempt_spot plan w name)) a is
          (subst (λ o. Launches (if_known (launched plan w name inputs) o)) (sym spot-is) launched-at)

      -- the attempt is launched behind its question, where there is memory
      pub launch-launches : (new : World) → Step plan w e new → (r ≡ reply.NoMemory → ⊥) → is_launched new name ≡ true
      launch-launches new s found =
          let done = answered plan w new e s found in
          subst (λ u. is_launched u name ≡ true) (sym done.world_is) (launched-step done.answer done.is)
