-- Which steps of a task node are legal, by its phase and by what was told of it.
use Rattle.std.proofs.Common.{◌≡◌, ℕ, Bool, true, false, not, ◌&&◌, ◌||◌, cond, if◌then◌else◌, List, [], ◌∷◌, ◌++◌, map, filter, flat_map, length, Option, Some, None, option_map, option_and_then, option_to_list, is_some, Ok, Err, refl, sym, ◌∙◌, ap}
use Rattle.std.specs.List.{enumerate_from, list_any}
use Rattle.std.proofs.lemmas.Bool.{false≢true}
use Rattle.std.proofs.lemmas.List.{map-append}
use Rattle.std.proofs.lemmas.List.Elements.{filter-append}
use Rattle.fly_types.specs.declared.literals.LiteralMap.{LiteralMap}
use Rattle.fly_docs.specs.declared.node.Target.{out-Target}
use Rattle.fly_docs.specs.declared.task.Task.{Task}
use Rattle.fly_docs.specs.declared.workflow.Workflow.{Workflow}
use Rattle.fly_docs.specs.Plans.{PlanNode, is_array_target}
use Rattle.fly_docs.specs.SlotInputs.{Taken}
use Rattle.fly_rules.specs.Standing as standings
use Rattle.fly_rules.specs.Standing.{Standing, is_ready_standing, is_skipped_standing}
use Rattle.fly_state.specs.declared.phase.Phase.{Phase}
use Rattle.fly_state.specs.declared.phase.Phase.TheVariants as phase
use Rattle.fly_state.specs.declared.slots.SlotState.{SlotState}
use Rattle.fly_state.specs.declared.moves.Move.{Move}
use Rattle.fly_state.specs.declared.moves.Step.{Step}
use Rattle.fly_state.specs.declared.moves.Step.TheVariants as step
use Rattle.fly_state.specs.declared.entries.Entry.{Entry}
use Rattle.fly_state.specs.declared.entries.Op.{Op}
use Rattle.fly_state.specs.declared.entries.Op.TheVariants as op
use Rattle.fly_state.specs.declared.entries.Reply.{Reply}
use Rattle.fly_state.specs.declared.entries.Reply.TheVariants as reply
use Rattle.fly_state.specs.declared.view.View.{View}
use Rattle.fly_state.specs.OfPlan.{IsViewOfPlan}
use Rattle.fly_state.specs.Inputs.{inputs_of_node, value_in, fault_code}
use Rattle.fly_state.specs.Moves.{of_slot, where_true, is_queued, is_succeeding, is_retryable, is_cached, is_on, is_miss, is_grant, is_stored, hit_content, may_run, outcome_in, run_slot, queued_slot, input_failed_slot, skipped_slot, run_task_effect, run_array_effect, hit_slot, stored_slot, retried_slot, settled_slot, success_phase, aborted_slot, node_effect, may_step, is_legal}
use Rattle.fly_state.specs.PlanTables.{IsOuterPlan}
use Rattle.fly_state.specs.Plans.{RunPlan, node_numbered, instance_of, case_nodes_in}
use Rattle.fly_state.specs.Rounds.{CitedMove}
use Rattle.fly_state.specs.Standing.{standing_of}
use Rattle.fly_state.specs.States.{own_state, is_final, is_not_yet_started, is_running, is_broken}
use Rattle.fly_state.proofs.MoveLemmas.{queued-there, failed-there, settled-there, no-begin, no-choose, no-no_case, no-close}
use Rattle.fly_state.proofs.OuterPlans.{going_on-outer}
use Rattle.fly_state.proofs.TaskNodes.{TaskNode, task-node}
use Rattle.fly_round.specs.declared.told.Told.{Told}
use Rattle.fly_round.specs.declared.answers.CatalogAnswer.TheVariants as answer
use Rattle.fly_round.specs.declared.answers.NodeAnswers.TheVariants as answers
use Rattle.fly_round.specs.Questions.{entry_of}
use Rattle.fly_round.specs.Moves.{is_about, told_of, plain_steps, citing_steps, cited_move, slot_moves, at_node, at_item, node_moves}
use Rattle.fly_round.specs.Answers.{answer_in, answers_in}
use Rattle.fly_round.specs.Steps.{move_at, first_step, queued_step, stored_step, abort_step}
use Rattle.fly_round.proofs.ComeLemmas.{no-items}
use Rattle.fly_round.proofs.Lists.{append-nothing}

some-map : {X Y : Type 0} (f : X → Y) (o : Option X) → is_some (option_map f o) ≡ is_some o
some-map f None = refl
some-map f (Some x) = refl

some-where : {X : Type 0} (b : Bool) (o : Option X) → is_some (where_true b o) ≡ b && is_some o
some-where true o = refl
some-where false o = refl

filter-same : {X : Type 0} (f g : X → Bool) (xs : List X) → ((x : X) → f x ≡ g x) → filter f xs ≡ filter g xs
filter-same f g [] same = refl
filter-same f g (x ∷ xs) same =
    ap (λ b. cond b (x ∷ filter f xs) (filter f xs)) (same x)
    ∙ ap (λ ys. cond (g x) (x ∷ ys) ys) (filter-same f g xs same)

-- ---- what was told of a node is on its outputs

abbrev pub AllAbout : View → PlanNode → List Told → Type 0
AllAbout v p [] = Unit {0}
AllAbout v p (t ∷ ts) = (is_about v p t.op ≡ true) × AllAbout v p ts

pub told-about : (v : View) (p : PlanNode) (ts : List Told) → AllAbout v p (told_of v ts p)
told-about v p [] = tt
told-about v p (t ∷ ts) = by (told-about v p ts) (is_about v p t.op) refl
  where
    by : AllAbout v p (told_of v ts p) → (b : Bool) → is_about v p t.op ≡ b → AllAbout v p (cond b (t ∷ told_of v ts p) (told_of v ts p))
    by rest true e = (e, rest)
    by rest false e = rest

-- ---- steps that a node's slot allows

abbrev may : Bool → Step → Bool
may b step.Abort = b
may b _ = not b

module _ (v : View) (p : PlanNode) (t : Task) (ready skips value fault outcome : Bool) where
  abbrev hit_there : Phase → List Entry → Bool
  hit_there f [] = false
  hit_there f (e ∷ []) = (is_queued f && (t.cached || false)) && is_some (hit_content v p e)
  hit_there f (e ∷ d ∷ es) = false

  abbrev stored_there : Phase → List Entry → Bool
  stored_there f [] = false
  stored_there f (e ∷ []) = (is_succeeding f && is_stored v p e) && true
  stored_there f (e ∷ d ∷ es) = false

  abbrev there : Phase → List Entry → Step → Bool
  there f es step.Begin = false
  there f es step.Queue = (is_not_yet_started f && ready) && value
  there f es (step.Choose case) = false
  there f es step.NoCase = false
  there f es step.InputFail = (is_not_yet_started f && ready) && fault
  there f es step.Skip = (is_not_yet_started f && skips) && true
  there f es (step.Run miss lease) = is_queued f && (may_run v p t miss lease es && true)
  there f es (step.Hit place) = hit_there f es
  there f es step.Retry = is_retryable f && true
  there f es step.Settle = is_running f && outcome
  there f es (step.Stored place) = stored_there f es
  there f es step.Close = false
  there f es step.Abort = not (is_final f) && true

  abbrev cited : Bool → Phase → List Told → List Step
  cited b f mine = filter (λ s. may b s && there f (map entry_of mine) s) (citing_steps mine)

  abbrev pub steps : Bool → Phase → List Told → List Step
  steps b f mine = filter (λ s. may b s && there f [] s) (plain_steps 0) ++ cited b f mine

  -- ---- in a broken run

  cited-broken : (f : Phase) (mine : List Told) → cited true f mine ≡ []
  cited-broken f [] = refl
  cited-broken f (a ∷ []) = refl
  cited-broken f (a ∷ b ∷ []) = refl
  cited-broken f (a ∷ b ∷ c ∷ more) = refl

  pub steps-broken : (f : Phase) (mine : List Told) → steps true f mine ≡ option_to_list (abort_step f)
  steps-broken phase.NotYetStarted mine = ap (λ xs. step.Abort ∷ xs) (cited-broken phase.NotYetStarted mine)
  steps-broken phase.Queued mine = ap (λ xs. step.Abort ∷ xs) (cited-broken phase.Queued mine)
  steps-broken phase.Running mine = ap (λ xs. step.Abort ∷ xs) (cited-broken phase.Running mine)
  steps-broken phase.RetryableFailure mine = ap (λ xs. step.Abort ∷ xs) (cited-broken phase.RetryableFailure mine)
  steps-broken phase.Succeeding mine = ap (λ xs. step.Abort ∷ xs) (cited-broken phase.Succeeding mine)
  steps-broken phase.Succeeded mine = cited-broken phase.Succeeded mine
  steps-broken phase.Failed mine = cited-broken phase.Failed mine
  steps-broken phase.TimedOut mine = cited-broken phase.TimedOut mine
  steps-broken phase.Skipped mine = cited-broken phase.Skipped mine
  steps-broken phase.Aborted mine = cited-broken phase.Aborted mine

  -- ---- where nothing is cited

  cited-none : (f : Phase) → is_queued f ≡ false → is_succeeding f ≡ false → (mine : List Told) → cited false f mine ≡ []
  cited-none f q s [] = refl
  cited-none f q s (a ∷ []) =
      ap (λ b. filter (λ x. keeps b (is_succeeding f) x) (citing_steps (a ∷ []))) q
      ∙ ap (λ b. filter (λ x. keeps false b x) (citing_steps (a ∷ []))) s
    where
      keeps : Bool → Bool → Step → Bool
      keeps queued succeeding (step.Run miss lease) = queued && (may_run v p t miss lease (entry_of a ∷ []) && true)
      keeps queued succeeding (step.Hit place) = (queued && (t.cached || false)) && is_some (hit_content v p (entry_of a))
      keeps queued succeeding (step.Stored place) = (succeeding && is_stored v p (entry_of a)) && true
      keeps queued succeeding _ = false
  cited-none f q s (a ∷ b ∷ []) =
      ap (λ x. cond (x && (may_run v p t (Some a.place) (Some b.place) (entry_of a ∷ entry_of b ∷ []) && true))
      (step.Run (Some a.place) (Some b.place) ∷ []) []) q
  cited-none f q s (a ∷ b ∷ c ∷ more) = refl

  pub steps-retry : (mine : List Told) → steps false phase.RetryableFailure mine ≡ step.Retry ∷ []
  steps-retry mine = ap (λ xs. step.Retry ∷ xs) (cited-none phase.RetryableFailure refl refl mine)

  pub steps-final : (f : Phase) → is_final f ≡ true → (mine : List Told) → steps false f mine ≡ []
  steps-final phase.Succeeded e mine = cited-none phase.Succeeded refl refl mine
  steps-final phase.Failed e mine = cited-none phase.Failed refl refl mine
  steps-final phase.TimedOut e mine = cited-none phase.TimedOut refl refl mine
  steps-final phase.Skipped e mine = cited-none phase.Skipped refl refl mine
  steps-final phase.Aborted e mine = cited-none phase.Aborted refl refl mine
  steps-final _ e mine = absurd (false≢true e)

-- ---- a node that runs

pub steps-running : (v : View) (p : PlanNode) (t : Task) (ready skips value fault outcome : Bool) (mine : List Told)
    → steps v p t ready skips value fault outcome false phase.Running mine ≡ option_to_list (where_true outcome (Some step.Settle))
steps-running v p t ready skips value fault true mine =
    ap (λ xs. step.Settle ∷ xs) (cited-none v p t ready skips value fault true phase.Running refl refl mine)
steps-running v p t ready skips value fault false mine = cited-none v p t ready skips value fault false phase.Running refl refl mine

-- ---- a node that isn't started

module _ (v : View) (p : PlanNode) (t : Task) (outcome : Bool) (mine : List Told) where
  pub steps-first : (ready skips value fault : Bool) → ready && skips ≡ false → value && fault ≡ false
      → steps v p t ready skips value fault outcome false phase.NotYetStarted mine
      ≡ option_to_list (first_step (ready && value) (ready && fault) (skips && true))
  steps-first true true value fault e d = absurd (false≢true (sym e))
  steps-first ready skips true true e d = absurd (false≢true (sym d))
  steps-first true false true false e d =
      ap (λ xs. step.Queue ∷ xs) (cited-none v p t true false true false outcome phase.NotYetStarted refl refl mine)
  steps-first true false false true e d =
      ap (λ xs. step.InputFail ∷ xs) (cited-none v p t true false false true outcome phase.NotYetStarted refl refl mine)
  steps-first true false false false e d = cited-none v p t true false false false outcome phase.NotYetStarted refl refl mine
  steps-first false true true false e d =
      ap (λ xs. step.Skip ∷ xs) (cited-none v p t false true true false outcome phase.NotYetStarted refl refl mine)
  steps-first false true false true e d =
      ap (λ xs. step.Skip ∷ xs) (cited-none v p t false true false true outcome phase.NotYetStarted refl refl mine)
  steps-first false true false false e d =
      ap (λ xs. step.Skip ∷ xs) (cited-none v p t false true false false outcome phase.NotYetStarted refl refl mine)
  steps-first false false true false e d = cited-none v p t false false true false outcome phase.NotYetStarted refl refl mine
  steps-first false false false true e d = cited-none v p t false false false true outcome phase.NotYetStarted refl refl mine
  steps-first false false false false e d = cited-none v p t false false false false outcome phase.NotYetStarted refl refl mine

-- ---- a node that is queued

module _ (v : View) (p : PlanNode) where
  abbrev entry : Op → Reply → Entry
  entry o r = record { worker = 0; op = o; reply = r }

  abbrev ran_or_hit : ℕ → Bool → Bool → List Step
  ran_or_hit k miss hit = cond (miss && true) (step.Run (Some k) None ∷ cond hit (step.Hit k ∷ []) []) (cond hit (step.Hit k ∷ []) [])

  queued-one : (o : Op) (r : Reply) (k : ℕ) → is_about v p o ≡ true
      → ran_or_hit k (is_miss v p (entry o r)) (is_some (hit_content v p (entry o r)))
      ≡ option_to_list (queued_step true false (answers.One (answer_in k r o)))
  queued-one (op.Lookup exec path) reply.Miss k e = ap (λ b. ran_or_hit k b false) e
  queued-one (op.Lookup exec path) (reply.Hit content) k e = ap (λ b. ran_or_hit k false (is_some (where_true b (Some content)))) e
  queued-one (op.Lookup exec path) _ k e = refl
  queued-one (op.Reserve exec path) (reply.Granted expiry) k e = refl
  queued-one (op.Reserve exec path) _ k e = refl
  queued-one (op.Put exec path) reply.Stored k e = refl
  queued-one (op.Put exec path) reply.Present k e = refl
  queued-one (op.Put exec path) _ k e = refl
  queued-one _ r k e = refl

  queued-hit : (o : Op) (r : Reply) (k : ℕ) → is_about v p o ≡ true
      → ran_or_hit k false (is_some (hit_content v p (entry o r)))
      ≡ option_to_list (queued_step true true (answers.One (answer_in k r o)))
  queued-hit (op.Lookup exec path) reply.Miss k e = refl
  queued-hit (op.Lookup exec path) (reply.Hit content) k e = ap (λ b. ran_or_hit k false (is_some (where_true b (Some content)))) e
  queued-hit (op.Lookup exec path) _ k e = refl
  queued-hit (op.Reserve exec path) (reply.Granted expiry) k e = refl
  queued-hit (op.Reserve exec path) _ k e = refl
  queued-hit (op.Put exec path) reply.Stored k e = refl
  queued-hit (op.Put exec path) reply.Present k e = refl
  queued-hit (op.Put exec path) _ k e = refl
  queued-hit _ r k e = refl

  abbrev ran_with : ℕ → ℕ → Bool → Bool → List Step
  ran_with k l miss grant = cond ((miss && grant) && true) (step.Run (Some k) (Some l) ∷ []) []

  queued-granted : (miss : Bool) → miss ≡ true → (o : Op) (r : Reply) (k l : ℕ) → is_about v p o ≡ true
      → ran_with k l miss (is_grant v p (entry o r))
      ≡ option_to_list (queued_step true true (answers.Two (answer.Missed k) (answer_in l r o)))
  queued-granted miss m (op.Reserve exec path) (reply.Granted expiry) k l e = ap (λ b. ran_with k l b (is_on v p exec path)) m ∙ ap (λ b. ran_with k l true b) e
  queued-granted miss m (op.Reserve exec path) _ k l e = ap (λ b. ran_with k l b false) m
  queued-granted miss m (op.Lookup exec path) reply.Miss k l e = ap (λ b. ran_with k l b false) m
  queued-granted miss m (op.Lookup exec path) (reply.Hit content) k l e = ap (λ b. ran_with k l b false) m
  queued-granted miss m (op.Lookup exec path) _ k l e = ap (λ b. ran_with k l b false) m
  queued-granted miss m (op.Put exec path) reply.Stored k l e = ap (λ b. ran_with k l b false) m
  queued-granted miss m (op.Put exec path) reply.Present k l e = ap (λ b. ran_with k l b false) m
  queued-granted miss m (op.Put exec path) _ k l e = ap (λ b. ran_with k l b false) m
  queued-granted miss m _ r k l e = ap (λ b. ran_with k l b false) m

  queued-two : (o : Op) (r : Reply) (o2 : Op) (r2 : Reply) (k l : ℕ) → is_about v p o ≡ true → is_about v p o2 ≡ true
      → ran_with k l (is_miss v p (entry o r)) (is_grant v p (entry o2 r2))
      ≡ option_to_list (queued_step true true (answers.Two (answer_in k r o) (answer_in l r2 o2)))
  queued-two (op.Lookup exec path) reply.Miss o2 r2 k l e d = queued-granted (is_on v p exec path) e o2 r2 k l d
  queued-two (op.Lookup exec path) (reply.Hit content) o2 r2 k l e d = refl
  queued-two (op.Lookup exec path) _ o2 r2 k l e d = refl
  queued-two (op.Reserve exec path) (reply.Granted expiry) o2 r2 k l e d = refl
  queued-two (op.Reserve exec path) _ o2 r2 k l e d = refl
  queued-two (op.Put exec path) reply.Stored o2 r2 k l e d = refl
  queued-two (op.Put exec path) reply.Present o2 r2 k l e d = refl
  queued-two (op.Put exec path) _ o2 r2 k l e d = refl
  queued-two _ r o2 r2 k l e d = refl

  module _ (t : Task) (ready skips value fault outcome : Bool) where
    queued-by : (cached serializable : Bool) (mine : List Told) → AllAbout v p mine
        → steps v p (record t { cached = cached; serializable = serializable }) ready skips value fault outcome false phase.Queued mine
        ≡ option_to_list (queued_step cached serializable (answers_in mine))
    queued-by false false [] h = refl
    queued-by false false (a ∷ []) h = refl
    queued-by false false (a ∷ b ∷ []) h = refl
    queued-by false false (a ∷ b ∷ c ∷ more) h = refl
    queued-by false true [] h = refl
    queued-by false true (a ∷ []) h = refl
    queued-by false true (a ∷ b ∷ []) h = refl
    queued-by false true (a ∷ b ∷ c ∷ more) h = refl
    queued-by true false [] h = refl
    queued-by true false (a ∷ []) h = queued-one a.op a.reply a.place h.0
    queued-by true false (a ∷ b ∷ []) h = refl
    queued-by true false (a ∷ b ∷ c ∷ more) h = refl
    queued-by true true [] h = refl
    queued-by true true (a ∷ []) h = queued-hit a.op a.reply a.place h.0
    queued-by true true (a ∷ b ∷ []) h = queued-two a.op a.reply b.op b.reply a.place b.place h.0 h.1.0
    queued-by true true (a ∷ b ∷ c ∷ more) h = refl

    pub steps-queued : (mine : List Told) → AllAbout v p mine
        → steps v p t ready skips value fault outcome false phase.Queued mine
        ≡ option_to_list (queued_step t.cached t.serializable (answers_in mine))
    steps-queued mine h = queued-by t.cached t.serializable mine h

    -- ---- a node whose outputs are being stored

    abbrev stored : ℕ → Bool → List Step
    stored k b = cond (b && true) (step.Stored k ∷ []) []

    stored-one : (o : Op) (r : Reply) (k : ℕ) → is_about v p o ≡ true
        → stored k (is_stored v p (entry o r)) ≡ option_to_list (stored_step (answers.One (answer_in k r o)))
    stored-one (op.Put exec path) reply.Stored k e = ap (stored k) e
    stored-one (op.Put exec path) reply.Present k e = ap (stored k) e
    stored-one (op.Put exec path) _ k e = refl
    stored-one (op.Lookup exec path) reply.Miss k e = refl
    stored-one (op.Lookup exec path) (reply.Hit content) k e = refl
    stored-one (op.Lookup exec path) _ k e = refl
    stored-one (op.Reserve exec path) (reply.Granted expiry) k e = refl
    stored-one (op.Reserve exec path) _ k e = refl
    stored-one _ r k e = refl

    pub steps-stored : (mine : List Told) → AllAbout v p mine
        → steps v p t ready skips value fault outcome false phase.Succeeding mine ≡ option_to_list (stored_step (answers_in mine))
    steps-stored [] h = refl
    steps-stored (a ∷ []) h = stored-one a.op a.reply a.place h.0
    steps-stored (a ∷ b ∷ []) h = refl
    steps-stored (a ∷ b ∷ c ∷ more) h = refl

-- ---- the node of a plan

module _ (plan : RunPlan) (w : Workflow) (outer : IsOuterPlan plan w) (v : View) (of_plan : IsViewOfPlan plan v)
    (i : ℕ) (p : PlanNode) (planned : node_numbered plan i ≡ Some p) where
  abbrev node : TaskNode plan v.state p
  node = task-node plan w outer v.state i p planned

  abbrev slot : SlotState
  slot = own_state v.state i

  abbrev ready_there : Bool
  ready_there = is_ready_standing (standing_of plan v.state i)

  abbrev skips_there : Bool
  skips_there = is_skipped_standing (standing_of plan v.state i)

  abbrev value_there : Bool
  value_there = is_some (value_in (inputs_of_node plan v.state p None))

  abbrev fault_there : Bool
  fault_there = is_some (fault_code (inputs_of_node plan v.state p None))

  abbrev outcome_there : Bool
  outcome_there = is_some (outcome_in v p None slot.attempt)

  abbrev pub allowed : Phase → List Entry → Step → Bool
  allowed = there v p node.task ready_there skips_there value_there fault_there outcome_there

  abbrev pub node_steps : Bool → Phase → List Told → List Step
  node_steps = steps v p node.task ready_there skips_there value_there fault_there outcome_there

  effect-run : (es : List Entry) (miss lease : Option ℕ)
      → is_some (node_effect plan v es i p (step.Run miss lease)) ≡ is_queued slot.phase && (may_run v p node.task miss lease es && true)
  effect-run es miss lease =
      let q = is_queued slot.phase in
      let array = run_array_effect plan v es i p miss lease in
      let task = run_task_effect plan v es i p miss lease in
      some-where q _
      ∙ ap (λ tg. q && is_some (if is_array_target tg then array else task)) node.target
      ∙ ap (λ o. q && is_some (option_and_then (λ t. where_true (may_run v p t miss lease es) (Some (of_slot (run_slot slot)))) o)) node.runs
      ∙ ap (λ b. q && b) (some-where (may_run v p node.task miss lease es) (Some (of_slot (run_slot slot))))

  effect-hit : (es : List Entry) (place : ℕ) → is_some (node_effect plan v es i p (step.Hit place)) ≡ allowed slot.phase es (step.Hit place)
  effect-hit [] place = refl
  effect-hit (e ∷ []) place =
      let q = is_queued slot.phase in
      some-map of_slot (hit_slot plan v (e ∷ []) i p)
      ∙ some-where (q && is_cached plan p) _
      ∙ ap (λ b. (q && is_cached plan p) && b) (some-map _ (hit_content v p e))
      ∙ ap (λ o. (q && list_any (λ (t : Task). t.cached) (option_to_list o)) && is_some (hit_content v p e)) node.runs
  effect-hit (e ∷ d ∷ es) place = refl

  effect-stored : (es : List Entry) (place : ℕ) → is_some (node_effect plan v es i p (step.Stored place)) ≡ allowed slot.phase es (step.Stored place)
  effect-stored [] place = refl
  effect-stored (e ∷ []) place =
      some-map of_slot (stored_slot v (e ∷ []) i p) ∙ some-where (is_succeeding slot.phase && is_stored v p e) _
  effect-stored (e ∷ d ∷ es) place = refl

  pub effect-there : (es : List Entry) (s : Step) → is_some (node_effect plan v es i p s) ≡ allowed slot.phase es s
  effect-there es step.Begin = no-begin p node.id node.target plan v es i
  effect-there es step.Queue =
      some-map of_slot (queued_slot plan v.state i p) ∙ queued-there p node.id node.target plan v.state i
  effect-there es (step.Choose case) = no-choose p node.id node.target plan v es i case
  effect-there es step.NoCase = no-no_case p node.id node.target plan v es i
  effect-there es step.InputFail =
      some-map of_slot (input_failed_slot plan v.state i p) ∙ failed-there p node.id node.target plan v.state i
  effect-there es step.Skip =
      some-map of_slot (skipped_slot plan v.state i) ∙ some-where (is_not_yet_started slot.phase && skips_there) _
  effect-there es (step.Run miss lease) = effect-run es miss lease
  effect-there es (step.Hit place) = effect-hit es place
  effect-there es step.Retry = some-map of_slot (retried_slot slot) ∙ some-where (is_retryable slot.phase) _
  effect-there es step.Settle =
      settled-there p node.id node.target plan v.state i (settled_slot plan v p None (success_phase plan p) slot)
      ∙ some-where (is_running slot.phase) _
      ∙ ap (λ b. is_running slot.phase && b) (some-map _ (outcome_in v p None slot.attempt))
  effect-there es (step.Stored place) = effect-stored es place
  effect-there es step.Close = no-close p node.id node.target plan v es i
  effect-there es step.Abort = some-map of_slot (aborted_slot slot) ∙ some-where (not (is_final slot.phase)) _

  abbrev broken_there : Bool
  broken_there = is_broken plan v.state []

  may-there : (s : Step) → may_step plan v.state [] s ≡ may broken_there s
  may-there step.Abort = refl
  may-there _ = ap (λ b. b && not broken_there) (going_on-outer plan w outer v.state)

  legal-there : (es : List Entry) (s : Step)
      → is_legal plan v es (record { at = at_node i; step = s }) ≡ may broken_there s && allowed slot.phase es s
  legal-there es s =
      ap (λ o. is_some (option_and_then (λ q. where_true (may_step plan v.state (instance_of q) s) (node_effect plan v es i q s)) o)) planned
      ∙ some-where (may_step plan v.state (instance_of p) s) (node_effect plan v es i p s)
      ∙ ap (λ instance. may_step plan v.state instance s && is_some (node_effect plan v es i p s)) node.inside
      ∙ ap (λ b. b && is_some (node_effect plan v es i p s)) (may-there s)
      ∙ ap (λ b. may broken_there s && b) (effect-there es s)

  abbrev move_in : CitedMove → Move
  move_in m = m.move

  abbrev is_legal_in : CitedMove → Bool
  is_legal_in m = is_legal plan v m.entries m.move

  -- the legal ones of some steps with entries
  moves-of : (es : List Entry) (ss : List Step)
      → map move_in (filter is_legal_in (map (cited_move (at_node i) es) ss))
      ≡ map (move_at (Some i)) (filter (λ s. may broken_there s && allowed slot.phase es s) ss)
  moves-of es [] = refl
  moves-of es (s ∷ ss) =
      ap (λ b. map move_in (cond b (cited_move (at_node i) es s ∷ rest) rest)) (legal-there es s)
      ∙ by (moves-of es ss) (may broken_there s && allowed slot.phase es s)
    where
      rest : List CitedMove
      rest = filter is_legal_in (map (cited_move (at_node i) es) ss)

      left : List Step
      left = filter (λ x. may broken_there x && allowed slot.phase es x) ss

      by : map move_in rest ≡ map (move_at (Some i)) left → (b : Bool)
          → map move_in (cond b (cited_move (at_node i) es s ∷ rest) rest) ≡ map (move_at (Some i)) (cond b (s ∷ left) left)
      by same true = ap (λ ms. move_at (Some i) s ∷ ms) same
      by same false = same

  slot-moves : (mine : List Told) → slot_moves plan v (at_node i) 0 mine ≡ map (move_at (Some i)) (node_steps broken_there slot.phase mine)
  slot-moves mine =
      let es = map entry_of mine in
      let plain = map (cited_move (at_node i) []) (plain_steps 0) in
      let citing = map (cited_move (at_node i) es) (citing_steps mine) in
      let make = map (move_at (Some i)) in
      let first = filter (λ s. may broken_there s && allowed slot.phase [] s) (plain_steps 0) in
      let last = filter (λ s. may broken_there s && allowed slot.phase es s) (citing_steps mine) in
      ap (map move_in) (filter-append is_legal_in plain citing)
      ∙ map-append move_in (filter is_legal_in plain) (filter is_legal_in citing)
      ∙ ap (λ ms. ms ++ map move_in (filter is_legal_in citing)) (moves-of [] (plain_steps 0))
      ∙ ap (λ ms. make first ++ ms) (moves-of es (citing_steps mine))
      ∙ sym (map-append (move_at (Some i)) first last)

  -- the moves of a node are those that its phase allows
  pub node-moves : (told : List Told) (b : Bool) → broken_there ≡ b → (f : Phase) → slot.phase ≡ f
      → node_moves plan v told (i, p) ≡ map (move_at (Some i)) (node_steps b f (told_of v told p))
  node-moves told b is_b f is_f =
      let mine = told_of v told p in
      let of_items : List SlotState → List Move =
      λ items. flat_map (λ (item : ℕ × SlotState). slot_moves plan v (at_item i item.0) 0 []) (enumerate_from 0 items) in
      ap (λ items. slot_moves plan v (at_node i) (length (case_nodes_in (out-Target p.node.target))) mine ++ of_items items)
      (no-items plan w outer v of_plan i p planned)
      ∙ append-nothing _
      ∙ ap (λ tg. slot_moves plan v (at_node i) (length (case_nodes_in tg)) mine) node.target
      ∙ slot-moves mine
      ∙ ap (λ c. map (move_at (Some i)) (node_steps c slot.phase mine)) is_b
      ∙ ap (λ g. map (move_at (Some i)) (node_steps b g mine)) is_f

  pub ready-or-skipped : ready_there && skips_there ≡ false
  ready-or-skipped = by (standing_of plan v.state i)
    where
      by : (s : Standing) → is_ready_standing s && is_skipped_standing s ≡ false
      by standings.waiting = refl
      by standings.blocked = refl
      by standings.skipped = refl
      by standings.ready = refl

  pub value-or-fault : value_there && fault_there ≡ false
  value-or-fault = by (inputs_of_node plan v.state p None)
    where
      by : (taken : Taken LiteralMap) → is_some (value_in taken) && is_some (fault_code taken) ≡ false
      by (Ok inputs) = refl
      by (Err fault) = refl

  -- a node that isn't started makes its first step
  pub first-effects : slot.phase ≡ phase.NotYetStarted → (mine : List Told)
      → node_steps false phase.NotYetStarted mine
      ≡ option_to_list (first_step (is_some (node_effect plan v [] i p step.Queue)) (is_some (node_effect plan v [] i p step.InputFail))
      (is_some (node_effect plan v [] i p step.Skip)))
  first-effects is mine =
      let at : (s : Step) → allowed phase.NotYetStarted [] s ≡ is_some (node_effect plan v [] i p s) =
      λ s. sym (effect-there [] s ∙ ap (λ f. allowed f [] s) is) in
      steps-first v p node.task outcome_there mine ready_there skips_there value_there fault_there ready-or-skipped value-or-fault
      ∙ ap (λ b. option_to_list (first_step b (ready_there && fault_there) (skips_there && true))) (at step.Queue)
      ∙ ap (λ b. option_to_list (first_step (is_some (node_effect plan v [] i p step.Queue)) b (skips_there && true))) (at step.InputFail)
      ∙ ap (λ b. option_to_list (first_step (is_some (node_effect plan v [] i p step.Queue)) (is_some (node_effect plan v [] i p step.InputFail)) b))
      (at step.Skip)

  module _ (told : List Told) where
    abbrev mine : List Told
    mine = told_of v told p

    abbrev made : List Step → List Move
    made ss = map (move_at (Some i)) ss

    pub node-broken : broken_there ≡ true → (f : Phase) → slot.phase ≡ f → node_moves plan v told (i, p) ≡ made (option_to_list (abort_step f))
    node-broken e f is =
        node-moves told true e f is
        ∙ ap made (steps-broken v p node.task ready_there skips_there value_there fault_there outcome_there f mine)

    module _ (goes_on : broken_there ≡ false) where
      pub node-first : slot.phase ≡ phase.NotYetStarted → node_moves plan v told (i, p)
          ≡ made (option_to_list (first_step (is_some (node_effect plan v [] i p step.Queue)) (is_some (node_effect plan v [] i p step.InputFail))
          (is_some (node_effect plan v [] i p step.Skip))))
      node-first is = node-moves told false goes_on phase.NotYetStarted is ∙ ap made (first-effects is mine)

      pub node-queued : slot.phase ≡ phase.Queued → node_moves plan v told (i, p)
          ≡ made (option_to_list (queued_step node.task.cached node.task.serializable (answers_in mine)))
      node-queued is =
          node-moves told false goes_on phase.Queued is
          ∙ ap made (steps-queued v p node.task ready_there skips_there value_there fault_there outcome_there mine (told-about v p told))

      pub node-running : slot.phase ≡ phase.Running → node_moves plan v told (i, p)
          ≡ made (option_to_list (where_true outcome_there (Some step.Settle)))
      node-running is =
          node-moves told false goes_on phase.Running is
          ∙ ap made (steps-running v p node.task ready_there skips_there value_there fault_there outcome_there mine)

      pub node-retry : slot.phase ≡ phase.RetryableFailure → node_moves plan v told (i, p) ≡ made (step.Retry ∷ [])
      node-retry is =
          node-moves told false goes_on phase.RetryableFailure is
          ∙ ap made (steps-retry v p node.task ready_there skips_there value_there fault_there outcome_there mine)

      pub node-stored : slot.phase ≡ phase.Succeeding → node_moves plan v told (i, p) ≡ made (option_to_list (stored_step (answers_in mine)))
      node-stored is =
          node-moves told false goes_on phase.Succeeding is
          ∙ ap made (steps-stored v p node.task ready_there skips_there value_there fault_there outcome_there mine (told-about v p told))

      pub node-final : (f : Phase) → is_final f ≡ true → slot.phase ≡ f → node_moves plan v told (i, p) ≡ []
      node-final f final is =
          node-moves told false goes_on f is
          ∙ ap made (steps-final v p node.task ready_there skips_there value_there fault_there outcome_there f final mine)
