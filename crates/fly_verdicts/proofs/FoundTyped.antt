-- What look-ups found for nodes is of the outputs that these give, in each legal journal.
use Rattle.std.proofs.Common.{◌≡◌, ℕ, not, List, flat_map, All, Option, Some, None, option_map, option_to_list, refl, sym, subst, ap, ◌∙◌, append-nil, inl, inr}
use Rattle.std.specs.Option.{option_map_or}
use Rattle.std.proofs.lemmas.List.Elements.{All-nil, All-push}
use Rattle.std.proofs.lemmas.Option.{none-some, same_Some}
use Rattle.fly_types.specs.declared.text.Text.{Text}
use Rattle.fly_types.specs.declared.literals.LiteralMap.{LiteralMap}
use Rattle.fly_policy.specs.Outcome.{AreOutputs}
use Rattle.fly_catalog.specs.Cached.{cached_dataset}
use Rattle.fly_catalog.specs.Requests.{content_of}
use Rattle.fly_catalog.specs.declared.requests.Selector.TheVariants as selector
use Rattle.fly_docs.specs.declared.node.Node.{Node}
use Rattle.fly_docs.specs.declared.node.Case.{Case}
use Rattle.fly_docs.specs.declared.node.Target.{Target, out-Target}
use Rattle.fly_docs.specs.declared.node.Target.TheOpen.{Target-F}
use Rattle.fly_docs.specs.declared.task.Task.{Task}
use Rattle.fly_docs.specs.NodeInterfaces.{Found}
use Rattle.fly_docs.specs.Plans.{PlanNode}
use Rattle.fly_docs.proofs.NodeLemmas.{outputs_of-task}
use Rattle.fly_state.specs.declared.entries.Entry.{Entry}
use Rattle.fly_state.specs.declared.entries.Op.TheVariants as op
use Rattle.fly_state.specs.declared.entries.Reply.{Reply}
use Rattle.fly_state.specs.declared.entries.Reply.TheVariants as reply
use Rattle.fly_state.specs.Moves.{where_true, is_queued}
use Rattle.fly_state.specs.OfPlan.{IsEntryOfPlan, output_variables}
use Rattle.fly_state.specs.Plans.{RunPlan, Path, node_numbered, number_of, task_of, task_target}
use Rattle.fly_state.proofs.FinalLemmas.{where_true-test, where_true-there, option_and_then-there}
use Rattle.fly_world.specs.World.{World, empty_world, execution_named}
use Rattle.fly_world.specs.Changes.{with_change}
use Rattle.fly_world.specs.Journals.{IsStepBy, Step, IsHistory}
use Rattle.fly_world.specs.Spots.{Spot, spot_of, gives_all, cached_task, are_ids, phase_at, tag_at}
use Rattle.fly_world.specs.Steps.{Answer, says, step, if_known, on_cached, cached_content, looked_up, on_lookup}
use Rattle.fly_world.proofs.AnswerLemmas.{tested, on_option, allowed}
use Rattle.fly_world.proofs.StepLemmas.{spot_at}
use Rattle.fly_world.proofs.JournalLemmas.{same_entries, step_cases, along}
use Rattle.fly_world.proofs.TypeLemmas.{typed_map}

-- ---- look-ups

-- a task node gives what its task does
task-outputs : (plan : RunPlan) (p : PlanNode) (t : Task) → task_of plan p ≡ Some t
    → output_variables plan p ≡ t.interface.outputs
task-outputs plan p t e = by (out-Target p.node.target) refl e
  where
    by : (layer : Target-F Target Case Node) → out-Target p.node.target ≡ layer
        → task_target plan.documents layer ≡ Some t
        → output_variables plan p ≡ t.interface.outputs
    by (Target-F.Task id) is there =
        ap (λ (f : Found). flat_map (λ vs. vs) (option_to_list f))
        (outputs_of-task plan.documents p.node id is ∙ ap (option_map (λ (x : Task). x.interface.outputs)) there)
        ∙ append-nil t.interface.outputs
    by (Target-F.Workflow id) is there = absurd (none-some t there)
    by (Target-F.Array id min_successes) is there = absurd (none-some t there)
    by (Target-F.Branch cases otherwise error) is there = absurd (none-some t there)

-- what a look-up found
abbrev content_in : Reply → Option LiteralMap
content_in (reply.Hit content) = Some content
content_in _ = None

module _ (plan : RunPlan) (w : World) (exec : Text) (path : Path) (i : ℕ) (p : PlanNode)
    (number : number_of plan path ≡ Some i)
    (planned : node_numbered plan i ≡ Some p) where
  -- what the answer found is of the outputs of the node
  abbrev Finds : Answer → Type 0
  Finds a = (content : LiteralMap) → content_in a.reply ≡ Some content → AreOutputs (output_variables plan p) content

  nothing-found : (r : Reply) → content_in r ≡ None → Finds (says r)
  nothing-found r none content e = absurd (none-some content (sym none ∙ e))

  content-typed : (spot : Spot) (t : Task) (content : LiteralMap) → task_of plan p ≡ Some t
      → cached_content w spot t ≡ Some content
      → AreOutputs (output_variables plan p) content
  content-typed spot t content task e =
      let there = option_and_then-there _ (content_of w.catalog (cached_dataset t) (selector.Tag (tag_at spot)))
      content e in
      let test = where_true-test (gives_all t.interface.outputs there.0) (Some there.0) content there.2 in
      let same = same_Some there.0 content (where_true-there (gives_all t.interface.outputs there.0) (Some there.0)
      content there.2) in
      subst (λ vs. AreOutputs vs content) (sym (task-outputs plan p t task))
      (subst (AreOutputs t.interface.outputs) same (typed_map t.interface.outputs there.0 test))

  looked_up-finds : (spot : Spot) (t : Task) → task_of plan p ≡ Some t → Finds (looked_up w spot t)
  looked_up-finds spot t task =
      let hit : LiteralMap → Answer = λ content. says (reply.Hit content) in
      tested Finds (not (is_queued (phase_at spot))) (says reply.NotReady)
      (option_map_or hit (cached_content w spot t) (says reply.Miss))
      (λ e. nothing-found reply.NotReady refl)
      (λ e. on_option Finds hit (cached_content w spot t) (says reply.Miss)
      (λ content there found is. subst (AreOutputs (output_variables plan p)) (same_Some content found is)
      (content-typed spot t content task there))
      (nothing-found reply.Miss refl))

  same-node : (spot : Spot) → spot_of plan w exec path ≡ Some spot → spot.node ≡ p
  same-node spot there =
      let at = spot_at plan path (execution_named w exec) spot there in
      let same : spot.number ≡ i = same_Some spot.number i (sym at.1 ∙ number) in
      same_Some spot.node p (sym at.2 ∙ ap (node_numbered plan) same ∙ planned)

  cached-finds : (spot : Spot) → spot_of plan w exec path ≡ Some spot → Finds (on_cached plan spot (looked_up w spot))
  cached-finds spot there =
      on_option Finds (looked_up w spot) (cached_task plan spot.node) (says reply.NotReady)
      (λ t cached.
      let task = option_and_then-there (λ (x : Task). where_true x.cached (Some x)) (task_of plan spot.node) t cached
      in
      let same = same_Some task.0 t (where_true-there task.0.cached (Some task.0) t task.2) in
      looked_up-finds spot t (subst (λ q. task_of plan q ≡ Some t) (same-node spot there) (task.1 ∙ ap Some same)))
      (nothing-found reply.NotReady refl)

  lookup-finds : (a : Answer) → on_lookup plan w exec path ≡ Some a → Finds a
  lookup-finds a h =
      let f : Spot → Answer = λ spot. on_cached plan spot (looked_up w spot) in
      allowed Finds (are_ids exec path) (if_known f (spot_of plan w exec path)) a h
      (on_option Finds f (spot_of plan w exec path) (says reply.Unknown) cached-finds
      (nothing-found reply.Unknown refl))

  step-finds : (worker : ℕ) (a : Answer) → step plan w worker (op.Lookup exec path) ≡ Some a → Finds a
  unfolding step
  step-finds worker a h = lookup-finds a h

  found-by : (e : Entry) (new : World) (o : Option Answer) (content : LiteralMap)
      → step plan w e.worker (op.Lookup exec path) ≡ o
      → e.reply ≡ reply.Hit content → IsStepBy w e new o → AreOutputs (output_variables plan p) content
  found-by e new None content h replied s = absurd s
  found-by e new (Some a) content h replied (inl answered) =
      step-finds e.worker a h content (ap content_in (sym answered.reply ∙ replied))
  found-by e new (Some a) content h replied (inr refused) =
      absurd (none-some content (ap content_in (sym refused.reply ∙ replied)))

-- an entry of a step is of the plan
entry-fine : (plan : RunPlan) (w new : World) (e : Entry) → Step plan w e new → IsEntryOfPlan plan e
entry-fine plan w new e s exec path content i p is_op is_reply number planned =
    found-by plan w exec path i p number planned e new (step plan w e.worker (op.Lookup exec path)) content refl
    is_reply
    (subst (λ o. IsStepBy w e new (step plan w e.worker o)) is_op s)

-- ---- journals

-- so is each entry of a legal journal
pub history-entries : (plan : RunPlan) (closure : List ℕ) (journal : List Entry) (w : World)
    → IsHistory plan closure journal w
    → All (IsEntryOfPlan plan) w.entries
history-entries plan closure journal w history =
    along plan (λ (v : World). All (IsEntryOfPlan plan) v.entries) (λ v next e at s.
    step_cases plan (λ (u : World). All (IsEntryOfPlan plan) u.entries) v next e s (λ c permits tells.
    All-push (IsEntryOfPlan plan) (with_change v c).entries e
    (subst (All (IsEntryOfPlan plan)) (sym (same_entries v c)) at) (entry-fine plan v next e s)))
    empty_world w journal (All-nil (IsEntryOfPlan plan)) history.leads
