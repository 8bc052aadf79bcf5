-- Worlds of a plan of task nodes are of the plan: what was submitted, launched, recorded and found by look-ups is of
-- its declared type, and each
-- version is a state of the plan.
use Rattle.std.proofs.Common.{◌≡◌, ℕ, true, not, List, [], ◌∷◌, ◌++◌, map, filter, flat_map, find, length, bytes_eq, All, Contains, Option, Some, None, Ok, Err, option_map, option_to_list, refl, sym, subst, ap, ◌∙◌, append-nil, inl, inr}
use Rattle.std.specs.List.{slice_get}
use Rattle.std.specs.Option.{option_map_or}
use Rattle.std.proofs.lemmas.Bool.{and_parts, false≢true}
use Rattle.std.proofs.lemmas.List.{map-append}
use Rattle.std.proofs.lemmas.List.Elements.{All-nil, All-push, All-set, All-contains, Contains-push, Contains-append_left}
use Rattle.std.proofs.lemmas.Option.{none-some, same_Some}
use Rattle.fly_types.specs.declared.text.Text.{Text}
use Rattle.fly_types.specs.declared.literals.LiteralMap.{LiteralMap}
use Rattle.fly_types.proofs.SameLemmas.{same_map-Decides}
use Rattle.fly_cast.proofs.Options.{map-some}
use Rattle.fly_graph.proofs.Members.{Contains-filter}
use Rattle.fly_rules.proofs.GroundLemmas.{Contains-map}
use Rattle.fly_policy.specs.Outcome.{AreOutputs}
use Rattle.fly_policy.specs.declared.outcome.Outcome.TheVariants as outcome
use Rattle.fly_catalog.specs.Cached.{cached_dataset}
use Rattle.fly_catalog.specs.Requests.{content_of}
use Rattle.fly_catalog.specs.declared.requests.Selector.TheVariants as selector
use Rattle.fly_docs.specs.declared.attempt_name.AttemptName.{AttemptName}
use Rattle.fly_docs.specs.declared.node.Node.{Node}
use Rattle.fly_docs.specs.declared.node.Case.{Case}
use Rattle.fly_docs.specs.declared.node.Target.{Target, out-Target}
use Rattle.fly_docs.specs.declared.node.Target.TheOpen.{Target-F}
use Rattle.fly_docs.specs.declared.task.Task.{Task}
use Rattle.fly_docs.specs.declared.workflow.Workflow.{Workflow}
use Rattle.fly_docs.specs.Lookups.{primary_of}
use Rattle.fly_docs.specs.Names.{IsId}
use Rattle.fly_docs.specs.NodeInterfaces.{Found}
use Rattle.fly_docs.specs.Plans.{PlanNode}
use Rattle.fly_docs.specs.SlotInputs.{Taken}
use Rattle.fly_docs.proofs.NodeLemmas.{outputs_of-task}
use Rattle.fly_state.specs.declared.slots.ExecState.{ExecState}
use Rattle.fly_state.specs.declared.moves.Move.{Move}
use Rattle.fly_state.specs.declared.entries.Entry.{Entry}
use Rattle.fly_state.specs.declared.entries.Op.TheVariants as op
use Rattle.fly_state.specs.declared.entries.Reply.{Reply}
use Rattle.fly_state.specs.declared.entries.Reply.TheVariants as reply
use Rattle.fly_state.specs.Inputs.{inputs_of_node, inputs_at}
use Rattle.fly_state.specs.Laws.{IsKeptState}
use Rattle.fly_state.specs.Moves.{where_true, is_queued}
use Rattle.fly_state.specs.OfPlan.{IsViewOfPlan, IsEntryOfPlan, IsKnownOfPlan, output_variables, item_input_variables, item_output_variables}
use Rattle.fly_state.specs.PlanTables.{IsOuterPlan, outer_node}
use Rattle.fly_state.specs.Plans.{RunPlan, Path, node_numbered, number_of, task_of, task_target}
use Rattle.fly_state.specs.Rounds.{CitedMove, cited_places}
use Rattle.fly_state.proofs.AskedInputs.{found-in}
use Rattle.fly_state.proofs.FinalLemmas.{where_true-test, where_true-there, option_and_then-there}
use Rattle.fly_state.proofs.FirstStates.{first-kept}
use Rattle.fly_state.proofs.Lists.{of_map, of_filter_map}
use Rattle.fly_state.proofs.OuterNodes.{not-array, item_inputs-declared, inputs-typed}
use Rattle.fly_state.proofs.OuterPlans.{numbered-outer}
use Rattle.fly_state.proofs.OuterRounds.{round-kept}
use Rattle.fly_state.proofs.OuterSteps.{same-path}
use Rattle.fly_world.specs.World.{World, Execution, Past, Launch, Settlement, empty_world, current_of, state_at, end_of, stands_before, world_before, known_of, execution_named, view_of, current_view, same_name}
use Rattle.fly_world.specs.Changes.{Change, no_change, moment_becomes, catalog_becomes, lets_go, adds_execution, adds_launch, adds_claim, adds_outcome, adds_version, with_change, with_version}
use Rattle.fly_world.specs.Journals.{IsStepBy, Step, IsHistory}
use Rattle.fly_world.specs.ReadOff.{versions_of}
use Rattle.fly_world.specs.Spots.{Spot, spot_of, has_attempts, is_value, gives_all, cached_task, are_ids, phase_at, tag_at}
use Rattle.fly_world.specs.Steps.{Answer, says, step, if_known, on_cached, cached_content, looked_up, on_lookup, cited_move}
use Rattle.fly_world.specs.Versions.{IsNodeOfAttempt, IsWorldOfPlan}
use Rattle.fly_world.proofs.AnswerLemmas.{tested, on_option, allowed}
use Rattle.fly_world.proofs.StepLemmas.{Permits, HasInputsOf, spot_at, where_named-has, where_named-is}
use Rattle.fly_world.proofs.JournalLemmas.{same_entries, step_cases, along}
use Rattle.fly_world.proofs.NameLemmas.{id-from, history-named}
use Rattle.fly_world.proofs.FinalSlots.{named_there}
use Rattle.fly_world.proofs.TypeLemmas.{IsTyped, TypedWorld, typed_change, nothing_typed, typed_map, typed_inputs, contained, history-typed}

-- ---- look-ups

-- a task node gives what its task does
task-outputs : (plan : RunPlan) (p : PlanNode) (t : Task) → task_of plan p ≡ Some t
    → output_variables plan p ≡ t.interface.outputs
task-outputs plan p t e = by (out-Target p.node.target) refl e
  where
    by : (layer : Target-F Target Case Node) → out-Target p.node.target ≡ layer
        → task_target plan.documents layer ≡ Some t
        → output_variables plan p ≡ t.interface.outputs
    by (Target-F.Task id) is there =
        ap (λ (f : Found). flat_map (λ vs. vs) (option_to_list f))
        (outputs_of-task plan.documents p.node id is ∙ ap (option_map (λ (x : Task). x.interface.outputs)) there)
        ∙ append-nil t.interface.outputs
    by (Target-F.Workflow id) is there = absurd (none-some t there)
    by (Target-F.Array id min_successes) is there = absurd (none-some t there)
    by (Target-F.Branch cases otherwise error) is there = absurd (none-some t there)

-- what a look-up found
abbrev content_in : Reply → Option LiteralMap
content_in (reply.Hit content) = Some content
content_in _ = None

module _ (plan : RunPlan) (w : World) (exec : Text) (path : Path) (i : ℕ) (p : PlanNode)
    (number : number_of plan path ≡ Some i)
    (planned : node_numbered plan i ≡ Some p) where
  -- what the answer found is of the outputs of the node
  abbrev Finds : Answer → Type 0
  Finds a = (content : LiteralMap) → content_in a.reply ≡ Some content → AreOutputs (output_variables plan p) content

  nothing-found : (r : Reply) → content_in r ≡ None → Finds (says r)
  nothing-found r none content e = absurd (none-some content (sym none ∙ e))

  content-typed : (spot : Spot) (t : Task) (content : LiteralMap) → task_of plan p ≡ Some t
      → cached_content w spot t ≡ Some content
      → AreOutputs (output_variables plan p) content
  content-typed spot t content task e =
      let there = option_and_then-there _ (content_of w.catalog (cached_dataset t) (selector.Tag (tag_at spot)))
      content e in
      let test = where_true-test (gives_all t.interface.outputs there.0) (Some there.0) content there.2 in
      let same = same_Some there.0 content (where_true-there (gives_all t.interface.outputs there.0) (Some there.0)
      content there.2) in
      subst (λ vs. AreOutputs vs content) (sym (task-outputs plan p t task))
      (subst (AreOutputs t.interface.outputs) same (typed_map t.interface.outputs there.0 test))

  looked_up-finds : (spot : Spot) (t : Task) → task_of plan p ≡ Some t → Finds (looked_up w spot t)
  looked_up-finds spot t task =
      let hit : LiteralMap → Answer = λ content. says (reply.Hit content) in
      tested Finds (not (is_queued (phase_at spot))) (says reply.NotReady)
      (option_map_or hit (cached_content w spot t) (says reply.Miss))
      (λ e. nothing-found reply.NotReady refl)
      (λ e. on_option Finds hit (cached_content w spot t) (says reply.Miss)
      (λ content there found is. subst (AreOutputs (output_variables plan p)) (same_Some content found is)
      (content-typed spot t content task there))
      (nothing-found reply.Miss refl))

  same-node : (spot : Spot) → spot_of plan w exec path ≡ Some spot → spot.node ≡ p
  same-node spot there =
      let at = spot_at plan path (execution_named w exec) spot there in
      let same : spot.number ≡ i = same_Some spot.number i (sym at.1 ∙ number) in
      same_Some spot.node p (sym at.2 ∙ ap (node_numbered plan) same ∙ planned)

  cached-finds : (spot : Spot) → spot_of plan w exec path ≡ Some spot → Finds (on_cached plan spot (looked_up w spot))
  cached-finds spot there =
      on_option Finds (looked_up w spot) (cached_task plan spot.node) (says reply.NotReady)
      (λ t cached.
      let task = option_and_then-there (λ (x : Task). where_true x.cached (Some x)) (task_of plan spot.node) t cached
      in
      let same = same_Some task.0 t (where_true-there task.0.cached (Some task.0) t task.2) in
      looked_up-finds spot t (subst (λ q. task_of plan q ≡ Some t) (same-node spot there) (task.1 ∙ ap Some same)))
      (nothing-found reply.NotReady refl)

  lookup-finds : (a : Answer) → on_lookup plan w exec path ≡ Some a → Finds a
  lookup-finds a h =
      let f : Spot → Answer = λ spot. on_cached plan spot (looked_up w spot) in
      allowed Finds (are_ids exec path) (if_known f (spot_of plan w exec path)) a h
      (on_option Finds f (spot_of plan w exec path) (says reply.Unknown) cached-finds
      (nothing-found reply.Unknown refl))

  step-finds : (worker : ℕ) (a : Answer) → step plan w worker (op.Lookup exec path) ≡ Some a → Finds a
  unfolding step
  step-finds worker a h = lookup-finds a h

  found-by : (e : Entry) (new : World) (o : Option Answer) (content : LiteralMap)
      → step plan w e.worker (op.Lookup exec path) ≡ o
      → e.reply ≡ reply.Hit content → IsStepBy w e new o → AreOutputs (output_variables plan p) content
  found-by e new None content h replied s = absurd s
  found-by e new (Some a) content h replied (inl answered) =
      step-finds e.worker a h content (ap content_in (sym answered.reply ∙ replied))
  found-by e new (Some a) content h replied (inr refused) =
      absurd (none-some content (ap content_in (sym refused.reply ∙ replied)))

-- an entry of a step is of the plan
entry-fine : (plan : RunPlan) (w new : World) (e : Entry) → Step plan w e new → IsEntryOfPlan plan e
entry-fine plan w new e s exec path content i p is_op is_reply number planned =
    found-by plan w exec path i p number planned e new (step plan w e.worker (op.Lookup exec path)) content refl
    is_reply
    (subst (λ o. IsStepBy w e new (step plan w e.worker o)) is_op s)

-- ---- worlds

module _ (plan : RunPlan) (f : Workflow) (outer : IsOuterPlan plan f) where
  -- an execution whose name is an id, and whose versions are of the plan
  record IsKept (x : Execution) : Type 0 where
    id : IsId x.name
    versions : All (IsKeptState plan) (versions_of x)

  abbrev IsTypedLaunch : Launch → Type 0
  IsTypedLaunch l = (p : PlanNode) → IsNodeOfAttempt plan l.name p → AreOutputs (item_input_variables plan p) l.inputs

  record KeptWorld (w : World) : Type 0 where
    typed : TypedWorld plan w
    entries : All (IsEntryOfPlan plan) w.entries
    executions : All IsKept w.executions
    launches : All IsTypedLaunch w.launches

  -- ---- views

  current-kept : (x : Execution) → IsKept x → IsKeptState plan x.state
  current-kept x kept =
      All-contains (IsKeptState plan) (versions_of x) x.state kept.versions
      (Contains-push (map (λ (q : Past). q.state) x.past) x.state)

  version-kept : (x : Execution) (version : ℕ) → IsKept x → IsKeptState plan (state_at x version)
  version-kept x version kept = by (slice_get x.past version) refl
    where
      by : (o : Option Past) → slice_get x.past version ≡ o
          → IsKeptState plan (option_map_or (λ (q : Past). q.state) o x.state)
      by None there = current-kept x kept
      by (Some q) there =
          All-contains (IsKeptState plan) (versions_of x) q.state kept.versions
          (Contains-append_left (map (λ (y : Past). y.state) x.past) (x.state ∷ []) q.state
          (Contains-map (λ (y : Past). y.state) x.past q (contained x.past version q there)))

  module _ (w : World) (kept : KeptWorld w) where
    -- what is known of a launch is of its task
    known-fine : (end : Option ℕ) (l : Launch) → IsKnownOfPlan plan (known_of (world_before w end) l)
    known-fine end l i p outputs number planned is =
        let cut = filter (λ (s : Settlement). stands_before end s.place) w.outcomes in
        let made = map-some (λ (s : Settlement). s.outcome) (find (λ (s : Settlement). same_name l.name s.name) cut)
        (outcome.Succeeded outputs) is in
        let found = found-in (λ (s : Settlement). same_name l.name s.name) cut made.0 made.1 in
        let stands = (Contains-filter (λ (s : Settlement). stands_before end s.place) w.outcomes made.0 found.0).0 in
        let path = same-path l.name.path made.0.name.path (and_parts _ _
        (and_parts _ _ (and_parts _ _ found.1).0).0).1 in
        typed_map (item_output_variables plan p) outputs
        (All-contains (IsTyped plan) w.outcomes made.0 kept.typed.1 stands p outputs
        (i, subst (λ (x : Path). number_of plan x ≡ Some i) path number, planned) (sym made.2))

    view-fine : (at : ℕ × Execution) (version : ℕ) → slice_get w.executions at.0 ≡ Some at.1
        → IsViewOfPlan plan (view_of w at version)
    view-fine at version there =
        let execution = All-contains IsKept w.executions at.1 kept.executions (contained w.executions at.0 at.1 there)
        in
        record {
          name = execution.id;
          state = (version-kept at.1 version execution).of_plan;
          outcomes = λ known has.
              let launch = of_map (known_of (world_before w (end_of at.1 version)))
              (filter (λ (l : Launch). bytes_eq at.1.name l.name.exec)
              (world_before w (end_of at.1 version)).launches) known has in
              subst (IsKnownOfPlan plan) launch.2 (known-fine (end_of at.1 version) launch.0);
        }

    -- ---- the next version

    cited-fine : (moves : List Move) (m : CitedMove) (e : Entry) → Contains (map (cited_move w) moves) m
        → Contains m.entries e
        → IsEntryOfPlan plan e
    cited-fine moves m e has cites =
        let move = of_map (cited_move w) moves m has in
        let place = of_filter_map (slice_get w.entries) (cited_places move.0.step) e
        (subst (λ (x : CitedMove). Contains x.entries e) (sym move.2) cites) in
        All-contains (IsEntryOfPlan plan) w.entries e kept.entries (contained w.entries place.0 e place.2)

    next-kept : (at : ℕ × Execution) (state : ExecState) → Permits plan w (adds_version at state)
        → IsKeptState plan state
    next-kept at state permits =
        let there = named_there w permits.exec at permits.named in
        let execution = All-contains IsKept w.executions at.1 kept.executions (contained w.executions at.0 at.1 there)
        in
        subst (IsKeptState plan) (sym permits.state_is)
        (round-kept plan f outer (current_view w at) (view-fine at (current_of at.1) there)
        (version-kept at.1 (current_of at.1) execution).retries
        (map (cited_move w) permits.moves) (cited-fine permits.moves))

    execution-next : (at : ℕ × Execution) (state : ExecState) → Permits plan w (adds_version at state)
        → IsKept (with_version state (length w.entries) at.1)
    execution-next at state permits =
        let there = named_there w permits.exec at permits.named in
        let execution = All-contains IsKept w.executions at.1 kept.executions (contained w.executions at.0 at.1 there)
        in
        record {
          id = execution.id;
          versions = subst (All (IsKeptState plan))
              (ap (λ vs. vs ++ state ∷ []) (sym
              (map-append (λ (q : Past). q.state) at.1.past (record { state = at.1.state; until = length w.entries } ∷
              []))))
              (All-push (IsKeptState plan) (versions_of at.1) state execution.versions (next-kept at state permits));
        }

    execution-first : (name : Text) (inputs : LiteralMap) (state : ExecState)
        → Permits plan w (adds_execution name inputs state)
        → IsKept (record { name = name; inputs = inputs; past = []; state = state })
    execution-first name inputs state permits = record {
      id = id-from name permits.3;
      versions = All-push (IsKeptState plan) [] state (All-nil (IsKeptState plan))
          (subst (IsKeptState plan) (sym permits.1)
          (first-kept plan inputs f outer.named (typed_inputs plan inputs f (primary_of plan.documents) outer.named
          permits.2)));
    }

    -- ---- launches

    -- the inputs of an attempt are those that its node takes
    attempt-typed : (spot : Spot) (name : AttemptName) (item : Option ℕ) (inputs : LiteralMap)
        → has_attempts spot.node.node item ≡ true
        → (i : ℕ) → node_numbered plan i ≡ Some spot.node → spot.number ≡ i → IsKeptState plan spot.execution.1.state
        → is_value (inputs_at plan spot.execution.1.state (record { node = Some spot.number; item = item })) inputs ≡
        true
        → AreOutputs (item_input_variables plan spot.node) inputs
    attempt-typed spot name item inputs attempts i planned number state given =
        let node = map-some (λ m. outer_node f (i, m)) (slice_get f.nodes i) spot.node
        (sym (numbered-outer plan f outer i) ∙ planned) in
        by item node.0 node.1 node.2 attempts given
      where
        values-same : (t : Taken LiteralMap) → is_value t inputs ≡ true → t ≡ Ok inputs
        values-same (Ok m) e = ap Ok ((same_map-Decides m inputs).0 e)
        values-same (Err fault) e = absurd (false≢true e)

        by : (o : Option ℕ) (n : Node) → slice_get f.nodes i ≡ Some n → spot.node ≡ outer_node f (i, n)
            → has_attempts spot.node.node o ≡ true
            → is_value (inputs_at plan spot.execution.1.state (record { node = Some spot.number; item = o })) inputs ≡
            true
            → AreOutputs (item_input_variables plan spot.node) inputs
        by None n there is attempts given =
            let at : inputs_at plan spot.execution.1.state (record { node = Some spot.number; item = None })
            ≡ inputs_of_node plan spot.execution.1.state spot.node None = rw (number, planned) refl in
            let value = values-same _ (sym (ap (λ t. is_value t inputs) at) ∙ given) in
            subst (λ q. AreOutputs (item_input_variables plan q) inputs) (sym is)
            (subst (λ vs. AreOutputs vs inputs) (sym (item_inputs-declared plan f outer i n there))
            (inputs-typed plan f outer i n there spot.execution.1.state state.of_plan inputs
            (subst (λ q. inputs_of_node plan spot.execution.1.state q None ≡ Ok inputs) is value)))
        by (Some k) n there is attempts given =
            absurd (false≢true (sym (ap (λ (q : PlanNode). has_attempts q.node (Some k)) is ∙ not-array plan f outer i
            n there) ∙ attempts))

    launch-typed : (name : AttemptName) (inputs : LiteralMap) → HasInputsOf plan w name inputs → (p : PlanNode)
        → IsNodeOfAttempt plan name p
        → AreOutputs (item_input_variables plan p) inputs
    launch-typed name inputs has p node =
        let spot = has.0 in
        let place = where_named-is name (spot_of plan w name.exec name.path) spot has.1 in
        let found = spot_at plan name.path (execution_named w name.exec) spot place in
        let same : node.0 ≡ spot.number = same_Some node.0 spot.number (sym node.1 ∙ found.1) in
        let is : spot.node ≡ p = same_Some spot.node p (sym found.2 ∙ ap (node_numbered plan) (sym same) ∙ node.2) in
        let there = named_there w name.exec spot.execution found.0 in
        let execution = All-contains IsKept w.executions spot.execution.1 kept.executions
        (contained w.executions spot.execution.0 spot.execution.1 there) in
        subst (λ q. AreOutputs (item_input_variables plan q) inputs) is
        (attempt-typed spot name name.item inputs (where_named-has name (spot_of plan w name.exec name.path) spot
        has.1)
        spot.number found.2 refl (current-kept spot.execution.1 execution) has.2)

    -- ---- steps

    change-kept : (c : Change) → Permits plan w c
        → All IsKept (with_change w c).executions × All IsTypedLaunch (with_change w c).launches
    change-kept no_change permits = (kept.executions, kept.launches)
    change-kept (moment_becomes moment) permits = (kept.executions, kept.launches)
    change-kept (catalog_becomes catalog) permits = (kept.executions, kept.launches)
    change-kept (lets_go ends) permits = (kept.executions, kept.launches)
    change-kept (adds_execution name inputs state) permits = (
      All-push IsKept w.executions (record { name = name; inputs = inputs; past = []; state = state }) kept.executions
          (execution-first name inputs state permits),
      kept.launches,
    )
    change-kept (adds_launch name inputs) permits = (
      kept.executions,
      All-push IsTypedLaunch w.launches (record { name = name; inputs = inputs; place = length w.entries })
          kept.launches
          (launch-typed name inputs permits.2),
    )
    change-kept (adds_claim name) permits = (kept.executions, kept.launches)
    change-kept (adds_outcome name o) permits = (kept.executions, kept.launches)
    change-kept (adds_version at state) permits = (
      All-set IsKept w.executions at.0 (with_version state (length w.entries) at.1) (execution-next at state permits)
          kept.executions,
      kept.launches,
    )

    step-kept : (e : Entry) (new : World) → Step plan w e new → KeptWorld new
    step-kept e new s =
        step_cases plan KeptWorld w new e s (λ c permits tells.
        let both = change-kept c permits in
        record {
          typed = typed_change plan w kept.typed c permits;
          entries = All-push (IsEntryOfPlan plan) (with_change w c).entries e
              (subst (All (IsEntryOfPlan plan)) (sym (same_entries w c)) kept.entries) (entry-fine plan w new e s);
          executions = both.0;
          launches = both.1;
        })

  nothing-kept : KeptWorld empty_world
  nothing-kept = record {
    typed = nothing_typed plan;
    entries = All-nil (IsEntryOfPlan plan);
    executions = All-nil IsKept;
    launches = All-nil IsTypedLaunch;
  }

  -- the world of a legal journal is of the plan
  pub history-of_plan : (closure : List ℕ) (journal : List Entry) (w : World) → IsHistory plan closure journal w
      → IsWorldOfPlan plan w
  history-of_plan closure journal w history =
      let kept = along plan KeptWorld (λ v next e at s. step-kept v at e next s) empty_world w journal nothing-kept
      history.leads in
      record {
        names = history-named plan closure journal w history;
        records = history-typed plan closure journal w history;
        launches = λ l p there node. All-contains IsTypedLaunch w.launches l kept.launches there p node;
        views = λ exec at version named within. view-fine w kept at version (named_there w exec at named);
      }
