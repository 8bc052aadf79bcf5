-- Steps lead from a world whose versions and launches are those of plain evaluation to another.
use Rattle.std.proofs.Common.{◌≡◌, ℕ, List, [], ◌∷◌, ◌++◌, map, length, All, Contains, bytes_eq, Some, refl, sym, ◌∙◌, ap, subst}
use Rattle.std.specs.List.{slice_get, enumerate_from}
use Rattle.std.proofs.lemmas.List.{map-append}
use Rattle.std.proofs.lemmas.List.Concat.{flat_map-append}
use Rattle.std.proofs.lemmas.List.Elements.{All-nil, All-push, All-set, All-weaker, All-contains, Contains-push, Contains-append_left}
use Rattle.std.proofs.lemmas.Slice.Eq.{bytes_eq-Decides}
use Rattle.fly_types.specs.declared.text.Text.{Text}
use Rattle.fly_types.specs.declared.literals.LiteralMap.{LiteralMap}
use Rattle.fly_docs.specs.declared.attempt_name.AttemptName.{AttemptName}
use Rattle.fly_docs.specs.declared.submission.Submission.{Submission}
use Rattle.fly_docs.specs.declared.workflow.Workflow.{Workflow}
use Rattle.fly_rules.proofs.GroundLemmas.{Contains-map}
use Rattle.fly_state.specs.declared.slots.ExecState.{ExecState}
use Rattle.fly_state.specs.declared.moves.Move.{Move}
use Rattle.fly_state.specs.declared.entries.Entry.{Entry}
use Rattle.fly_state.specs.OfPlan.{IsOfPlan, IsViewOfPlan, IsEntryOfPlan}
use Rattle.fly_state.specs.PlanTables.{IsOuterPlan}
use Rattle.fly_state.specs.Plans.{RunPlan}
use Rattle.fly_state.specs.Rounds.{CitedMove, cited_places}
use Rattle.fly_state.proofs.AskedInputs.{found-in}
use Rattle.fly_state.proofs.Lists.{of_map, of_filter_map}
use Rattle.fly_world.specs.declared.versions.Past.{Past}
use Rattle.fly_world.specs.World.{World, Execution, Launch, execution_named, current_view}
use Rattle.fly_world.specs.Changes.{Change, adds_execution, adds_launch, adds_version, with_change, with_version}
use Rattle.fly_world.specs.Journals.{Step}
use Rattle.fly_world.specs.Laws.{submission_of, settlement_of}
use Rattle.fly_world.specs.ReadOff.{versions_of, submissions_by, submissions_in, settled_in, lookup_result}
use Rattle.fly_world.specs.Steps.{cited_move}
use Rattle.fly_world.proofs.FinalSlots.{named_there, get_front, state_current}
use Rattle.fly_world.proofs.JournalLemmas.{same_entries, step_cases}
use Rattle.fly_world.proofs.StepLemmas.{Permits, HasInputsOf, launch_in}
use Rattle.fly_world.proofs.TypeLemmas.{contained}
use Rattle.fly_eval.specs.Evaluation.{evaluation_of}
use Rattle.fly_eval.proofs.SeenKept.{evaluation-kept}
use Rattle.fly_agreement.specs.Agreement.{Agrees}
use Rattle.fly_agreement.specs.Laws.{HasNoCached}
use Rattle.fly_agreement.proofs.FirstAgrees.{first-agrees}
use Rattle.fly_agreement.proofs.LaterAgrees.{later-agrees}
use Rattle.fly_agreement.proofs.RoundAgrees.{round-agrees}
use Rattle.fly_history.specs.Recorded.{recorded_results, recorded_hits}
use Rattle.fly_history.specs.Laws.{HasEvaluatedInputs}
use Rattle.fly_history.proofs.Grown.{results-grow}
use Rattle.fly_history.proofs.Unanswered.{AreUnanswered, step-unanswered, hits-grow, entry-of_plan}
use Rattle.fly_history.proofs.KnownResults.{known-results}
use Rattle.fly_history.proofs.AskedSeen.{faultless-retries}
use Rattle.fly_history.proofs.LaunchSeen.{launch-seen}
use Rattle.fly_history.proofs.LaunchRuns.{IsRunning, step-runs, launch-node}

-- ---- what holds over entries

-- the state agrees with evaluation over what the entries record of the execution
abbrev pub AgreesOver : RunPlan → List Entry → Text → LiteralMap → ExecState → Type 0
AgreesOver plan journal exec inputs s =
    Agrees plan inputs (recorded_results journal exec) (recorded_hits journal exec) s

-- so does each version
abbrev pub IsAgreed : RunPlan → List Entry → Execution → Type 0
IsAgreed plan journal x = All (AgreesOver plan journal x.name x.inputs) (versions_of x)

-- the launch has the inputs of evaluation, of the execution that was submitted under its name
abbrev pub IsSeenLaunch : RunPlan → List Entry → Launch → Type 0
IsSeenLaunch plan journal l =
    (s : Submission) × Contains (submissions_in journal) s × (s.name ≡ l.name.exec)
    × HasEvaluatedInputs (evaluation_of plan s.inputs (recorded_results journal s.name) (recorded_hits journal s.name))
    l.name l.inputs

pub record IsEvaluated (plan : RunPlan) (journal : List Entry) (all : List Execution) (started : List Launch)
    : Type 0 where
  pub unanswered : AreUnanswered journal
  pub executions : All (IsAgreed plan journal) all
  pub launches : All (IsSeenLaunch plan journal) started

abbrev pub IsEvaluatedWorld : RunPlan → World → Type 0
IsEvaluatedWorld plan w = IsEvaluated plan w.entries w.executions w.launches

-- what the world tells of its entries, and which views it gives
pub record IsTold (plan : RunPlan) (w : World) : Type 0 where
  pub views : (exec : Text) (at : ℕ × Execution) → execution_named w exec ≡ Some at
      → IsViewOfPlan plan (current_view w at)
  pub submitted : map submission_of w.executions ≡ submissions_in w.entries
  pub settled : map settlement_of w.outcomes ≡ settled_in w.entries

-- ---- more entries

module _ (plan : RunPlan) (uncached : HasNoCached plan) (journal : List Entry) (none : AreUnanswered journal)
    (more : List Entry) where
  agreed-grown : (x : Execution) → IsAgreed plan journal x → IsAgreed plan (journal ++ more) x
  agreed-grown x h =
      let exec = x.name in
      All-weaker (AgreesOver plan journal exec x.inputs) (AgreesOver plan (journal ++ more) exec x.inputs)
      (λ s agrees.
      later-agrees plan x.inputs (recorded_results journal exec) (recorded_results (journal ++ more) exec)
      (recorded_hits journal exec) (recorded_hits (journal ++ more) exec) s
      (results-grow journal more exec) (hits-grow journal none (journal ++ more) exec) uncached agrees)
      (versions_of x) h

  launch-grown : (l : Launch) → IsSeenLaunch plan journal l → IsSeenLaunch plan (journal ++ more) l
  launch-grown l h =
      let s = h.0 in
      let x = h.3 in
      let kept = evaluation-kept plan s.inputs (recorded_results journal s.name)
      (recorded_results (journal ++ more) s.name)
      (recorded_hits journal s.name) (recorded_hits (journal ++ more) s.name)
      (results-grow journal more s.name) (hits-grow journal none (journal ++ more) s.name) in
      let later = kept.list x.0 x.1 in
      let stays = later.2 in (
        s,
        subst (λ ss. Contains ss s) (sym (flat_map-append (λ (e : Entry). submissions_by e.op e.reply) journal more))
            (Contains-append_left (submissions_in journal) (submissions_in more) s h.1),
        h.2,
        (
          later.0,
          later.1,
          stays.path ∙ x.2,
          stays.item ∙ x.3,
          ap (λ xs. slice_get xs l.name.attempt) stays.attempts.1
              ∙ get_front x.0.attempts stays.attempts.0 l.name.attempt l.inputs x.4,
        ),
      )

-- ---- steps

module _ (plan : RunPlan) (f : Workflow) (outer : IsOuterPlan plan f) (uncached : HasNoCached plan) (w : World)
    (told : IsTold plan w)
    (h : IsEvaluatedWorld plan w) where
  abbrev Over : Execution → ExecState → Type 0
  Over x s = AgreesOver plan w.entries x.name x.inputs s

  -- the entries that moves cite are of the plan
  cited-fine : (moves : List Move) (m : CitedMove) (e : Entry) → Contains (map (cited_move w) moves) m
      → Contains m.entries e
      → IsEntryOfPlan plan e
  cited-fine moves m e has cites =
      let move = of_map (cited_move w) moves m has in
      let place = of_filter_map (slice_get w.entries) (cited_places move.0.step) e
      (subst (λ (x : CitedMove). Contains x.entries e) (sym move.2) cites) in
      entry-of_plan plan e
      (All-contains (λ (x : Entry). lookup_result x ≡ []) w.entries e h.unanswered
      (contained w.entries place.0 e place.2))

  -- the current version of an execution
  module _ (exec : Text) (at : ℕ × Execution) (named : execution_named w exec ≡ Some at) where
    contained-there : Contains w.executions at.1
    contained-there = contained w.executions at.0 at.1 (named_there w exec at named)

    versions-agree : All (Over at.1) (versions_of at.1)
    versions-agree = All-contains (IsAgreed plan w.entries) w.executions at.1 h.executions contained-there

    current-agrees : Over at.1 at.1.state
    current-agrees =
        All-contains (Over at.1) (versions_of at.1) at.1.state versions-agree
        (Contains-push (map (λ (q : Past). q.state) at.1.past) at.1.state)

    current-of_plan : IsOfPlan plan at.1.state
    current-of_plan = subst (IsOfPlan plan) (state_current at.1) (told.views exec at named).state

  next-agrees : (at : ℕ × Execution) (state : ExecState) → Permits plan w (adds_version at state) → Over at.1 state
  next-agrees at state permits =
      let view = current_view w at in
      let results = recorded_results w.entries at.1.name in
      let hits = recorded_hits w.entries at.1.name in
      let now : Agrees plan at.1.inputs results hits view.state =
      subst (Over at.1) (sym (state_current at.1)) (current-agrees permits.exec at permits.named) in
      let of_plan = told.views permits.exec at permits.named in
      let retries = faultless-retries plan f outer at.1.inputs results hits view.state of_plan.state now in
      subst (Over at.1) (sym permits.state_is)
      (round-agrees plan f outer at.1.inputs results hits view of_plan retries uncached
      (known-results plan w told.settled at) now
      (map (cited_move w) permits.moves) (cited-fine permits.moves))

  version-agrees : (at : ℕ × Execution) (state : ExecState) → Permits plan w (adds_version at state)
      → IsAgreed plan w.entries (with_version state (length w.entries) at.1)
  version-agrees at state permits =
      subst (All (Over at.1))
      (ap (λ vs. vs ++ state ∷ [])
      (sym (map-append (λ (q : Past). q.state) at.1.past
      (record { state = at.1.state; until = length w.entries } ∷ []))))
      (All-push (Over at.1) (versions_of at.1) state (versions-agree permits.exec at permits.named)
      (next-agrees at state permits))

  execution-agrees : (name : Text) (inputs : LiteralMap) (state : ExecState)
      → Permits plan w (adds_execution name inputs state)
      → IsAgreed plan w.entries (record { name = name; inputs = inputs; past = []; state = state })
  execution-agrees name inputs state permits =
      let P = AgreesOver plan w.entries name inputs in
      All-push P [] state (All-nil P)
      (subst P (sym permits.1) (first-agrees plan inputs (recorded_results w.entries name)
      (recorded_hits w.entries name)))

  -- what is launched
  launch-first : (name : AttemptName) (inputs : LiteralMap) → HasInputsOf plan w name inputs → IsRunning plan w name
      → IsSeenLaunch plan w.entries (record { name = name; inputs = inputs; place = length w.entries })
  launch-first name inputs given going =
      let node = launch-node plan f outer w name inputs given going in
      let at = node.execution in
      let x = at.1 in
      let found = found-in (λ (a : ℕ × Execution). bytes_eq name.exec a.1.name) (enumerate_from 0 w.executions) at
      node.named in
      let s = submission_of x in (
        s,
        subst (λ ss. Contains ss s) told.submitted
            (Contains-map submission_of w.executions x (contained-there name.exec at node.named)),
        sym ((bytes_eq-Decides name.exec x.name).0 found.1),
        launch-seen plan f outer uncached x.inputs (recorded_results w.entries x.name) (recorded_hits w.entries x.name)
            x.state
            (current-of_plan name.exec at node.named) (current-agrees name.exec at node.named) node.number node.node
            node.there
            node.running inputs node.takes name node.path node.item node.attempt,
      )

  executions-after : (c : Change) → Permits plan w c → All (IsAgreed plan w.entries) (with_change w c).executions
  executions-after (adds_execution name inputs state) permits =
      All-push (IsAgreed plan w.entries) w.executions
      (record { name = name; inputs = inputs; past = []; state = state }) h.executions
      (execution-agrees name inputs state permits)
  executions-after (adds_version at state) permits =
      All-set (IsAgreed plan w.entries) w.executions at.0 (with_version state (length w.entries) at.1)
      (version-agrees at state permits)
      h.executions
  executions-after _ permits = h.executions

  launches-after : (c : Change) → Permits plan w c
      → ((name : AttemptName) → launch_in c ≡ name ∷ [] → IsRunning plan w name)
      → All (IsSeenLaunch plan w.entries) (with_change w c).launches
  launches-after (adds_launch name inputs) permits runs =
      All-push (IsSeenLaunch plan w.entries) w.launches
      (record { name = name; inputs = inputs; place = length w.entries }) h.launches
      (launch-first name inputs permits.2 (runs name refl))
  launches-after _ permits runs = h.launches

  -- a step leads to such a world
  pub step-evaluated : (e : Entry) (new : World) → Step plan w e new → IsEvaluatedWorld plan new
  step-evaluated e new s =
      step_cases plan (IsEvaluatedWorld plan) w new e s (λ c permits tells.
      let changed = with_change w c in
      let same : changed.entries ++ e ∷ [] ≡ w.entries ++ e ∷ [] = ap (λ es. es ++ e ∷ []) (same_entries w c) in
      let runs = λ (name : AttemptName) (is : launch_in c ≡ name ∷ []). step-runs plan w name e new s (tells.0 ∙ is) in
      subst (λ es. IsEvaluated plan es changed.executions changed.launches) (sym same) (record {
        unanswered = All-push (λ (x : Entry). lookup_result x ≡ []) w.entries e h.unanswered
            (step-unanswered plan uncached w e new s);
        executions = All-weaker (IsAgreed plan w.entries) (IsAgreed plan (w.entries ++ e ∷ []))
            (agreed-grown plan uncached w.entries h.unanswered (e ∷ [])) changed.executions
            (executions-after c permits);
        launches = All-weaker (IsSeenLaunch plan w.entries) (IsSeenLaunch plan (w.entries ++ e ∷ []))
            (launch-grown plan uncached w.entries h.unanswered (e ∷ [])) changed.launches
            (launches-after c permits runs);
      }))
