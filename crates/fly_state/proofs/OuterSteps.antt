-- What a legal step makes of a node in a plan of task nodes, at a state of the plan.
use Rattle.std.proofs.Common.{◌≡◌, ℕ, ◌+◌, Bool, true, false, not, ◌||◌, ◌&&◌, if◌then◌else◌, nat_lt, List, [], ◌∷◌, length, find, bytes_eq, Contains, Option, Some, None, Ok, Err, is_ok, option_map, option_and_then, refl, sym, ◌∙◌, ap, subst, ⊎_elim}
use Rattle.std.specs.List.{slice_get}
use Rattle.std.proofs.lemmas.Bool.{and_parts, false≢true, true≢false, or_cases, or_left, or_right}
use Rattle.std.proofs.lemmas.Option.{none-some, same_Some}
use Rattle.std.proofs.lemmas.Slice.Eq.{bytes_eq-Decides, slice_eq-Decides}
use Rattle.fly_types.specs.declared.text.Text.{Text}
use Rattle.fly_types.specs.declared.literals.LiteralMap.{LiteralMap}
use Rattle.fly_policy.specs.declared.outcome.Outcome.{Outcome}
use Rattle.fly_policy.specs.declared.outcome.Outcome.TheVariants as outcome
use Rattle.fly_policy.specs.declared.retries.Next.{Next}
use Rattle.fly_policy.specs.declared.retries.Next.TheVariants as next
use Rattle.fly_policy.specs.Outcome.{AreOutputs}
use Rattle.fly_policy.specs.Retries.{next_of}
use Rattle.fly_cast.proofs.Options.{map-some}
use Rattle.fly_docs.specs.declared.node.Node.{Node}
use Rattle.fly_docs.specs.declared.node.Case.{Case}
use Rattle.fly_docs.specs.declared.node.Target.{Target, out-Target}
use Rattle.fly_docs.specs.declared.node.Target.TheOpen.{Target-F}
use Rattle.fly_docs.specs.declared.workflow.Workflow.{Workflow}
use Rattle.fly_docs.specs.Plans.{PlanNode, is_array}
use Rattle.fly_docs.specs.SlotInputs.{Taken}
use Rattle.fly_state.specs.declared.phase.Phase.{Phase}
use Rattle.fly_state.specs.declared.phase.Phase.TheVariants as phase
use Rattle.fly_state.specs.declared.slots.SlotState.{SlotState}
use Rattle.fly_state.specs.declared.moves.Step.{Step}
use Rattle.fly_state.specs.declared.moves.Step.TheVariants as step
use Rattle.fly_state.specs.declared.entries.Entry.{Entry}
use Rattle.fly_state.specs.declared.entries.Op.{Op}
use Rattle.fly_state.specs.declared.entries.Op.TheVariants as op
use Rattle.fly_state.specs.declared.entries.Reply.{Reply}
use Rattle.fly_state.specs.declared.entries.Reply.TheVariants as reply
use Rattle.fly_state.specs.declared.view.View.{View}
use Rattle.fly_state.specs.declared.view.Known.{Known}
use Rattle.fly_state.specs.Inputs.{inputs_of_node, value_in, fault_code, choice_of}
use Rattle.fly_state.specs.Moves.{Effect, of_slot, where_true, is_queued, is_retryable, is_succeeding, is_ready, is_cached, is_on, is_stored, hit_content, may_run, is_attempt, outcome_in, attempt_limit, slot_after, settled_slot, retried_slot, run_slot, failed_slot, inputs_when, begun_slot, queued_slot, chosen_slot, no_case_slot, input_failed_slot, skipped_slot, run_task_effect, run_array_effect, run_effect, hit_slot, stored_slot, success_phase, closed_node_slot, aborted_slot, node_effect, is_going_on, may_step}
use Rattle.fly_state.specs.OfPlan.{IsTypedSlot, IsNodeOfPlan, IsViewOfPlan, IsEntryOfPlan, HasFaultlessRetries, has_items, is_aborted, input_variables, output_variables, promised_numbers}
use Rattle.fly_state.specs.PlanTables.{IsOuterPlan, outer_node}
use Rattle.fly_state.specs.Plans.{RunPlan, Path, same_path, node_numbered, number_of, case_nodes, is_task, is_workflow, is_branch, is_workflow_target, is_branch_target, task_of}
use Rattle.fly_state.specs.States.{node_state, own_state, phase_of, is_final, is_not_yet_started, is_running, is_skipped, is_succeeded, is_broken}
use Rattle.fly_state.proofs.AskedInputs.{found-in, task-there}
use Rattle.fly_state.proofs.FinalLemmas.{where_true-test, where_true-there, option_and_then-there, node_effect-not_final}
use Rattle.fly_state.proofs.Lists.{first_in}
use Rattle.fly_state.proofs.OuterNodes.{number_of-own, planned-at, not-array, item_outputs-declared, inputs-typed, ready-sources}

-- ---- phases

-- started, and neither skipped nor aborted
abbrev pub is_asked : Phase → Bool
is_asked f = not (is_not_yet_started f || is_skipped f || is_aborted f)

-- it may run from here
abbrev pub may_go_on : Phase → Bool
may_go_on f = is_queued f || is_running f || is_retryable f

queued-going : (f : Phase) → is_queued f ≡ true → may_go_on f ≡ true
queued-going f e = or_left (is_queued f || is_running f) (is_retryable f) (or_left (is_queued f) (is_running f) e)

running-going : (f : Phase) → is_running f ≡ true → may_go_on f ≡ true
running-going f e = or_left (is_queued f || is_running f) (is_retryable f) (or_right (is_queued f) (is_running f) e)

pub retryable-going : (f : Phase) → is_retryable f ≡ true → may_go_on f ≡ true
retryable-going f e = or_right (is_queued f || is_running f) (is_retryable f) e

going-asked : (f : Phase) → may_go_on f ≡ true → is_asked f ≡ true
going-asked phase.Queued e = refl
going-asked phase.Running e = refl
going-asked phase.RetryableFailure e = refl
going-asked _ e = absurd (false≢true e)

succeeding-asked : (f : Phase) → is_succeeding f ≡ true → is_asked f ≡ true
succeeding-asked phase.Succeeding e = refl
succeeding-asked _ e = absurd (false≢true e)

pub same-path : (a b : Path) → same_path a b ≡ true → a ≡ b
same-path a b e = (slice_eq-Decides bytes_eq-Decides a b (same_path a b) refl).0 e

value-there : {X : Type 0} (t : Taken X) (x : X) → value_in t ≡ Some x → t ≡ Ok x
value-there (Ok y) x e = ap Ok (same_Some y x e)
value-there (Err fault) x e = absurd (none-some x e)

ok-there : {X : Type 0} (t : Taken X) (x : X) → t ≡ Ok x → is_ok t ≡ true
ok-there t x e = ap is_ok e

no-slot : (b : Bool) (o : Option LiteralMap) (m : LiteralMap) → b ≡ false → where_true b o ≡ Some m → ⊥
no-slot b o m none e = false≢true (sym none ∙ where_true-test b o m e)

module _ (plan : RunPlan) (w : Workflow) (outer : IsOuterPlan plan w) (v : View) (of_plan : IsViewOfPlan plan v)
    (retries : HasFaultlessRetries plan v.state) (i : ℕ) (n : Node) (there : slice_get w.nodes i ≡ Some n) where
  abbrev pub p : PlanNode
  p = outer_node w (i, n)

  abbrev pub own : SlotState
  own = own_state v.state i

  planned : node_numbered plan i ≡ Some p
  planned = planned-at plan w outer i n there

  node_of : IsNodeOfPlan plan v.state i p
  node_of = of_plan.state.nodes i p planned

  abbrev Typed : SlotState → Type 0
  Typed slot = IsTypedSlot (length (case_nodes n)) (input_variables plan p) (output_variables plan p) slot

  -- what it promises from succeeded at the view
  abbrev pub HasSources : Type 0
  HasSources = (j : ℕ) → Contains (promised_numbers plan p) j → is_succeeded (phase_of v.state j) ≡ true

  -- A slot that the node may have after a round.
  pub record IsFine (slot : SlotState) : Type 0 where
    pub typed : IsTypedSlot (length (case_nodes n)) (input_variables plan p) (output_variables plan p) slot
    pub stays : is_final own.phase ≡ true → slot ≡ own
    pub promised : is_asked slot.phase ≡ true → HasSources
    pub faultless : may_go_on slot.phase ≡ true → is_ok (inputs_of_node plan v.state p None) ≡ true
    pub aborted : is_aborted slot.phase ≡ true → is_broken plan v.state [] ≡ true

  asked-sources : is_asked own.phase ≡ true → HasSources
  asked-sources asked j has = node_of.promised j (or_right (has_items (node_state v.state i)) (is_asked own.phase)
      asked) has

  own-faultless : may_go_on own.phase ≡ true → is_ok (inputs_of_node plan v.state p None) ≡ true
  own-faultless e =
      ⊎_elim (λ goes. node_of.faultless (or_left (is_queued own.phase || is_running own.phase)
      (has_items (node_state v.state i)) goes))
      (λ again. retries i p planned again)
      (or_cases (is_queued own.phase || is_running own.phase) (is_retryable own.phase) e)

  -- the slot as it is
  pub fine-own : IsFine own
  fine-own = record {
    typed = node_of.typed;
    stays = λ final. refl;
    promised = asked-sources;
    faultless = own-faultless;
    aborted = node_of.aborted;
  }

  -- ---- the slots that steps make

  module _ (live : is_final own.phase ≡ false) where
    abbrev Lives : SlotState → Type 0
    Lives slot = is_final own.phase ≡ true → slot ≡ own

    lives : (slot : SlotState) → Lives slot
    lives slot final = absurd (true≢false (sym final ∙ live))

    -- a node that goes on is queued, runs or may be tried again
    fine-going : (f : Phase) (attempt : ℕ) → may_go_on own.phase ≡ true → is_succeeded f || is_succeeding f ≡ false
        → is_aborted f ≡ false
        → IsFine (record own { phase = f; attempt = attempt })
    fine-going f attempt goes early whole = record {
      typed = record {
        choice = node_of.typed.choice;
        taken = node_of.typed.taken;
        given = node_of.typed.given;
        complete = λ done. absurd (true≢false (sym done ∙ early));
      };
      stays = lives _;
      promised = λ asked. asked-sources (going-asked own.phase goes);
      faultless = λ more. own-faultless goes;
      aborted = λ gone. absurd (true≢false (sym gone ∙ whole));
    }

    -- one that ended without outputs of its own
    fine-ended : (f : Phase) (code : Option Text) → HasSources → is_succeeded f || is_succeeding f ≡ false
        → may_go_on f ≡ false → is_aborted f ≡ false
        → IsFine (record own { phase = f; code = code })
    fine-ended f code sources early ended whole = record {
      typed = record {
        choice = node_of.typed.choice;
        taken = node_of.typed.taken;
        given = node_of.typed.given;
        complete = λ done. absurd (true≢false (sym done ∙ early));
      };
      stays = lives _;
      promised = λ asked. sources;
      faultless = λ more. absurd (true≢false (sym more ∙ ended));
      aborted = λ gone. absurd (true≢false (sym gone ∙ whole));
    }

    -- one that gave these outputs
    fine-given : (f : Phase) (outputs : LiteralMap) → HasSources → AreOutputs (output_variables plan p) outputs
        → may_go_on f ≡ false → is_aborted f ≡ false
        → IsFine (record own { phase = f; outputs = Some outputs })
    fine-given f outputs sources typed ended whole = record {
      typed = record {
        choice = node_of.typed.choice;
        taken = node_of.typed.taken;
        given = typed;
        complete = λ done. refl;
      };
      stays = lives _;
      promised = λ asked. sources;
      faultless = λ more. absurd (true≢false (sym more ∙ ended));
      aborted = λ gone. absurd (true≢false (sym gone ∙ whole));
    }

    -- ---- nodes that are not yet started

    module _ (whole : is_broken plan v.state [] ≡ false) where
      go-sources : is_ready plan v.state i ≡ true → HasSources
      go-sources go = ready-sources plan w outer i n there v.state of_plan.state go whole

      fine-queued : (slot : SlotState) → queued_slot plan v.state i p ≡ Some slot → IsFine slot
      fine-queued slot e =
          let made = map-some (λ inputs. record own { phase = phase.Queued; inputs = Some inputs })
          (inputs_when (is_task n || is_array n) plan v.state i p) slot e in
          let inputs = made.0 in
          let wanted = inputs_of_node plan v.state p None in
          let test = (is_task n || is_array n) && is_ready plan v.state i in
          let go = (and_parts _ _ (where_true-test test (value_in wanted) inputs made.1)).1 in
          let is : wanted ≡ Ok inputs = value-there wanted inputs
          (where_true-there test (value_in wanted) inputs made.1) in
          subst IsFine (sym made.2) (record {
            typed = record {
              choice = node_of.typed.choice;
              taken = inputs-typed plan w outer i n there v.state of_plan.state inputs is;
              given = node_of.typed.given;
              complete = λ done. absurd (false≢true done);
            };
            stays = lives _;
            promised = λ asked. go-sources go;
            faultless = λ more. ok-there wanted inputs is;
            aborted = λ gone. absurd (false≢true gone);
          })

      fine-input_failed : (slot : SlotState) → input_failed_slot plan v.state i p ≡ Some slot → IsFine slot
      fine-input_failed slot e =
          let test = not (is_branch n) && is_ready plan v.state i in
          let codes_are = fault_code (inputs_of_node plan v.state p None) in
          let go = (and_parts _ _ (where_true-test test (option_map (failed_slot own) codes_are) slot e)).1 in
          let made = map-some (failed_slot own) codes_are slot
          (where_true-there test (option_map (failed_slot own) codes_are) slot e) in
          subst IsFine (sym made.2) (fine-ended phase.Failed (Some made.0) (go-sources go) refl refl refl)

    fine-skipped : (slot : SlotState) → skipped_slot plan v.state i ≡ Some slot → IsFine slot
    fine-skipped slot e =
        let same = same_Some _ _ (where_true-there _ _ slot e) in
        subst IsFine same (record {
          typed = record {
            choice = node_of.typed.choice;
            taken = node_of.typed.taken;
            given = node_of.typed.given;
            complete = λ done. absurd (false≢true done);
          };
          stays = lives _;
          promised = λ asked. absurd (false≢true asked);
          faultless = λ more. absurd (false≢true more);
          aborted = λ gone. absurd (false≢true gone);
        })

    fine-aborted : (slot : SlotState) → is_broken plan v.state [] ≡ true → aborted_slot own ≡ Some slot → IsFine slot
    fine-aborted slot broken e =
        let same = same_Some _ _ (where_true-there _ _ slot e) in
        subst IsFine same (record {
          typed = record {
            choice = node_of.typed.choice;
            taken = node_of.typed.taken;
            given = node_of.typed.given;
            complete = λ done. absurd (false≢true done);
          };
          stays = lives _;
          promised = λ asked. absurd (false≢true asked);
          faultless = λ more. absurd (false≢true more);
          aborted = λ gone. broken;
        })

    -- ---- nodes that run

    fine-run : (entries : List Entry) (miss lease : Option ℕ) (e : Effect)
        → run_effect plan v entries i p miss lease ≡ Some e
        → IsFine e.slot × (e.items ≡ None)
    fine-run entries miss lease e h =
        let way = λ (b : Bool). if b then run_array_effect plan v entries i p miss lease else run_task_effect plan v
        entries i p miss lease in
        let queued = where_true-test (is_queued own.phase) (way (is_array n)) e h in
        let ran : run_task_effect plan v entries i p miss lease ≡ Some e =
        sym (ap way (not-array plan w outer i n there))
        ∙ where_true-there (is_queued own.phase) (way (is_array n)) e h in
        let task = option_and_then-there (λ t. where_true (may_run v p t miss lease entries)
        (Some (of_slot (run_slot own)))) (task_of plan p) e ran in
        let same : of_slot (run_slot own) ≡ e =
        same_Some _ _ (where_true-there (may_run v p task.0 miss lease entries) (Some (of_slot (run_slot own))) e
        task.2) in (
          subst (λ (x : Effect). IsFine x.slot) same (fine-going phase.Running 0 (queued-going own.phase queued) refl
              refl),
          ap (λ (x : Effect). x.items) (sym same),
        )

    fine-retried : (slot : SlotState) → retried_slot own ≡ Some slot → IsFine slot
    fine-retried slot e =
        let again = where_true-test (is_retryable own.phase) (Some
        (record own { phase = phase.Running; attempt = own.attempt + 1 })) slot e in
        let same = same_Some _ _ (where_true-there (is_retryable own.phase)
        (Some (record own { phase = phase.Running; attempt = own.attempt + 1 })) slot e) in
        subst IsFine same
        (fine-going phase.Running (own.attempt + 1) (retryable-going own.phase again) refl refl)

    fine-stored : (entries : List Entry) (slot : SlotState) → stored_slot v entries i p ≡ Some slot → IsFine slot
    fine-stored [] slot e = absurd (none-some slot e)
    fine-stored (entry ∷ []) slot e =
        let test = is_succeeding own.phase && is_stored v p entry in
        let stored : SlotState = record own { phase = phase.Succeeded } in
        let ends = (and_parts (is_succeeding own.phase) (is_stored v p entry)
        (where_true-test test (Some stored) slot e)).0 in
        subst IsFine (same_Some stored slot (where_true-there test (Some stored) slot e)) (record {
          typed = record {
            choice = node_of.typed.choice;
            taken = node_of.typed.taken;
            given = node_of.typed.given;
            complete = λ done. node_of.typed.complete (or_right (is_succeeded own.phase) (is_succeeding own.phase)
                ends);
          };
          stays = lives _;
          promised = λ asked. asked-sources (succeeding-asked own.phase ends);
          faultless = λ more. absurd (false≢true more);
          aborted = λ gone. absurd (false≢true gone);
        })
    fine-stored (a ∷ b ∷ entries) slot e = absurd (none-some slot e)

    -- what the catalog was found to have
    hit-typed : (entry : Entry) (o : Op) (r : Reply) (content : LiteralMap) → IsEntryOfPlan plan entry → entry.op ≡ o
        → entry.reply ≡ r
        → hit_content v p (record entry { op = o; reply = r }) ≡ Some content
        → AreOutputs (output_variables plan p) content
    hit-typed entry (op.Lookup exec path) (reply.Hit found) content fine is_op is_reply e =
        let on = where_true-test (is_on v p exec path) (Some found) content e in
        let same : found ≡ content = same_Some _ _ (where_true-there (is_on v p exec path) (Some found) content e) in
        let at : p.path ≡ path = same-path p.path path (and_parts (bytes_eq v.name exec) (same_path p.path path) on).1
        in
        subst (AreOutputs (output_variables plan p)) same
        (fine exec path found i p is_op is_reply (subst (λ (x : Path). number_of plan x ≡ Some i) at
        (number_of-own plan w outer i n there)) planned)
    hit-typed entry (op.Lookup exec path) _ content fine is_op is_reply e = absurd (none-some content e)
    hit-typed entry _ r content fine is_op is_reply e = absurd (none-some content e)

    fine-hit : (entries : List Entry) (slot : SlotState)
        → ((entry : Entry) → Contains entries entry → IsEntryOfPlan plan entry)
        → hit_slot plan v entries i p ≡ Some slot → IsFine slot
    fine-hit [] slot cited e = absurd (none-some slot e)
    fine-hit (entry ∷ []) slot cited e =
        let test = is_queued own.phase && is_cached plan p in
        let hit : LiteralMap → SlotState = λ content. record own { phase = phase.Succeeded; outputs = Some content }
        in
        let queued = (and_parts (is_queued own.phase) (is_cached plan p)
        (where_true-test test (option_map hit (hit_content v p entry)) slot e)).0 in
        let made = map-some hit (hit_content v p entry) slot (where_true-there test
        (option_map hit (hit_content v p entry)) slot e) in
        subst IsFine (sym made.2)
        (fine-given phase.Succeeded made.0 (asked-sources (going-asked own.phase (queued-going own.phase queued)))
        (hit-typed entry entry.op entry.reply made.0 (cited entry (first_in entry [])) refl refl made.1) refl refl)
    fine-hit (a ∷ b ∷ entries) slot cited e = absurd (none-some slot e)

    -- ---- outcomes

    outcome-typed : (o : Outcome) (outputs : LiteralMap) → outcome_in v p None own.attempt ≡ Some o
        → o ≡ outcome.Succeeded outputs
        → AreOutputs (output_variables plan p) outputs
    outcome-typed o outputs e success =
        let test = λ (k : Known). is_attempt v p None own.attempt k.name in
        let known = option_and_then-there (λ (k : Known). k.outcome) (find test v.launches) o e in
        let found = found-in test v.launches known.0 known.1 in
        let name = known.0.name in
        let on = (and_parts _ _ (and_parts _ _ found.1).0).0 in
        let at : p.path ≡ name.path = same-path p.path name.path
        (and_parts (bytes_eq v.name name.exec) (same_path p.path name.path) on).1 in
        subst (λ vs. AreOutputs vs outputs) (item_outputs-declared plan w outer i n there)
        (of_plan.outcomes known.0 found.0 i p outputs
        (subst (λ (x : Path). number_of plan x ≡ Some i) at (number_of-own plan w outer i n there)) planned
        (known.2 ∙ ap Some success))

    fine-after : (runs : is_running own.phase ≡ true) (done : Phase) → may_go_on done ≡ false
        → is_aborted done ≡ false → (limit : ℕ) (o : Outcome)
        → ((outputs : LiteralMap) → o ≡ outcome.Succeeded outputs → AreOutputs (output_variables plan p) outputs)
        → IsFine (slot_after done own o (next_of o own.attempt limit))
    fine-after runs done ended whole limit o typed = by o typed
      where
        goes : may_go_on own.phase ≡ true
        goes = running-going own.phase runs

        sources : HasSources
        sources = asked-sources (going-asked own.phase goes)

        again : IsFine (record own { phase = phase.RetryableFailure })
        again = fine-going phase.RetryableFailure own.attempt goes refl refl

        failed : (code : Option Text) → IsFine (record own { phase = phase.Failed; code = code })
        failed code = fine-ended phase.Failed code sources refl refl refl

        retry : (x : Outcome) (other : Next) (b : Bool) → IsFine (slot_after done own x other)
            → IsFine (slot_after done own x (if b then next.Again else other))
        retry x other true fine = again
        retry x other false fine = fine

        by : (x : Outcome) → ((outputs : LiteralMap) → x ≡ outcome.Succeeded outputs → AreOutputs
            (output_variables plan p) outputs)
            → IsFine (slot_after done own x (next_of x own.attempt limit))
        by (outcome.Succeeded outputs) given = fine-given done outputs sources (given outputs refl) ended whole
        by (outcome.Recoverable code message) given =
            retry (outcome.Recoverable code message) next.Failed (nat_lt (own.attempt + 1) limit) (failed (Some code))
        by (outcome.Fatal code message) given = failed (Some code)
        by outcome.TimedOut given = retry outcome.TimedOut next.TimedOut (nat_lt (own.attempt + 1) limit)
            (fine-ended phase.TimedOut _ sources refl refl refl)

    fine-settled : (slot : SlotState) → settled_slot plan v p None (success_phase plan p) own ≡ Some slot
        → IsFine slot
    fine-settled slot e =
        let done = success_phase plan p in
        let limit = attempt_limit plan p in
        let after = λ (o : Outcome). slot_after done own o (next_of o own.attempt limit) in
        let outcomes = option_map after (outcome_in v p None own.attempt) in
        let runs = where_true-test (is_running own.phase) outcomes slot e in
        let made = map-some after (outcome_in v p None own.attempt) slot
        (where_true-there (is_running own.phase) outcomes slot e) in
        subst IsFine (sym made.2)
        (fine-after runs done (by-cached may_go_on refl refl) (by-cached is_aborted refl refl) limit made.0
        (λ outputs is. outcome-typed made.0 outputs made.1 is))
      where
        by-cached : (test : Phase → Bool) → test phase.Succeeding ≡ false → test phase.Succeeded ≡ false
            → test (success_phase plan p) ≡ false
        by-cached test a b = by (is_cached plan p)
          where
            by : (c : Bool) → test (if c then phase.Succeeding else phase.Succeeded) ≡ false
            by true = a
            by false = b

  -- ---- all steps

  -- what is neither a workflow node nor a branch
  task-alone : (is_workflow n ≡ false) × (is_branch n ≡ false)
  task-alone = let its = task-there plan w outer i n there in (ap is_workflow_target its.2, ap is_branch_target its.2)

  made : (o : Option SlotState) (e : Effect) → option_map of_slot o ≡ Some e
      → ((x : SlotState) → o ≡ Some x → IsFine x) → IsFine e.slot × (e.items ≡ None)
  made o e h fine =
      let slot = map-some of_slot o e h in
      (subst (λ (x : Effect). IsFine x.slot) (sym slot.2) (fine slot.0 slot.1), ap (λ (x : Effect). x.items) slot.2)

  no-inputs : (kind : Bool) (m : LiteralMap) → kind ≡ false → inputs_when kind plan v.state i p ≡ Some m → ⊥
  no-inputs kind m none e =
      false≢true (sym none ∙ (and_parts kind (is_ready plan v.state i)
      (where_true-test (kind && is_ready plan v.state i) (value_in (inputs_of_node plan v.state p None)) m e)).0)

  no-closing : (t : Target-F Target Case Node) → out-Target n.target ≡ t → (slot : SlotState)
      → closed_node_slot plan v.state i p ≡ Some slot → ⊥
  no-closing (Target-F.Task id) is slot e =
      let none : closed_node_slot plan v.state i p ≡ where_true (is_running own.phase) None = rw is refl in
      none-some slot (where_true-there (is_running own.phase) None slot (sym none ∙ e))
  no-closing _ is slot e =
      let its = task-there plan w outer i n there in
      let none : closed_node_slot plan v.state i p ≡ where_true (is_running own.phase) None = let at = its.2 in rw at
      refl in
      none-some slot (where_true-there (is_running own.phase) None slot (sym none ∙ e))

  -- the instance isn't broken
  going : is_going_on plan v.state [] && not (is_broken plan v.state []) ≡ true → is_broken plan v.state [] ≡ false
  going e = by (is_broken plan v.state []) (and_parts _ _ e).1
    where
      by : (c : Bool) → not c ≡ true → c ≡ false
      by true h = absurd (false≢true h)
      by false h = refl

  by-step : (entries : List Entry) (st : Step) (e : Effect)
      → ((entry : Entry) → Contains entries entry → IsEntryOfPlan plan entry)
      → is_final own.phase ≡ false → may_step plan v.state [] st ≡ true → node_effect plan v entries i p st ≡ Some e
      → IsFine e.slot × (e.items ≡ None)
  by-step entries step.Begin e cited live may h =
      made (begun_slot plan v.state i p) e h (λ x is.
      let there = map-some (λ inputs. record own { phase = phase.Running; inputs = Some inputs })
      (inputs_when (is_workflow n) plan v.state i p) x is in
      absurd (no-inputs (is_workflow n) there.0 task-alone.0 there.1))
  by-step entries step.Queue e cited live may h = made (queued_slot plan v.state i p) e h
      (fine-queued live (going may))
  by-step entries (step.Choose case) e cited live may h =
      made (chosen_slot plan v.state i p case) e h (λ x is.
      let choice = option_and_then-there _ (option_and_then (λ inputs. choice_of inputs n)
      (inputs_when (is_branch n) plan v.state i p)) x is in
      let there = option_and_then-there (λ inputs. choice_of inputs n) (inputs_when (is_branch n) plan v.state i p)
      choice.0 choice.1 in
      absurd (no-inputs (is_branch n) there.0 task-alone.1 there.1))
  by-step entries step.NoCase e cited live may h =
      made (no_case_slot plan v.state i p) e h (λ x is.
      let there = option_and_then-there _ (inputs_when (is_branch n) plan v.state i p) x is in
      absurd (no-inputs (is_branch n) there.0 task-alone.1 there.1))
  by-step entries step.InputFail e cited live may h = made (input_failed_slot plan v.state i p) e h
      (fine-input_failed live (going may))
  by-step entries step.Skip e cited live may h = made (skipped_slot plan v.state i) e h (fine-skipped live)
  by-step entries (step.Run miss lease) e cited live may h = fine-run live entries miss lease e h
  by-step entries (step.Hit place) e cited live may h = made (hit_slot plan v entries i p) e h
      (λ x. fine-hit live entries x cited)
  by-step entries step.Retry e cited live may h = made (retried_slot own) e h (fine-retried live)
  by-step entries step.Settle e cited live may h =
      let slot = settled_slot plan v p None (success_phase plan p) own in
      made (where_true (is_task n) slot) e h (λ x is. fine-settled live x (where_true-there (is_task n) slot x is))
  by-step entries (step.Stored place) e cited live may h = made (stored_slot v entries i p) e h
      (fine-stored live entries)
  by-step entries step.Close e cited live may h =
      made (closed_node_slot plan v.state i p) e h (λ x is. absurd (no-closing (out-Target n.target) refl x is))
  by-step entries step.Abort e cited live may h = made (aborted_slot own) e h (λ x. fine-aborted live x may)

  -- what a legal step makes of the node
  pub fine-step : (entries : List Entry) (st : Step) (e : Effect)
      → ((entry : Entry) → Contains entries entry → IsEntryOfPlan plan entry)
      → may_step plan v.state [] st ≡ true → node_effect plan v entries i p st ≡ Some e
      → IsFine e.slot × (e.items ≡ None)
  fine-step entries st e cited may h = by-step entries st e cited (node_effect-not_final plan v entries i p st e h)
      may h
