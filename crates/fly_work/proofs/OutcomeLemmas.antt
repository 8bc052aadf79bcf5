-- The work of what was claimed, and outcomes that may be handed in for it.
use Rattle.std.proofs.Common.{◌≡◌, inl, inr, ℕ, zero, suc, ℤ, true, false, List, [], ◌∷◌, flat_map, length, All, Option, Some, None, option_map, option_and_then, option_to_list, is_some, refl, sym, ◌∙◌, ap, subst, arith}
use Rattle.std.specs.Prelude.{pos, negsuc, ⊤}
use Rattle.std.specs.List.{list_all}
use Rattle.std.proofs.lemmas.Bool.{and_from, false≢true}
use Rattle.std.proofs.lemmas.List.{append-nil}
use Rattle.std.proofs.lemmas.List.Elements.{All-contains, All-head, All-tail}
use Rattle.std.proofs.lemmas.Option.{none-some, same_Some}
use Rattle.fly_types.specs.declared.said.Said.{Said}
use Rattle.fly_types.specs.declared.said.Said.TheVariants as said
use Rattle.fly_types.specs.declared.text.Text.{Text}
use Rattle.fly_types.specs.declared.variable.Variable.{Variable}
use Rattle.fly_docs.specs.declared.attempt_name.AttemptName.{AttemptName}
use Rattle.fly_docs.specs.declared.task.Task.{Task}
use Rattle.fly_docs.specs.declared.workflow.Workflow.{Workflow}
use Rattle.fly_docs.specs.Names.{IsId}
use Rattle.fly_docs.specs.Plans.{PlanNode}
use Rattle.fly_docs.specs.Templates.{is_id_text}
use Rattle.fly_policy.specs.declared.heard.Heard.{Heard}
use Rattle.fly_policy.specs.declared.heard.Heard.TheVariants as heard
use Rattle.fly_policy.specs.declared.outcome.Outcome.{Outcome}
use Rattle.fly_policy.specs.declared.outcome.Outcome.TheVariants as outcome
use Rattle.fly_policy.specs.Outcome.{AreOutputs, IsOutcomeOfSuccess, outcome_of_failure, IsOutcomeOf}
use Rattle.fly_state.specs.declared.entries.Entry.{Entry}
use Rattle.fly_state.specs.declared.entries.Op.TheVariants as op
use Rattle.fly_state.specs.declared.entries.Reply.TheVariants as reply
use Rattle.fly_state.specs.Moves.{where_true, task_run_by}
use Rattle.fly_state.specs.OfPlan.{item_output_variables}
use Rattle.fly_state.specs.PlanTables.{IsOuterPlan}
use Rattle.fly_state.specs.Plans.{RunPlan, node_numbered}
use Rattle.fly_state.specs.States.{first_state}
use Rattle.fly_state.proofs.TaskNodes.{task-node}
use Rattle.fly_world.specs.declared.work.Work.{Work}
use Rattle.fly_world.specs.Called.{work_claimed}
use Rattle.fly_world.specs.Journals.{Step, IsHistory}
use Rattle.fly_world.specs.Kept.{IsLaunchedReply}
use Rattle.fly_world.specs.Spots.{Spot, are_ids, attempt_spot, is_path_of_ids}
use Rattle.fly_world.specs.Steps.{step, if_known, on_attempt, is_outcome_at, finished}
use Rattle.fly_world.specs.Versions.{IsNodeOfAttempt, IsNameOfPlan, execution_names}
use Rattle.fly_world.specs.Work.{task_of_attempt, work_for, work_of}
use Rattle.fly_world.specs.World.{World, Launch, launch_of, is_launched, same_name}
use Rattle.fly_world.proofs.HandoutLemmas.{step-launched}
use Rattle.fly_world.proofs.LaunchLemmas.{found_there, named_same}
use Rattle.fly_world.proofs.NameLemmas.{history-named}
use Rattle.fly_world.proofs.SpotLemmas.{run_by-outer}
use Rattle.fly_world.proofs.StepLemmas.{attempt_found}
use Rattle.fly_world.proofs.TestLemmas.{gives_all-Decides, is_id-Decides, path_of_ids}
use Rattle.fly_world.proofs.WorldLemmas.{work-found}
use Rattle.fly_work.specs.Parts.{MayStand}

-- ---- the work of what was claimed

-- a node of an attempt has its task
task-there : (plan : RunPlan) (f : Workflow) → IsOuterPlan plan f → (name : AttemptName) (p : PlanNode)
    → IsNodeOfAttempt plan name p → (t : Task) × (task_of_attempt plan name ≡ Some t)
task-there plan f outer name p node =
    let at = task-node plan f outer (first_state plan (record { entries = [] })) node.0 p node.2 in (
      at.task,
      ap (λ o. option_and_then (task_run_by plan) (option_and_then (node_numbered plan) o)) node.1
          ∙ ap (option_and_then (task_run_by plan)) node.2 ∙ run_by-outer plan f outer node.0 p node.2 ∙ at.runs,
    )

-- what is launched has work
launched-work : (plan : RunPlan) (f : Workflow) → IsOuterPlan plan f → (closure : List ℕ) (journal : List Entry)
    (w : World) (name : AttemptName) → IsHistory plan closure journal w → is_launched w name ≡ true
    → (work : Work) × (work_of plan w name ≡ Some work)
launched-work plan f outer closure journal w name history launched = by (launch_of w name) refl launched
  where
    by : (o : Option Launch) → launch_of w name ≡ o → is_some o ≡ true
        → (work : Work) × (work_of plan w name ≡ Some work)
    by None e h = absurd (false≢true h)
    by (Some l) e h =
        let named = All-contains (λ (x : Launch). IsNameOfPlan plan (execution_names w) x.name) w.launches l
        (history-named plan closure journal w history).launched
        (found_there (λ (x : Launch). same_name name x.name) w.launches l e) in
        let same : l.name ≡ name = sym (named_same (λ (x : Launch). x.name) name w.launches l e) in
        let task = task-there plan f outer name named.0 (subst (λ n. IsNodeOfAttempt plan n named.0) same named.1) in
        (work_for name l.inputs task.0, work-found plan w name l task.0 e task.1)

-- what a step hands out has work
pub claimed-work : (plan : RunPlan) (f : Workflow) → IsOuterPlan plan f → (closure : List ℕ) (journal : List Entry)
    (w new : World) (e : Entry) (name : AttemptName) → IsHistory plan closure journal new → Step plan w e new
    → e.reply ≡ reply.Claimed name → (work : Work) × (work_claimed plan new e.reply ≡ Some work)
claimed-work plan f outer closure journal w new e name history made claimed =
    let launched : is_launched new name ≡ true =
    subst (IsLaunchedReply new) claimed (step-launched plan w new e made) in
    let there = launched-work plan f outer closure journal new name history launched in
    (there.0, ap (work_claimed plan new) claimed ∙ there.1)

-- the task of an attempt that has work
record IsWorkFor (plan : RunPlan) (name : AttemptName) (work : Work) : Type 0 where
  task : Task
  runs : task_of_attempt plan name ≡ Some task
  outputs : work.outputs ≡ task.interface.outputs

work-task : (plan : RunPlan) (w : World) (name : AttemptName) (work : Work) → work_of plan w name ≡ Some work
    → IsWorkFor plan name work
work-task plan w name work h = by (launch_of w name) (task_of_attempt plan name) refl h
  where
    by : (l : Option Launch) (t : Option Task) → task_of_attempt plan name ≡ t
        → option_and_then (λ (x : Launch). option_map (work_for name x.inputs) t) l ≡ Some work
        → IsWorkFor plan name work
    by None t runs h = absurd (none-some work h)
    by (Some l) None runs h = absurd (none-some work h)
    by (Some l) (Some t) runs h =
        let same : work_for name l.inputs t ≡ work = same_Some _ _ h in
        record {
          task = t;
          runs = runs;
          outputs = ap (λ (x : Work). x.outputs) (sym same);
        }

-- ---- the outcomes of children

-- no timeout; and where it succeeded, with the outputs
abbrev Fits : List Variable → Outcome → Type 0
Fits outputs (outcome.Succeeded given) = AreOutputs outputs given
Fits outputs outcome.TimedOut = ⊥
Fits outputs _ = ⊤

module _ (outputs : List Variable) where
  success-fits : (s : Said) (o : Outcome) → IsOutcomeOfSuccess outputs s o → Fits outputs o
  success-fits (said.Outputs given) o (inl h) = subst (Fits outputs) (sym h.1) h.0
  success-fits (said.Outputs given) o (inr h) = subst (Fits outputs) (sym h.1) tt
  success-fits (said.Error code message recoverable) o h = subst (Fits outputs) (sym h) tt
  success-fits said.TooLarge o h = subst (Fits outputs) (sym h) tt
  success-fits said.Neither o h = subst (Fits outputs) (sym h) tt

  failure-fits : (status : ℤ) (s : Said) → Fits outputs (outcome_of_failure status s)
  failure-fits status (said.Outputs given) = tt
  failure-fits status (said.Error code message true) = tt
  failure-fits status (said.Error code message false) = tt
  failure-fits status said.TooLarge = tt
  failure-fits status said.Neither = tt

  outcome-fits : (h : Heard) (o : Outcome) → IsOutcomeOf outputs h o → Fits outputs o
  outcome-fits heard.Fault o is = subst (Fits outputs) (sym is) tt
  outcome-fits heard.NoStatus o is = subst (Fits outputs) (sym is) tt
  outcome-fits (heard.Ended (pos zero) s) o is = success-fits s o (is.0 refl)
  outcome-fits (heard.Ended (pos (suc n)) s) o is =
      subst (Fits outputs) (sym (is.1 (λ e. absurd (cc)))) (failure-fits (pos (suc n)) s)
  outcome-fits (heard.Ended (negsuc n) s) o is =
      subst (Fits outputs) (sym (is.1 (λ e. absurd (cc)))) (failure-fits (negsuc n) s)

-- ---- names

ids-pass : (path : List Text) → All IsId path → list_all is_id_text path ≡ true
ids-pass [] h = refl
ids-pass (id ∷ ids) h =
    and_from (is_id_text id) (list_all is_id_text ids) ((is_id-Decides id).1 (All-head IsId id ids h))
    (ids-pass ids (All-tail IsId id ids h))

-- the name of an attempt has ids
pub name-ids : (name : AttemptName) → are_ids name.exec name.path ≡ true
name-ids name =
    and_from (is_id_text name.exec) (is_path_of_ids name.path) ((is_id-Decides name.exec).1 name.exec_is_id)
    (sym (path_of_ids name.path (λ e. absurd (omega (arith, ap length e, name.path_is_some))))
    ∙ ids-pass name.path name.path_of_ids)

-- ---- what may be handed in

module _ (plan : RunPlan) (name : AttemptName) (t : Task) (runs : task_of_attempt plan name ≡ Some t) where
  -- the node of the attempt gives the outputs of the task
  outputs-at : (p : PlanNode) → IsNodeOfAttempt plan name p → item_output_variables plan p ≡ t.interface.outputs
  outputs-at p node =
      let run : task_run_by plan p ≡ Some t =
      sym (ap (λ o. option_and_then (task_run_by plan) (option_and_then (node_numbered plan) o)) node.1
      ∙ ap (option_and_then (task_run_by plan)) node.2) ∙ runs in
      ap (λ o. flat_map (λ (x : Task). x.interface.outputs) (option_to_list o)) run ∙ append-nil t.interface.outputs

  outcome-at : (w : World) (o : Outcome) → Fits t.interface.outputs o
      → is_outcome_at plan o (attempt_spot plan w name) ≡ true
  outcome-at w o fits = by o (attempt_spot plan w name) refl fits
    where
      by : (o : Outcome) (s : Option Spot) → attempt_spot plan w name ≡ s → Fits t.interface.outputs o
          → is_outcome_at plan o s ≡ true
      by (outcome.Succeeded given) None e fits = refl
      by (outcome.Succeeded given) (Some spot) e fits =
          (gives_all-Decides (item_output_variables plan spot.node) given).1
          (subst (λ variables. AreOutputs variables given)
          (sym (outputs-at spot.node (attempt_found plan w name spot e))) fits)
      by (outcome.Recoverable code message) s e fits = refl
      by (outcome.Fatal code message) s e fits = refl
      by outcome.TimedOut s e fits = absurd fits

  fit-stands : (worker : ℕ) (o : Outcome) → Fits t.interface.outputs o → MayStand plan worker (op.Finish name o)
  unfolding step
  fit-stands worker o fits w =
      ap (λ b. is_some (where_true b (on_attempt plan w name (finished plan w name o)))) (outcome-at w o fits)
      ∙ ap (λ b. is_some (where_true b (Some (if_known (finished plan w name o) (attempt_spot plan w name)))))
      (name-ids name)

-- what a child comes to may be handed in for its work
pub finish-may-stand : (plan : RunPlan) (f : Workflow) → IsOuterPlan plan f → (w : World) (work : Work)
    → work_of plan w work.name ≡ Some work → (h : Heard) (o : Outcome) → IsOutcomeOf work.outputs h o → (worker : ℕ)
    → MayStand plan worker (op.Finish work.name o)
finish-may-stand plan f outer w work there h o is worker =
    let at = work-task plan w work.name work there in
    fit-stands plan work.name at.task at.runs worker o
    (subst (λ outputs. Fits outputs o) at.outputs (outcome-fits work.outputs h o is))
