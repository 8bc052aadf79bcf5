-- The node of an attempt that was launched, and the end of an attempt that was claimed.
use Rattle.std.proofs.Common.{◌≡◌, ◌≢◌, inl, inr, ℕ, zero, suc, ◌+◌, Bool, true, false, List, [], ◌∷◌, map, length, find, bytes_eq, AllPairs, Contains, Option, Some, None, option_map, option_and_then, refl, sym, ◌∙◌, ap, subst, arith}
use Rattle.std.specs.List.{slice_get, enumerate_from}
use Rattle.std.specs.Option.{option_map_or}
use Rattle.std.proofs.lemmas.List.Elements.{All-contains}
use Rattle.std.proofs.lemmas.Bool.{cond-true, cond-false}
use Rattle.std.proofs.lemmas.Option.{none-some, same_Some, slice_get-get_or, slice_get-map, slice_get_within, get_or_from_slice_get}
use Rattle.std.proofs.lemmas.Slice.Eq.{bytes_eq-Decides}
use Rattle.fly_types.specs.declared.text.Text.{Text}
use Rattle.fly_docs.specs.declared.attempt_name.AttemptName.{AttemptName}
use Rattle.fly_docs.specs.Plans.{PlanNode}
use Rattle.fly_policy.specs.declared.outcome.Outcome.{Outcome}
use Rattle.fly_state.specs.declared.entries.Entry.{Entry}
use Rattle.fly_state.specs.declared.entries.Op.TheVariants as op
use Rattle.fly_state.specs.declared.entries.Reply.{Reply}
use Rattle.fly_state.specs.declared.entries.Reply.TheVariants as reply
use Rattle.fly_state.specs.Moves.{where_true}
use Rattle.fly_state.specs.Plans.{RunPlan, node_numbered, number_of}
use Rattle.fly_state.proofs.Lists.{of_map}
use Rattle.fly_world.specs.World.{World, Execution, Launch, Claim, Settlement, same_name, execution_named, launch_of, claim_of, is_launched, is_claimed, is_settled}
use Rattle.fly_world.specs.Called.{entry_of}
use Rattle.fly_world.specs.Changes.{with_change, with_entry, adds_outcome}
use Rattle.fly_world.specs.Journals.{IsHistory, IsStepBy, Step}
use Rattle.fly_world.specs.Spots.{Spot, spot_numbered, spot_of, has_attempts, where_named, attempt_spot, are_ids}
use Rattle.fly_world.specs.Steps.{Answer, says, does, step, first_fitting, if_known, on_attempt, is_overdue, timed_out, is_outcome_at, finished, on_finish}
use Rattle.fly_world.specs.Versions.{IsNameOfPlan, HasNamesOfPlan, execution_names}
use Rattle.fly_world.proofs.AnswerLemmas.{tested, allowed, allowed_behind}
use Rattle.fly_world.proofs.LaunchLemmas.{found_there, named_same, name_of_launch, name_of_settlement}
use Rattle.fly_world.proofs.NameLemmas.{history-named}
use Rattle.fly_work.proofs.AttemptSteps.{some-there, name-last, settled-named, claimed-launched}

-- ---- answers

-- What a step does that found its memory: the answer to its operation, whose change was made.
pub record IsAnsweredBy (plan : RunPlan) (w : World) (e : Entry) (new : World) : Type 0 where
  pub answer : Answer
  pub is : step plan w e.worker e.op ≡ Some answer
  pub reply_is : e.reply ≡ answer.reply
  pub world_is : new ≡ with_entry (with_change w answer.change) e

pub answered : (plan : RunPlan) (w new : World) (e : Entry) → Step plan w e new → (e.reply ≡ reply.NoMemory → ⊥)
    → IsAnsweredBy plan w e new
answered plan w new e s found = by (step plan w e.worker e.op) refl s
  where
    by : (o : Option Answer) → step plan w e.worker e.op ≡ o → IsStepBy w e new o → IsAnsweredBy plan w e new
    by None is s = absurd s
    by (Some a) is (inl done) = record { answer = a; is = is; reply_is = done.reply; world_is = done.world }
    by (Some a) is (inr refused) = absurd (found refused.reply)

-- ---- spots

-- among distinct names the execution of a number is that of its name
pub named-number : (xs : List Execution) (k i : ℕ) (x : Execution)
    → AllPairs (λ a b. a ≢ b) (map (λ (y : Execution). y.name) xs) → slice_get xs i ≡ Some x
    → find (λ (at : ℕ × Execution). bytes_eq x.name at.1.name) (enumerate_from k xs) ≡ Some (k + i, x)
named-number [] k i x distinct there = absurd (none-some x there)
named-number (y ∷ ys) k zero x distinct there =
    let same : y ≡ x = same_Some y x there in
    cond-true (bytes_eq x.name y.name) (Some (k, y)) _
    ((bytes_eq-Decides x.name y.name).1 (ap (λ (z : Execution). z.name) (sym same)))
    ∙ ap (λ z. Some (k, z)) same ∙ ap (λ n. Some (n, x)) (omega arith)
named-number (y ∷ ys) k (suc i) x distinct there =
    cond-false (bytes_eq x.name y.name) (Some (k, y)) _ (other (bytes_eq x.name y.name) refl)
    ∙ named-number ys (k + 1) i x (λ a b d before in_ys. distinct (suc a) (suc b) d (omega arith) (omega arith)) there
    ∙ ap (λ n. Some (n, x)) (omega arith)
  where
    named : slice_get (map (λ (z : Execution). z.name) ys) i ≡ Some x.name
    named = slice_get-map (λ (z : Execution). z.name) ys i ∙ ap (option_map (λ (z : Execution). z.name)) there

    apart : y.name ≢ x.name
    apart e =
        let within = slice_get_within (map (λ (z : Execution). z.name) ys) i x.name named in
        distinct 0 (suc i) x.name (omega arith) (omega arith)
        (e ∙ sym (get_or_from_slice_get (map (λ (z : Execution). z.name) ys) i x.name x.name named))

    other : (b : Bool) → bytes_eq x.name y.name ≡ b → b ≡ false
    other true e = absurd (apart (sym ((bytes_eq-Decides x.name y.name).0 e)))
    other false e = refl

-- the execution of a name that is among the names
pub execution-there : (plan : RunPlan) (w : World) → HasNamesOfPlan plan w → (exec : Text)
    → Contains (execution_names w) exec
    → (at : ℕ × Execution) × (execution_named w exec ≡ Some at)
execution-there plan w names exec there =
    let found = of_map (λ (x : Execution). x.name) w.executions exec there in
    let x = found.0 in
    let i = found.1.0 in
    let at : slice_get w.executions i ≡ Some x = slice_get-get_or w.executions i x found.1.1 ∙ ap Some found.1.2 in (
      (0 + i, x),
      subst (λ n. execution_named w n ≡ Some (0 + i, x)) found.2
          (named-number w.executions 0 i x names.distinct at),
    )

-- the spot of an attempt, by its execution, its number and its node
pub spot-there : (plan : RunPlan) (w : World) (name : AttemptName) (at : ℕ × Execution) (i : ℕ) (p : PlanNode)
    → execution_named w name.exec ≡ Some at → number_of plan name.path ≡ Some i → node_numbered plan i ≡ Some p
    → has_attempts p.node name.item ≡ true
    → attempt_spot plan w name ≡ Some (record { execution = at; number = i; node = p })
spot-there plan w name at i p named numbered planned has =
    let spot : Spot = record { execution = at; number = i; node = p } in
    let found : spot_of plan w name.exec name.path ≡ Some spot =
    ap (option_and_then (λ (x : ℕ × Execution). option_and_then (spot_numbered plan x)
    (number_of plan name.path))) named
    ∙ ap (option_and_then (spot_numbered plan at)) numbered
    ∙ ap (option_map (λ (q : PlanNode). record { execution = at; number = i; node = q })) planned in
    ap (option_and_then (where_named name)) found ∙ ap (λ b. where_true b (Some spot)) has

module _ (plan : RunPlan) (closure : List ℕ) (w : World) (history : IsHistory plan closure w.entries w) where
  -- what is launched has its spot
  pub launched-spot : (name : AttemptName) → is_launched w name ≡ true
      → (spot : Spot) × (attempt_spot plan w name ≡ Some spot)
  launched-spot name launched =
      let names = history-named plan closure w.entries w history in
      let l = some-there (launch_of w name) launched in
      let same = named_same name_of_launch name w.launches l.0 l.1 in
      let of_plan = All-contains (λ (x : Launch). IsNameOfPlan plan
      (execution_names w) x.name) w.launches l.0 names.launched
      (found_there (λ (x : Launch). same_name name x.name) w.launches l.0 l.1) in
      let p = of_plan.0 in
      let at = execution-there plan w names l.0.name.exec of_plan.3 in
      let spot : Spot = record { execution = at.0; number = of_plan.1.0; node = p } in (
        spot,
        subst (λ n. attempt_spot plan w n ≡ Some spot) (sym same)
            (spot-there plan w l.0.name at.0 of_plan.1.0 p at.1 of_plan.1.1 of_plan.1.2 of_plan.2),
      )

-- ---- ends

module _ (plan : RunPlan) (closure : List ℕ) (w : World) (history : IsHistory plan closure w.entries w) (worker : ℕ)
    (name : AttemptName) (o : Outcome) (r : Reply) (claimed : is_claimed w name ≡ true) where
  abbrev e : Entry
  e = entry_of worker (op.Finish name o) r

  -- the answer leaves the attempt settled
  abbrev Settles : Answer → Type 0
  Settles a = is_settled (with_entry (with_change w a.change) e) name ≡ true

  settles-new : (other : Outcome) → is_settled (with_entry (with_change w (adds_outcome name other)) e) name ≡ true
  settles-new other =
      let s : Settlement = record { name = name; outcome = other; place = length w.entries } in
      settled-named (with_change w (adds_outcome name other)) name
      ∙ name-last name_of_settlement name w.outcomes s refl

  settles-at : (spot : Spot) → Settles (finished plan w name o spot)
  settles-at spot =
      let c = some-there (claim_of w name) claimed in
      let done : Answer = does reply.Recorded (adds_outcome name o) in
      let by : Claim → Answer =
      λ x. first_fitting ((is_settled w name, says reply.AlreadySettled) ∷
      (is_overdue plan w spot x, timed_out name) ∷ []) done in
      subst (λ x. Settles (option_map_or by x (says reply.NotClaimed))) (sym c.1)
      (tested Settles (is_settled w name) (says reply.AlreadySettled)
      (first_fitting ((is_overdue plan w spot c.0, timed_out name) ∷ []) done)
      (λ there. there)
      (λ free. tested Settles (is_overdue plan w spot c.0) (timed_out name) done
      (λ late. settles-new _) (λ in_time. settles-new o)))

  settles-found : (a : Answer) → on_finish plan w name o ≡ Some a → Settles a
  settles-found a is =
      let spot = launched-spot plan closure w history name (claimed-launched plan closure w history name claimed) in
      allowed_behind Settles (is_outcome_at plan o (attempt_spot plan w name))
      (on_attempt plan w name (finished plan w name o)) a is
      (λ test on. allowed Settles (are_ids name.exec name.path)
      (if_known (finished plan w name o) (attempt_spot plan w name)) a on
      (subst (λ x. Settles (if_known (finished plan w name o) x)) (sym spot.1) (settles-at spot.0)))

  settles-step : (a : Answer) → step plan w worker (op.Finish name o) ≡ Some a → Settles a
  unfolding step
  settles-step a is = settles-found a is

  -- an attempt that was claimed is settled behind its end
  pub finish-settles : (new : World) → Step plan w e new → (r ≡ reply.NoMemory → ⊥) → is_settled new name ≡ true
  finish-settles new s found =
      let done = answered plan w new e s found in
      subst (λ v. is_settled v name ≡ true) (sym done.world_is) (settles-step done.answer done.is)
