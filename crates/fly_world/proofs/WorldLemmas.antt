-- The store of a run after an entry.
use Rattle.std.proofs.Common.{◌≡◌, ◌≢◌, ◌⊎◌, inl, inr, ℕ, zero, suc, ◌+◌, arith, Bool, true, false, cond, ◌&&◌, eqb, List, [], ◌∷◌, ◌++◌, length, take, get_or, ◌<◌, not, Option, Some, None, refl, sym, ◌∙◌, ap, subst}
use Rattle.std.proofs.lemmas.Bool.{false≢true, not-false, and_from, ne_eqb}
use Rattle.std.specs.List.{list_all, slice_get}
use Rattle.std.specs.Option.{option_map, option_and_then, option_map_or}
use Rattle.std.proofs.lemmas.List.Folds.{list_all_more}
use Rattle.std.proofs.lemmas.Option.{none-some, same_Some, slice_get-get_or}
use Rattle.fly_types.specs.declared.text.Text.{Text}
use Rattle.fly_state.specs.declared.entries.Entry.{Entry}
use Rattle.fly_state.specs.Plans.{RunPlan}
use Rattle.fly_world.specs.World.{World, Execution, Launch, empty_world, is_over, execution_named, launch_of}
use Rattle.fly_docs.specs.declared.attempt_name.AttemptName.{AttemptName}
use Rattle.fly_docs.specs.declared.task.Task.{Task}
use Rattle.fly_world.specs.Work.{task_of_attempt, work_for, work_of}
use Rattle.fly_state.specs.declared.entries.Op.{Op}
use Rattle.fly_state.specs.declared.entries.Op.TheVariants as op
use Rattle.fly_state.specs.declared.entries.Reply.{Reply}
use Rattle.fly_state.specs.declared.entries.Reply.TheVariants as reply
use Rattle.fly_state.specs.Moves.{where_true}
use Rattle.fly_world.specs.declared.answers.Answer as told
use Rattle.fly_world.specs.declared.answers.Change as made
use Rattle.fly_world.specs.declared.answers.Change.TheVariants as change
use Rattle.fly_world.specs.Answers.{change_of, answer_of, answer_in, CanMake, CanMakeAnswer}
use Rattle.fly_world.specs.Changes.{with_change, with_entry}
use Rattle.fly_world.specs.Journals.{IsHistory, IsStepBy, Step, is_begin, beginning, begun_world}
use Rattle.fly_world.specs.Kept.{IsChangeBy}
use Rattle.fly_world.specs.Steps.{Answer, says, step}
use Rattle.fly_world.specs.Store.{StoreLists, number_of_execution, execution_numbered}
use Rattle.fly_world.proofs.FinalSlots.{named_there}
use Rattle.fly_world.proofs.JournalLemmas.{leads-on, entries-are}

-- the journal that has begun
pub begun_legal : (plan : RunPlan) (closure : List ℕ)
    → IsHistory plan closure (beginning closure ∷ []) (begun_world closure)
unfolding step
begun_legal plan closure = record {
  later = [];
  begins = refl;
  leads = (begun_world closure, inl (record { reply = refl; world = refl }), refl);
}

-- a legal store is legal after a step
pub legal_more : (plan : RunPlan) (closure : List ℕ) (w new : World) (e : Entry)
    → IsHistory plan closure w.entries w → Step plan w e new → IsHistory plan closure new.entries new
legal_more plan closure w new e history s =
    let longer : IsHistory plan closure (w.entries ++ e ∷ []) new = record {
      later = history.later ++ e ∷ [];
      begins = ap (λ es. es ++ e ∷ []) history.begins;
      leads = leads-on plan empty_world w new w.entries (e ∷ []) history.leads (new, s, refl);
    } in
    subst (λ es. IsHistory plan closure es new) (sym (entries-are plan w new (e ∷ []) (new, s, refl))) longer

-- ---- an entry from elsewhere

-- after the first entry no operation that has an answer is a beginning
not_first : (b : Bool) (n : ℕ) (a : Answer) → eqb n 0 ≡ false
    → where_true (b && eqb n 0) (Some (says reply.Begun)) ≡ Some a
    → ⊥
not_first true n a later h = none-some a (subst (λ t. where_true t (Some (says reply.Begun)) ≡ Some a) later h)
not_first false n a later h = none-some a h

begins_once : (plan : RunPlan) (closure : List ℕ) (w : World) (worker : ℕ) (o : Op) (a : Answer)
    → IsHistory plan closure w.entries w → step plan w worker o ≡ Some a → is_begin o ≡ false
unfolding step
begins_once plan closure w worker (op.Begin hash) a history h =
    let some : length w.entries ≡ suc (length history.later) = ap length history.begins in
    absurd (not_first (eqb worker 0) (length w.entries) a
    (ne_eqb (length w.entries) 0 (λ none. absurd (omega (arith, none, some)))) h)
begins_once plan closure w worker (op.Import dataset tag content) a history h = refl
begins_once plan closure w worker (op.Submit exec inputs) a history h = refl
begins_once plan closure w worker (op.Tick now) a history h = refl
begins_once plan closure w worker op.Sweep a history h = refl
begins_once plan closure w worker (op.Read from back) a history h = refl
begins_once plan closure w worker (op.Lookup exec path) a history h = refl
begins_once plan closure w worker (op.Reserve exec path) a history h = refl
begins_once plan closure w worker (op.Launch name inputs) a history h = refl
begins_once plan closure w worker (op.Expire name) a history h = refl
begins_once plan closure w worker (op.Put exec path) a history h = refl
begins_once plan closure w worker (op.Write exec base moves) a history h = refl
begins_once plan closure w worker op.Claim a history h = refl
begins_once plan closure w worker (op.Finish name outcome) a history h = refl

-- the change that an entry's reply makes can be made where the answer's can
pub change-can : (s : StoreLists) (a : told.Answer) (r : Reply) (c : made.Change) → IsChangeBy a r (Some c)
    → CanMake s a.change → CanMake s c
change-can s a r c (inl is) can = subst (CanMake s) (sym is.1) can
change-can s a r c (inr is) can = subst (CanMake s) (sym is.1) tt

module _ (plan : RunPlan) (w : World) (e : Entry) where
  -- an operation without an answer leads nowhere
  pub leads-nowhere : None ≡ step plan w e.worker e.op → (new : World) → Step plan w e new → ⊥
  leads-nowhere h new s = subst (IsStepBy w e new) (sym h) s

  -- nor does an entry with another reply
  pub other-nowhere : (a : told.Answer) → Some (answer_of plan w a) ≡ step plan w e.worker e.op
      → IsChangeBy a e.reply None
      → (new : World) → Step plan w e new → ⊥
  other-nowhere a h other new s = by (subst (IsStepBy w e new) (sym h) s)
    where
      by : IsStepBy w e new (Some (answer_of plan w a)) → ⊥
      by (inl answered) = other.0 answered.reply
      by (inr kept) = other.1 kept.reply

  -- an entry with the reply of the answer, or with want of memory, is a step
  pub change-step : (closure : List ℕ) (a : told.Answer) (c : made.Change) → IsHistory plan closure w.entries w
      → Some (answer_of plan w a) ≡ step plan w e.worker e.op → IsChangeBy a e.reply (Some c)
      → Step plan w e (with_entry (with_change w (change_of plan w c)) e)
  change-step closure a c history h is =
      subst (IsStepBy w e (with_entry (with_change w (change_of plan w c)) e)) h (by is)
    where
      by : IsChangeBy a e.reply (Some c)
          → IsStepBy w e (with_entry (with_change w (change_of plan w c)) e) (Some (answer_of plan w a))
      by (inl is) = inl (record {
        reply = is.0;
        world = ap (λ x. with_entry (with_change w (change_of plan w x)) e) is.1;
      })
      by (inr is) = inr (record {
        later = begins_once plan closure w e.worker e.op (answer_of plan w a) history (sym h);
        reply = is.0;
        world = ap (λ x. with_entry (with_change w (change_of plan w x)) e) is.1;
      })

-- ---- executions that go on

-- the execution of the number is there and not over
abbrev goes_on : Option Execution → Bool
goes_on o = option_map_or (λ (x : Execution). not (is_over x)) o false

-- one that goes on is not over
pub one-going_on : (xs : List Execution) (n : ℕ) → goes_on (slice_get xs n) ≡ true → list_all is_over xs ≡ false
one-going_on [] n h = absurd (false≢true h)
one-going_on (x ∷ xs) zero h = by (is_over x) h
  where
    by : (b : Bool) → not b ≡ true → (b && list_all is_over xs) ≡ false
    by true h = absurd (false≢true h)
    by false h = refl
one-going_on (x ∷ xs) (suc n) h = by (is_over x) (one-going_on xs n h)
  where
    by : (b : Bool) → list_all is_over xs ≡ false → (b && list_all is_over xs) ≡ false
    by true rest = rest
    by false rest = refl

-- one more that does not go on
pub one-more_over : (xs : List Execution) (n : ℕ) → n < length xs → goes_on (slice_get xs n) ≡ false
    → list_all is_over (take n xs) ≡ true → list_all is_over (take (n + 1) xs) ≡ true
one-more_over [] n within over before = absurd (omega (arith, within))
one-more_over (x ∷ xs) n within over before =
    list_all_more is_over (x ∷ xs) n x within
    ∙ and_from _ _ before
    (not-false (is_over (get_or (x ∷ xs) n x)) (subst (λ o. goes_on o ≡ false) (slice_get-get_or (x ∷ xs) n x within) over))

-- ---- executions by name and by number

-- the execution of a name by its number
pub numbered_named : (w : World) (exec : Text) (number : ℕ) → number_of_execution w exec ≡ Some number
    → execution_numbered w number ≡ execution_named w exec
numbered_named w exec number h = by (execution_named w exec) refl h
  where
    by : (o : Option (ℕ × Execution)) → execution_named w exec ≡ o → option_map (λ (at : ℕ × Execution). at.0) o ≡ Some number
        → execution_numbered w number ≡ o
    by None there h = absurd (none-some number h)
    by (Some at) there h =
        subst (λ n. execution_numbered w n ≡ Some at) (same_Some at.0 number h)
        (ap (option_map (λ (x : Execution). (at.0, x))) (named_there w exec at there))

-- ---- the work of an attempt

pub work-found : (plan : RunPlan) (w : World) (name : AttemptName) (l : Launch) (t : Task) → launch_of w name ≡ Some l
    → task_of_attempt plan name ≡ Some t → work_of plan w name ≡ Some (work_for name l.inputs t)
work-found plan w name l t launched runs =
    ap (option_and_then (λ (x : Launch). option_map (work_for name x.inputs) (task_of_attempt plan name))) launched
    ∙ ap (option_map (work_for name l.inputs)) runs

pub work-nowhere : (plan : RunPlan) (w : World) (name : AttemptName) → launch_of w name ≡ None
    → work_of plan w name ≡ None
work-nowhere plan w name none =
    ap (option_and_then (λ (x : Launch). option_map (work_for name x.inputs) (task_of_attempt plan name))) none
