-- What stands behind a claim in a turn: the work that was claimed, at its call.
use Rattle.std.proofs.Common.{◌≡◌, ◌<◌, ◌+◌, ℕ, List, [], ◌∷◌, ◌++◌, length, take, Option, Some, None, sym, ap, subst, arith}
use Rattle.std.specs.Prelude.{option_map, option_and_then}
use Rattle.std.proofs.lemmas.List.{take-append-le}
use Rattle.fly_docs.specs.declared.attempt_name.AttemptName.{AttemptName}
use Rattle.fly_docs.specs.declared.task.Task.{Task}
use Rattle.fly_state.specs.declared.entries.Entry.{Entry}
use Rattle.fly_state.specs.declared.entries.Op.{Op}
use Rattle.fly_state.specs.declared.entries.Op.TheVariants as op
use Rattle.fly_state.specs.declared.entries.Reply.{Reply}
use Rattle.fly_state.specs.declared.entries.Reply.TheVariants as reply
use Rattle.fly_state.specs.declared.view.View.{View}
use Rattle.fly_state.specs.Plans.{RunPlan}
use Rattle.fly_world.specs.declared.work.Work.{Work}
use Rattle.fly_world.specs.World.{World, Launch, launch_of}
use Rattle.fly_world.specs.Work.{work_of, work_for, task_of_attempt}
use Rattle.fly_world.specs.Called.{work_claimed}
use Rattle.fly_round.specs.declared.told.Told.{Told}
use Rattle.fly_work.specs.Stages.{Turn, Stage, starting, sweeping, reading, asking, claiming, running, finishing, over, cut, AfterRead, AfterClaim, AfterAsked, After, Passes, Goes, IsWorkClaimed}
use Rattle.fly_work.specs.Alone.{IsWorkOfPlan}

abbrev told_at : ℕ → Op → Reply → Told
told_at place o r = record { place = place; op = o; reply = r }

-- ---- the work of the last call

module _ (plan : RunPlan) (closure : List ℕ) (journal : List Entry) (work : Work) where
  after_claim-claimed : (c : Told) (r : Reply) (next : Stage) → AfterClaim plan closure journal c r next
      → running work ≡ next → IsWorkClaimed plan closure journal c work
  after_claim-claimed c reply.Nothing next is same = let no : ⊥ = cc in absurd no
  after_claim-claimed c (reply.Claimed name) next is same =
      let one : is.0 ≡ work = cc in
      subst (λ (k : Work). IsWorkClaimed plan closure journal c k) one is.1
  after_claim-claimed c _ next is same = absurd is

  after_read-claimed : (c : Told) (r : Reply) (next : Stage) → AfterRead plan closure journal c r next
      → running work ≡ next → IsWorkClaimed plan closure journal c work
  after_read-claimed c reply.Idle next is same = let no : ⊥ = cc in absurd no
  after_read-claimed c (reply.Viewed exec version current) next is same = let no : ⊥ = cc in absurd no
  after_read-claimed c _ next is same = absurd is

  after_asked-claimed : (v : View) (told : List Told) (c : Told) (o : Op) (next : Stage)
      → AfterAsked plan closure journal v told c o next → running work ≡ next
      → IsWorkClaimed plan closure journal c work
  after_asked-claimed v told c (op.Write exec base moves) next is same = let no : ⊥ = cc in absurd no
  after_asked-claimed v told c op.Claim next is same = after_claim-claimed c c.reply next is same
  after_asked-claimed v told c _ next is same = let no : ⊥ = cc in absurd no

  after-claimed : (at : Stage) (c : Told) (next : Stage) → After plan closure journal at c next → running work ≡ next
      → IsWorkClaimed plan closure journal c work
  after-claimed starting c next is same = let no : ⊥ = cc in absurd no
  after-claimed sweeping c next is same = let no : ⊥ = cc in absurd no
  after-claimed reading c next is same = after_read-claimed c c.reply next is same
  after-claimed (asking v told) c next is same = after_asked-claimed v told c c.op next is same
  after-claimed claiming c next is same = after_claim-claimed c c.reply next is same
  after-claimed (running k) c next is same = let no : ⊥ = cc in absurd no
  after-claimed (finishing k) c next is same = let no : ⊥ = cc in absurd no
  after-claimed over c next is same = absurd is
  after-claimed cut c next is same = absurd is

  passes-claimed : (at : Stage) (place : ℕ) (o : Op) (r : Reply) (next : Stage)
      → Passes plan closure journal at (told_at place o r) next → running work ≡ next
      → IsWorkClaimed plan closure journal (told_at place o r) work
  passes-claimed at place o reply.NoMemory next is same = let no : ⊥ = cc in absurd no
  passes-claimed at place o r next is same = after-claimed at (told_at place o r) next is same

  -- where calls end behind a claim, the last of them claimed
  pub goes-claimed : (t : Turn) (at : Stage) (before : List Told) (last : Told)
      → Goes plan closure journal t at (before ++ last ∷ []) (running work)
      → IsWorkClaimed plan closure journal last work
  goes-claimed t at [] last (next, due, passes, ends) =
      passes-claimed at last.place last.op last.reply next passes ends
  goes-claimed t at (c ∷ cs) last (next, due, passes, goes) = goes-claimed t next cs last goes

-- ---- in a longer journal

pub claimed-more : (plan : RunPlan) (closure : List ℕ) (journal more : List Entry) (c : Told) (work : Work)
    → c.place < length journal
    → IsWorkClaimed plan closure journal c work → IsWorkClaimed plan closure (journal ++ more) c work
claimed-more plan closure journal more c work within (w, history, given) =
    let front : take (c.place + 1) (journal ++ more) ≡ take (c.place + 1) journal =
    take-append-le (c.place + 1) journal more (omega arith) in
    (w, rw front history, given)

-- ---- of the plan

named_of : (name : AttemptName) (l : Option Launch) (t : Option Task) (work : Work)
    → option_and_then (λ (l : Launch). option_map (work_for name l.inputs) t) l ≡ Some work → work.name ≡ name
named_of name None t work is = let no : ⊥ = cc in absurd no
named_of name (Some l) None work is = let no : ⊥ = cc in absurd no
named_of name (Some l) (Some t) work is =
    let one : work_for name l.inputs t ≡ work = cc in
    ap (λ (k : Work). k.name) (sym one)

-- the work of an attempt has its name
pub work-named : (plan : RunPlan) (w : World) (name : AttemptName) (work : Work) → work_of plan w name ≡ Some work
    → work.name ≡ name
work-named plan w name work is = named_of name (launch_of w name) (task_of_attempt plan name) work is

of_plan-by : (plan : RunPlan) (w : World) (r : Reply) (work : Work) → work_claimed plan w r ≡ Some work
    → IsWorkOfPlan plan work
of_plan-by plan w (reply.Claimed name) work is =
    (w, subst (λ (n : AttemptName). work_of plan w n ≡ Some work) (sym (work-named plan w name work is)) is)
of_plan-by plan w _ work is = let no : ⊥ = cc in absurd no

pub claimed-of_plan : (plan : RunPlan) (closure : List ℕ) (journal : List Entry) (c : Told) (work : Work)
    → IsWorkClaimed plan closure journal c work
    → IsWorkOfPlan plan work
claimed-of_plan plan closure journal c work (w, history, given) = of_plan-by plan w c.reply work given
