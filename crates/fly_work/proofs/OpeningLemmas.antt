-- The calls at the beginning of a turn, and what they come to.
use Rattle.std.proofs.Common.{◌≡◌, ◌≢◌, ◌⊎◌, inl, inr, ℕ, ◌+◌, ◌<◌, ◌≤◌, ℤ, Bool, true, false, ◌||◌, List, [], ◌∷◌, map, length, get_or, slice_get, AllPairs, bytes_eq, Option, Some, None, option_map, Result, Ok, Err, OnOk, OnErr, IsErr, refl, sym, subst, ap, ◌∙◌, ⊎_elim, arith}
use Rattle.std.specs.List.{enumerate_from}
use Rattle.std.specs.Option.{option_map_or}
use Rattle.std.proofs.lemmas.Bool.{cases_lt, true≢false, false≢true}
use Rattle.std.proofs.lemmas.Option.{none-some, same_Some, slice_get_within, get_or_from_slice_get, slice_get-map}
use Rattle.std.proofs.lemmas.Slice.Eq.{bytes_eq-Decides}
use Rattle.fly_types.specs.declared.memory.NoMemory.{NoMemory}
use Rattle.fly_types.specs.declared.text.Text.{Text}
use Rattle.fly_attempts.proofs.ListLemmas.{find_passes}
use Rattle.fly_catalog.proofs.ReservationLemmas.{fails_at}
use Rattle.fly_docs.specs.declared.workflow.Workflow.{Workflow}
use Rattle.fly_ports.specs.Clock.{ClockState}
use Rattle.fly_state.specs.declared.entries.Op.{Op}
use Rattle.fly_state.specs.declared.entries.Op.TheVariants as op
use Rattle.fly_state.specs.declared.entries.Reply.{Reply}
use Rattle.fly_state.specs.declared.entries.Reply.TheVariants as reply
use Rattle.fly_state.specs.declared.view.View.{View}
use Rattle.fly_state.specs.OfPlan.{IsViewOfPlan}
use Rattle.fly_state.specs.PlanTables.{IsOuterPlan}
use Rattle.fly_state.specs.Plans.{RunPlan}
use Rattle.fly_state.proofs.Lists.{enumerated-at}
use Rattle.fly_world.specs.declared.called.Called.{Called}
use Rattle.fly_world.specs.World.{World, Execution, current_of, execution_named, view_of}
use Rattle.fly_world.specs.Called.{HasAll, view_read, work_claimed}
use Rattle.fly_world.specs.Journals.{IsAnswered, Step}
use Rattle.fly_world.specs.Kept.{Kept, IsLegal}
use Rattle.fly_world.specs.Laws.{WorldsAreOfPlan}
use Rattle.fly_world.specs.Steps.{read_execution, read_version, says, viewed, step}
use Rattle.fly_world.specs.Versions.{IsWorldOfPlan}
use Rattle.fly_world.proofs.FinalSlots.{named_there}
use Rattle.fly_world.proofs.ReadLemmas.{read-there}
use Rattle.fly_round.specs.declared.told.Told.{Told}
use Rattle.fly_work.specs.Acting.{AddsCall, IsPart}
use Rattle.fly_work.specs.Opening.{IsTicked, IsSwept, IsViewed, Ticks, Sweeps, Reads}
use Rattle.fly_work.specs.Parts.{MayStand, IsOpened, Opens}
use Rattle.fly_work.specs.Stages.{Turn, Stage, starting, sweeping, reading, asking, over, cut, read_from, read_back, IsViewRead, Passes}
use Rattle.fly_work.specs.Turns.{outcomes_by, is_claim, is_claimed_reply, is_idle, is_idle_reply}
use Rattle.fly_work.proofs.ActingLemmas.{told_of, part-weaker, part-both, part-call, part-tick, passes-cut, passes-fine, claims-cons, idle-cons, outcomes-cons, given-view}

-- ---- what may stand

pub tick-stands : (plan : RunPlan) (worker : ℕ) (now : ℤ) → MayStand plan worker (op.Tick now)
unfolding step
tick-stands plan worker now w = refl

pub sweep-stands : (plan : RunPlan) (worker : ℕ) → MayStand plan worker op.Sweep
unfolding step
sweep-stands plan worker w = refl

pub read-stands : (plan : RunPlan) (worker from back : ℕ) → MayStand plan worker (op.Read from back)
unfolding step
read-stands plan worker from back w = refl

-- ---- what is replied

-- the moment, or want of memory
tick-replies : (plan : RunPlan) (w new : World) (worker : ℕ) (now : ℤ) (r : Reply)
    → Step plan w (record { worker = worker; op = op.Tick now; reply = r }) new
    → ((moment : ℤ) × (r ≡ reply.Now moment)) ⊎ (r ≡ reply.NoMemory)
unfolding step
tick-replies plan w new worker now r (inl answered) = inl (_, answered.reply)
tick-replies plan w new worker now r (inr refused) = inr refused.reply

sweep-replies : (plan : RunPlan) (w new : World) (worker : ℕ) (r : Reply)
    → Step plan w (record { worker = worker; op = op.Sweep; reply = r }) new
    → ((count : ℕ) × (r ≡ reply.Swept count)) ⊎ (r ≡ reply.NoMemory)
unfolding step
sweep-replies plan w new worker r (inl answered) = inl (_, answered.reply)
sweep-replies plan w new worker r (inr refused) = inr refused.reply

module _ {alone : Type 0} {old new : Kept} {worker : ℕ} {c : Called} where
  pub is-ticked : {now : ℤ} → AddsCall alone old new worker (op.Tick now) c → (result : Result (Unit {0}) NoMemory)
      → OnOk result (c.reply ≢ reply.NoMemory)
      → OnErr result (c.reply ≡ reply.NoMemory)
      → IsTicked c.reply result
  is-ticked {now = now} adds (Ok u) found none =
      ⊎_elim (λ told. told) (λ wants. absurd (found wants))
      (tick-replies old.plan adds.before new.world worker now c.reply adds.called.step)
  is-ticked adds (Err e) found none = none

  pub is-swept : AddsCall alone old new worker op.Sweep c → (result : Result (Unit {0}) NoMemory)
      → OnOk result (c.reply ≢ reply.NoMemory)
      → OnErr result (c.reply ≡ reply.NoMemory)
      → IsSwept c.reply result
  is-swept adds (Ok u) found none =
      ⊎_elim (λ told. told) (λ wants. absurd (found wants))
      (sweep-replies old.plan adds.before new.world worker c.reply adds.called.step)
  is-swept adds (Err e) found none = none

-- what a read found
record Found (w new : World) (from back : ℕ) (r : Reply) : Type 0 where
  at : ℕ × Execution
  found : read_execution w from ≡ Some at
  said : r ≡ reply.Viewed at.1.name (read_version at.1 back) (current_of at.1)
  same : new.executions ≡ w.executions

read-replies : (plan : RunPlan) (w new : World) (worker from back : ℕ) (r : Reply)
    → Step plan w (record { worker = worker; op = op.Read from back; reply = r }) new
    → Found w new from back r ⊎ ((r ≡ reply.Idle) ⊎ (r ≡ reply.NoMemory))
unfolding step
read-replies plan w new worker from back r (inl answered) = by (read_execution w from) refl answered
  where
    by : (o : Option (ℕ × Execution)) → read_execution w from ≡ o
        → IsAnswered w (record { worker = worker; op = op.Read from back; reply = r }) new
        (option_map_or (viewed back) o (says reply.Idle))
        → Found w new from back r ⊎ ((r ≡ reply.Idle) ⊎ (r ≡ reply.NoMemory))
    by None h a = inr (inl a.reply)
    by (Some at) h a =
        inl (record { at = at; found = h; said = a.reply; same = ap (λ (v : World). v.executions) a.world })
read-replies plan w new worker from back r (inr refused) = inr (inr refused.reply)

-- ---- executions by their names

-- an execution that was found by a name has it
named-so : (w : World) (name : Text) (at : ℕ × Execution) → execution_named w name ≡ Some at → name ≡ at.1.name
named-so w name at h =
    (bytes_eq-Decides name at.1.name).0
    (find_passes (λ (at : ℕ × Execution). bytes_eq name at.1.name) (enumerate_from 0 w.executions) at h)

abbrev names_of : List Execution → List Text
names_of xs = map (λ (x : Execution). x.name) xs

-- where no two have one name, the same name is at the same place
one-place : (xs : List Execution) (i j : ℕ) (x y : Execution)
    → AllPairs (λ (a b : Text). a ≢ b) (names_of xs)
    → slice_get xs i ≡ Some x → slice_get xs j ≡ Some y → x.name ≡ y.name
    → i ≡ j
one-place xs i j x y apart at_i at_j same =
    ⊎_elim
    (λ before. absurd (apart i j [] before (within j y at_j) (name_at i x at_i ∙ same ∙ sym (name_at j y at_j))))
    (λ behind. ⊎_elim
    (λ before. absurd (apart j i [] before (within i x at_i) (name_at j y at_j ∙ sym same ∙ sym (name_at i x at_i))))
    (λ equal. omega arith)
    (cases_lt j i))
    (cases_lt i j)
  where
    named : (k : ℕ) (z : Execution) → slice_get xs k ≡ Some z → slice_get (names_of xs) k ≡ Some z.name
    named k z h = slice_get-map (λ (x : Execution). x.name) xs k ∙ ap (option_map (λ (x : Execution). x.name)) h

    within : (k : ℕ) (z : Execution) → slice_get xs k ≡ Some z → k < length (names_of xs)
    within k z h = slice_get_within (names_of xs) k z.name (named k z h)

    name_at : (k : ℕ) (z : Execution) → slice_get xs k ≡ Some z → get_or (names_of xs) k [] ≡ z.name
    name_at k z h = get_or_from_slice_get (names_of xs) k z.name [] (named k z h)

-- ---- what is read

module _ (plan : RunPlan) (before new : World) (from back : ℕ) (r : Reply) (is : Found before new from back r)
    (of_plan : IsWorldOfPlan plan new) where
  abbrev name : Text
  name = is.at.1.name

  abbrev version : ℕ
  version = read_version is.at.1 back

  -- what stands under the name is what was found
  same-found : (at : ℕ × Execution) → execution_named new name ≡ Some at → at.1 ≡ is.at.1
  same-found at h =
      let first : slice_get new.executions at.0 ≡ Some at.1 = named_there new name at h in
      let there : slice_get new.executions is.at.0 ≡ Some is.at.1 =
      ap (λ xs. slice_get xs is.at.0) is.same ∙ read-there before from is.at is.found in
      let place : at.0 ≡ is.at.0 =
      one-place new.executions at.0 is.at.0 at.1 is.at.1 of_plan.names.distinct first there
      (sym (named-so new name at h)) in
      same_Some at.1 is.at.1 (sym first ∙ ap (slice_get new.executions) place ∙ there)

  view-of_plan : (v : View) → view_read new r ≡ Some v → IsViewOfPlan plan v
  view-of_plan v h = by (execution_named new name) refl (sym (ap (view_read new) is.said) ∙ h)
    where
      by : (o : Option (ℕ × Execution)) → execution_named new name ≡ o
          → option_map (λ (at : ℕ × Execution). view_of new at version) o ≡ Some v
          → IsViewOfPlan plan v
      by None there e = absurd (none-some v e)
      by (Some at) there e =
          subst (IsViewOfPlan plan) (same_Some (view_of new at version) v e)
          (of_plan.views name at version there
          (subst (λ x. version ≤ current_of x) (sym (same-found at there)) (omega arith)))

  -- something does
  named-some : (at : ℕ × Execution) × (execution_named new name ≡ Some at)
  named-some = by (execution_named new name) refl
    where
      there : slice_get (enumerate_from 0 new.executions) is.at.0 ≡ Some (0 + is.at.0, is.at.1)
      there =
          enumerated-at 0 new.executions is.at.0
          ∙ ap (option_map (λ (x : Execution). (0 + is.at.0, x)))
          (ap (λ xs. slice_get xs is.at.0) is.same ∙ read-there before from is.at is.found)

      by : (o : Option (ℕ × Execution)) → execution_named new name ≡ o
          → (at : ℕ × Execution) × (execution_named new name ≡ Some at)
      by None none =
          absurd (true≢false (sym ((bytes_eq-Decides name name).1 refl)
          ∙ fails_at (λ (at : ℕ × Execution). bytes_eq name at.1.name) (enumerate_from 0 new.executions) none is.at.0
          (0 + is.at.0, is.at.1) there))
      by (Some at) h = (at, h)

-- ---- reads

module _ {alone : Type 0} {plan : RunPlan} {f : Workflow} {old new : Kept} {worker from back : ℕ} {c : Called}
    (law : WorldsAreOfPlan) (outer : IsOuterPlan plan f) (own : old.plan ≡ plan) (legal : IsLegal new)
    (adds : AddsCall alone old new worker (op.Read from back) c) where
  new_of_plan : IsWorldOfPlan new.plan new.world
  new_of_plan =
      law new.plan f new.closure new.world.entries new.world
      (subst (λ p. IsOuterPlan p f) (sym (adds.plan ∙ own)) outer) legal

  replies : Found adds.before new.world from back c.reply ⊎ ((c.reply ≡ reply.Idle) ⊎ (c.reply ≡ reply.NoMemory))
  replies = read-replies old.plan adds.before new.world worker from back c.reply adds.called.step

  viewed_by : Found adds.before new.world from back c.reply → (v : View) → view_read new.world c.reply ≡ Some v
      → IsViewed new c.reply v
  viewed_by is v h = record {
    name = is.at.1.name;
    version = read_version is.at.1 back;
    current = current_of is.at.1;
    said = is.said;
    given = h;
    of_plan = view-of_plan new.plan adds.before new.world from back c.reply is new_of_plan v h;
  }

  -- what was handed out is what was read
  handed : (v : View) → c.view ≡ Some v → view_read new.world c.reply ≡ Some v
  handed v h =
      ⊎_elim
      (λ (all : HasAll c (view_read new.world c.reply) (work_claimed old.plan new.world c.reply)). sym all.view ∙ h)
      (λ none. absurd (none-some v (sym none.view ∙ h))) adds.called.told

  pub reads-view : {v : View} → c.view ≡ Some v → Reads alone old new worker from back (Ok (Some v))
  reads-view {v = v} h = record {
    called = c;
    legal = legal;
    adds = adds;
    told = ⊎_elim (λ is. viewed_by is v (handed v h))
        (λ none. ⊎_elim
        (λ idle. absurd (none-some v (sym (ap (view_read new.world) idle) ∙ handed v h)))
        (λ wants. absurd (none-some v (sym (ap (view_read new.world) wants) ∙ handed v h))) none) replies;
  }

  pub reads-nothing : {e : NoMemory} → c.reply ≢ reply.Idle → Reads alone old new worker from back (Err e)
  reads-nothing busy = record {
    called = c;
    legal = legal;
    adds = adds;
    told = ⊎_elim
        (λ is. let at = named-some new.plan adds.before new.world from back c.reply is new_of_plan in
        let v = view_of new.world at.0 (read_version is.at.1 back) in
        inr (
          v,
          viewed_by is v (ap (view_read new.world) is.said
              ∙ ap (option_map (λ (x : ℕ × Execution). view_of new.world x (read_version is.at.1 back))) at.1),
        ))
        (λ none. ⊎_elim (λ idle. absurd (busy idle)) (λ wants. inl wants) none) replies;
  }

-- ---- calls of a turn

-- One call of a turn, which claims nothing and hands in no outcome; it was answered that every execution is over, or
-- not.
record Made (alone : Type 0) (t : Turn) (at end : Stage) (old new : Kept) (clock new_clock : ClockState)
    (idle : Bool) : Type 0 where
  call : Told
  part : IsPart alone t at end old new clock new_clock (call ∷ [])
  unclaimed : is_claim call ≡ false
  outcomes : outcomes_by call.op ≡ []
  idle_is : is_idle_reply call.reply ≡ idle

module _ {alone : Type 0} (t : Turn) {old new : Kept} {clock new_clock : ClockState} where
  ticked : {u : Unit {0}} → Ticks alone old new t.worker clock new_clock (Ok u)
      → Made alone t starting sweeping old new clock new_clock false
  ticked h = record {
    call = told_of (op.Tick h.now) h.called;
    part = part-tick h.adds h.gives tt
        (passes-fine old.plan old.closure new.world.entries starting (told_of (op.Tick h.now) h.called) sweeping
        (λ none. let e = sym h.told.1 ∙ none in cc) refl);
    unclaimed = ap is_claimed_reply h.told.1;
    outcomes = refl;
    idle_is = ap is_idle_reply h.told.1;
  }

  unticked : {e : NoMemory} → Ticks alone old new t.worker clock new_clock (Err e)
      → Made alone t starting cut old new clock new_clock false
  unticked h = record {
    call = told_of (op.Tick h.now) h.called;
    part = part-tick h.adds h.gives tt
        (passes-cut old.plan old.closure new.world.entries starting (told_of (op.Tick h.now) h.called) h.told);
    unclaimed = ap is_claimed_reply h.told;
    outcomes = refl;
    idle_is = ap is_idle_reply h.told;
  }

module _ {alone : Type 0} (t : Turn) {old new : Kept} {clock : ClockState} where
  swept : {u : Unit {0}} → Sweeps alone old new t.worker (Ok u)
      → Made alone t sweeping reading old new clock clock false
  swept h = record {
    call = told_of op.Sweep h.called;
    part = part-call clock h.adds tt
        (passes-fine old.plan old.closure new.world.entries sweeping (told_of op.Sweep h.called) reading
        (λ none. let e = sym h.told.1 ∙ none in cc) refl) refl;
    unclaimed = ap is_claimed_reply h.told.1;
    outcomes = refl;
    idle_is = ap is_idle_reply h.told.1;
  }

  unswept : {e : NoMemory} → Sweeps alone old new t.worker (Err e) → Made alone t sweeping cut old new clock clock false
  unswept h = record {
    call = told_of op.Sweep h.called;
    part = part-call clock h.adds tt
        (passes-cut old.plan old.closure new.world.entries sweeping (told_of op.Sweep h.called) h.told) refl;
    unclaimed = ap is_claimed_reply h.told;
    outcomes = refl;
    idle_is = ap is_idle_reply h.told;
  }

-- the read of the turn
abbrev read_op : Turn → Op
read_op t = op.Read (read_from t) (read_back t)

abbrev told_with : Turn → Called → Reply → Told
told_with t c r = record { place = c.place; op = read_op t; reply = r }

module _ {alone : Type 0} (t : Turn) {old new : Kept} (clock : ClockState) (c : Called) where
  idled : AddsCall alone old new t.worker (read_op t) c → c.reply ≡ reply.Idle
      → Made alone t reading over old new clock clock true
  idled adds said = record {
    call = told_of (read_op t) c;
    part = part-call clock adds (refl, refl)
        (subst (λ (r : Reply). Passes old.plan old.closure new.world.entries reading (told_with t c r) over) (sym said)
        refl) refl;
    unclaimed = ap is_claimed_reply said;
    outcomes = refl;
    idle_is = ap is_idle_reply said;
  }

  unread : AddsCall alone old new t.worker (read_op t) c → c.reply ≡ reply.NoMemory
      → Made alone t reading cut old new clock clock false
  unread adds said = record {
    call = told_of (read_op t) c;
    part = part-call clock adds (refl, refl)
        (passes-cut old.plan old.closure new.world.entries reading (told_of (read_op t) c) said) refl;
    unclaimed = ap is_claimed_reply said;
    outcomes = refl;
    idle_is = ap is_idle_reply said;
  }

  seen : (v : View) → IsLegal new → AddsCall alone old new t.worker (read_op t) c → IsViewed new c.reply v
      → Made alone t reading (asking v []) old new clock clock false
  seen v legal adds is = record {
    call = told_of (read_op t) c;
    part = part-call clock adds (refl, refl)
        (subst (λ (r : Reply). IsViewRead old.plan old.closure new.world.entries (told_with t c r) v
        → Passes old.plan old.closure new.world.entries reading (told_with t c r) (asking v [])) (sym is.said)
        (λ read. (v, read, refl)) (given-view adds legal is.given)) refl;
    unclaimed = ap is_claimed_reply is.said;
    outcomes = refl;
    idle_is = ap is_idle_reply is.said;
  }

-- ---- the beginning of a turn

-- it ended with its first call
opens-one : {alone : Type 0} {t : Turn} {at : Stage} {old new : Kept} {clock new_clock : ClockState} {e : NoMemory}
    → Made alone t starting at old new clock new_clock false
    → Opens alone t old new clock new_clock (Err e)
opens-one {at = at} first = record {
  calls = first.call ∷ [];
  at = at;
  part = first.part;
  few = omega arith;
  claims = claims-cons first.call [] first.unclaimed;
  outcomes = outcomes-cons first.call [] first.outcomes;
  opened = tt;
}

-- or with its second
opens-two : {A B : Type 0} {t : Turn} {mid at : Stage} {old k new : Kept} {clock mid_clock new_clock : ClockState}
    {e : NoMemory}
    → (A → B) → Made A t starting mid old k clock mid_clock false → Made B t mid at k new mid_clock new_clock false
    → Opens A t old new clock new_clock (Err e)
opens-two {at = at} still first second = record {
  calls = first.call ∷ second.call ∷ [];
  at = at;
  part = part-both first.part (part-weaker still second.part);
  few = omega arith;
  claims = claims-cons first.call (second.call ∷ []) first.unclaimed ∙ claims-cons second.call [] second.unclaimed;
  outcomes = outcomes-cons first.call (second.call ∷ []) first.outcomes ∙ outcomes-cons second.call [] second.outcomes;
  opened = tt;
}

-- or with its third
opens-three : {A B C : Type 0} {t : Turn} {one two at : Stage} {old k l new : Kept}
    {clock mid_clock new_clock end_clock : ClockState}
    {idle : Bool} (result : Result (Option View) NoMemory)
    → (A → B) → (B → C) → Made A t starting one old k clock mid_clock false
    → Made B t one two k l mid_clock new_clock false
    → Made C t two at l new new_clock end_clock idle
    → ((calls : List Told) → is_idle calls ≡ idle → IsOpened old.plan at calls result)
    → Opens A t old new clock end_clock result
opens-three {at = at} result still still_more first second third opened = record {
  calls = first.call ∷ second.call ∷ third.call ∷ [];
  at = at;
  part = part-both first.part
      (part-both (part-weaker still second.part) (part-weaker (λ a. still_more (still a)) third.part));
  few = omega arith;
  claims = claims-cons first.call (second.call ∷ third.call ∷ []) first.unclaimed
      ∙ claims-cons second.call (third.call ∷ []) second.unclaimed ∙ claims-cons third.call [] third.unclaimed;
  outcomes = outcomes-cons first.call (second.call ∷ third.call ∷ []) first.outcomes
      ∙ outcomes-cons second.call (third.call ∷ []) second.outcomes ∙ outcomes-cons third.call [] third.outcomes;
  opened = opened (first.call ∷ second.call ∷ third.call ∷ [])
      (idle-cons first.call (second.call ∷ third.call ∷ []) first.idle_is
      ∙ idle-cons second.call (third.call ∷ []) second.idle_is
      ∙ idle_last third.call ∙ third.idle_is);
}
  where
    idle_last : (c : Told) → is_idle (c ∷ []) ≡ is_idle_reply c.reply
    idle_last c = by (is_idle_reply c.reply)
      where
        by : (b : Bool) → (b || false) ≡ b
        by true = refl
        by false = refl

-- no memory was found for the tick
pub opens-no_tick : {alone : Type 0} {old new : Kept} {worker : ℕ} {clock new_clock : ClockState} {e : NoMemory}
    (result : Result (Option View) NoMemory)
    → IsErr result → Ticks alone old new worker clock new_clock (Err e)
    → (t : Turn) → t.worker ≡ worker → Opens alone t old new clock new_clock result
opens-no_tick (Ok view) fails ticks t is = absurd (false≢true fails)
opens-no_tick {alone = alone} {old = old} {new = new} {clock = clock} {new_clock = new_clock} {e = e} (Err f)
    fails ticks t is =
    opens-one (unticked t (subst (λ n. Ticks alone old new n clock new_clock (Err e)) (sym is) ticks))

-- for the sweep
pub opens-no_sweep : {A B : Type 0} {old k new : Kept} {worker : ℕ} {clock new_clock : ClockState} {u : Unit {0}}
    {e : NoMemory} (result : Result (Option View) NoMemory)
    → IsErr result → (A → B) → Ticks A old k worker clock new_clock (Ok u) → Sweeps B k new worker (Err e)
    → (t : Turn) → t.worker ≡ worker → Opens A t old new clock new_clock result
opens-no_sweep (Ok view) fails still ticks sweeps t is = absurd (false≢true fails)
opens-no_sweep {A = A} {B = B} {old = old} {k = k} {new = new} {clock = clock} {new_clock = new_clock} {u = u} {e = e}
    (Err f) fails still ticks sweeps t is =
    opens-two still (ticked t (subst (λ n. Ticks A old k n clock new_clock (Ok u)) (sym is) ticks))
    (unswept t (subst (λ n. Sweeps B k new n (Err e)) (sym is) sweeps))

module _ {A B C : Type 0} {old k l : Kept} {worker from back : ℕ} {clock new_clock : ClockState} {u v : Unit {0}}
    (still : A → B) (still_more : B → C)
    (ticks : Ticks A old k worker clock new_clock (Ok u)) (sweeps : Sweeps B k l worker (Ok v))
    (t : Turn) (is : t.worker ≡ worker) (from_is : from ≡ read_from t) (back_is : back ≡ read_back t) where
  tick_made : Made A t starting sweeping old k clock new_clock false
  tick_made = ticked t (subst (λ n. Ticks A old k n clock new_clock (Ok u)) (sym is) ticks)

  sweep_made : Made B t sweeping reading k l new_clock new_clock false
  sweep_made = swept t (subst (λ n. Sweeps B k l n (Ok v)) (sym is) sweeps)

  module _ {new : Kept} where
    mine : {c : Called} → AddsCall C l new worker (op.Read from back) c → AddsCall C l new t.worker (read_op t) c
    mine {c = c} adds =
        subst (λ n. AddsCall C l new n (read_op t) c) (sym is)
        (subst (λ n. AddsCall C l new worker (op.Read (read_from t) n) c) back_is
        (subst (λ n. AddsCall C l new worker (op.Read n back) c) from_is adds))

    plan_is : {c : Called} → AddsCall C l new worker (op.Read from back) c → new.plan ≡ old.plan
    plan_is adds = adds.plan ∙ sweeps.adds.plan ∙ ticks.adds.plan

    -- for the read or the view
    pub opens-no_view : {e : NoMemory} (result : Result (Option View) NoMemory) → IsErr result
        → Reads C l new worker from back (Err e)
        → Opens A t old new clock new_clock result
    opens-no_view (Ok view) fails reads = absurd (false≢true fails)
    opens-no_view (Err f) fails reads =
        ⊎_elim
        (λ wants. opens-three (Err f) still still_more tick_made sweep_made
        (unread t new_clock reads.called (mine reads.adds) wants) (λ calls active. tt))
        (λ viewed. opens-three (Err f) still still_more tick_made sweep_made
        (seen t new_clock reads.called viewed.0 reads.legal (mine reads.adds) viewed.1) (λ calls active. tt))
        reads.told

    pub opens-view : (view : Option View) → Reads C l new worker from back (Ok view)
        → Opens A t old new clock new_clock (Ok view)
    opens-view None reads =
        opens-three (Ok None) still still_more tick_made sweep_made
        (idled t new_clock reads.called (mine reads.adds) reads.told) (λ calls idle. (refl, idle))
    opens-view (Some x) reads =
        opens-three (Ok (Some x)) still still_more tick_made sweep_made
        (seen t new_clock reads.called x reads.legal (mine reads.adds) reads.told)
        (λ calls active. (refl, subst (λ p. IsViewOfPlan p x) (plan_is reads.adds) reads.told.of_plan, active))
