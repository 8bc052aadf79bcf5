-- Calls of a worker, one behind another: what they add to a store, the stages that they lead to, and parts of turns.
use Rattle.std.proofs.Common.{◌≡◌, ◌≢◌, ℕ, zero, suc, ◌+◌, ◌<◌, ◌≤◌, false, cond, ◌||◌, List, [], ◌∷◌, ◌++◌, map, length, take, All, AllPairs, slice_get, ℤ, Option, Some, refl, sym, subst, ap, ◌∙◌, arith}
use Rattle.std.proofs.lemmas.List.{append_assoc, append-nil, length-append, map-append, take_all, take-append-le}
use Rattle.std.proofs.lemmas.List.Elements.{All-nil, All-cons, All-append, All-head, All-tail, All-weaker}
use Rattle.std.proofs.lemmas.List.Kept.{AllPairs-cons}
use Rattle.std.proofs.lemmas.Grind.{flat_map-append}
use Rattle.std.proofs.lemmas.Option.{slice_get_within}
use Rattle.fly_attempts.proofs.ListLemmas.{get_last}
use Rattle.fly_ports.specs.Clock.{ClockState, Gives}
use Rattle.fly_state.specs.declared.entries.Entry.{Entry}
use Rattle.fly_state.specs.declared.entries.Op.{Op}
use Rattle.fly_state.specs.declared.entries.Op.TheVariants as op
use Rattle.fly_state.specs.declared.entries.Reply.{Reply}
use Rattle.fly_state.specs.declared.entries.Reply.TheVariants as reply
use Rattle.fly_state.specs.declared.view.View.{View}
use Rattle.fly_state.specs.Plans.{RunPlan}
use Rattle.fly_world.specs.declared.called.Called.{Called}
use Rattle.fly_world.specs.declared.work.Work.{Work}
use Rattle.fly_world.specs.World.{World}
use Rattle.fly_world.specs.Called.{view_read, work_claimed}
use Rattle.fly_world.specs.Journals.{Leads, IsHistory}
use Rattle.fly_world.specs.Kept.{Kept, IsLegal}
use Rattle.fly_world.proofs.FinalSlots.{get_front}
use Rattle.fly_world.proofs.JournalLemmas.{entries-are, leads-on}
use Rattle.fly_round.specs.declared.told.Told.{Told}
use Rattle.fly_work.specs.Acting.{AddsCall, ActsBy, IsPart}
use Rattle.fly_work.specs.Stages.{Turn, Stage, starting, sweeping, reading, asking, claiming, running, finishing, over, cut, IsDue, IsGiven, IsViewRead, IsWorkClaimed, AfterRead, AfterClaim, AfterAsked, After, Passes, Goes}
use Rattle.fly_work.specs.Turns.{call_entry, ticks_by, ticks_of, GivesAll, is_claim, claims_of, is_idle, is_idle_reply, outcomes_by, outcomes_of}

-- what was told to a call
abbrev pub told_of : Op → Called → Told
told_of o c = record { place = c.place; op = o; reply = c.reply }

-- ---- lists

module _ {X : Type 0} where
  pub all_one : (P : X → Type 0) (x : X) → P x → All P (x ∷ [])
  all_one P x p = All-cons P x [] p (All-nil P)

  pub pairs_none : (R : X → X → Type 0) → AllPairs R []
  pairs_none R = λ i j d lt within. absurd (omega arith)

  pub pairs_one : (R : X → X → Type 0) (x : X) → AllPairs R (x ∷ [])
  pairs_one R x = AllPairs-cons R x [] (All-nil (R x)) (pairs_none R)

  pub pairs_append : (R : X → X → Type 0) (xs ys : List X) → AllPairs R xs → AllPairs R ys
      → All (λ x. All (R x) ys) xs
      → AllPairs R (xs ++ ys)
  pairs_append R [] ys front back across = back
  pairs_append R (x ∷ xs) ys front back across =
      AllPairs-cons R x (xs ++ ys)
      (All-append (R x) xs ys (λ k d within. front zero (suc k) d (omega arith) (omega arith))
      (All-head (λ x. All (R x) ys) x xs across))
      (pairs_append R xs ys (λ i j d lt within. front (suc i) (suc j) d (omega arith) (omega arith)) back
      (All-tail (λ x. All (R x) ys) x xs across))

-- ---- what calls add

pub acts-none : (alone : Type 0) (k : Kept) (worker : ℕ) → ActsBy alone k k worker []
acts-none alone k worker = record {
  plan = refl;
  closure = refl;
  more = [];
  entries = sym (append-nil k.world.entries);
  leads = refl;
  there = All-nil (λ (c : Told). slice_get k.world.entries c.place ≡ Some (call_entry worker c));
  rising = pairs_none (λ (a b : Told). a.place < b.place);
  later = All-nil (λ (c : Told). length k.world.entries ≤ c.place);
  room = omega arith;
  only = λ _. refl;
}

pub acts-weaker : {A B : Type 0} {old new : Kept} {worker : ℕ} {cs : List Told} → (A → B) → ActsBy B old new worker cs
    → ActsBy A old new worker cs
acts-weaker f acts = record {
  plan = acts.plan;
  closure = acts.closure;
  more = acts.more;
  entries = acts.entries;
  leads = acts.leads;
  there = acts.there;
  rising = acts.rising;
  later = acts.later;
  room = acts.room;
  only = λ a. acts.only (f a);
}

pub acts-both : {alone : Type 0} {a b c : Kept} {worker : ℕ} {cs ds : List Told} → ActsBy alone a b worker cs
    → ActsBy alone b c worker ds
    → ActsBy alone a c worker (cs ++ ds)
acts-both {alone = alone} {a = a} {b = b} {c = c} {worker = worker} {cs = cs} {ds = ds} first rest = record {
  plan = rest.plan ∙ first.plan;
  closure = rest.closure ∙ first.closure;
  more = first.more ++ rest.more;
  entries = rest.entries ∙ ap (λ es. es ++ rest.more) first.entries
      ∙ append_assoc a.world.entries first.more rest.more;
  leads = leads-on a.plan a.world b.world c.world first.more rest.more first.leads
      (subst (λ p. Leads p b.world rest.more c.world) first.plan rest.leads);
  there = All-append There cs ds
      (All-weaker (λ (t : Told). slice_get b.world.entries t.place ≡ Some (call_entry worker t)) There
      (λ t h. subst (λ es. slice_get es t.place ≡ Some (call_entry worker t)) (sym rest.entries)
      (get_front b.world.entries rest.more t.place (call_entry worker t) h)) cs first.there)
      rest.there;
  rising = pairs_append (λ (s t : Told). s.place < t.place) cs ds first.rising rest.rising
      (All-weaker (λ (t : Told). slice_get b.world.entries t.place ≡ Some (call_entry worker t))
      (λ (s : Told). All (λ (t : Told). s.place < t.place) ds)
      (λ s h. All-weaker (λ (t : Told). length b.world.entries ≤ t.place) (λ (t : Told). s.place < t.place)
      (λ t later. omega (arith, slice_get_within b.world.entries s.place (call_entry worker s) h)) ds rest.later)
      cs first.there);
  later = All-append (λ (t : Told). length a.world.entries ≤ t.place) cs ds first.later
      (All-weaker (λ (t : Told). length b.world.entries ≤ t.place) (λ (t : Told). length a.world.entries ≤ t.place)
      (λ t h. omega (arith, ap length first.entries, length-append a.world.entries first.more)) ds rest.later);
  room = omega (arith, length-append cs ds, first.room, rest.room);
  only = λ h. ap (λ es. es ++ rest.more) (first.only h) ∙ ap (λ es. map (call_entry worker) cs ++ es) (rest.only h)
      ∙ sym (map-append (call_entry worker) cs ds);
}
  where
    There : Told → Type 0
    There t = slice_get c.world.entries t.place ≡ Some (call_entry worker t)

-- ---- stages, in a journal that goes on

module _ (plan : RunPlan) (closure : List ℕ) (J more : List Entry) where
  -- the journal up to a place within it
  front_same : (n : ℕ) → n < length J → take (n + 1) (J ++ more) ≡ take (n + 1) J
  front_same n within = take-append-le (n + 1) J more (omega arith)

  given-more : {X : Type 0} (given : World → Reply → Option X) (c : Told) (x : X) → c.place < length J
      → IsGiven plan closure J given c x
      → IsGiven plan closure (J ++ more) given c x
  given-more given c x within h =
      (h.0, subst (λ es. IsHistory plan closure es h.0) (sym (front_same c.place within)) h.1, h.2)

  read-more : (c : Told) (r : Reply) (next : Stage) → c.place < length J → AfterRead plan closure J c r next
      → AfterRead plan closure (J ++ more) c r next
  read-more c reply.Idle next within h = h
  read-more c (reply.Viewed exec version current) next within h =
      (h.0, given-more view_read c h.0 within h.1, h.2)
  read-more c _ next within h = absurd h

  claim-more : (c : Told) (r : Reply) (next : Stage) → c.place < length J → AfterClaim plan closure J c r next
      → AfterClaim plan closure (J ++ more) c r next
  claim-more c reply.Nothing next within h = h
  claim-more c (reply.Claimed name) next within h =
      (h.0, given-more (work_claimed plan) c h.0 within h.1, h.2)
  claim-more c _ next within h = absurd h

  asked-more : (v : View) (told : List Told) (c : Told) (o : Op) (next : Stage) → c.place < length J
      → AfterAsked plan closure J v told c o next
      → AfterAsked plan closure (J ++ more) v told c o next
  asked-more v told c (op.Write exec base moves) next within h = h
  asked-more v told c op.Claim next within h = claim-more c c.reply next within h
  asked-more v told c _ next within h = h

  after-more : (at : Stage) (c : Told) (next : Stage) → c.place < length J → After plan closure J at c next
      → After plan closure (J ++ more) at c next
  after-more starting c next within h = h
  after-more sweeping c next within h = h
  after-more reading c next within h = read-more c c.reply next within h
  after-more (asking v told) c next within h = asked-more v told c c.op next within h
  after-more claiming c next within h = claim-more c c.reply next within h
  after-more (running work) c next within h = h
  after-more (finishing work) c next within h = h
  after-more over c next within h = h
  after-more cut c next within h = h

  passes_by : (at next : Stage) (place : ℕ) (o : Op) (r : Reply) → place < length J
      → Passes plan closure J at (record { place = place; op = o; reply = r }) next
      → Passes plan closure (J ++ more) at (record { place = place; op = o; reply = r }) next
  passes_by at next place o reply.NoMemory within h = h
  passes_by at next place o r within h = after-more at (record { place = place; op = o; reply = r }) next within h

  passes-more : (at : Stage) (c : Told) (next : Stage) → c.place < length J → Passes plan closure J at c next
      → Passes plan closure (J ++ more) at c next
  passes-more at c next within h = passes_by at next c.place c.op c.reply within h

-- ---- a call with its reply

module _ (plan : RunPlan) (closure : List ℕ) (J : List Entry) (at : Stage) where
  -- a call that found no memory cuts the turn off
  pub passes-cut : (c : Told) → c.reply ≡ reply.NoMemory → Passes plan closure J at c cut
  passes-cut c h =
      subst (λ (r : Reply). Passes plan closure J at (record { place = c.place; op = c.op; reply = r }) cut) (sym h)
      refl

  pub passes-fine : (c : Told) (next : Stage) → c.reply ≢ reply.NoMemory → After plan closure J at c next
      → Passes plan closure J at c next
  passes-fine c next found h = by c.reply found h
    where
      by : (r : Reply) → r ≢ reply.NoMemory
          → After plan closure J at (record { place = c.place; op = c.op; reply = r }) next
          → Passes plan closure J at (record { place = c.place; op = c.op; reply = r }) next
      by reply.NoMemory none h = absurd (none refl)
      by r found h = h

-- ---- what calls tell

pub claims-cons : (c : Told) (cs : List Told) → is_claim c ≡ false → claims_of (c ∷ cs) ≡ claims_of cs
claims-cons c cs h = ap (λ b. cond b (c ∷ claims_of cs) (claims_of cs)) h

pub idle-cons : (c : Told) (cs : List Told) → is_idle_reply c.reply ≡ false → is_idle (c ∷ cs) ≡ is_idle cs
idle-cons c cs h = ap (λ b. b || is_idle cs) h

pub outcomes-cons : (c : Told) (cs : List Told) → outcomes_by c.op ≡ [] → outcomes_of (c ∷ cs) ≡ outcomes_of cs
outcomes-cons c cs h = ap (λ os. os ++ outcomes_of cs) h

-- ---- calls one behind another

module _ (plan : RunPlan) (closure : List ℕ) (J : List Entry) (t : Turn) where
  pub goes-more : (more : List Entry) (at end : Stage) (cs : List Told) → Goes plan closure J t at cs end
      → All (λ (c : Told). c.place < length J) cs
      → Goes plan closure (J ++ more) t at cs end
  goes-more more at end [] goes within = goes
  goes-more more at end (c ∷ cs) goes within = (
    goes.0,
    goes.1,
    passes-more plan closure J more at c goes.0 (All-head (λ (c : Told). c.place < length J) c cs within) goes.2,
    goes-more more goes.0 end cs goes.3 (All-tail (λ (c : Told). c.place < length J) c cs within),
  )

  pub goes-both : (at mid end : Stage) (cs ds : List Told) → Goes plan closure J t at cs mid
      → Goes plan closure J t mid ds end
      → Goes plan closure J t at (cs ++ ds) end
  goes-both at mid end [] ds first rest = subst (λ s. Goes plan closure J t s ds end) first rest
  goes-both at mid end (c ∷ cs) ds first rest =
      (first.0, first.1, first.2, goes-both first.0 mid end cs ds first.3 rest)

gives-both : (a b c : ClockState) (xs ys : List ℤ) → GivesAll a b xs → GivesAll b c ys → GivesAll a c (xs ++ ys)
gives-both a b c [] ys first rest = subst (λ s. GivesAll s c ys) first rest
gives-both a b c (x ∷ xs) ys first rest = (first.0, first.1, gives-both first.0 b c xs ys first.2 rest)

-- ---- parts of turns

pub part-weaker : {A B : Type 0} {t : Turn} {at end : Stage} {old new : Kept} {clock new_clock : ClockState}
    {cs : List Told}
    → (A → B) → IsPart B t at end old new clock new_clock cs
    → IsPart A t at end old new clock new_clock cs
part-weaker f part = record { acts = acts-weaker f part.acts; goes = part.goes; ticks = part.ticks }

pub part-none : (alone : Type 0) (t : Turn) (at : Stage) (k : Kept) (clock : ClockState)
    → IsPart alone t at at k k clock clock []
part-none alone t at k clock = record { acts = acts-none alone k t.worker; goes = refl; ticks = refl }

pub part-both : {alone : Type 0} {t : Turn} {a b c : Stage} {old mid new : Kept}
    {clock mid_clock new_clock : ClockState}
    {cs ds : List Told}
    → IsPart alone t a b old mid clock mid_clock cs → IsPart alone t b c mid new mid_clock new_clock ds
    → IsPart alone t a c old new clock new_clock (cs ++ ds)
part-both {t = t} {a = a} {b = b} {c = c} {old = old} {mid = mid} {new = new} {clock = clock} {mid_clock = mid_clock}
    {new_clock = new_clock} {cs = cs} {ds = ds} first rest =
    let J = mid.world.entries in
    let within : All (λ (c : Told). c.place < length J) cs =
    All-weaker (λ (c : Told). slice_get J c.place ≡ Some (call_entry t.worker c)) (λ (c : Told). c.place < length J)
    (λ c h. slice_get_within J c.place (call_entry t.worker c) h) cs first.acts.there in
    let front = goes-more old.plan old.closure J t rest.acts.more a b cs first.goes within in
    record {
      acts = acts-both first.acts rest.acts;
      goes = goes-both old.plan old.closure new.world.entries t a b c cs ds
          (subst (λ es. Goes old.plan old.closure es t a cs b) (sym rest.acts.entries) front)
          (subst (λ p. Goes p old.closure new.world.entries t b ds c) first.acts.plan
          (subst (λ k. Goes mid.plan k new.world.entries t b ds c) first.acts.closure rest.goes));
      ticks = subst (GivesAll clock new_clock) (sym (flat_map-append (λ (c : Told). ticks_by c.op) cs ds))
          (gives-both clock mid_clock new_clock (ticks_of cs) (ticks_of ds) first.ticks rest.ticks);
    }

-- ---- one call

module _ {alone : Type 0} {old new : Kept} {worker : ℕ} {o : Op} {c : Called}
    (adds : AddsCall alone old new worker o c) where
  entered : new.world.entries ≡ adds.before.entries ++ call_entry worker (told_of o c) ∷ []
  entered =
      entries-are old.plan adds.before new.world (call_entry worker (told_of o c) ∷ [])
      (new.world, adds.called.step, refl)

  earlier : adds.before.entries ≡ old.world.entries ++ adds.others
  earlier = entries-are old.plan old.world adds.before adds.others adds.leads

  pub acts-call : ActsBy alone old new worker (told_of o c ∷ [])
  acts-call = record {
    plan = adds.plan;
    closure = adds.closure;
    more = adds.others ++ call_entry worker (told_of o c) ∷ [];
    entries = entered ∙ ap (λ es. es ++ call_entry worker (told_of o c) ∷ []) earlier
        ∙ append_assoc old.world.entries adds.others (call_entry worker (told_of o c) ∷ []);
    leads = leads-on old.plan old.world adds.before new.world adds.others (call_entry worker (told_of o c) ∷ [])
        adds.leads (new.world, adds.called.step, refl);
    there = all_one (λ (c : Told). slice_get new.world.entries c.place ≡ Some (call_entry worker c)) (told_of o c)
        (ap (slice_get new.world.entries) adds.called.place
        ∙ ap (λ es. slice_get es (length adds.before.entries)) entered
        ∙ get_last adds.before.entries (call_entry worker (told_of o c)));
    rising = pairs_one (λ (a b : Told). a.place < b.place) (told_of o c);
    later = all_one (λ (c : Told). length old.world.entries ≤ c.place) (told_of o c)
        (omega (arith, adds.called.place, ap length earlier, length-append old.world.entries adds.others));
    room = omega (arith, adds.room);
    only = λ h. ap (λ es. es ++ call_entry worker (told_of o c) ∷ []) (adds.none h);
  }

  -- the journal up to the call leaves the new world
  left : IsLegal new → IsHistory old.plan old.closure (take (c.place + 1) new.world.entries) new.world
  left legal =
      let count : length new.world.entries ≡ c.place + 1 =
      omega (
        arith,
        adds.called.place,
        ap length entered,
        length-append adds.before.entries (call_entry worker (told_of o c) ∷ []),
      ) in
      subst (λ es. IsHistory old.plan old.closure es new.world)
      (sym (take_all (c.place + 1) new.world.entries (omega (arith, count))))
      (subst (λ p. IsHistory p old.closure new.world.entries new.world) adds.plan
      (subst (λ k. IsHistory new.plan k new.world.entries new.world) adds.closure legal))

  pub given-view : {v : View} → IsLegal new → view_read new.world c.reply ≡ Some v
      → IsViewRead old.plan old.closure new.world.entries (told_of o c) v
  given-view legal h = (new.world, left legal, h)

  pub given-work : {work : Work} → IsLegal new → work_claimed old.plan new.world c.reply ≡ Some work
      → IsWorkClaimed old.plan old.closure new.world.entries (told_of o c) work
  given-work legal h = (new.world, left legal, h)

pub part-call : {alone : Type 0} {t : Turn} {at next : Stage} {old new : Kept} {o : Op} {c : Called}
    (clock : ClockState)
    → AddsCall alone old new t.worker o c → IsDue old.plan t at o
    → Passes old.plan old.closure new.world.entries at (told_of o c) next → ticks_by o ≡ []
    → IsPart alone t at next old new clock clock (told_of o c ∷ [])
part-call {next = next} {o = o} clock adds due passes quiet = record {
  acts = acts-call adds;
  goes = (next, due, passes, refl);
  ticks = subst (GivesAll clock clock) (sym (append-nil (ticks_by o) ∙ quiet)) refl;
}

pub part-tick : {alone : Type 0} {t : Turn} {at next : Stage} {old new : Kept} {now : ℤ} {c : Called}
    {clock new_clock : ClockState}
    → AddsCall alone old new t.worker (op.Tick now) c → Gives clock new_clock now → IsDue old.plan t at (op.Tick now)
    → Passes old.plan old.closure new.world.entries at (told_of (op.Tick now) c) next
    → IsPart alone t at next old new clock new_clock (told_of (op.Tick now) c ∷ [])
part-tick {next = next} {new_clock = new_clock} adds gives due passes = record {
  acts = acts-call adds;
  goes = (next, due, passes, refl);
  ticks = (new_clock, gives, refl);
}
