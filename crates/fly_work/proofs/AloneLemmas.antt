-- A turn of a worker that acts alone: from its parts to what it has done.
use Rattle.std.proofs.Common.{◌≡◌, ◌⊎◌, ◌≤◌, ◌<◌, ◌||◌, ℕ, true, false, List, [], ◌∷◌, ◌++◌, map, length, take, drop, slice_get, All, Some, Result, Ok, Err, refl, sym, ◌∙◌, ap, subst, inl, inr, max, arith}
use Rattle.std.specs.List.{AllZip}
use Rattle.std.proofs.Math.Seq.{drop-append_seam}
use Rattle.std.proofs.lemmas.Grind.{flat_map-append}
use Rattle.std.proofs.lemmas.List.{append-nil, map-append}
use Rattle.std.proofs.lemmas.List.Elements.{All-head, All-tail, filter-append, filter_passes}
use Rattle.std.proofs.lemmas.List.Folds.{list_any-append}
use Rattle.std.proofs.lemmas.Option.{slice_get_within}
use Rattle.fly_types.specs.declared.memory.NoMemory.{NoMemory}
use Rattle.fly_ports.specs.Clock.{ClockState}
use Rattle.fly_ports.specs.Faults.{Rises}
use Rattle.fly_ports.specs.Spawner.{SpawnerState}
use Rattle.fly_state.specs.declared.entries.Entry.{Entry}
use Rattle.fly_state.specs.Plans.{RunPlan}
use Rattle.fly_world.specs.declared.work.Work.{Work}
use Rattle.fly_world.specs.Kept.{Kept}
use Rattle.fly_round.specs.declared.told.Told.{Told}
use Rattle.fly_work.specs.declared.keep.KeepFault.{KeepFault}
use Rattle.fly_work.specs.declared.keep.KeepFault.TheVariants as keeping
use Rattle.fly_work.specs.declared.turn.Reached.{Reached}
use Rattle.fly_work.specs.declared.turn.Reached.TheVariants as reached
use Rattle.fly_work.specs.declared.turn.Stop.{Stop}
use Rattle.fly_work.specs.declared.turn.Stop.TheVariants as stop
use Rattle.fly_work.specs.declared.turn_end.TurnEnd.{TurnEnd}
use Rattle.fly_work.specs.declared.turn_end.TurnEnd.TheVariants as end
use Rattle.fly_work.specs.Children.{Child, CameTo}
use Rattle.fly_work.specs.Drives.{turn_numbered}
use Rattle.fly_work.specs.Stages.{Turn, Stage, starting, Goes, IsWorkClaimed}
use Rattle.fly_work.specs.Turns.{IsTurn, call_entry, is_claim, is_idle, claims_of, outcomes_of, outcomes_by, is_idle_reply}
use Rattle.fly_work.specs.Keepers.{KeepsFrom}
use Rattle.fly_work.specs.Keeping.{KeepsBefore}
use Rattle.fly_work.specs.Acting.{ActsBy, IsPart}
use Rattle.fly_work.specs.Playing.{AddsCalls, HasChildren, HasWorked, IsWhole, Outside, worker_outside, EndsTurn, PlaysTurn}
use Rattle.fly_work.specs.Alone.{ClaimsLast, Reaches, IsAttended, AttendsTo, Attends, stop_for, end_of}
use Rattle.fly_work.proofs.ActingLemmas.{part-both, part-none}
use Rattle.fly_work.proofs.ClaimLemmas.{goes-claimed, claimed-more}

-- ---- calls one after another

pub claims-both : (a b : List Told) → claims_of (a ++ b) ≡ claims_of a ++ claims_of b
claims-both a b = filter-append is_claim a b

pub outcomes-both : (a b : List Told) → outcomes_of (a ++ b) ≡ outcomes_of a ++ outcomes_of b
outcomes-both a b = flat_map-append (λ (c : Told). outcomes_by c.op) a b

pub idle-both : (a b : List Told) → is_idle (a ++ b) ≡ (is_idle a || is_idle b)
idle-both a b = list_any-append (λ (c : Told). is_idle_reply c.reply) a b

-- ---- keepers

-- the laws of a keeper
pub record KeepLaws {K : Type 0} (kept kept_part : K → List Entry → K → Type 0) : Type 0 where
  pub none : (k : K) → kept k [] k
  pub both : (a b c : K) (es fs : List Entry) → kept a es b → kept b fs c → kept a (es ++ fs) c
  pub first : (a b c : K) (es fs : List Entry) → kept a es b → ((c ≡ b) ⊎ kept_part b fs c) → kept_part a (es ++ fs) c

-- nothing is a first part
pub part-nothing : {K : Type 0} {kept kept_part : K → List Entry → K → Type 0} → KeepLaws kept kept_part
    → (k : K) (es : List Entry) → kept_part k es k
part-nothing laws k es = laws.first k k k [] es (laws.none k) (inl refl)

-- all is a first part
pub part-all : {K : Type 0} {kept kept_part : K → List Entry → K → Type 0} → KeepLaws kept kept_part
    → (a b : K) (es : List Entry) → kept a es b → kept_part a es b
part-all {kept_part = kept_part} laws a b es all =
    subst (λ (l : List Entry). kept_part a l b) (append-nil es) (laws.first a b b es [] all (inl refl))

-- what was to be kept of a store with more entries
pub drop-new : (old new : Kept) (from : ℕ) → from ≡ length old.world.entries → (es : List Entry)
    → new.world.entries ≡ old.world.entries ++ es
    → drop from new.world.entries ≡ es
drop-new old new from first es more = rw (first, more) (drop-append_seam old.world.entries es)

-- a keeping that did not keep all has kept a first part
pub unkept : {K : Type 0} {kept kept_part : K → List Entry → K → Type 0} (faults : K → ℕ)
    (laws : KeepLaws kept kept_part) (a b : K) (es : List Entry) (fault : KeepFault)
    → KeepsFrom kept kept_part faults a es b (Err fault) → kept_part a es b
unkept faults laws a b es keeping.Failed keeps = keeps.0
unkept {kept_part = kept_part} faults laws a b es keeping.NoMemory keeps =
    subst (λ (k : _). kept_part a es k) (sym keeps) (part-nothing laws a es)

-- ---- the calls of a worker that acts alone

pub part-turn : {t : Turn} {at : Stage} {old new : Kept} {ck nk : ClockState} {calls : List Told}
    → IsPart (Unit {0}) t starting at old new ck nk calls
    → IsTurn old.plan old.closure new.world.entries t calls at
part-turn part = record { there = part.acts.there; rising = part.acts.rising; goes = part.goes }

pub acts-adds : {old new : Kept} {worker : ℕ} {calls : List Told} → ActsBy (Unit {0}) old new worker calls
    → AddsCalls old new worker calls
acts-adds {old} {new} {worker} {calls} acts = record {
  plan = acts.plan;
  closure = acts.closure;
  entries = rw (← acts.only tt) acts.entries;
  leads = rw (← acts.only tt) acts.leads;
  there = acts.there;
  rising = acts.rising;
  later = acts.later;
  room = acts.room;
}

-- a part of a turn before which room was made
pub part-wider : {t : Turn} {a b : Stage} {old new : Kept} {ck nk : ClockState} {calls : List Told} (room : ℕ)
    → IsPart (Unit {0}) t a b (record old { spare = max old.spare room }) new ck nk calls
    → IsPart (Unit {0}) t a b old new ck nk calls
part-wider {old = old} {new = new} {calls = calls} room part = record {
  acts = record {
    plan = part.acts.plan;
    closure = part.acts.closure;
    more = part.acts.more;
    entries = part.acts.entries;
    leads = part.acts.leads;
    there = part.acts.there;
    rising = part.acts.rising;
    later = part.acts.later;
    room = omega (arith, part.acts.room);
    only = part.acts.only;
  };
  goes = part.goes;
  ticks = part.ticks;
}

pub reaches-wider : {old mid new : Kept} {ck nk : ClockState} {result : Result Reached NoMemory}
    (lag number room : ℕ) → mid ≡ record old { spare = max old.spare room }
    → Reaches (turn_numbered (length mid.world.executions) lag number) mid new ck nk result
    → Reaches (turn_numbered (length old.world.executions) lag number) old new ck nk result
reaches-wider {old} {mid} {new} {ck} {nk} {result} lag number room wider reaches =
    let r : Reaches (turn_numbered (length old.world.executions) lag number)
    (record old { spare = max old.spare room }) new ck nk result =
    subst (λ (k : Kept). Reaches (turn_numbered (length k.world.executions) lag number) k new ck nk result) wider
    reaches in
    record {
      calls = r.calls;
      at = r.at;
      part = part-wider room r.part;
      few = r.few;
      claimed = r.claimed;
      outcomes = r.outcomes;
      reached = r.reached;
    }

-- a turn that was broken off before its first call
pub reaches-nothing : (t : Turn) (k : Kept) (ck : ClockState) (fault : NoMemory) → Reaches t k k ck ck (Err fault)
reaches-nothing t k ck fault = record {
  calls = [];
  at = starting;
  part = part-none (Unit {0}) t starting k ck;
  few = omega arith;
  claimed = omega arith;
  outcomes = refl;
  reached = tt;
}

-- ---- calls behind which no child ran

childless : (plan : RunPlan) (closure : List ℕ) (journal : List Entry) (calls : List Told)
    → length (claims_of calls) ≤ 1 → outcomes_of calls ≡ []
    → HasChildren plan closure journal calls []
childless plan closure journal calls few none = record {
  works = tt;
  most = omega arith;
  last = omega arith;
  outcomes = rw none tt;
  some = rw none (omega arith);
}

module _ {K : Type 0} {kept kept_part : K → List Entry → K → Type 0} (faults : K → ℕ)
    (laws : KeepLaws kept kept_part) where
  abbrev keeps-nothing : (worker : ℕ) (calls : List Told) (a b : K) → kept_part a (map (call_entry worker) calls) b
      → KeepsBefore kept kept_part worker calls 0 a b
  keeps-nothing worker calls a b part = record {
    front = [];
    back = calls;
    all = refl;
    ends = (refl, λ some. absurd (some refl));
    between = a;
    front_kept = laws.none a;
    back_part = part;
  }

  front-did : {t : Turn} {old new : Kept} {ck nk : ClockState} {result : Result Reached NoMemory}
      (r : Reaches t old new ck nk result) (spawner : SpawnerState) (keeper after : K)
      → kept_part keeper (map (call_entry t.worker) r.calls) after
      → (did : HasWorked kept kept_part t.worker r.calls old new (worker_outside ck spawner keeper)
      (worker_outside nk spawner after))
      × (claims_of r.calls ≡ [] → kept keeper (map (call_entry t.worker) r.calls) after → IsWhole did)
  front-did {t} {old} {new} r spawner keeper after part = (
    record {
      entries = acts-adds r.part.acts;
      ticks = r.part.ticks;
      children = [];
      runs = refl;
      claimed = childless old.plan old.closure new.world.entries r.calls r.claimed r.outcomes;
      keeps = keeps-nothing t.worker r.calls keeper after part;
    },
    λ none all. record { ran = sym (ap (λ (l : List Told). length l) none); kept_all = all; kept_rest = all },
  )

  plays-front : {t : Turn} {old new : Kept} {ck nk : ClockState} {result : Result Reached NoMemory}
      (r : Reaches t old new ck nk result) (spawner : SpawnerState) (keeper after : K)
      (ends : TurnEnd) → kept_part keeper (map (call_entry t.worker) r.calls) after
      → ((whole : Type 0) → (claims_of r.calls ≡ [] → kept keeper (map (call_entry t.worker) r.calls) after → whole)
      → EndsTurn faults keeper after r.calls r.at whole ends)
      → PlaysTurn kept kept_part faults t old new (worker_outside ck spawner keeper)
      (worker_outside nk spawner after) ends
  plays-front r spawner keeper after ends part ending =
      let did = front-did r spawner keeper after part in
      record {
        calls = r.calls;
        at = r.at;
        turn = part-turn r.part;
        did = did.0;
        ended =
            ending (IsWhole did.0) did.1;
      }

  -- no memory was found before anything was kept
  pub plays-cut : {t : Turn} {old new : Kept} {ck nk : ClockState} {result : Result Reached NoMemory}
      (r : Reaches t old new ck nk result) (spawner : SpawnerState) (keeper : K)
      → PlaysTurn kept kept_part faults t old new (worker_outside ck spawner keeper)
      (worker_outside nk spawner keeper) end.NoMemory
  plays-cut {t} r spawner keeper =
      plays-front r spawner keeper keeper end.NoMemory (part-nothing laws keeper (map (call_entry t.worker) r.calls))
      (λ whole by. refl)

  -- what the first keeping was to keep
  kept-new : {t : Turn} {old new : Kept} {ck nk : ClockState} {result : Result Reached NoMemory}
      (r : Reaches t old new ck nk result) (from : ℕ) (a b : K) (keeps : Result (Unit {0}) KeepFault)
      → from ≡ length old.world.entries → KeepsFrom kept kept_part faults a (drop from new.world.entries) b keeps
      → KeepsFrom kept kept_part faults a (map (call_entry t.worker) r.calls) b keeps
  kept-new {t} {old} {new} r from a b keeps first given =
      subst (λ (es : List Entry). KeepsFrom kept kept_part faults a es b keeps)
      (drop-new old new from first (map (call_entry t.worker) r.calls) (acts-adds r.part.acts).entries) given

  -- the first keeping failed
  pub plays-unkept : {t : Turn} {old new : Kept} {ck nk : ClockState} {result : Result Reached NoMemory}
      (r : Reaches t old new ck nk result) (from : ℕ) (spawner : SpawnerState)
      (keeper after : K) (fault : KeepFault) → from ≡ length old.world.entries
      → KeepsFrom kept kept_part faults keeper (drop from new.world.entries) after (Err fault)
      → PlaysTurn kept kept_part faults t old new (worker_outside ck spawner keeper)
      (worker_outside nk spawner after) (end_of (Err (stop_for fault)))
  plays-unkept {t} r from spawner keeper after keeping.Failed first given =
      let keeps = kept-new r from keeper after (Err keeping.Failed) first given in
      plays-front r spawner keeper after end.Keep
      (unkept faults laws keeper after (map (call_entry t.worker) r.calls) keeping.Failed keeps)
      (λ whole by. keeps.1)
  plays-unkept {t} r from spawner keeper after keeping.NoMemory first given =
      let keeps = kept-new r from keeper after (Err keeping.NoMemory) first given in
      plays-front r spawner keeper after end.NoMemory
      (unkept faults laws keeper after (map (call_entry t.worker) r.calls) keeping.NoMemory keeps)
      (λ whole by. ap faults keeps)

  -- every execution was over
  pub plays-idle : {t : Turn} {old new : Kept} {ck nk : ClockState} (r : Reaches t old new ck nk (Ok reached.Idle))
      (from : ℕ) (spawner : SpawnerState) (keeper after : K) (u : Unit {0})
      → from ≡ length old.world.entries
      → KeepsFrom kept kept_part faults keeper (drop from new.world.entries) after (Ok u)
      → PlaysTurn kept kept_part faults t old new (worker_outside ck spawner keeper)
      (worker_outside nk spawner after) end.Idle
  plays-idle {t} r from spawner keeper after u first given =
      let keeps = kept-new r from keeper after (Ok u) first given in
      plays-front r spawner keeper after end.Idle
      (part-all laws keeper after (map (call_entry t.worker) r.calls) keeps.0)
      (λ whole by. (r.reached.0, r.reached.1, by r.reached.2 keeps.0, keeps.1))

  -- nothing was claimed
  pub plays-done : {t : Turn} {old new : Kept} {ck nk : ClockState} (r : Reaches t old new ck nk (Ok reached.Done))
      (from : ℕ) (spawner : SpawnerState) (keeper after : K) (u : Unit {0})
      → from ≡ length old.world.entries
      → KeepsFrom kept kept_part faults keeper (drop from new.world.entries) after (Ok u)
      → PlaysTurn kept kept_part faults t old new (worker_outside ck spawner keeper)
      (worker_outside nk spawner after) end.Went
  plays-done {t} r from spawner keeper after u first given =
      let keeps = kept-new r from keeper after (Ok u) first given in
      plays-front r spawner keeper after end.Went
      (part-all laws keeper after (map (call_entry t.worker) r.calls) keeps.0)
      (λ whole by. (r.reached.0, r.reached.1, by r.reached.2 keeps.0, keeps.1))

-- ---- calls behind which a child ran

All-last : (P : Told → Type 0) (before : List Told) (last : Told) → All P (before ++ last ∷ []) → P last
All-last P [] last all = All-head P last [] all
All-last P (c ∷ cs) last all = All-last P cs last (All-tail P c (cs ++ last ∷ []) all)

-- the last call before the child claimed its work
claim-at : {t : Turn} {old mid : Kept} {ck mk : ClockState} {work : Work}
    (r : Reaches t old mid ck mk (Ok (reached.Claimed work)))
    → IsWorkClaimed old.plan old.closure mid.world.entries r.reached.2.last work
    × (r.reached.2.last.place < length mid.world.entries)
claim-at {t} {old} {mid} {ck} {mk} {work} r =
    let claim = r.reached.2 in
    let J = mid.world.entries in
    let goes = subst (λ (at : Stage). Goes old.plan old.closure J t starting (claim.before ++ claim.last ∷ []) at)
    r.reached.0
    (subst (λ (l : List Told). Goes old.plan old.closure J t starting l r.at) claim.all r.part.goes) in
    let there = subst (λ (l : List Told). All (λ (c : Told). slice_get J c.place ≡ Some (call_entry t.worker c)) l)
    claim.all r.part.acts.there in (
      goes-claimed old.plan old.closure J work t starting claim.before claim.last goes,
      slice_get_within J claim.last.place (call_entry t.worker claim.last)
          (All-last (λ (c : Told). slice_get J c.place ≡ Some (call_entry t.worker c)) claim.before claim.last there),
    )

claims-last : (calls : List Told) (last : Told) → claims_of calls ≡ last ∷ [] → is_claim last ≡ true
claims-last calls last is =
    All-head (λ (c : Told). is_claim c ≡ true) last []
    (subst (λ (l : List Told). All (λ (c : Told). is_claim c ≡ true) l) is (filter_passes is_claim calls))

children-one : (plan : RunPlan) (closure : List ℕ) (journal : List Entry) (calls : List Told) (child : Child)
    (last : Told) → claims_of calls ≡ last ∷ []
    → IsWorkClaimed plan closure journal last child.work
    → AllZip CameTo (take (length (outcomes_of calls)) (child ∷ [])) (outcomes_of calls)
    → length (outcomes_of calls) ≤ 1 → HasChildren plan closure journal calls (child ∷ [])
children-one plan closure journal calls child last claims claimed came few = record {
  works = rw claims (claimed, tt);
  most = rw claims (omega arith);
  last = rw claims (omega arith);
  outcomes = came;
  some = few;
}

-- how a turn ends by how its part behind the claim did
abbrev pub end_behind : Result (Unit {0}) Stop → TurnEnd
end_behind (Ok _) = end.Went
end_behind (Err why) = end_of (Err why)

module _ {K : Type 0} {kept kept_part : K → List Entry → K → Type 0} (faults : K → ℕ)
    (laws : KeepLaws kept kept_part) where
  abbrev keeps-claimed : (worker : ℕ) (front back : List Told) (a b c : K) → ClaimsLast front
      → kept a (map (call_entry worker) front) b
      → kept_part b (map (call_entry worker) back) c → KeepsBefore kept kept_part worker (front ++ back) 1 a c
  keeps-claimed worker front back a b c claim all part = record {
    front = front;
    back = back;
    all = refl;
    ends = (
      ap (λ (l : List Told). length l) claim.claims,
      λ some. (claim.before, claim.last, claim.all, claims-last front claim.last claim.claims),
    );
    between = b;
    front_kept = all;
    back_part = part;
  }

  module _ {t : Turn} {old mid new : Kept} {ck mk : ClockState} {work : Work} {result : Result (Unit {0}) Stop}
      {after : Outside K}
      (r : Reaches t old mid ck mk (Ok (reached.Claimed work))) (spawner : SpawnerState) (keeper between : K)
      (all : kept keeper (map (call_entry t.worker) r.calls) between)
      (a : AttendsTo kept kept_part faults t work mid new (worker_outside mk spawner between) after result) where
    both-part : IsPart (Unit {0}) t starting a.at old new ck after.clock (r.calls ++ a.calls)
    both-part = part-both
        (subst (λ (at : Stage). IsPart (Unit {0}) t starting at old mid ck mk r.calls) r.reached.0 r.part) a.part

    both-claims : claims_of (r.calls ++ a.calls) ≡ r.reached.2.last ∷ []
    both-claims = rw (claims-both r.calls a.calls, a.claims, r.reached.2.claims) refl

    both-outcomes : outcomes_of (r.calls ++ a.calls) ≡ outcomes_of a.calls
    both-outcomes = rw (outcomes-both r.calls a.calls, r.outcomes) refl

    both-work : IsWorkClaimed old.plan old.closure new.world.entries r.reached.2.last a.child.work
    both-work =
        let at = claim-at r in
        let more = claimed-more old.plan old.closure mid.world.entries a.part.acts.more r.reached.2.last work at.1
        at.0 in
        rw (a.part.acts.entries, a.work_is) more

    both-did : (did : HasWorked kept kept_part t.worker (r.calls ++ a.calls) old new
        (worker_outside ck spawner keeper) after)
        × (kept between (map (call_entry t.worker) a.calls) after.keeper → IsWhole did)
    both-did = (
      record {
        entries = acts-adds both-part.acts;
        ticks = both-part.ticks;
        children = a.child ∷ [];
        runs = (after.spawner, a.runs, refl);
        claimed = children-one old.plan old.closure new.world.entries (r.calls ++ a.calls) a.child r.reached.2.last
            both-claims both-work
            (rw both-outcomes a.outcomes) (rw both-outcomes a.some);
        keeps = keeps-claimed t.worker r.calls a.calls keeper between after.keeper r.reached.2 all a.part_kept;
      },
      λ rest. record {
        ran = sym (ap (λ (l : List Told). length l) both-claims);
        kept_all = rw (map-append (call_entry t.worker) r.calls a.calls)
            (laws.both keeper between after.keeper (map (call_entry t.worker) r.calls)
            (map (call_entry t.worker) a.calls) all rest);
        kept_rest = rest;
      },
    )

    both-idle : is_idle (r.calls ++ a.calls) ≡ false
    both-idle = rw (idle-both r.calls a.calls, r.reached.1, a.active) refl

    both-ended : (faults between ≡ faults keeper)
        → IsAttended kept faults between (map (call_entry t.worker) a.calls) after.keeper a.at result
        → EndsTurn faults keeper after.keeper (r.calls ++ a.calls) a.at (IsWhole both-did.0) (end_behind result)
    both-ended same ended = ends-by result ended
      where
        ends-by : (result : Result (Unit {0}) Stop)
            → IsAttended kept faults between (map (call_entry t.worker) a.calls) after.keeper a.at result
            → EndsTurn faults keeper after.keeper (r.calls ++ a.calls) a.at (IsWhole both-did.0) (end_behind result)
        ends-by (Ok u) (done, rest, still) = (done, both-idle, both-did.1 rest, still ∙ same)
        ends-by (Err stop.Keep) rise = subst (λ (n : ℕ). Rises n (faults after.keeper)) same rise
        ends-by (Err stop.NoMemory) still = still ∙ same

    plays-both : (faults between ≡ faults keeper)
        → PlaysTurn kept kept_part faults t old new (worker_outside ck spawner keeper) after (end_behind result)
    plays-both same = record {
      calls = r.calls ++ a.calls;
      at = a.at;
      turn = part-turn both-part;
      did =
          both-did.0;
      ended = both-ended same a.attended;
    }

  -- what was claimed was attended to, or no memory was found for its child
  pub plays-claimed : {t : Turn} {old mid new : Kept} {ck mk : ClockState} {work : Work}
      {result : Result (Unit {0}) Stop} {after : Outside K}
      (r : Reaches t old mid ck mk (Ok (reached.Claimed work))) (from : ℕ) (spawner : SpawnerState)
      (keeper between : K) (u : Unit {0})
      → from ≡ length old.world.entries
      → KeepsFrom kept kept_part faults keeper (drop from mid.world.entries) between (Ok u)
      → Attends kept kept_part faults t work mid new (worker_outside mk spawner between) after result
      → PlaysTurn kept kept_part faults t old new (worker_outside ck spawner keeper) after (end_behind result)
  plays-claimed {t} {old} {mid} {new} {ck} {mk} {work} {result} {after} r from spawner keeper between u first given
      (inl none) =
      let keeps = kept-new faults laws r from keeper between (Ok u) first given in
      let part = part-all laws keeper between (map (call_entry t.worker) r.calls) keeps.0 in
      let plays = plays-front faults laws r spawner keeper between end.NoMemory part (λ whole by. keeps.1) in
      rw (none.store, none.outside, none.short) plays
  plays-claimed {t} r from spawner keeper between u first given (inr a) =
      let keeps = kept-new faults laws r from keeper between (Ok u) first given in
      plays-both r spawner keeper between keeps.0 a keeps.1
