-- The part of a turn from its child on.
use Rattle.std.proofs.Common.{◌≡◌, ◌⊎◌, ◌≤◌, ℕ, List, [], ◌∷◌, map, length, take, drop, Result, Ok, Err, refl, sym, ap, subst, inl, inr, arith, length-append}
use Rattle.std.specs.List.{AllZip}
use Rattle.fly_types.specs.declared.memory.NoMemory.{NoMemory}
use Rattle.fly_ports.specs.Clock.{ClockState}
use Rattle.fly_ports.specs.Spawner.{SpawnerState}
use Rattle.fly_docs.specs.declared.attempt_name.AttemptName.{AttemptName}
use Rattle.fly_docs.specs.declared.workflow.Workflow.{Workflow}
use Rattle.fly_policy.specs.Outcome.{IsOutcomeOf}
use Rattle.fly_policy.specs.declared.outcome.Outcome.{Outcome}
use Rattle.fly_state.specs.declared.entries.Entry.{Entry}
use Rattle.fly_state.specs.declared.entries.Op.TheVariants as op
use Rattle.fly_state.specs.PlanTables.{IsOuterPlan}
use Rattle.fly_state.specs.Plans.{RunPlan}
use Rattle.fly_world.specs.declared.work.Work.{Work}
use Rattle.fly_world.specs.Kept.{Kept}
use Rattle.fly_round.specs.declared.told.Told.{Told}
use Rattle.fly_work.specs.declared.keep.KeepFault.{KeepFault}
use Rattle.fly_work.specs.declared.keep.KeepFault.TheVariants as keeping
use Rattle.fly_work.specs.declared.turn.Stop.{Stop}
use Rattle.fly_work.specs.declared.turn.Stop.TheVariants as stop
use Rattle.fly_work.specs.Children.{Child, CameTo}
use Rattle.fly_work.specs.Stages.{Turn, Stage, running}
use Rattle.fly_work.specs.Turns.{call_entry, outcomes_of}
use Rattle.fly_work.specs.Keepers.{KeepsFrom}
use Rattle.fly_work.specs.Acting.{ActsBy}
use Rattle.fly_work.specs.Parts.{MayStand, Hears, IsSettled, Settles}
use Rattle.fly_work.specs.Playing.{worker_outside}
use Rattle.fly_work.specs.Alone.{IsWorkOfPlan, IsAttended, Attends, stop_for}
use Rattle.fly_work.proofs.ActingLemmas.{part-none}
use Rattle.fly_work.proofs.OutcomeLemmas.{finish-may-stand}
use Rattle.fly_work.proofs.AloneLemmas.{KeepLaws, part-nothing, part-all, unkept, acts-adds, drop-new}

-- some turn of the worker that acts alone
abbrev pub some_turn : Turn
some_turn = record { worker = 0; number = 0; executions = 0; lag = 0 }

-- a store on which calls were made has no fewer entries
pub acts-longer : {alone : Type 0} {old new : Kept} {worker : ℕ} {calls : List Told}
    → ActsBy alone old new worker calls
    → length old.world.entries ≤ length new.world.entries
acts-longer {old = old} acts =
    rw acts.entries (omega (arith, length-append old.world.entries acts.more))

-- what was handed in is what the child came to, where anything was
came-by : (child : Child) (o : Outcome) (outcomes : List Outcome) → CameTo child o → (outcomes ≡ [])
    ⊎ (outcomes ≡ o ∷ [])
    → AllZip CameTo (take (length outcomes) (child ∷ [])) outcomes × (length outcomes ≤ 1)
came-by child o outcomes came (inl none) = rw none (tt, omega arith)
came-by child o outcomes came (inr one) = rw one ((came, tt), omega arith)

settled-outcomes : (o : Outcome) (at : Stage) (calls : List Told) (result : Result (Unit {0}) NoMemory)
    → IsSettled o at calls result
    → (outcomes_of calls ≡ []) ⊎ (outcomes_of calls ≡ o ∷ [])
settled-outcomes o at calls (Ok _) is = inr is.1
settled-outcomes o at calls (Err _) is = is

-- the end of the child's attempt may stand in the journal, whatever is in the store
pub end-may-stand : (plan held : RunPlan) (f : Workflow) (work : Work) (name : AttemptName) (old new : SpawnerState)
    (o : Outcome) → IsOuterPlan plan f
    → IsWorkOfPlan plan work → Hears old new work (Ok o) → held ≡ plan → name ≡ work.name
    → MayStand held 0 (op.Finish name o)
end-may-stand plan held f work name old new o outer (w, given) (child, work_is, runs, (heard, is, came)) held_is
    name_is =
    let may = finish-may-stand plan f outer w work given heard o
    (subst (λ (k : Work). IsOutcomeOf k.outputs heard o) work_is came) 0 in
    subst (λ (p : RunPlan). MayStand p 0 (op.Finish name o)) (sym held_is)
    (subst (λ (n : AttemptName). MayStand plan 0 (op.Finish n o)) (sym name_is) may)

module _ {K : Type 0} {kept kept_part : K → List Entry → K → Type 0} (faults : K → ℕ)
    (laws : KeepLaws kept kept_part) where
  -- no memory was found before the child ran, or before its end was known
  pub attends-unheard : (t : Turn) (work : Work) (store : Kept) (ck : ClockState)
      (spawner new_spawner : SpawnerState) (keeper : K) (short : NoMemory)
      → Hears spawner new_spawner work (Err short)
      → Attends kept kept_part faults t work store store (worker_outside ck spawner keeper)
      (worker_outside ck new_spawner keeper) (Err stop.NoMemory)
  attends-unheard t work store ck spawner new_spawner keeper short (inl same) =
      inl (record {
        store = refl;
        outside = ap (λ (s : SpawnerState). worker_outside ck s keeper) same;
        short =
            refl;
      })
  attends-unheard t work store ck spawner new_spawner keeper short (inr (child, work_is, runs)) = inr (record {
    child = child;
    work_is = work_is;
    runs = runs;
    calls = [];
    at = running work;
    part = part-none (Unit {0}) t (running work) store ck;
    claims = refl;
    active = refl;
    outcomes = tt;
    some = omega arith;
    part_kept = part-nothing laws keeper [];
    attended = refl;
  })

  -- the child came to its outcome, and its end was recorded as far as memory went
  attends-to : {t : Turn} {work : Work} {outcome : Outcome} {old new : Kept} {ck nk : ClockState}
      {result : Result (Unit {0}) NoMemory}
      (s : Settles (Unit {0}) t work outcome old new ck nk result) (spawner new_spawner : SpawnerState)
      (keeper after : K) (ended : Result (Unit {0}) Stop)
      → Hears spawner new_spawner work (Ok outcome) → kept_part keeper (map (call_entry t.worker) s.calls) after
      → IsAttended kept faults keeper (map (call_entry t.worker) s.calls) after s.at ended
      → Attends kept kept_part faults t work old new (worker_outside ck spawner keeper)
      (worker_outside nk new_spawner after) ended
  attends-to {outcome = outcome} {result = result} s spawner new_spawner keeper after ended
      (child, work_is, runs, came) part attended =
      let by = came-by child outcome (outcomes_of s.calls) came
      (settled-outcomes outcome s.at s.calls result s.settled) in
      inr (record {
        child = child;
        work_is = work_is;
        runs = runs;
        calls = s.calls;
        at = s.at;
        part = s.part;
        claims = s.claims;
        active = s.active;
        outcomes = by.0;
        some = by.1;
        part_kept = part;
        attended = attended;
      })

  pub attends-cut : {t : Turn} {work : Work} {outcome : Outcome} {old new : Kept} {ck nk : ClockState}
      {result : Result (Unit {0}) NoMemory}
      (s : Settles (Unit {0}) t work outcome old new ck nk result) (spawner new_spawner : SpawnerState) (keeper : K)
      → Hears spawner new_spawner work (Ok outcome)
      → Attends kept kept_part faults t work old new (worker_outside ck spawner keeper)
      (worker_outside nk new_spawner keeper) (Err stop.NoMemory)
  attends-cut {t} s spawner new_spawner keeper hears =
      attends-to s spawner new_spawner keeper keeper (Err stop.NoMemory) hears
      (part-nothing laws keeper (map (call_entry t.worker) s.calls)) refl

  kept-behind : {t : Turn} {work : Work} {outcome : Outcome} {old new : Kept} {ck nk : ClockState}
      {result : Result (Unit {0}) NoMemory}
      (s : Settles (Unit {0}) t work outcome old new ck nk result) (from : ℕ) (a b : K)
      (keeps : Result (Unit {0}) KeepFault)
      → from ≡ length old.world.entries → KeepsFrom kept kept_part faults a (drop from new.world.entries) b keeps
      → KeepsFrom kept kept_part faults a (map (call_entry t.worker) s.calls) b keeps
  kept-behind {t = t} {old = old} {new = new} s from a b keeps first given =
      subst (λ (es : List Entry). KeepsFrom kept kept_part faults a es b keeps)
      (drop-new old new from first (map (call_entry t.worker) s.calls) (acts-adds s.part.acts).entries) given

  -- the keeping of its end failed
  pub attends-unkept : {t : Turn} {work : Work} {outcome : Outcome} {old new : Kept} {ck nk : ClockState}
      {result : Result (Unit {0}) NoMemory}
      (s : Settles (Unit {0}) t work outcome old new ck nk result) (from : ℕ) (spawner new_spawner : SpawnerState)
      (keeper after : K) (fault : KeepFault) → from ≡ length old.world.entries
      → Hears spawner new_spawner work (Ok outcome)
      → KeepsFrom kept kept_part faults keeper (drop from new.world.entries) after (Err fault)
      → Attends kept kept_part faults t work old new (worker_outside ck spawner keeper)
      (worker_outside nk new_spawner after) (Err (stop_for fault))
  attends-unkept {t} s from spawner new_spawner keeper after keeping.Failed first hears given =
      let keeps = kept-behind s from keeper after (Err keeping.Failed) first given in
      attends-to s spawner new_spawner keeper after (Err stop.Keep) hears
      (unkept faults laws keeper after (map (call_entry t.worker) s.calls) keeping.Failed keeps)
      keeps.1
  attends-unkept {t} s from spawner new_spawner keeper after keeping.NoMemory first hears given =
      let keeps = kept-behind s from keeper after (Err keeping.NoMemory) first given in
      attends-to s spawner new_spawner keeper after (Err stop.NoMemory) hears
      (unkept faults laws keeper after (map (call_entry t.worker) s.calls) keeping.NoMemory keeps)
      (ap faults keeps)

  -- all of it was kept
  pub attends-all : {t : Turn} {work : Work} {outcome : Outcome} {old new : Kept} {ck nk : ClockState} {u : Unit {0}}
      (s : Settles (Unit {0}) t work outcome old new ck nk (Ok u)) (from : ℕ) (spawner new_spawner : SpawnerState)
      (keeper after : K) (v : Unit {0}) → from ≡ length old.world.entries
      → Hears spawner new_spawner work (Ok outcome)
      → KeepsFrom kept kept_part faults keeper (drop from new.world.entries) after (Ok v)
      → Attends kept kept_part faults t work old new (worker_outside ck spawner keeper)
      (worker_outside nk new_spawner after) (Ok v)
  attends-all {t} s from spawner new_spawner keeper after v first hears given =
      let keeps = kept-behind s from keeper after (Ok v) first given in
      attends-to s spawner new_spawner keeper after (Ok v) hears
      (part-all laws keeper after (map (call_entry t.worker) s.calls) keeps.0)
      (s.settled.0, keeps.0, keeps.1)
