-- The part of a turn up to its claim.
use Rattle.std.proofs.Common.{◌≡◌, ◌≤◌, ◌+◌, ◌/◌, ◌%◌, ℕ, false, List, [], ◌∷◌, ◌++◌, length, Option, Some, None, Result, Ok, Err, refl, sym, ◌∙◌, ap, subst, arith, add-zero, append_assoc, length-append}
use Rattle.fly_types.specs.declared.memory.NoMemory.{NoMemory}
use Rattle.fly_ports.specs.Clock.{ClockState}
use Rattle.fly_state.specs.declared.moves.Move.{Move}
use Rattle.fly_state.specs.declared.view.View.{View}
use Rattle.fly_state.specs.OfPlan.{IsViewOfPlan}
use Rattle.fly_state.specs.Plans.{RunPlan}
use Rattle.fly_world.specs.declared.work.Work.{Work}
use Rattle.fly_world.specs.Kept.{Kept}
use Rattle.fly_round.specs.declared.told.Told.{Told}
use Rattle.fly_round.specs.Moves.{round_moves}
use Rattle.fly_round.specs.Questions.{next_question}
use Rattle.fly_work.specs.declared.turn.Reached.{Reached}
use Rattle.fly_work.specs.declared.turn.Reached.TheVariants as reached
use Rattle.fly_work.specs.Drives.{turn_numbered}
use Rattle.fly_work.specs.Stages.{Turn, Stage, read_from, read_back, starting, asking, Goes}
use Rattle.fly_work.specs.Turns.{is_idle, claims_of, outcomes_of}
use Rattle.fly_work.specs.Acting.{IsPart}
use Rattle.fly_work.specs.Parts.{Opens, AsksAll, Closes, IsRoundOf}
use Rattle.fly_work.specs.Alone.{IsWorkOfPlan, IsReached, Reaches}
use Rattle.fly_work.proofs.ActingLemmas.{part-both}
use Rattle.fly_work.proofs.AloneLemmas.{claims-both, outcomes-both, idle-both}
use Rattle.fly_work.proofs.ClaimLemmas.{goes-claimed, claimed-of_plan}

-- room that is left behind some calls
pub room-left : {t : Turn} {a b : Stage} {old new : Kept} {ck nk : ClockState} {calls : List Told}
    → IsPart (Unit {0}) t a b old new ck nk calls
    → (few rest : ℕ) → length calls ≤ few → few + rest ≤ old.spare → rest ≤ new.spare
room-left part few rest at_most room = omega (arith, part.acts.room, at_most, room)

-- where the turn of a number reads
pub turn-reads : (number executions lag n l : ℕ) → n ≡ executions → l ≡ lag
    → (number % n ≡ read_from (turn_numbered executions lag number))
    × ((number / n) % (l + 1) ≡ read_back (turn_numbered executions lag number))
turn-reads number executions lag n l n_is l_is =
    rw (n_is, l_is) (ap (λ (k : ℕ). k % executions) (sym (add-zero number)), refl)

-- ---- a turn that is broken off

pub reaches-opened : {t : Turn} {old new : Kept} {ck nk : ClockState} {result : Result (Option View) NoMemory}
    → Opens (Unit {0}) t old new ck nk result
    → (short : NoMemory) → Reaches t old new ck nk (Err short)
reaches-opened o short = record {
  calls = o.calls;
  at = o.at;
  part = o.part;
  few = omega (arith, o.few);
  claimed = rw o.claims (omega arith);
  outcomes = o.outcomes;
  reached = tt;
}

-- ---- every execution is over

pub reaches-idle : {t : Turn} {old new : Kept} {ck nk : ClockState} → Opens (Unit {0}) t old new ck nk (Ok None)
    → Reaches t old new ck nk (Ok reached.Idle)
reaches-idle o = record {
  calls = o.calls;
  at = o.at;
  part = o.part;
  few = omega (arith, o.few);
  claimed = rw o.claims (omega arith);
  outcomes = o.outcomes;
  reached = (o.opened.0, o.opened.1, o.claims);
}

-- ---- a round

-- the calls up to a stage in or behind a round
pub record AsksSo (t : Turn) (at : Stage) (old new : Kept) (ck nk : ClockState) : Type 0 where
  pub calls : List Told
  pub part : IsPart (Unit {0}) t starting at old new ck nk calls
  pub few : length calls ≤ 2_051
  pub claims : claims_of calls ≡ []
  pub outcomes : outcomes_of calls ≡ []
  pub active : is_idle calls ≡ false

asks-so : {t : Turn} {v : View} {old mid new : Kept} {ck nk : ClockState} {result : Result (List Move) NoMemory}
    → Opens (Unit {0}) t old mid ck nk (Ok (Some v))
    → (q : AsksAll (Unit {0}) t v mid new nk result) → AsksSo t q.at old new ck nk
asks-so {t} {v} {old} {mid} {new} {ck} {nk} o q = record {
  calls = o.calls ++ q.calls;
  part = part-both (subst (λ (at : Stage). IsPart (Unit {0}) t starting at old mid ck nk o.calls) o.opened.0 o.part)
      q.part;
  few = omega (arith, length-append o.calls q.calls, o.few, q.few);
  claims = rw (claims-both o.calls q.calls, o.claims, q.claims) refl;
  outcomes = rw (outcomes-both o.calls q.calls, o.outcomes, q.outcomes) refl;
  active = rw (idle-both o.calls q.calls, o.opened.2, q.active) refl;
}

-- all of it was asked
pub asks-all : {t : Turn} {v : View} {old mid new : Kept} {ck nk : ClockState} {moves : List Move}
    → Opens (Unit {0}) t old mid ck nk (Ok (Some v))
    → (q : AsksAll (Unit {0}) t v mid new nk (Ok moves)) → AsksSo t (asking v q.asked.0) old new ck nk
asks-all {t} {v} {old} {mid} {new} {ck} {nk} o q =
    subst (λ (at : Stage). AsksSo t at old new ck nk) q.asked.1 (asks-so o q)

pub reaches-asked : {t : Turn} {v : View} {old mid new : Kept} {ck nk : ClockState}
    {result : Result (List Move) NoMemory} → Opens (Unit {0}) t old mid ck nk (Ok (Some v))
    → AsksAll (Unit {0}) t v mid new nk result → (short : NoMemory) → Reaches t old new ck nk (Err short)
reaches-asked o q short =
    let s = asks-so o q in
    record {
      calls = s.calls;
      at = q.at;
      part = s.part;
      few = omega (arith, s.few);
      claimed = rw s.claims (omega arith);
      outcomes = s.outcomes;
      reached = tt;
    }

-- what was told in it, and its moves
pub round-of : {t : Turn} {v : View} {old mid new : Kept} {ck nk : ClockState} {moves : List Move} (plan : RunPlan)
    (exec : List ℕ)
    → Opens (Unit {0}) t old mid ck nk (Ok (Some v)) → (q : AsksAll (Unit {0}) t v mid new nk (Ok moves))
    → old.plan ≡ plan → exec ≡ v.name
    → IsRoundOf plan v q.asked.0 exec v.version moves
round-of {v = v} plan exec o q own named =
    let mine = o.part.acts.plan ∙ own in
    record {
      of_plan = subst (λ (p : RunPlan). IsViewOfPlan p v) own o.opened.1;
      exec_is = named;
      base_is = refl;
      all_asked = subst (λ (p : RunPlan). next_question p v q.asked.0 ≡ None) mine q.asked.2;
      moves_are = q.asked.3 ∙ ap (λ (p : RunPlan). round_moves p v q.asked.0) mine;
    }

-- ---- its end

module _ {t : Turn} {v : View} {told : List Told} {old mid new : Kept} {ck nk : ClockState}
    (s : AsksSo t (asking v told) old mid ck nk) where
  closed-part : {result : Result (Option Work) NoMemory} (k : Closes (Unit {0}) t (asking v told) mid new nk result)
      → IsPart (Unit {0}) t starting k.at old new ck nk (s.calls ++ k.calls)
  closed-part k = part-both s.part k.part

  closed-few : {result : Result (Option Work) NoMemory} (k : Closes (Unit {0}) t (asking v told) mid new nk result)
      → length (s.calls ++ k.calls) ≤ 2_053
  closed-few k = omega (arith, length-append s.calls k.calls, s.few, k.few)

  closed-claims : {result : Result (Option Work) NoMemory} (k : Closes (Unit {0}) t (asking v told) mid new nk result)
      → claims_of (s.calls ++ k.calls) ≡ claims_of k.calls
  closed-claims k = rw (claims-both s.calls k.calls, s.claims) refl

  closed-outcomes : {result : Result (Option Work) NoMemory}
      (k : Closes (Unit {0}) t (asking v told) mid new nk result)
      → outcomes_of (s.calls ++ k.calls) ≡ []
  closed-outcomes k = rw (outcomes-both s.calls k.calls, s.outcomes, k.outcomes) refl

  closed-active : {result : Result (Option Work) NoMemory}
      (k : Closes (Unit {0}) t (asking v told) mid new nk result) → is_idle (s.calls ++ k.calls) ≡ false
  closed-active k = rw (idle-both s.calls k.calls, s.active, k.active) refl

  closed-of_plan : {work : Work} (k : Closes (Unit {0}) t (asking v told) mid new nk (Ok (Some work)))
      → IsWorkOfPlan old.plan work
  closed-of_plan {work} k =
      let goes = subst (λ (at : Stage). Goes mid.plan mid.closure new.world.entries t (asking v told)
      (k.closed.1 ++ k.closed.2 ∷ []) at) k.closed.0
      (subst (λ (l : List Told). Goes mid.plan mid.closure new.world.entries t (asking v told) l k.at) k.closed.3
      k.part.goes) in
      let claimed = goes-claimed mid.plan mid.closure new.world.entries work t (asking v told) k.closed.1 k.closed.2
      goes in
      subst (λ (p : RunPlan). IsWorkOfPlan p work) s.part.acts.plan
      (claimed-of_plan mid.plan mid.closure new.world.entries k.closed.2 work claimed)

  closed-reached : (result : Result (Option Work) NoMemory)
      (k : Closes (Unit {0}) t (asking v told) mid new nk result) → (reached : Result Reached NoMemory)
      → IsReached old.plan k.at (s.calls ++ k.calls) reached → Reaches t old new ck nk reached
  closed-reached result k reached is = record {
    calls = s.calls ++ k.calls;
    at = k.at;
    part = closed-part k;
    few = closed-few k;
    claimed = rw (closed-claims k) k.claimed;
    outcomes = closed-outcomes k;
    reached = is;
  }

  -- no memory was found in it
  pub reaches-unclosed : {result : Result (Option Work) NoMemory}
      → Closes (Unit {0}) t (asking v told) mid new nk result → (short : NoMemory)
      → Reaches t old new ck nk (Err short)
  reaches-unclosed {result} k short = closed-reached result k (Err short) tt

  -- nothing was claimed
  pub reaches-done : Closes (Unit {0}) t (asking v told) mid new nk (Ok None)
      → Reaches t old new ck nk (Ok reached.Done)
  reaches-done k = closed-reached (Ok None) k (Ok reached.Done)
      (k.closed.0, closed-active k, closed-claims k ∙ k.closed.1)

  -- this work was
  pub reaches-claimed : {work : Work} → Closes (Unit {0}) t (asking v told) mid new nk (Ok (Some work))
      → Reaches t old new ck nk (Ok (reached.Claimed work))
  reaches-claimed {work} k = closed-reached (Ok (Some work)) k (Ok (reached.Claimed work)) (
    k.closed.0,
    closed-active k,
    record {
      before = s.calls ++ k.closed.1;
      last = k.closed.2;
      all = ap (λ (l : List Told). s.calls ++ l) k.closed.3 ∙ sym (append_assoc s.calls k.closed.1 (k.closed.2 ∷ []));
      claims = closed-claims k ∙ k.closed.4;
    },
    closed-of_plan k,
  )
