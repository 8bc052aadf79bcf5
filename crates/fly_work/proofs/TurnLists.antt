-- Turns one after another in a journal that goes on.
use Rattle.std.proofs.Common.{◌≡◌, ℕ, suc, ◌+◌, ◌<◌, List, [], ◌∷◌, ◌++◌, length, flat_map, All, slice_get, Some, subst, arith}
use Rattle.std.proofs.lemmas.List.Elements.{All-nil, All-append, All-weaker}
use Rattle.std.proofs.lemmas.Option.{slice_get_within}
use Rattle.fly_state.specs.declared.entries.Entry.{Entry}
use Rattle.fly_state.specs.Plans.{RunPlan}
use Rattle.fly_round.specs.declared.told.Told.{Told}
use Rattle.fly_round.proofs.Lists.{slice_get-front}
use Rattle.fly_work.specs.Stages.{Turn, Stage, starting}
use Rattle.fly_work.specs.Turns.{call_entry, IsTurn}
use Rattle.fly_work.specs.Drives.{AreTurns}
use Rattle.fly_work.specs.Passes.{AreWhole}
use Rattle.fly_work.proofs.ActingLemmas.{goes-more}

module _ (plan : RunPlan) (closure : List ℕ) (journal : List Entry) where
  -- the calls of a turn stand in its journal
  pub turn-inside : {t : Turn} {at : Stage} {calls : List Told} → IsTurn plan closure journal t calls at
      → All (λ (c : Told). c.place < length journal) calls
  turn-inside {t = t} {calls = calls} turn =
      All-weaker (λ (c : Told). slice_get journal c.place ≡ Some (call_entry t.worker c))
      (λ (c : Told). c.place < length journal)
      (λ c h. slice_get_within journal c.place (call_entry t.worker c) h) calls turn.there

  pub turn-more : {t : Turn} {at : Stage} {calls : List Told} (more : List Entry)
      → IsTurn plan closure journal t calls at
      → IsTurn plan closure (journal ++ more) t calls at
  turn-more {t = t} {at = at} {calls = calls} more turn = record {
    there = All-weaker (λ (c : Told). slice_get journal c.place ≡ Some (call_entry t.worker c))
        (λ (c : Told). slice_get (journal ++ more) c.place ≡ Some (call_entry t.worker c))
        (λ c h. slice_get-front journal more c.place (call_entry t.worker c) h) calls turn.there;
    rising = turn.rising;
    goes = goes-more plan closure journal t more starting at calls turn.goes (turn-inside turn);
  }

  module _ (t : ℕ → Turn) where
    pub whole-inside : (turns : List (List Told)) (number : ℕ) → AreWhole plan closure journal t number turns
        → All (λ (c : Told). c.place < length journal) (flat_map (λ calls. calls) turns)
    whole-inside [] number whole = All-nil (λ (c : Told). c.place < length journal)
    whole-inside (calls ∷ more) number whole =
        All-append (λ (c : Told). c.place < length journal) calls (flat_map (λ calls. calls) more)
        (turn-inside whole.0) (whole-inside more (number + 1) whole.1)

    pub whole-more : (later : List Entry) (turns : List (List Told)) (number : ℕ)
        → AreWhole plan closure journal t number turns
        → AreWhole plan closure (journal ++ later) t number turns
    whole-more later [] number whole = tt
    whole-more later (calls ∷ more) number whole =
        (turn-more later whole.0, whole-more later more (number + 1) whole.1)

    pub whole-both : (turns more : List (List Told)) (number : ℕ) → AreWhole plan closure journal t number turns
        → AreWhole plan closure journal t (number + length turns) more
        → AreWhole plan closure journal t number (turns ++ more)
    whole-both [] more number first rest =
        let e : number + 0 ≡ number = omega arith in
        subst (λ n. AreWhole plan closure journal t n more) e rest
    whole-both (calls ∷ turns) more number first rest =
        let e : number + suc (length turns) ≡ number + 1 + length turns = omega arith in (
          first.0,
          whole-both turns more (number + 1) first.1
              (subst (λ n. AreWhole plan closure journal t n more) e rest),
        )

    -- whole turns, and behind them one that may have been cut off
    pub whole-last : (turns : List (List Told)) (last : List Told) (number : ℕ) (at : Stage)
        → AreWhole plan closure journal t number turns
        → IsTurn plan closure journal (t (number + length turns)) last at
        → AreTurns plan closure journal t number (turns ++ last ∷ [])
    whole-last [] last number at whole turn =
        let e : number + 0 ≡ number = omega arith in
        (at, subst (λ n. IsTurn plan closure journal (t n) last at) e turn)
    whole-last (calls ∷ []) last number at whole turn = (
      whole.0,
      whole-last [] last (number + 1) at tt
          (subst (λ n. IsTurn plan closure journal (t n) last at) (omega arith) turn),
    )
    whole-last (calls ∷ next ∷ turns) last number at whole turn =
        let e : number + suc (suc (length turns)) ≡ number + 1 + suc (length turns) = omega arith in (
          whole.0,
          whole-last (next ∷ turns) last (number + 1) at whole.1
              (subst (λ n. IsTurn plan closure journal (t n) last at) e turn),
        )
