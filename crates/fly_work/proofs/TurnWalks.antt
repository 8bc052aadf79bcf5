-- The calls of a turn, one by one, along the worlds between them.
use Rattle.std.proofs.Common.{◌≡◌, ◌⊎◌, inl, inr, ℕ, suc, ◌+◌, ◌<◌, ◌≤◌, List, [], ◌∷◌, ◌++◌, map, length, All, AllPairs, Some, refl, sym, ◌∙◌, ap, subst, arith, length-append}
use Rattle.std.specs.List.{slice_get}
use Rattle.std.proofs.lemmas.List.Elements.{All-head, All-tail}
use Rattle.std.proofs.lemmas.Option.{slice_get_within}
use Rattle.fly_state.specs.declared.entries.Entry.{Entry}
use Rattle.fly_state.specs.declared.entries.Op.{Op}
use Rattle.fly_state.specs.declared.entries.Reply.{Reply}
use Rattle.fly_state.specs.declared.entries.Reply.TheVariants as reply
use Rattle.fly_state.specs.Plans.{RunPlan}
use Rattle.fly_world.specs.World.{World, empty_world}
use Rattle.fly_world.specs.Journals.{IsHistory, Leads, Step}
use Rattle.fly_world.proofs.JournalLemmas.{entries-are, leads-on}
use Rattle.fly_round.specs.declared.told.Told.{Told}
use Rattle.fly_work.specs.Stages.{Turn, Stage, cut, IsDue, After, Passes, Goes}
use Rattle.fly_work.specs.Turns.{call_entry}

-- ---- journals

-- a legal journal with one step more, as its world tells it
pub history-step : (plan : RunPlan) (closure : List ℕ) (w new : World) (e : Entry) → IsHistory plan closure w.entries w
    → Step plan w e new → IsHistory plan closure new.entries new
history-step plan closure w new e history s =
    let leads : Leads plan w (e ∷ []) new = (new, s, refl) in
    let are = entries-are plan w new (e ∷ []) leads in
    record {
      later = history.later ++ e ∷ [];
      begins = are ∙ ap (λ es. es ++ e ∷ []) history.begins;
      leads = subst (λ es. Leads plan empty_world es new) (sym are)
          (leads-on plan empty_world w new w.entries (e ∷ []) history.leads leads);
    }

-- ---- calls

-- what holds of each of the calls, of which the first is the one of this number
abbrev pub HoldsFrom : (ℕ → Told → Type 0) → ℕ → List Told → Type 0
HoldsFrom Q n [] = Unit {0}
HoldsFrom Q n (c ∷ cs) = Q n c × HoldsFrom Q (n + 1) cs

module _ (plan : RunPlan) (closure : List ℕ) (journal : List Entry) (t : Turn) (Q : ℕ → Told → Type 0) where
  -- One call of a turn, from one world to the next, among the entries of a journal.
  pub record IsTurnCall (at next : Stage) (c : Told) (w new : World) : Type 0 where
    pub due : IsDue plan t at c.op
    pub passes : Passes plan closure journal at c next
    pub step : Step plan w (call_entry t.worker c) new
    pub holds : Q (length w.entries) c
    pub rest : List Entry
    pub rest_is : journal ≡ new.entries ++ rest

  -- what each call of a turn keeps is kept by all of them
  pub walk : (P : Stage → World → Type 0)
      → ((at next : Stage) (c : Told) (w new : World) → P at w → IsTurnCall at next c w new → P next new)
      → (at end : Stage) (calls : List Told) (w new : World) → P at w → Goes plan closure journal t at calls end
      → Leads plan w (map (call_entry t.worker) calls) new → HoldsFrom Q (length w.entries) calls
      → journal ≡ new.entries
      → P end new
  walk P kept at end [] w new start goes leads holds all =
      subst (λ s. P s new) (sym goes) (subst (P at) (sym leads) start)
  walk P kept at end (c ∷ cs) w new start goes leads holds all =
      let next = leads.0 in
      let e = call_entry t.worker c in
      let one = entries-are plan w next (e ∷ []) (next, leads.1, refl) in
      let long : length w.entries + 1 ≡ length next.entries =
      (let n = length-append w.entries (e ∷ []) in omega (arith, n, ap length one)) in
      let call : IsTurnCall at goes.0 c w next = record {
        due = goes.1;
        passes = goes.2;
        step = leads.1;
        holds = holds.0;
        rest = map (call_entry t.worker) cs;
        rest_is = all ∙ entries-are plan next new (map (call_entry t.worker) cs) leads.2;
      } in
      walk P kept goes.0 end cs next new (kept at goes.0 c w next start call) goes.3 leads.2
      (subst (λ n. HoldsFrom Q n cs) long holds.1) all

-- a call found no memory, and cuts its turn off; or it leads on from its stage
pub passes-cases : (plan : RunPlan) (closure : List ℕ) (journal : List Entry) (at next : Stage) (place : ℕ) (o : Op)
    (r : Reply)
    → Passes plan closure journal at (record { place = place; op = o; reply = r }) next
    → ((r ≡ reply.NoMemory) × (next ≡ cut))
    ⊎ ((r ≡ reply.NoMemory → ⊥) × After plan closure journal at (record { place = place; op = o; reply = r }) next)
passes-cases plan closure journal at next place o reply.NoMemory passes = inl (refl, passes)
passes-cases plan closure journal at next place o _ passes = inr (λ e. cc, passes)

-- of each call nothing is said
pub holds-nothing : (n : ℕ) (calls : List Told) → HoldsFrom (λ n c. Unit {0}) n calls
holds-nothing n [] = tt
holds-nothing n (c ∷ cs) = (tt, holds-nothing (n + 1) cs)

-- ---- places

abbrev Rise : List Told → Type 0
Rise calls = AllPairs (λ (a b : Told). a.place < b.place) calls

rise-tail : (c : Told) (cs : List Told) → Rise (c ∷ cs) → Rise cs
rise-tail c cs rising i j d lt len = rising (suc i) (suc j) d (omega arith) (omega arith)

-- calls at rising places below a bound leave room for those behind the first
rise-below : (bound : ℕ) (c : Told) (cs : List Told) → Rise (c ∷ cs) → All (λ (x : Told). x.place < bound) (c ∷ cs)
    → c.place + length cs < bound
rise-below bound c [] rising below =
    let first = All-head (λ (x : Told). x.place < bound) c [] below in
    omega (arith, first)
rise-below bound c (d ∷ ds) rising below =
    let apart : c.place < d.place = rising 0 1 c (omega arith) (omega arith) in
    let rest = rise-below bound d ds (rise-tail c (d ∷ ds) rising)
    (All-tail (λ (x : Told). x.place < bound) c (d ∷ ds) below) in
    omega (arith, apart, rest)

-- so many calls at rising places from a number on, below that number and theirs, stand one behind another
pub in-place : (Q : Told → Type 0) (n : ℕ) (calls : List Told) → Rise calls → All (λ (c : Told). n ≤ c.place) calls
    → All (λ (c : Told). c.place < n + length calls) calls → All Q calls
    → HoldsFrom (λ k c. (c.place ≡ k) × Q c) n calls
in-place Q n [] rising later below holds = tt
in-place Q n (c ∷ cs) rising later below holds =
    let bound = n + length (c ∷ cs) in
    let from = All-head (λ (x : Told). n ≤ x.place) c cs later in
    let room = rise-below bound c cs rising below in
    let here : c.place ≡ n = omega (arith, from, room) in
    let same : bound ≡ (n + 1) + length cs = omega arith in
    let after : All (λ (x : Told). n + 1 ≤ x.place) cs = λ k d lt.
    (let apart = rising 0 (suc k) d (omega arith) (omega arith) in omega (arith, apart, here)) in (
      (here, All-head Q c cs holds),
      in-place Q (n + 1) cs (rise-tail c cs rising) after
          (subst (λ b. All (λ (x : Told). x.place < b) cs) same (All-tail (λ (x : Told). x.place < bound) c cs below))
          (All-tail Q c cs holds),
    )

-- an entry that stands at a place stands below the end
pub below-end : (journal : List Entry) (worker : ℕ) (calls : List Told)
    → All (λ (c : Told). slice_get journal c.place ≡ Some (call_entry worker c)) calls
    → All (λ (c : Told). c.place < length journal) calls
below-end journal worker calls there k d lt = slice_get_within journal _ _ (there k d lt)
