-- How many calls, reads, claims and outcomes a turn has, by the stages that it goes through; and what a turn leaves
-- that found every execution over.
use Rattle.std.proofs.Common.{◌≡◌, inl, inr, ℕ, ◌+◌, ◌%◌, ◌≤◌, Bool, cond, true, false, not, ◌&&◌, ◌||◌, List, [], ◌∷◌, length, map, take, drop, find, All, Option, Some, None, refl, sym, subst, ap, ◌∙◌, arith}
use Rattle.std.specs.List.{list_all, enumerate_from}
use Rattle.std.specs.Option.{option_or, option_map_or}
use Rattle.std.proofs.lemmas.Bool.{true≢false, false≢true}
use Rattle.std.proofs.lemmas.List.{length-append, take-append-drop}
use Rattle.std.proofs.lemmas.Option.{none-some}
use Rattle.std.proofs.lemmas.List.Elements.{All-head, All-tail}
use Rattle.std.proofs.lemmas.List.Folds.{find-append}
use Rattle.fly_state.specs.declared.entries.Entry.{Entry}
use Rattle.fly_state.specs.declared.entries.Op.{Op}
use Rattle.fly_state.specs.declared.entries.Op.TheVariants as op
use Rattle.fly_state.specs.declared.entries.Reply.{Reply}
use Rattle.fly_state.specs.declared.entries.Reply.TheVariants as reply
use Rattle.fly_state.specs.declared.moves.Move.{Move}
use Rattle.fly_state.specs.declared.view.View.{View}
use Rattle.fly_state.specs.Plans.{RunPlan}
use Rattle.fly_world.specs.World.{World, Execution, is_over, are_all_over}
use Rattle.fly_world.specs.Called.{entry_of}
use Rattle.fly_world.specs.Steps.{step, read_execution, viewed, says}
use Rattle.fly_world.specs.Journals.{IsStepBy, Step, Leads}
use Rattle.fly_round.specs.declared.told.Told.{Told}
use Rattle.fly_round.specs.Moves.{round_moves}
use Rattle.fly_round.specs.Questions.{Question, look_up, reserve, launch, expire, put, next_question}
use Rattle.fly_work.specs.Stages.{Turn, Stage, starting, sweeping, reading, asking, claiming, running, finishing, over, cut, closing_op, IsDue, IsDueInRound, After, Passes, Goes}
use Rattle.fly_work.specs.Turns.{call_entry, is_claimed_reply, claims_of, outcomes_by, outcomes_of, is_idle_reply, is_idle, is_read_op, reads_of}
use Rattle.fly_work.proofs.FitReplies.{IsFit, is_claim_op, fits}

-- ---- counts

abbrev reads_left : Stage → ℕ
reads_left starting = 1
reads_left sweeping = 1
reads_left reading = 1
reads_left _ = 0

abbrev calls_left : Stage → ℕ
calls_left starting = 3
calls_left sweeping = 2
calls_left reading = 1
calls_left _ = 0

-- a claim whose outcome is still to come
abbrev waiting : Stage → ℕ
waiting (running work) = 1
waiting (finishing work) = 1
waiting _ = 0

abbrev one_if : Bool → ℕ
one_if b = cond b 1 0

abbrev Counts : Stage → Op → Reply → Stage → Type 0
Counts at o r next =
    (one_if (is_read_op o) + reads_left next ≤ reads_left at) × (calls_left at ≤ 1 + calls_left next)
    × (one_if (is_claimed_reply r) + waiting at ≤ length (outcomes_by o) + waiting next)

over≢cut : over ≡ cut → ⊥
over≢cut e = cc

no_claim : (o : Op) (r : Reply) → is_claim_op o ≡ false → IsFit o r → one_if (is_claimed_reply r) ≡ 0
no_claim o r other fit = by (is_claimed_reply r) fit.1
  where
    by : (b : Bool) → (b ≡ true → is_claim_op o ≡ true) → one_if b ≡ 0
    by true claims = absurd (false≢true (sym other ∙ claims refl))
    by false claims = refl

module _ (plan : RunPlan) (closure : List ℕ) (J : List Entry) (t : Turn) where
  abbrev called : ℕ → Op → Reply → Told
  called place o r = record { place = place; op = o; reply = r }

  -- a turn that was cut off does not come to its end
  cut-off : (cs : List Told) → Goes plan closure J t cut cs over → ⊥
  cut-off [] e = over≢cut e
  cut-off (c ∷ cs) goes = goes.1

  ended : (cs : List Told) → Goes plan closure J t over cs over → cs ≡ []
  ended [] goes = refl
  ended (c ∷ cs) goes = absurd goes.1

  -- so its calls found their memory
  found : (at : Stage) (place : ℕ) (o : Op) (r : Reply) (next : Stage) (cs : List Told)
      → Passes plan closure J at (called place o r) next
      → Goes plan closure J t next cs over
      → After plan closure J at (called place o r) next
  found at place o reply.NoMemory next cs passes goes =
      absurd (cut-off cs (subst (λ s. Goes plan closure J t s cs over) passes goes))
  found at place o r next cs passes goes = passes

  -- ---- a call

  closing-reads : (v : View) (moves : List Move) → is_read_op (closing_op v moves) ≡ false
  closing-reads v [] = refl
  closing-reads v (m ∷ ms) = refl

  -- a round does not read
  round-reads : (v : View) (told : List Told) (q : Option Question) (from back : ℕ)
      → IsDueInRound plan v told q (op.Read from back) → ⊥
  round-reads v told None from back due =
      true≢false (ap is_read_op due ∙ closing-reads v (round_moves plan v told))
  round-reads v told (Some (look_up path)) from back due = due
  round-reads v told (Some (reserve path)) from back due = due
  round-reads v told (Some (launch path item attempt inputs)) from back due = due
  round-reads v told (Some (expire path item attempt)) from back due = due
  round-reads v told (Some (put path)) from back due = due

  after-counts : (at : Stage) (place : ℕ) (o : Op) (r : Reply) (next : Stage) → IsFit o r → IsDue plan t at o
      → After plan closure J at (called place o r) next
      → Counts at o r next
  after-counts starting place (op.Tick now) r next fit due after =
      let none = no_claim (op.Tick now) r refl fit in
      subst (Counts starting (op.Tick now) r) (sym after) (omega arith, omega arith, omega arith)
  after-counts starting place _ r next fit due after = absurd due
  after-counts sweeping place op.Sweep r next fit due after =
      let none = no_claim op.Sweep r refl fit in
      subst (Counts sweeping op.Sweep r) (sym after) (omega arith, omega arith, omega arith)
  after-counts sweeping place _ r next fit due after = absurd due
  after-counts reading place (op.Read from back) reply.Idle next fit due after =
      subst (Counts reading (op.Read from back) reply.Idle) (sym after) (omega arith, omega arith, omega arith)
  after-counts reading place (op.Read from back) (reply.Viewed exec version current) next fit due after =
      subst (Counts reading (op.Read from back) (reply.Viewed exec version current)) (sym after.2)
      (omega arith, omega arith, omega arith)
  after-counts reading place (op.Read from back) _ next fit due after = absurd after
  after-counts reading place _ r next fit due after = absurd due
  after-counts (asking v told) place op.Claim reply.Nothing next fit due after =
      subst (Counts (asking v told) op.Claim reply.Nothing) (sym after) (omega arith, omega arith, omega arith)
  after-counts (asking v told) place op.Claim (reply.Claimed name) next fit due after =
      subst (Counts (asking v told) op.Claim (reply.Claimed name)) (sym after.2)
      (omega arith, omega arith, omega arith)
  after-counts (asking v told) place op.Claim _ next fit due after = absurd after
  after-counts (asking v told) place (op.Read from back) r next fit due after =
      absurd (round-reads v told (next_question plan v told) from back due)
  after-counts (asking v told) place o r next fit due after =
      let none = no_claim o r refl fit in
      subst (Counts (asking v told) o r) (sym after) (omega arith, omega arith, omega arith)
  after-counts claiming place op.Claim reply.Nothing next fit due after =
      subst (Counts claiming op.Claim reply.Nothing) (sym after) (omega arith, omega arith, omega arith)
  after-counts claiming place op.Claim (reply.Claimed name) next fit due after =
      subst (Counts claiming op.Claim (reply.Claimed name)) (sym after.2) (omega arith, omega arith, omega arith)
  after-counts claiming place op.Claim _ next fit due after = absurd after
  after-counts claiming place _ r next fit due after = absurd due
  after-counts (running work) place (op.Tick now) r next fit due after =
      let none = no_claim (op.Tick now) r refl fit in
      subst (Counts (running work) (op.Tick now) r) (sym after) (omega arith, omega arith, omega arith)
  after-counts (running work) place _ r next fit due after = absurd due
  after-counts (finishing work) place (op.Finish name outcome) r next fit due after =
      let none = no_claim (op.Finish name outcome) r refl fit in
      subst (Counts (finishing work) (op.Finish name outcome) r) (sym after) (omega arith, omega arith, omega arith)
  after-counts (finishing work) place _ r next fit due after = absurd due
  after-counts over place o r next fit due after = absurd due
  after-counts cut place o r next fit due after = absurd due

  due-reads : (at : Stage) (o : Op) → IsDue plan t at o → one_if (is_read_op o) ≤ reads_left at
  due-reads reading o due = by (is_read_op o)
    where
      by : (b : Bool) → one_if b ≤ 1
      by true = omega arith
      by false = omega arith
  due-reads starting (op.Tick now) due = omega arith
  due-reads starting _ due = absurd due
  due-reads sweeping op.Sweep due = omega arith
  due-reads sweeping _ due = absurd due
  due-reads (asking v told) (op.Read from back) due =
      absurd (round-reads v told (next_question plan v told) from back due)
  due-reads (asking v told) _ due = omega arith
  due-reads claiming op.Claim due = omega arith
  due-reads claiming _ due = absurd due
  due-reads (running work) (op.Tick now) due = omega arith
  due-reads (running work) _ due = absurd due
  due-reads (finishing work) (op.Finish name outcome) due = omega arith
  due-reads (finishing work) _ due = absurd due
  due-reads over o due = absurd due
  due-reads cut o due = absurd due

  -- also where it found no memory
  passes-reads : (at : Stage) (place : ℕ) (o : Op) (r : Reply) (next : Stage) → IsFit o r → IsDue plan t at o
      → Passes plan closure J at (called place o r) next
      → one_if (is_read_op o) + reads_left next ≤ reads_left at
  passes-reads at place o reply.NoMemory next fit due passes =
      subst (λ s. one_if (is_read_op o) + reads_left s ≤ reads_left at) (sym passes)
      (omega (arith, due-reads at o due))
  passes-reads at place o r next fit due passes = (after-counts at place o r next fit due passes).0

  -- ---- calls

  abbrev Fit : Told → Type 0
  Fit c = IsFit c.op c.reply

  length-reads : (c : Told) (cs : List Told)
      → length (reads_of (c ∷ cs)) ≡ one_if (is_read_op c.op) + length (reads_of cs)
  length-reads c cs = by (is_read_op c.op)
    where
      by : (b : Bool) → length (cond b (c ∷ reads_of cs) (reads_of cs)) ≡ one_if b + length (reads_of cs)
      by true = omega arith
      by false = omega arith

  length-claims : (c : Told) (cs : List Told)
      → length (claims_of (c ∷ cs)) ≡ one_if (is_claimed_reply c.reply) + length (claims_of cs)
  length-claims c cs = by (is_claimed_reply c.reply)
    where
      by : (b : Bool) → length (cond b (c ∷ claims_of cs) (claims_of cs)) ≡ one_if b + length (claims_of cs)
      by true = omega arith
      by false = omega arith

  pub few-reads : (at end : Stage) (cs : List Told) → All Fit cs → Goes plan closure J t at cs end
      → length (reads_of cs) ≤ reads_left at
  few-reads at end [] fit goes = omega arith
  few-reads at end (c ∷ cs) fit goes =
      let first = passes-reads at c.place c.op c.reply goes.0 (All-head Fit c cs fit) goes.1 goes.2 in
      let rest = few-reads goes.0 end cs (All-tail Fit c cs fit) goes.3 in
      omega (arith, length-reads c cs)

  -- a turn that came to its end has made its calls
  pub enough-calls : (at : Stage) (cs : List Told) → All Fit cs → Goes plan closure J t at cs over
      → calls_left at ≤ length cs
  enough-calls at [] fit goes = subst (λ s. calls_left s ≤ 0) goes (omega arith)
  enough-calls at (c ∷ cs) fit goes =
      let after = found at c.place c.op c.reply goes.0 cs goes.2 goes.3 in
      let first = after-counts at c.place c.op c.reply goes.0 (All-head Fit c cs fit) goes.1 after in
      let rest = enough-calls goes.0 cs (All-tail Fit c cs fit) goes.3 in
      omega (arith, first.1)

  -- and handed in what each claimed attempt came to
  pub all-heard : (at : Stage) (cs : List Told) → All Fit cs → Goes plan closure J t at cs over
      → length (claims_of cs) + waiting at ≤ length (outcomes_of cs)
  all-heard at [] fit goes = subst (λ s. 0 + waiting s ≤ 0) goes (omega arith)
  all-heard at (c ∷ cs) fit goes =
      let after = found at c.place c.op c.reply goes.0 cs goes.2 goes.3 in
      let first = after-counts at c.place c.op c.reply goes.0 (All-head Fit c cs fit) goes.1 after in
      let rest = all-heard goes.0 cs (All-tail Fit c cs fit) goes.3 in
      omega (arith, first.2, length-claims c cs, length-append (outcomes_by c.op) (outcomes_of cs))

-- ---- a turn that found every execution over

abbrev goes_on : ℕ × Execution → Bool
goes_on at = not (is_over at.1)

none-goes-on : (xs : List Execution) (n : ℕ) → find goes_on (enumerate_from n xs) ≡ None → list_all is_over xs ≡ true
none-goes-on [] n none = refl
none-goes-on (x ∷ xs) n none = by (is_over x) none (none-goes-on xs (n + 1))
  where
    by : (b : Bool) → cond (not b) (Some (n, x)) (find goes_on (enumerate_from (n + 1) xs)) ≡ None
        → (find goes_on (enumerate_from (n + 1) xs) ≡ None → list_all is_over xs ≡ true)
        → (b && list_all is_over xs) ≡ true
    by true h rest = rest h
    by false h rest = absurd (none-some (n, x) (sym h))

-- where none is read, each is over
over-by-none : (w : World) (from : ℕ) → read_execution w from ≡ None → are_all_over w ≡ true
over-by-none w from none =
    let all = enumerate_from 0 w.executions in
    let start = from % length w.executions in
    let parts = by (find goes_on (drop start all)) (find goes_on (take start all))
    (sym (find-append goes_on (drop start all) (take start all)) ∙ none) in
    none-goes-on w.executions 0
    (ap (find goes_on) (sym (take-append-drop start all)) ∙ find-append goes_on (take start all) (drop start all)
    ∙ ap (λ o. option_or o (find goes_on (drop start all))) parts.1 ∙ parts.0)
  where
    by : (o p : Option (ℕ × Execution)) → option_or o p ≡ None → (o ≡ None) × (p ≡ None)
    by None p h = (refl, h)
    by (Some at) p h = absurd (none-some at (sym h))

-- a read that was answered Idle
over-by-read : (plan : RunPlan) (w new : World) (worker from back : ℕ)
    → Step plan w (entry_of worker (op.Read from back) reply.Idle) new → are_all_over new ≡ true
unfolding step
over-by-read plan w new worker from back s = by (read_execution w from) refl s
  where
    by : (o : Option (ℕ × Execution)) → read_execution w from ≡ o
        → IsStepBy w (entry_of worker (op.Read from back) reply.Idle) new
        (Some (option_map_or (viewed back) o (says reply.Idle)))
        → are_all_over new ≡ true
    by o h (inr kept) = absurd (true≢false (ap is_idle_reply kept.reply))
    by (Some at) h (inl answered) = absurd (true≢false (ap is_idle_reply answered.reply))
    by None h (inl answered) =
        ap are_all_over answered.world ∙ over-by-none w from h

idle-is : (r : Reply) → is_idle_reply r ≡ true → r ≡ reply.Idle
idle-is reply.Idle e = refl
idle-is _ e = absurd (false≢true e)

read-is : (o : Op) → is_read_op o ≡ true → (from : ℕ) × (back : ℕ) × (o ≡ op.Read from back)
read-is (op.Read from back) e = (from, back, refl)
read-is _ e = absurd (false≢true e)

module _ (plan : RunPlan) (closure : List ℕ) (J : List Entry) (t : Turn) where
  -- behind such a read the turn is over
  idle-ends : (at : Stage) (place from back : ℕ) (next : Stage) → IsDue plan t at (op.Read from back)
      → After plan closure J at (called plan closure J t place (op.Read from back) reply.Idle) next
      → next ≡ over
  idle-ends reading place from back next due after = after
  idle-ends (asking v told) place from back next due after =
      absurd (round-reads plan closure J t v told (next_question plan v told) from back due)
  idle-ends _ place from back next due after = absurd due

  pub idle-over : (at : Stage) (w new : World) (cs : List Told) → Goes plan closure J t at cs over
      → Leads plan w (map (call_entry t.worker) cs) new → is_idle cs ≡ true
      → are_all_over new ≡ true
  idle-over at w new [] goes leads idle = absurd (false≢true idle)
  idle-over at w new (c ∷ cs) goes leads idle =
      by (is_idle_reply c.reply) refl (idle-over goes.0 leads.0 new cs goes.3 leads.2) idle
    where
      after : After plan closure J at c goes.0
      after = found plan closure J t at c.place c.op c.reply goes.0 cs goes.2 goes.3

      by : (b : Bool) → is_idle_reply c.reply ≡ b → (is_idle cs ≡ true → are_all_over new ≡ true)
          → (b || is_idle cs) ≡ true
          → are_all_over new ≡ true
      by false e later rest = later rest
      by true e later rest =
          let read = read-is c.op ((fits plan w leads.0 (call_entry t.worker c) leads.1).0 e) in
          let idle = idle-is c.reply e in
          let due = subst (IsDue plan t at) read.2 goes.1 in
          let asked = subst (λ (o : Op). After plan closure J at (called plan closure J t c.place o c.reply) goes.0)
          read.2 after in
          let answered = subst
          (λ (r : Reply). After plan closure J at (called plan closure J t c.place (op.Read read.0 read.1) r) goes.0)
          idle asked in
          let last = idle-ends at c.place read.0 read.1 goes.0 due answered in
          let none = ended plan closure J t cs (subst (λ s. Goes plan closure J t s cs over) last goes.3) in
          let same : new ≡ leads.0 =
          subst (λ es. Leads plan leads.0 (map (call_entry t.worker) es) new) none leads.2 in
          let step = subst (λ (r : Reply). Step plan w (entry_of t.worker (op.Read read.0 read.1) r) leads.0) idle
          (subst (λ (o : Op). Step plan w (entry_of t.worker o c.reply) leads.0) read.2 leads.1) in
          ap are_all_over same ∙ over-by-read plan w leads.0 t.worker read.0 read.1 step
