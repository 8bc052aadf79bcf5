-- Whole turns of a worker that acts alone, one after another: what they have done and what they left as it was.
use Rattle.std.proofs.Common.{◌≡◌, ℕ, ◌+◌, ◌-◌, ◌*◌, ◌<◌, ◌≤◌, false, List, [], ◌∷◌, ◌++◌, length, map, flat_map, All, None, Result, ⊎_elim, refl, sym, subst, ap, ◌∙◌, arith}
use Rattle.std.proofs.lemmas.Bool.{cases_lt}
use Rattle.std.proofs.lemmas.List.{append-nil, length-append, length-map}
use Rattle.std.proofs.lemmas.List.Concat.{flat_map-append}
use Rattle.std.proofs.lemmas.List.Elements.{All-nil, All-cons, All-append, All-head, All-tail, filter-append}
use Rattle.fly_docs.specs.declared.workflow.Workflow.{Workflow}
use Rattle.fly_state.specs.declared.entries.Entry.{Entry}
use Rattle.fly_state.specs.PlanTables.{IsOuterPlan}
use Rattle.fly_state.specs.Plans.{RunPlan}
use Rattle.fly_world.specs.World.{unsettled}
use Rattle.fly_world.specs.Kept.{Kept, IsLegal}
use Rattle.fly_round.specs.declared.told.Told.{Told}
use Rattle.fly_work.specs.declared.driving.DriveFault.{DriveFault}
use Rattle.fly_work.specs.declared.turn_end.TurnEnd.{TurnEnd}
use Rattle.fly_work.specs.declared.turn_end.TurnEnd.TheVariants as end
use Rattle.fly_work.specs.Stages.{Turn, starting, over, read_back}
use Rattle.fly_work.specs.Turns.{IsTurn, call_entry, is_idle, claims_of, outcomes_of, is_read_op, reads_of}
use Rattle.fly_work.specs.Playing.{Outside, HasWorked, IsWhole, PlaysTurn}
use Rattle.fly_work.specs.Bounds.{world_bound}
use Rattle.fly_work.specs.Drives.{turn_numbered, IsUncached}
use Rattle.fly_work.specs.Passes.{AreWhole, GoesOn, EndsBy, EndsPass, GoesInPass}
use Rattle.fly_work.specs.Progress.{progress}
use Rattle.fly_work.proofs.FitReplies.{IsFit, all-fit}
use Rattle.fly_work.proofs.ProgressLaws.{progress-stays, bound-stays, turns-settle, turns-progress}
use Rattle.fly_work.proofs.TurnCounts.{few-reads, enough-calls, all-heard}
use Rattle.fly_work.proofs.TurnLists.{whole-inside, whole-more, whole-both}
use Rattle.fly_work.proofs.WorkedLemmas.{HasKeepLaws, adds-legal, claims-append, outcomes-append, worked-none, worked-both}

-- ---- counts

all-parts : {X : Type 0} (P : X → Type 0) (xs ys : List X) → All P (xs ++ ys) → All P xs × All P ys
all-parts P [] ys all = (All-nil P, all)
all-parts P (x ∷ xs) ys all =
    let rest = all-parts P xs ys (All-tail P x (xs ++ ys) all) in
    (All-cons P x xs (All-head P x (xs ++ ys) all) rest.0, rest.1)

abbrev pub calls_in : List (List Told) → List Told
calls_in turns = flat_map (λ calls. calls) turns

abbrev Fit : Told → Type 0
Fit c = IsFit c.op c.reply

pub reads-append : (cs ds : List Told) → reads_of (cs ++ ds) ≡ reads_of cs ++ reads_of ds
reads-append cs ds = filter-append (λ (c : Told). is_read_op c.op) cs ds

module _ (plan : RunPlan) (closure : List ℕ) (journal : List Entry) (t : ℕ → Turn) where
  pub whole-calls : (turns : List (List Told)) (number : ℕ) → AreWhole plan closure journal t number turns
      → All Fit (calls_in turns)
      → 3 * length turns ≤ length (calls_in turns)
  whole-calls [] number whole fit = omega arith
  whole-calls (calls ∷ more) number whole fit =
      let parts = all-parts Fit calls (calls_in more) fit in
      omega (
        arith,
        enough-calls plan closure journal (t number) starting calls parts.0 whole.0.goes,
        whole-calls more (number + 1) whole.1 parts.1,
        length-append calls (calls_in more),
      )

  pub whole-reads : (turns : List (List Told)) (number : ℕ) → AreWhole plan closure journal t number turns
      → All Fit (calls_in turns)
      → length (reads_of (calls_in turns)) ≤ length turns
  whole-reads [] number whole fit = omega arith
  whole-reads (calls ∷ more) number whole fit =
      let parts = all-parts Fit calls (calls_in more) fit in
      omega (
        arith,
        few-reads plan closure journal (t number) starting over calls parts.0 whole.0.goes,
        whole-reads more (number + 1) whole.1 parts.1,
        ap length (reads-append calls (calls_in more)),
        length-append (reads_of calls) (reads_of (calls_in more)),
      )

module _ {K : Type 0} (kept kept_part : K → List Entry → K → Type 0) (faults : K → ℕ)
    (laws : HasKeepLaws kept kept_part) (lag : ℕ) where
  abbrev Goes : ℕ → ℕ → Kept → Kept → Outside K → Outside K → Type 0
  Goes number count a b x y = GoesOn kept kept_part faults lag number count a b x y

  abbrev around : Kept → ℕ → Turn
  around k = turn_numbered (length k.world.executions) lag

  -- they have done this, and each claim has its outcome
  abbrev Done : List Told → Kept → Kept → Outside K → Outside K → Type 0
  Done cs a b x y =
      (did : HasWorked kept kept_part 0 cs a b x y) × IsWhole did × (length (claims_of cs) ≤ length (outcomes_of cs))

  -- ---- what they leave

  pub goes-longer : (number count : ℕ) (a b : Kept) (x y : Outside K) → Goes number count a b x y
      → length a.world.entries + 3 * count ≤ length b.world.entries
  goes-longer number count a b x y goes =
      let fit = all-fit a.plan 0 a.world b.world (calls_in goes.turns) goes.did.entries.leads in
      omega (
        arith,
        goes.count_is,
        ap length goes.did.entries.entries,
        length-append a.world.entries (map (call_entry 0) (calls_in goes.turns)),
        length-map (calls_in goes.turns) (call_entry 0),
        whole-calls a.plan a.closure b.world.entries (around a) goes.turns number goes.are_whole fit,
      )

  pub goes-reads : (number count : ℕ) (a b : Kept) (x y : Outside K) → (goes : Goes number count a b x y)
      → length (reads_of (calls_in goes.turns)) ≤ count
  goes-reads number count a b x y goes =
      let fit = all-fit a.plan 0 a.world b.world (calls_in goes.turns) goes.did.entries.leads in
      omega (
        arith,
        goes.count_is,
        whole-reads a.plan a.closure b.world.entries (around a) goes.turns number goes.are_whole fit,
      )

  pub goes-progress : (f : Workflow) → (number count : ℕ) (a b : Kept) (x y : Outside K) → IsOuterPlan a.plan f
      → IsLegal a
      → Goes number count a b x y
      → progress a.plan a.world ≤ progress a.plan b.world
  goes-progress f number count a b x y outer legal goes =
      progress-stays a.plan f a.closure a.world.entries
      (map (call_entry 0) (calls_in goes.turns)) a.world b.world outer legal
      goes.did.entries.leads

  -- ---- none, one and more

  pub goes-none : (number : ℕ) (k : Kept) (x : Outside K) → IsLegal k → unsettled k.world ≡ None
      → Goes number 0 k k x x
  goes-none number k x legal settled =
      let none = worked-none kept kept_part laws 0 k x in record {
        turns = [];
        count_is = refl;
        are_whole = tt;
        busy = All-nil (λ calls. is_idle calls ≡ false);
        did = none.0;
        whole = none.1;
        heard = omega arith;
        faults_are = refl;
        executions = refl;
        bound = refl;
        legal = legal;
        settled = settled;
      }

  pub goes-both : (number j i : ℕ) (a b c : Kept) (x y z : Outside K) → Goes number j a b x y
      → Goes (number + j) i b c y z
      → Goes number (j + i) a c x z
  goes-both number j i a b c x y z first rest =
      let cs = calls_in first.turns in
      let ds = calls_in rest.turns in
      let joined : calls_in (first.turns ++ rest.turns) ≡ cs ++ ds =
      flat_map-append (λ calls. calls) first.turns rest.turns in
      let inside = whole-inside a.plan a.closure b.world.entries (around a) first.turns number first.are_whole in
      let both = worked-both kept kept_part laws 0 cs ds first.did first.whole first.heard inside rest.did in
      let heard : length (claims_of (cs ++ ds)) ≤ length (outcomes_of (cs ++ ds)) =
      omega (
        arith,
        first.heard,
        rest.heard,
        ap length (claims-append cs ds),
        length-append (claims_of cs) (claims_of ds),
        ap length (outcomes-append cs ds),
        length-append (outcomes_of cs) (outcomes_of ds),
      ) in
      let joint : Done (cs ++ ds) a c x z = (both.0, both.1 rest.whole, heard) in
      let done = subst (λ es. Done es a c x z) (sym joined) joint in
      let front = subst (λ es. AreWhole a.plan a.closure es (around a) number first.turns)
      (sym rest.did.entries.entries)
      (whole-more a.plan a.closure b.world.entries (around a)
      (map (call_entry 0) ds) first.turns number first.are_whole) in
      let number_is : number + j ≡ number + length first.turns = omega (arith, first.count_is) in
      let back = subst (λ n. AreWhole a.plan a.closure c.world.entries (around a) n rest.turns) number_is
      (subst (λ m. AreWhole a.plan a.closure c.world.entries (turn_numbered m lag) (number + j) rest.turns)
      first.executions
      (subst (λ p. AreWhole p a.closure c.world.entries (around b) (number + j) rest.turns) first.did.entries.plan
      (subst (λ k. AreWhole b.plan k c.world.entries (around b) (number + j) rest.turns) first.did.entries.closure
      rest.are_whole))) in
      record {
        turns = first.turns ++ rest.turns;
        count_is = omega (arith, length-append first.turns rest.turns, first.count_is, rest.count_is);
        are_whole = whole-both a.plan a.closure c.world.entries (around a) first.turns rest.turns number front back;
        busy = All-append (λ calls. is_idle calls ≡ false) first.turns rest.turns first.busy rest.busy;
        did = done.0;
        whole = done.1;
        heard = done.2;
        faults_are = rest.faults_are ∙ first.faults_are;
        executions = rest.executions ∙ first.executions;
        bound = subst (λ p. world_bound p c.world ≡ world_bound p b.world) first.did.entries.plan rest.bound
            ∙ first.bound;
        legal = rest.legal;
        settled = rest.settled;
      }

  module _ (f : Workflow) (number : ℕ) (a b : Kept) (x y : Outside K) (outer : IsOuterPlan a.plan f)
      (legal : IsLegal a) (settled : unsettled a.world ≡ None)
      (plays : PlaysTurn kept kept_part faults (around a number) a b x y end.Went) where
    whole-turn : IsTurn a.plan a.closure b.world.entries (around a number) plays.calls over
    whole-turn =
        subst (IsTurn a.plan a.closure b.world.entries (around a number) plays.calls) plays.ended.0 plays.turn

    legal-then : IsLegal b
    legal-then = adds-legal legal plays.did.entries

    pub goes-turn : Goes number 1 a b x y
    goes-turn =
        let calls = plays.calls in
        let fit = all-fit a.plan 0 a.world b.world calls plays.did.entries.leads in
        let heard = all-heard a.plan a.closure b.world.entries (around a number) starting calls fit whole-turn.goes in
        let one : Done calls a b x y = (plays.did, plays.ended.2, omega arith) in
        let done = subst (λ es. Done es a b x y) (sym (append-nil calls)) one in
        let stays = bound-stays f (around a number) a b calls outer legal legal-then plays.did.entries whole-turn in
        record {
          turns = calls ∷ [];
          count_is = refl;
          are_whole = (whole-turn, tt);
          busy = All-cons (λ cs. is_idle cs ≡ false) calls [] plays.ended.1 (All-nil (λ cs. is_idle cs ≡ false));
          did = done.0;
          whole = done.1;
          heard = done.2;
          faults_are = plays.ended.3;
          executions = stays.0;
          bound = stays.1;
          legal = legal-then;
          settled = turns-settle f (around a number) a b calls outer legal legal-then plays.did.entries whole-turn
              settled;
        }

    -- where it looks back no version it makes progress
    pub turn-progress : IsUncached a.plan → read_back (around a number) ≡ 0
        → progress a.plan a.world < progress a.plan b.world
    turn-progress uncached back =
        turns-progress f (around a number) a b plays.calls outer uncached legal legal-then plays.did.entries
        whole-turn settled back
        plays.ended.1

  -- ---- in a pass

  abbrev InPass : ℕ → ℕ → Kept → Kept → Outside K → Outside K → Type 0
  InPass first count a b x y = GoesInPass kept kept_part faults lag first count a b x y

  pub pass-none : (first : ℕ) (k : Kept) (x : Outside K) → IsLegal k → unsettled k.world ≡ None
      → InPass first (first - first) k k x x
  pass-none first k x legal settled =
      let e : 0 ≡ first - first = omega arith in
      subst (λ n. InPass first n k k x x) e (record {
        goes = goes-none first k x legal settled;
        progresses = λ some. absurd (omega arith);
      })

  pub pass-counted : {first n : ℕ} {a b : Kept} {x y : Outside K} (count : ℕ) → n ≡ count → InPass first n a b x y
      → InPass first count a b x y
  pass-counted {first = first} {a = a} {b = b} {x = x} {y = y} count e pass =
      subst (λ n. InPass first n a b x y) e pass

  module _ (first number : ℕ) {a b c : Kept} {x y z : Outside K} (within : first ≤ number)
      (pass : InPass first (number - first) a b x y) where
    pub pass-more : (f : Workflow) → IsOuterPlan a.plan f → IsUncached a.plan → IsLegal a
        → PlaysTurn kept kept_part faults (around b number) b c y z end.Went
        → InPass first (number + 1 - first) a c x z
    pass-more f outer uncached legal plays =
        let same = pass.goes.did.entries.plan in
        let outer_then = subst (λ p. IsOuterPlan p f) (sym same) outer in
        let e : number ≡ first + (number - first) = omega arith in
        let e' : number - first + 1 ≡ number + 1 - first = omega arith in
        let one = goes-turn f number b c y z outer_then pass.goes.legal pass.goes.settled plays in
        let first_stays = goes-progress f first (number - first) a b x y outer legal pass.goes in
        let stays = subst (λ p. progress p b.world ≤ progress p c.world) same
        (goes-progress f number 1 b c y z outer_then pass.goes.legal one) in
        subst (λ n. InPass first n a c x z) e' (record {
          goes = goes-both first (number - first) 1 a b c x y z pass.goes (subst (λ n. Goes n 1 b c y z) e one);
          progresses = λ some back. ⊎_elim
              (λ (later : 0 < number - first). let before = pass.progresses later back in omega arith)
              (λ (none : number - first ≤ 0).
              let same_number : number ≡ first = omega arith in
              let here : read_back (around b number) ≡ 0 =
              ap (λ n. read_back (turn_numbered (length b.world.executions) lag n)) same_number
              ∙ ap (λ m. read_back (turn_numbered m lag first)) pass.goes.executions ∙ back in
              let rises = subst (λ p. progress p b.world < progress p c.world) same
              (turn-progress f number b c y z outer_then pass.goes.legal pass.goes.settled plays
              (subst IsUncached (sym same) uncached) here) in
              omega arith)
              (cases_lt 0 (number - first));
        })

    pub pass-ends : (result : Result (Unit {0}) DriveFault) (ends : TurnEnd)
        → number < first + length a.world.executions
        → EndsBy result ends
        → PlaysTurn kept kept_part faults (around b number) b c y z ends
        → EndsPass kept kept_part faults lag first a c x z result
    pass-ends result ends short by plays =
        let e : number ≡ first + (number - first) = omega arith in
        record {
          count = number - first;
          within = omega arith;
          mid = b;
          between = y;
          goes = pass.goes;
          ends = ends;
          ends_by = by;
          last = subst (λ n. PlaysTurn kept kept_part faults (around a n) b c y z ends) e
              (subst (λ m. PlaysTurn kept kept_part faults (turn_numbered m lag number) b c y z ends)
              pass.goes.executions plays);
        }
