-- Passes one after another, to which there is a bound, since they make progress; and what a drive has done at its end.
use Rattle.std.proofs.Common.{◌≡◌, ⊎_elim, ℕ, ◌+◌, ◌*◌, ◌/◌, ◌%◌, ◌<◌, ◌≤◌, true, List, [], ◌∷◌, ◌++◌, length, map, Result, Ok, Err, None, refl, sym, subst, ap, ◌∙◌, arith}
use Rattle.std.proofs.lemmas.Bool.{cases_lt}
use Rattle.std.proofs.lemmas.List.{append-nil, length-append}
use Rattle.std.proofs.lemmas.List.Concat.{flat_map-append}
use Rattle.std.proofs.Math.Nat.{mul-le-mul_left, lt_of_mul-lt-mul_left, mul-div_cancel}
use Rattle.fly_docs.specs.declared.workflow.Workflow.{Workflow}
use Rattle.fly_ports.specs.Faults.{Rises}
use Rattle.fly_state.specs.declared.entries.Entry.{Entry}
use Rattle.fly_state.specs.PlanTables.{IsOuterPlan}
use Rattle.fly_world.specs.World.{unsettled, are_all_over}
use Rattle.fly_world.specs.Kept.{Kept, IsLegal}
use Rattle.fly_round.specs.declared.told.Told.{Told}
use Rattle.fly_work.specs.declared.driving.DriveFault.{DriveFault}
use Rattle.fly_work.specs.declared.driving.DriveFault.TheVariants as fault
use Rattle.fly_work.specs.declared.turn_end.TurnEnd.{TurnEnd}
use Rattle.fly_work.specs.Stages.{Turn, starting, over, read_back}
use Rattle.fly_work.specs.Turns.{IsTurn, call_entry, is_idle, reads_of}
use Rattle.fly_work.specs.Playing.{AddsCalls, Outside, HasWorked, IsWhole, EndsTurn, PlaysTurn}
use Rattle.fly_work.specs.Bounds.{world_bound, pass_bound}
use Rattle.fly_work.specs.Drives.{turn_numbered, AreTurns, EndsIdle, EndsDrive, DrivesAlone}
use Rattle.fly_work.specs.Passes.{AreWhole, GoesOn, EndsBy, EndsPass, GoesInPass, HasPassed}
use Rattle.fly_work.specs.Progress.{progress}
use Rattle.fly_work.proofs.FitReplies.{all-fit}
use Rattle.fly_work.proofs.ProgressLaws.{progress-stays, progress-bounded}
use Rattle.fly_work.proofs.TurnCounts.{few-reads, idle-over}
use Rattle.fly_work.proofs.TurnLists.{whole-inside, whole-more, whole-last}
use Rattle.fly_work.proofs.WorkedLemmas.{HasKeepLaws, adds-legal, adds-both, worked-both}
use Rattle.fly_work.proofs.PassedTurns.{calls_in, reads-append, goes-none, goes-both, goes-reads}

-- ---- numbers

-- passes of which each one in so many makes progress
pass-counts : (lag q from p new : ℕ) → q + (lag + 1) * from ≤ (lag + 1) * p → p ≤ new → (q % (lag + 1) ≡ 0 → p < new)
    → q + 1 + (lag + 1) * from ≤ (lag + 1) * new
pass-counts lag q from p new behind stays rises =
    let whole : (lag + 1) * (q / (lag + 1)) + q % (lag + 1) ≡ q = omega arith in
    let short : q % (lag + 1) < lag + 1 = omega arith in
    let kept : (lag + 1) * p ≤ (lag + 1) * new = mul-le-mul_left (lag + 1) stays in
    ⊎_elim
    (λ (some : 0 < q % (lag + 1)).
    let less : q / (lag + 1) + from < p =
    lt_of_mul-lt-mul_left (lag + 1) (omega arith) in
    let next : (lag + 1) * (q / (lag + 1) + from + 1) ≤ (lag + 1) * p = mul-le-mul_left (lag + 1) (omega arith) in
    omega arith)
    (λ (none : q % (lag + 1) ≤ 0).
    let more : p < new = rises (omega arith) in
    let next : (lag + 1) * (p + 1) ≤ (lag + 1) * new = mul-le-mul_left (lag + 1) (omega arith) in
    omega arith)
    (cases_lt 0 (q % (lag + 1)))

-- ---- calls make no progress undone

adds-progress : {a b : Kept} {worker : ℕ} {cs : List Told} (f : Workflow) → IsOuterPlan a.plan f → IsLegal a
    → AddsCalls a b worker cs
    → progress a.plan a.world ≤ progress a.plan b.world
adds-progress {a = a} {b = b} {worker = worker} {cs = cs} f outer legal adds =
    progress-stays a.plan f a.closure a.world.entries (map (call_entry worker) cs) a.world b.world outer legal
    adds.leads

legal-progress : (f : Workflow) (k : Kept) → IsOuterPlan k.plan f → IsLegal k
    → progress k.plan k.world ≤ world_bound k.plan k.world
legal-progress f k outer legal = progress-bounded k.plan f k.closure k.world.entries k.world outer legal

module _ {K : Type 0} (kept kept_part : K → List Entry → K → Type 0) (faults : K → ℕ)
    (laws : HasKeepLaws kept kept_part) (lag : ℕ) (f : Workflow) (store : Kept) (before : Outside K)
    (outer : IsOuterPlan store.plan f) (legal : IsLegal store)
    (some : 0 < length store.world.executions) (steps : ℕ) where
  abbrev Passed : ℕ → Kept → Outside K → ℕ → Type 0
  Passed first mid between now = HasPassed kept kept_part faults lag first store mid before between steps now

  abbrev numbered : ℕ → Turn
  numbered number = turn_numbered (length store.world.executions) lag number

  -- ---- passes

  pub passed-none : unsettled store.world ≡ None → Passed 0 store before steps
  passed-none settled = record {
    passes = 0;
    number = omega arith;
    counted = omega arith;
    goes = goes-none kept kept_part faults laws lag 0 store before legal settled;
    bounded = omega arith;
  }

  -- the stores of the passes are of one plan, with as many executions
  module _ {first : ℕ} {mid : Kept} {between : Outside K} {now : ℕ} (passed : Passed first mid between now) where
    same_plan : mid.plan ≡ store.plan
    same_plan = passed.goes.did.entries.plan

    outer_then : IsOuterPlan mid.plan f
    outer_then = subst (λ p. IsOuterPlan p f) (sym same_plan) outer

    -- at this pass number
    looks-back : read_back (numbered first) ≡ passed.passes % (lag + 1)
    looks-back =
        ap (λ n. n / length store.world.executions % (lag + 1)) passed.number
        ∙ ap (λ n. n % (lag + 1)) (mul-div_cancel passed.passes some)

    pub passes-few : passed.passes < pass_bound store.plan store.world lag
    passes-few =
        let here = subst (λ p. progress p mid.world ≤ world_bound p mid.world) same_plan
        (legal-progress f mid outer_then passed.goes.legal) in
        let most : (lag + 1) * progress store.plan mid.world ≤ (lag + 1) * world_bound store.plan store.world =
        mul-le-mul_left (lag + 1) (omega (arith, here, passed.goes.bound)) in
        omega (arith, passed.bounded, most)

    pub passed-next : {new : Kept} {after : Outside K} (next then : ℕ) → next ≡ first + length new.world.executions
        → then ≡ now + 1
        → GoesInPass kept kept_part faults lag first (length mid.world.executions) mid new between after
        → Passed next new after then
    passed-next {new = new} {after = after} next then next_is then_is pass =
        let m = length store.world.executions in
        let same = passed.goes.executions in
        let goes_here = subst (λ n. GoesOn kept kept_part faults lag first n mid new between after) same pass.goes in
        let e : first ≡ 0 + first = omega arith in
        let goes = goes-both kept kept_part faults laws lag 0 first m store mid new before between after passed.goes
        (subst (λ n. GoesOn kept kept_part faults lag n m mid new between after) e goes_here) in
        let stays = subst (λ p. progress p mid.world ≤ progress p new.world) same_plan
        (adds-progress f outer_then passed.goes.legal pass.goes.did.entries) in
        let rises : passed.passes % (lag + 1) ≡ 0 → progress store.plan mid.world < progress store.plan new.world =
        λ (none : passed.passes % (lag + 1) ≡ 0).
        subst (λ p. progress p mid.world < progress p new.world) same_plan
        (pass.progresses (omega arith) (subst (λ n. read_back (turn_numbered n lag first) ≡ 0) (sym same)
        (looks-back ∙ none))) in
        record {
          passes = passed.passes + 1;
          number = omega (arith, passed.number, next_is, pass.goes.executions);
          counted = omega (arith, passed.counted);
          goes = subst (λ n. GoesOn kept kept_part faults lag 0 n store new before after)
              (omega (arith, next_is, pass.goes.executions)) goes;
          bounded = pass-counts lag passed.passes (progress store.plan store.world) (progress store.plan mid.world)
              (progress store.plan new.world) passed.bounded stays rises;
        }

    -- ---- the end

    module _ {new : Kept} {after : Outside K} {result : Result (Unit {0}) DriveFault}
        (ends : EndsPass kept kept_part faults lag first mid new between after result) where
      count_within : ends.count < length store.world.executions
      count_within = omega (arith, ends.within, passed.goes.executions)

      -- all turns but the last
      goes : GoesOn kept kept_part faults lag 0 (first + ends.count) store ends.mid before ends.between
      goes =
          let e : first ≡ 0 + first = omega arith in
          goes-both kept kept_part faults laws lag 0 first ends.count store mid ends.mid before between ends.between
          passed.goes
          (subst (λ n. GoesOn kept kept_part faults lag n ends.count mid ends.mid between ends.between) e ends.goes)

      number : ℕ
      number = first + ends.count

      last : PlaysTurn kept kept_part faults (numbered number) ends.mid new ends.between after ends.ends
      unfolding number
      last =
          subst (λ n. PlaysTurn kept kept_part faults (turn_numbered n lag number) ends.mid new ends.between after
          ends.ends)
          passed.goes.executions ends.last

      same : ends.mid.plan ≡ store.plan
      same = goes.did.entries.plan

      turns : List (List Told)
      turns = goes.turns ++ last.calls ∷ []

      joined : calls_in turns ≡ calls_in goes.turns ++ last.calls
      unfolding turns
      joined =
          flat_map-append (λ calls. calls) goes.turns (last.calls ∷ [])
          ∙ ap (λ cs. calls_in goes.turns ++ cs) (append-nil last.calls)

      last_turn : IsTurn store.plan store.closure new.world.entries
          (numbered (0 + length goes.turns)) last.calls last.at
      unfolding number
      last_turn =
          let e : number ≡ 0 + length goes.turns = omega (arith, goes.count_is) in
          subst (λ n. IsTurn store.plan store.closure new.world.entries (numbered n) last.calls last.at) e
          (subst (λ p. IsTurn p store.closure new.world.entries (numbered number) last.calls last.at) same
          (subst (λ k. IsTurn ends.mid.plan k new.world.entries (numbered number) last.calls last.at)
          goes.did.entries.closure
          last.turn))

      are_turns : AreTurns store.plan store.closure new.world.entries numbered 0 turns
      unfolding turns
      are_turns =
          whole-last store.plan store.closure new.world.entries numbered goes.turns last.calls 0 last.at
          (subst (λ es. AreWhole store.plan store.closure es numbered 0 goes.turns) (sym last.did.entries.entries)
          (whole-more store.plan store.closure ends.mid.world.entries numbered (map (call_entry 0) last.calls)
          goes.turns 0 goes.are_whole))
          last_turn

      -- what all of them have done, which is whole where the last is
      all_done : (did : HasWorked kept kept_part 0 (calls_in turns) store new before after)
          × (IsWhole last.did → IsWhole did)
      unfolding turns
      all_done =
          let inside = whole-inside store.plan store.closure ends.mid.world.entries numbered goes.turns 0
          goes.are_whole in
          subst (λ cs. (did : HasWorked kept kept_part 0 cs store new before after)
          × (IsWhole last.did → IsWhole did)) (sym joined)
          (worked-both kept kept_part laws 0 (calls_in goes.turns) last.calls goes.did goes.whole goes.heard inside
          last.did)

      over_then : last.at ≡ over → is_idle last.calls ≡ true → are_all_over new.world ≡ true
      over_then at idle =
          let whole = subst (IsTurn ends.mid.plan ends.mid.closure new.world.entries (numbered number) last.calls) at
          last.turn in
          idle-over ends.mid.plan ends.mid.closure new.world.entries (numbered number) starting ends.mid.world
          new.world last.calls whole.goes last.did.entries.leads idle

      -- the end of the last turn, for one of the ends
      abbrev LastEnds : TurnEnd → Type 0
      LastEnds e = EndsTurn faults ends.between.keeper after.keeper last.calls last.at (IsWhole last.did) e

      ended_by : (r : Result (Unit {0}) DriveFault) (e : TurnEnd) → EndsBy r e
          → LastEnds e
          → EndsDrive faults before.keeper after.keeper new (IsWhole all_done.0) r
      ended_by (Ok u) e is turn =
          let idle = subst LastEnds is turn in
          (over_then idle.0 idle.1, all_done.1 idle.2)
      ended_by (Err fault.Keep) e is turn =
          subst (λ n. Rises n (faults after.keeper)) goes.faults_are (subst LastEnds is turn)
      ended_by (Err fault.NoMemory) e is turn = tt

      idle_by : (r : Result (Unit {0}) DriveFault) (e : TurnEnd) → EndsBy r e
          → LastEnds e
          → r ≡ Ok tt
          → EndsIdle store.plan store.closure new.world.entries numbered 0 turns
      unfolding turns
      idle_by (Ok u) e is turn ok =
          let idle = subst LastEnds is turn in (
            goes.turns,
            last.calls,
            refl,
            subst (IsTurn store.plan store.closure new.world.entries (numbered (0 + length goes.turns)) last.calls)
                idle.0 last_turn,
            idle.1,
            goes.busy,
          )
      idle_by (Err g) e is turn ok = cc

      -- no more passes began than progress allows
      few_passes : passed.passes + 1 ≤ pass_bound store.plan new.world lag
      few_passes =
          let adds = adds-both ends.goes.did.entries last.did.entries in
          let then = adds-legal passed.goes.legal adds in
          let plan_is : new.plan ≡ store.plan = adds.plan ∙ same_plan in
          let stays = subst (λ p. progress p mid.world ≤ progress p new.world) same_plan
          (adds-progress f outer_then passed.goes.legal adds) in
          let within = subst (λ p. progress p new.world ≤ world_bound p new.world) plan_is
          (legal-progress f new (subst (λ p. IsOuterPlan p f) (sym plan_is) outer) then) in
          let most : (lag + 1) * progress store.plan mid.world ≤ (lag + 1) * world_bound store.plan new.world =
          mul-le-mul_left (lag + 1) (omega arith) in
          omega (arith, passed.bounded, most)

      reads_few : length (reads_of (calls_in turns)) ≤ number + 1
      unfolding number
      reads_few =
          let fit = all-fit ends.mid.plan 0 ends.mid.world new.world last.calls last.did.entries.leads in
          omega (
            arith,
            ap (λ cs. length (reads_of cs)) joined,
            ap length (reads-append (calls_in goes.turns) last.calls),
            length-append (reads_of (calls_in goes.turns)) (reads_of last.calls),
            goes-reads kept kept_part faults laws lag 0 (first + ends.count) store ends.mid before ends.between goes,
            few-reads ends.mid.plan ends.mid.closure new.world.entries (numbered number) starting last.at last.calls
                fit last.turn.goes,
          )

      pub drives : (then : ℕ) → then ≡ now + 1
          → DrivesAlone kept kept_part faults lag store new before after steps then result
      unfolding turns number
      drives then then_is = record {
        turns = turns;
        are_turns = are_turns;
        did = all_done.0;
        idle = idle_by result ends.ends ends.ends_by last.ended;
        ended = ended_by result ends.ends ends.ends_by last.ended;
        passes = passed.passes + 1;
        counted = omega (arith, passed.counted);
        bounded = few_passes;
        few_turns = omega (
          arith,
          length-append goes.turns (last.calls ∷ []),
          goes.count_is,
          passed.number,
          count_within,
        );
        begun = omega (arith, length-append goes.turns (last.calls ∷ []), goes.count_is, passed.number);
        few_reads = omega (arith, reads_few, passed.number, count_within);
      }
