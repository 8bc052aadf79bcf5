-- Runs that were opened, and driven by one worker.
use Rattle.std.proofs.Common.{◌≡◌, ◌⊎◌, ◌≤◌, ◌<◌, ◌+◌, ℕ, true, List, [], ◌∷◌, ◌++◌, map, flat_map, length, take, drop, All, Option, Some, Result, Ok, Err, append_assoc, append-nil, subst, refl, sym, ap, ◌∙◌, inl, inr, arith}
use Rattle.std.proofs.lemmas.List.{length-map}
use Rattle.std.proofs.lemmas.Grind.{flat_map-append}
use Rattle.std.proofs.lemmas.List.Elements.{All-nil, All-cons, All-head, All-tail}
use Rattle.fly_types.specs.declared.text.Text.{Text}
use Rattle.fly_ports.specs.Clock.{ClockState}
use Rattle.fly_ports.specs.Faults.{Rises}
use Rattle.fly_ports.specs.Files.{FilesState}
use Rattle.fly_ports.specs.Spawner.{SpawnerState}
use Rattle.fly_docs.specs.declared.submission.Submission.{Submission}
use Rattle.fly_docs.specs.declared.workflow.Workflow.{Workflow}
use Rattle.fly_state.specs.declared.entries.Entry.{Entry}
use Rattle.fly_state.specs.declared.entries.Op.{Op}
use Rattle.fly_state.specs.declared.entries.Op.TheVariants as op
use Rattle.fly_state.specs.declared.entries.Reply.TheVariants as reply
use Rattle.fly_state.specs.declared.moves.Move.{Move}
use Rattle.fly_state.specs.Plans.{RunPlan}
use Rattle.fly_state.specs.PlanTables.{IsOuterPlan}
use Rattle.fly_world.specs.World.{World, Execution}
use Rattle.fly_world.specs.Journals.{IsHistory, Step, beginning}
use Rattle.fly_world.specs.Kept.{Kept, IsLegal}
use Rattle.fly_world.specs.Laws.{IsPrefix, PrefixesAreLegal, StepsExtend, WritesAreRounds, LaunchesAreSingle, WorldsAreOfPlan, FinalSlotsStay, submission_of}
use Rattle.fly_history.specs.Laws.{LegalJournalsAgree}
use Rattle.fly_round.specs.declared.told.Told.{Told}
use Rattle.fly_work.specs.declared.driving.DriveFault.{DriveFault}
use Rattle.fly_work.specs.declared.driving.DriveFault.TheVariants as fault
use Rattle.fly_work.specs.Children.{Child}
use Rattle.fly_work.specs.Drives.{AreTurns, EndsIdle, IsUncached, turn_numbered}
use Rattle.fly_work.proofs.ActingLemmas.{pairs_none}
use Rattle.fly_work.proofs.SlotSteps.{uncached-task}
use Rattle.fly_work.specs.Playing.{HasChildren}
use Rattle.fly_work.specs.Turns.{call_entry}
use Rattle.fly_journal.specs.Lines.{line_text}
use Rattle.fly_opening.specs.Opening.{IsOpened, opening_entries}
use Rattle.fly_keeper.specs.Gains.{GainsText, GainsAll, GainsPart, GainsBefore, calls_text}
use Rattle.fly_keeper.specs.JournalText.{journal_text}
use Rattle.fly_keeper.specs.KeptLaws.{gains-both}
use Rattle.fly_app.specs.RunOutside.{WorkOutside, work_outside, FailsAppend}
use Rattle.fly_app.specs.Runs.{HasLegalFronts, HasRounds, IsRoundBehind, RunSetup, calls_of, opening_of, turn_of, IsRunOf, IsFinished, IsBrokenOff, opening_part, calls_part}
use Rattle.fly_app.specs.Running.{DrivesFile, HasLaws, RunsHaveLaws, StopsRun, BreaksOff}

-- ---- what the laws say

fronts : PrefixesAreLegal → (plan : RunPlan) (hash : List ℕ) (w : World) → IsHistory plan hash w.entries w
    → HasLegalFronts plan hash w
fronts law plan hash w history front back is =
    law plan hash front back w (subst (λ (es : List Entry). IsHistory plan hash es w) is history)

module _ (prefixes : PrefixesAreLegal) (extends : StepsExtend) (writes : WritesAreRounds) (plan : RunPlan)
    (hash : List ℕ) (w : World)
    (history : IsHistory plan hash w.entries w) where
  abbrev write : ℕ → Text → ℕ → ℕ → List Move → Entry
  write worker exec base version moves = record {
    worker = worker;
    op = op.Write exec base moves;
    reply =
        reply.Written version;
  }

  rounds : HasRounds plan hash w
  rounds [] back worker exec base version moves is =
      let both : write worker exec base version moves ∷ back ≡ beginning hash ∷ history.later = sym is
      ∙ history.begins in
      let same : write worker exec base version moves ≡ beginning hash = cc both in
      let ops : op.Write exec base moves ≡ op.Begin hash = ap (λ (e : Entry). e.op) same in
      absurd (cc ops)
  rounds (f ∷ front) back worker exec base version moves is =
      let e : Entry = write worker exec base version moves in
      let both : f ∷ (front ++ e ∷ back) ≡ beginning hash ∷ history.later = sym is ∙ history.begins in
      let same : f ≡ beginning hash = cc both in
      let there : w.entries ≡ beginning hash ∷ (front ++ e ∷ back) = is
      ∙ ap (λ (x : Entry). x ∷ (front ++ e ∷ back)) same in
      let prefix : IsPrefix plan hash front (e ∷ back) w =
      prefixes plan hash front (e ∷ back) w (subst (λ (es : List Entry). IsHistory plan hash es w) there history) in
      subst (λ (x : Entry). IsRoundBehind plan hash (x ∷ front) e exec base version moves) (sym same)
      (behind prefix.world prefix.back_leads.0 prefix.front_is prefix.back_leads.1)
    where
      behind : (v next : World) → IsHistory plan hash (beginning hash ∷ front) v
          → Step plan v (write worker exec base version moves) next
          → IsRoundBehind plan hash (beginning hash ∷ front)
          (write worker exec base version moves) exec base version moves
      behind v next front_is step = record {
        world = v;
        next = next;
        front_is = front_is;
        next_is = extends plan hash (beginning hash ∷ front) v next
            (write worker exec base version moves) front_is step;
        round = writes plan v next worker exec base version moves step;
      }

pub has-laws : PrefixesAreLegal → StepsExtend → WritesAreRounds → LaunchesAreSingle → WorldsAreOfPlan
    → LegalJournalsAgree → FinalSlotsStay → (plan : RunPlan) (f : Workflow)
    → IsOuterPlan plan f → IsUncached plan → RunsHaveLaws plan
has-laws prefixes extends writes launches worlds agree finals plan f outer uncached hash w history = record {
  fronts = fronts prefixes plan hash w history;
  rounds = rounds prefixes extends writes plan hash w history;
  single = λ front back is.
      let prefix : IsPrefix plan hash front back w = fronts prefixes plan hash w history front back is in
      launches plan hash (beginning hash ∷ front) (prefix.world, prefix.front_is);
  typed = worlds plan f hash w.entries w outer history;
  evaluated = agree plan f hash w.entries w outer (λ i p there. uncached-task plan p uncached) history;
  final = λ front more back before after number x at slot is before_is leads.
      finals plan hash front more before after number x at slot before_is leads;
}

-- ---- a run of an opened store

-- the equations that an opened store has with the setup of its run
module _ (run : RunSetup) (opened : Kept) (begun : IsOpened run.plan run.hash run.submissions opened) where
  count : length opened.world.executions ≡ length run.submissions
  count = sym (length-map opened.world.executions submission_of) ∙ ap length begun.executions

  -- what is said of its plan, its hash and its executions
  said : (P : RunPlan → List ℕ → ℕ → Type 0) → P opened.plan opened.closure (length opened.world.executions)
      → P run.plan run.hash (length run.submissions)
  said P p =
      subst (λ (n : ℕ). P run.plan run.hash n) count
      (subst (λ (h : List ℕ). P run.plan h (length opened.world.executions)) begun.closure_is
      (subst (λ (q : RunPlan). P q opened.closure (length opened.world.executions)) begun.plan_is p))

  legal-of : (k : Kept) → k.plan ≡ opened.plan → k.closure ≡ opened.closure → IsLegal k
      → IsHistory run.plan run.hash k.world.entries k.world
  legal-of k plan closure legal =
      said (λ q h n. IsHistory q h k.world.entries k.world)
      (subst (λ (h : List ℕ). IsHistory opened.plan h k.world.entries k.world) closure
      (subst (λ (q : RunPlan). IsHistory q k.closure k.world.entries k.world) plan legal))

  none-ran : HasChildren run.plan run.hash opened.world.entries [] []
  none-ran = record {
    works = tt;
    most = omega arith;
    last = omega arith;
    outcomes = tt;
    some = omega arith;
  }

  -- it was opened, and nothing more
  abbrev opened-run : RunsHaveLaws run.plan → IsLegal opened → (old new : FilesState) (c : ClockState) (s : SpawnerState)
      → IsRunOf run (work_outside old c s) (work_outside new c s) opened.world
  opened-run laws legal old new c s =
      let history = legal-of opened refl refl legal in
      let has : HasLaws run.plan run.hash opened.world = laws run.hash opened.world history in
      record {
        history = history;
        fronts = has.fronts;
        rounds = has.rounds;
        turns = [];
        entries = begun.entries ∙ sym (append-nil (opening_of run));
        are_turns = tt;
        rising = pairs_none (λ (a b : Told). a.place < b.place);
        ticks = refl;
        children = [];
        runs = refl;
        claimed = none-ran;
        single = has.single;
        typed = has.typed;
        evaluated = has.evaluated;
        final = has.final;
      }

  -- it was driven
  abbrev driven-run : RunsHaveLaws run.plan
      → (new : Kept) (old mid : FilesState) (c : ClockState) (s : SpawnerState) (after : WorkOutside)
      (r : Result (Unit {0}) DriveFault)
      → DrivesFile run.plan run.lag run.journal opened new (work_outside mid c s) after r
      → IsRunOf run (work_outside old c s) after new.world
  driven-run laws new old mid c s after r drives =
      let history = legal-of new drives.entries.plan drives.entries.closure drives.legal in
      let has : HasLaws run.plan run.hash new.world = laws run.hash new.world history in
      record {
        history = history;
        fronts = has.fronts;
        rounds = has.rounds;
        turns = drives.turns;
        entries = drives.entries.entries
            ∙ ap (λ (es : List Entry). es ++ map (call_entry 0) (calls_of drives.turns)) begun.entries;
        are_turns = said
            (λ q h n. AreTurns q h new.world.entries (turn_numbered n run.lag) 0 drives.turns) drives.are_turns;
        rising = drives.entries.rising;
        ticks = drives.ticks;
        children = drives.children;
        runs = drives.runs;
        claimed = said
            (λ q h n. HasChildren q h new.world.entries (calls_of drives.turns) drives.children) drives.claimed;
        single = has.single;
        typed = has.typed;
        evaluated = has.evaluated;
        final = has.final;
      }

  -- ---- what came to the file

  opening-text : journal_text run.plan (drop 0 opened.world.entries) ≡ journal_text run.plan (opening_of run)
  opening-text = ap (journal_text run.plan) begun.entries

  -- all of the opening, and of the calls what the driver kept
  kept-all : (old mid new : FilesState) (turns : List (List Told)) (es : List Entry)
      → es ≡ opened.world.entries ++ map (call_entry 0) (calls_of turns)
      → GainsAll old mid run.journal (journal_text run.plan (drop 0 opened.world.entries))
      → GainsAll mid new run.journal (calls_text run.plan 0 (calls_of turns))
      → GainsAll old new run.journal (journal_text run.plan es)
  kept-all old mid new turns es are first then = record {
    gains = subst (GainsText old new run.journal)
        (sym (flat_map-append (line_text run.plan) opened.world.entries (map (call_entry 0) (calls_of turns)))
        ∙ ap (journal_text run.plan) (sym are))
        (gains-both old mid new run.journal (journal_text run.plan opened.world.entries) (calls_text run.plan 0
        (calls_of turns))
        first.gains then.gains);
    faultless = then.faultless ∙ first.faultless;
  }

  -- ---- ends

  -- the keeping of the opening failed
  pub unopened : RunsHaveLaws run.plan → IsLegal opened → (old new : FilesState) (c : ClockState) (s : SpawnerState)
      → GainsPart old new run.journal (journal_text run.plan (drop 0 opened.world.entries)) → FailsAppend old new
      → StopsRun run (work_outside old c s) (work_outside new c s) fault.Keep
  unopened laws legal old new c s part fails = (
    (
      opened.world,
      record {
        made = opened-run laws legal old new c s;
        kept = opening_part refl (subst (GainsPart old new run.journal) opening-text part);
      },
    ),
    fails,
  )

  broke-off : RunsHaveLaws run.plan
      → (new : Kept) (old mid : FilesState) (c : ClockState) (s : SpawnerState) (after : WorkOutside)
      (r : Result (Unit {0}) DriveFault)
      → DrivesFile run.plan run.lag run.journal opened new (work_outside mid c s) after r
      → GainsAll old mid run.journal (journal_text run.plan (drop 0 opened.world.entries))
      → BreaksOff run (work_outside old c s) after
  broke-off laws new old mid c s after r drives first = (
    new.world,
    record {
      made = driven-run laws new old mid c s after r drives;
      kept = calls_part mid (subst (GainsAll old mid run.journal) opening-text first) drives.gains;
    },
  )

  pub stopped : RunsHaveLaws run.plan
      → (new : Kept) (old mid : FilesState) (c : ClockState) (s : SpawnerState) (after : WorkOutside)
      (f : DriveFault) → DrivesFile run.plan run.lag run.journal opened new (work_outside mid c s) after (Err f)
      → GainsAll old mid run.journal (journal_text run.plan (drop 0 opened.world.entries))
      → StopsRun run (work_outside old c s) after f
  stopped laws new old mid c s after fault.Keep drives first = (
    broke-off laws new old mid c s after (Err fault.Keep) drives first,
    subst (λ (n : ℕ). Rises n after.files.append_faults) first.faultless drives.ended,
  )
  stopped laws new old mid c s after fault.NoMemory drives first =
      inr (broke-off laws new old mid c s after (Err fault.NoMemory) drives first)

  pub finished : RunsHaveLaws run.plan
      → (new : Kept) (old mid : FilesState) (c : ClockState) (s : SpawnerState) (after : WorkOutside)
      (done : Unit {0}) → DrivesFile run.plan run.lag run.journal opened new (work_outside mid c s) after (Ok done)
      → GainsAll old mid run.journal (journal_text run.plan (drop 0 opened.world.entries))
      → IsFinished run (work_outside old c s) after new.world
  finished laws new old mid c s after done drives first = record {
    made = driven-run laws new old mid c s after (Ok done) drives;
    over = drives.ended.over;
    ran = drives.ended.ran;
    idle = said (λ q h n. EndsIdle q h new.world.entries (turn_numbered n run.lag) 0 drives.turns) drives.ended.idle;
    kept = kept-all old mid after.files drives.turns new.world.entries drives.entries.entries first drives.ended.kept;
  }

-- a run of one submission or more has an execution or more
pub some-executions : (plan : RunPlan) (hash : List ℕ) (submissions : List Submission) (opened : Kept)
    → IsOpened plan hash submissions opened
    → 0 < length submissions → 0 < length opened.world.executions
some-executions plan hash submissions opened begun some =
    omega (arith, some, sym (length-map opened.world.executions submission_of) ∙ ap length begun.executions)
