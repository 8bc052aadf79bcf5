-- A whole turn of a worker that acts alone makes progress, where it reads the current version of an execution that is
-- not over: by its Write, or else by its claim.
use Rattle.std.proofs.Common.{◌≡◌, inl, inr, ⊎_elim, ℕ, ◌+◌, ◌<◌, ◌≤◌, Bool, true, false, List, [], ◌∷◌, ◌++◌, map, take, length, find, bytes_eq, All, Contains, Option, Some, None, option_map, is_some, refl, sym, ◌∙◌, ap, subst, arith, length-append}
use Rattle.std.specs.List.{slice_get, enumerate_from}
use Rattle.std.proofs.lemmas.Bool.{false≢true, true≢false, or_parts, cases_lt}
use Rattle.std.proofs.lemmas.List.{length-map, take_all, take-append-le}
use Rattle.std.proofs.lemmas.List.Elements.{All-nil, All-cons}
use Rattle.std.proofs.lemmas.Option.{none-some, same_Some, slice_get_cases, slice_get_within}
use Rattle.fly_cast.proofs.Options.{map-some}
use Rattle.fly_graph.proofs.Members.{Contains-nil}
use Rattle.fly_types.specs.declared.text.Text.{Text}
use Rattle.fly_types.specs.declared.literals.LiteralMap.{LiteralMap}
use Rattle.fly_docs.specs.declared.attempt_name.AttemptName.{AttemptName}
use Rattle.fly_docs.specs.declared.workflow.Workflow.{Workflow}
use Rattle.fly_docs.specs.Plans.{PlanNode}
use Rattle.fly_policy.specs.declared.outcome.Outcome.{Outcome}
use Rattle.fly_state.specs.declared.entries.Entry.{Entry}
use Rattle.fly_state.specs.declared.entries.Op.{Op}
use Rattle.fly_state.specs.declared.entries.Op.TheVariants as op
use Rattle.fly_state.specs.declared.entries.Reply.{Reply}
use Rattle.fly_state.specs.declared.entries.Reply.TheVariants as reply
use Rattle.fly_state.specs.declared.moves.Move.{Move}
use Rattle.fly_state.specs.declared.view.View.{View}
use Rattle.fly_state.specs.declared.view.Known.{Known}
use Rattle.fly_state.specs.Moves.{is_succeeding, outcome_in}
use Rattle.fly_state.specs.OfPlan.{IsViewOfPlan}
use Rattle.fly_state.specs.PlanTables.{IsOuterPlan}
use Rattle.fly_state.specs.Plans.{RunPlan}
use Rattle.fly_state.specs.States.{phase_of, is_running, is_broken}
use Rattle.fly_world.specs.World.{World, Execution, Claim, empty_world, same_name, current_of, is_over, execution_named, outcome_of, is_launched, is_claimed, is_settled, launches_of, view_of, current_view}
use Rattle.fly_world.specs.Journals.{IsHistory, Leads, Step}
use Rattle.fly_world.proofs.FinalSlots.{named_there, state_current}
use Rattle.fly_world.proofs.JournalLemmas.{one-world, entries-are}
use Rattle.fly_world.proofs.KeptWorlds.{history-of_plan}
use Rattle.fly_world.proofs.LaunchLemmas.{outcome-stays}
use Rattle.fly_world.proofs.NameLemmas.{history-named}
use Rattle.fly_round.specs.declared.told.Told.{Told}
use Rattle.fly_round.specs.Moves.{round_moves}
use Rattle.fly_round.specs.Questions.{Question, launch, Asks, known_attempt, questions, next_question}
use Rattle.fly_work.specs.Drives.{IsUncached}
use Rattle.fly_work.specs.Progress.{TurnsProgress, progress}
use Rattle.fly_work.specs.Stages.{Turn, Stage, starting, sweeping, reading, asking, claiming, running, finishing, over, cut, read_back, closing_op, IsDueInRound, IsDue, IsViewRead, AfterRead, AfterClaim, AfterAsked, After}
use Rattle.fly_work.specs.Turns.{call_entry, is_idle, is_idle_reply}
use Rattle.fly_work.proofs.AskedLaunches.{IsWanted, attempt_at, questions-same, wanted-there, quiet-whole, launch-asked, launch-launches}
use Rattle.fly_work.proofs.AttemptSpots.{answered, named-number}
use Rattle.fly_work.proofs.AttemptSteps.{IsSettledBut, settled-from, settled-stays, claimed-cases, claimed-launched, settled-claimed, launched-stays}
use Rattle.fly_work.proofs.LegalRounds.{Rises, round-rises}
use Rattle.fly_work.proofs.Liveness.{quiet-round}
use Rattle.fly_work.proofs.ProgressRaises.{write-raises, claim-raises}
use Rattle.fly_work.proofs.ProgressStays.{progress-stays}
use Rattle.fly_work.proofs.QuietSteps.{is_quiet, IsQuietStep, quiet-step}
use Rattle.fly_work.proofs.RoundWrites.{IsCurrent, write-accepted}
use Rattle.fly_work.proofs.RunShapes.{IsRunState, current-run, run-shapes}
use Rattle.fly_work.proofs.TurnWalks.{IsTurnCall, history-step, walk, in-place, below-end, passes-cases}
use Rattle.fly_work.proofs.ViewLaunches.{IsOwn, known-launched, outcome-has, outcome-known}
use Rattle.fly_work.proofs.TurnReplies.{asks-quiet, quiet-claims, asks-launch, seen, current-launches, IsReadAt, read-found, claim-hands}

module _ (plan : RunPlan) (f : Workflow) (outer : IsOuterPlan plan f) (uncached : IsUncached plan) (closure : List ℕ)
    (journal : List Entry) (t : Turn) (start : ℕ) where
  -- a call that stands at its place, and isn't told that all is over
  abbrev Called : ℕ → Told → Type 0
  Called n c = (c.place ≡ n) × (is_idle_reply c.reply ≡ false)

  abbrev Call : Stage → Stage → Told → World → World → Type 0
  Call = IsTurnCall plan closure journal t Called

  -- ---- what stands at a stage

  -- before the read: each claimed attempt has an outcome
  record Before (w : World) : Type 0 where
    history : IsHistory plan closure w.entries w
    so_far : start ≤ progress plan w
    settled : IsSettledBut None w

  -- A view of the current version of an execution that runs.
  record IsSeen (v : View) (at : ℕ × Execution) : Type 0 where
    view : v ≡ seen at v.launches
    of_plan : IsViewOfPlan plan v
    runs : is_running v.state.root.phase ≡ true
    unstored : (i : ℕ) → is_succeeding (phase_of v.state i) ≡ false

  -- the attempt of the node itself is launched
  abbrev IsLaunched : View → PlanNode → ℕ → World → Type 0
  IsLaunched v p a w = (n : AttemptName) × IsOwn v.name p a n × (is_launched w n ≡ true)

  -- What a world has of what a view knows: its ends and its launches; and nothing is claimed whose end it does not
  -- know.
  record HasSeen (v : View) (w : World) : Type 0 where
    ends : (p : PlanNode) (a : ℕ) (o : Outcome) → outcome_in v p None a ≡ Some o
        → (n : AttemptName) × IsOwn v.name p a n × (outcome_of w n ≡ Some o)
    launched : (p : PlanNode) (a : ℕ) (k : Known) → known_attempt v p None a ≡ Some k → IsLaunched v p a w
    claimed : (p : PlanNode) (a : ℕ) (n : AttemptName) → IsOwn v.name p a n → is_claimed w n ≡ true
        → is_some (outcome_in v p None a) ≡ true

  -- the attempts that run, and of which the launch was asked, are launched
  abbrev HasAsked : View → List Told → World → Type 0
  HasAsked v told w =
      (number : ℕ) (p : PlanNode) (inputs : LiteralMap) (j : ℕ) → IsWanted plan v number p inputs → j < length told
      → slice_get (questions plan v []) j ≡ Some (launch p.path None (attempt_at v number) inputs)
      → IsLaunched v p (attempt_at v number) w

  -- in the round
  record InRound (v : View) (told : List Told) (w : World) : Type 0 where
    history : IsHistory plan closure w.entries w
    so_far : start ≤ progress plan w
    at : ℕ × Execution
    named : execution_named w v.name ≡ Some at
    sight : IsSeen v at
    has : HasSeen v w
    asked : HasAsked v told w

  -- progress was made
  record Raised (w : World) : Type 0 where
    history : IsHistory plan closure w.entries w
    more : start < progress plan w

  abbrev Stands : Stage → World → Type 0
  Stands starting w = Before w
  Stands sweeping w = Before w
  Stands reading w = Before w
  Stands (asking v told) w = InRound v told w
  Stands cut w = Unit {0}
  Stands _ w = Raised w

  -- ---- steps

  module _ (w new : World) (e : Entry) (s : Step plan w e new) where
    no-less : IsHistory plan closure w.entries w → progress plan w ≤ progress plan new
    no-less history = progress-stays plan f closure w.entries (e ∷ []) w new outer history (new, s, refl)

    still-raised : Raised w → Raised new
    still-raised raised =
        let le = no-less raised.history in
        let lt = raised.more in
        record { history = history-step plan closure w new e raised.history s; more = omega (arith, le, lt) }

    now-raised : IsHistory plan closure w.entries w → start ≤ progress plan w → progress plan w < progress plan new
        → Raised new
    now-raised history so_far lt =
        record { history = history-step plan closure w new e history s; more = omega (arith, so_far, lt) }

    still-before : Before w → is_quiet e.op ≡ true → Before new
    still-before before quiet =
        let le = no-less before.history in
        let so_far = before.so_far in
        record {
          history = history-step plan closure w new e before.history s;
          so_far = omega (arith, so_far, le);
          settled = λ name claimed.
              ⊎_elim
              (λ was. ⊎_elim (λ is. inl (settled-stays plan w new e s name is)) inr (before.settled name was))
              (λ here. absurd (Contains-nil name
              (subst (λ ns. Contains ns name) (quiet-claims e.op e.reply quiet) here)))
              (claimed-cases plan w new e s name claimed);
        }

    -- ---- in a round

    module _ (v : View) (told : List Told) (round : InRound v told w) (quiet : is_quiet e.op ≡ true) where
      abbrev same : IsQuietStep w new
      same = quiet-step plan w new e quiet s

      still-has : HasSeen v new
      still-has = record {
        ends = λ p a o is.
            let n = round.has.ends p a o is in
            (n.0, n.1, outcome-stays n.0 o plan w new (e ∷ []) (new, s, refl) n.2);
        launched = λ p a k is.
            let n = round.has.launched p a k is in
            (n.0, n.1, launched-stays plan w new e s n.0 n.2);
        claimed = λ p a n own claimed.
            round.has.claimed p a n own
            (subst (λ cs. is_some (find (λ (c : Claim). same_name n c.name) cs) ≡ true) same.claims claimed);
      }

      still-named : execution_named new v.name ≡ Some round.at
      still-named =
          ap (λ (xs : List Execution). find (λ (at : ℕ × Execution). bytes_eq v.name at.1.name)
          (enumerate_from 0 xs)) same.executions
          ∙ round.named

      -- one answer more
      asked-more : (c : Told)
          → ((number : ℕ) (p : PlanNode) (inputs : LiteralMap) → IsWanted plan v number p inputs
          → slice_get (questions plan v []) (length told) ≡ Some (launch p.path None (attempt_at v number) inputs)
          → IsLaunched v p (attempt_at v number) new)
          → InRound v (told ++ c ∷ []) new
      asked-more c here =
          let le = no-less round.history in
          let so_far = round.so_far in
          record {
            history = history-step plan closure w new e round.history s;
            so_far = omega (arith, so_far, le);
            at = round.at;
            named = still-named;
            sight = round.sight;
            has = still-has;
            asked = λ number p inputs j wanted lt is.
                ⊎_elim
                (λ before. let n = round.asked number p inputs j wanted before is in
                (n.0, n.1, launched-stays plan w new e s n.0 n.2))
                (λ last.
                let at : j ≡ length told = (let n = length-append told (c ∷ []) in omega (arith, n, lt, last)) in
                here number p inputs wanted (subst
                (λ k. slice_get (questions plan v []) k ≡ Some
                (launch p.path None (attempt_at v number) inputs)) at is))
                (cases_lt j (length told));
          }

  -- ---- the read

  -- the view of the version that is current
  module _ (w : World) (before : Before w) (v : View) (at : ℕ × Execution)
      (named : execution_named w at.1.name ≡ Some at)
      (on : is_over at.1 ≡ false) (current : v ≡ current_view w at) where
    name-is : v.name ≡ at.1.name
    name-is = ap (λ (u : View). u.name) current

    known-is : v.launches ≡ launches_of w v.name
    known-is = ap (λ (u : View). u.launches) current ∙ current-launches w at ∙ ap (launches_of w) (sym name-is)

    state-is : v.state ≡ at.1.state
    state-is = ap (λ (u : View). u.state) current ∙ state_current at.1

    run-state : IsRunState plan at.1.state
    run-state = current-run plan w (run-shapes plan f outer closure w.entries w before.history) at.0 at.1
        (named_there w at.1.name at named)

    sight-is : IsSeen v at
    sight-is = record {
      view = current ∙ ap (seen at) (sym (ap (λ (u : View). u.launches) current));
      of_plan = subst (IsViewOfPlan plan) (sym current)
          ((history-of_plan plan f outer closure w.entries w before.history).views at.1.name at
          (current_of at.1) named (omega arith));
      runs = ⊎_elim (λ goes. subst (λ s. is_running s.root.phase ≡ true) (sym state-is) goes)
          (λ final. absurd (true≢false (sym final ∙ on))) run-state.root;
      unstored = λ i. subst (λ s. is_succeeding (phase_of s i) ≡ false) (sym state-is) (run-state.whole uncached i);
    }

    has-seen : HasSeen v w
    has-seen = record {
      ends = λ p a o is. outcome-has v p a w known-is o is;
      launched = λ p a k is. known-launched v p a w known-is k is;
      claimed = λ p a n own claimed.
          ap is_some (outcome-known v p a w known-is n own (claimed-launched plan closure w before.history n claimed))
          ∙ ⊎_elim (λ is. is) (λ other. absurd (none-some n other)) (before.settled n claimed);
    }

    first-round : InRound v [] w
    first-round = record {
      history = before.history;
      so_far = before.so_far;
      at = at;
      named = subst (λ n. execution_named w n ≡ Some at) (sym name-is) named;
      sight = sight-is;
      has = has-seen;
      asked = λ number p inputs j wanted lt is. absurd (omega (arith, lt));
    }

  module _ (w new : World) (place from back : ℕ) (exec : Text) (version current : ℕ) where
    abbrev read : Told
    read = record { place = place; op = op.Read from back; reply = reply.Viewed exec version current }

    module _ (s : Step plan w (call_entry t.worker read) new) (before : Before w) (rest : List Entry)
        (all : journal ≡ new.entries ++ rest) where
      later : Before new
      later = still-before w new (call_entry t.worker read) s before refl

      -- the entries up to the read leave the world behind it
      world-is : place ≡ length w.entries → (u : World) → IsHistory plan closure (take (place + 1) journal) u → u ≡ new
      world-is here u history =
          let e = call_entry t.worker read in
          let one = entries-are plan w new (e ∷ []) (new, s, refl) in
          let long : place + 1 ≡ length new.entries =
          (let n = length-append w.entries (e ∷ []) in omega (arith, n, ap length one, here)) in
          let front : take (place + 1) journal ≡ new.entries =
          ap (λ k. take k journal) long ∙ ap (take (length new.entries)) all
          ∙ take-append-le (length new.entries) new.entries rest (omega arith)
          ∙ take_all (length new.entries) new.entries (omega arith) in
          one-world plan empty_world u new new.entries (subst (λ es. Leads plan empty_world es u) front history.leads)
          later.history.leads

      -- what was read is the current version
      found-round : (found : IsReadAt w back exec version) → back ≡ 0 → (v : View) (at : ℕ × Execution)
          → execution_named new exec ≡ Some at → v ≡ view_of new at version → InRound v [] new
      found-round found none v at named view =
          let x = found.at.1 in
          let same = quiet-step plan w new (call_entry t.worker read) refl s in
          let stands : slice_get new.executions found.at.0 ≡ Some x =
          subst (λ xs. slice_get xs found.at.0 ≡ Some x) (sym same.executions) found.there in
          let names = history-named plan closure new.entries new later.history in
          let numbered : execution_named new x.name ≡ Some (0 + found.at.0, x) =
          named-number new.executions 0 found.at.0 x names.distinct stands in
          let its_own : execution_named new exec ≡ Some (0 + found.at.0, x) =
          ap (execution_named new) found.exec_is ∙ numbered in
          let is_at : at ≡ (0 + found.at.0, x) = same_Some at (0 + found.at.0, x) (sym named ∙ its_own) in
          let its : at.1 ≡ x = ap (λ (y : ℕ × Execution). y.1) is_at in
          let its_name : exec ≡ at.1.name = found.exec_is ∙ ap (λ (y : Execution). y.name) (sym its) in
          let last : version ≡ current_of at.1 =
          (let n = found.version_is in let m = ap current_of its in omega (arith, n, m, none)) in
          first-round new later v at (subst (λ n. execution_named new n ≡ Some at) its_name named)
          (ap is_over its ∙ found.on) (view ∙ ap (view_of new at) last)

      viewed-round : back ≡ 0 → place ≡ length w.entries → (v : View) → IsViewRead plan closure journal read v
          → InRound v [] new
      viewed-round none here v given =
          let done = answered plan w new (call_entry t.worker read) s (λ refused. cc) in
          let found = read-found plan w from back exec version current t.worker done.answer done.is
          (sym done.reply_is) in
          let view : option_map (λ at. view_of new at version) (execution_named new exec) ≡ Some v =
          subst (λ u. option_map (λ at. view_of u at version) (execution_named u exec) ≡ Some v)
          (world-is here given.0 given.1) given.2 in
          let at = map-some (λ at. view_of new at version) (execution_named new exec) v view in
          found-round found none v at.0 at.1 at.2

  read-stands : read_back t ≡ 0 → (w new : World) (place : ℕ) (o : Op) (r : Reply) (next : Stage)
      → IsDue plan t reading o
      → AfterRead plan closure journal (record { place = place; op = o; reply = r }) r next
      → Step plan w (call_entry t.worker (record { place = place; op = o; reply = r })) new → Before w
      → Called (length w.entries) (record { place = place; op = o; reply = r }) → (rest : List Entry)
      → journal ≡ new.entries ++ rest
      → Stands next new
  read-stands none w new place (op.Read from back) reply.Idle next due after s before called rest all =
      absurd (true≢false called.1)
  read-stands none w new place (op.Read from back) (reply.Viewed exec version current) next due after s before called
      rest all =
      subst (λ x. Stands x new) (sym after.2)
      (viewed-round w new place from back exec version current s before rest all (due.1
      ∙ none) called.0 after.0 after.1)
  read-stands none w new place (op.Read from back) _ next due after s before called rest all = absurd after
  read-stands none w new place _ r next due after s before called rest all = absurd due

  -- ---- the round

  module _ (v : View) (told : List Told) (w new : World) (round : InRound v told w) (place : ℕ) (r : Reply) where
    its_name : v.name ≡ round.at.1.name
    its_name = ap (λ (u : View). u.name) round.sight.view

    its_state : v.state ≡ round.at.1.state
    its_state = ap (λ (u : View). u.state) round.sight.view ∙ state_current round.at.1

    abbrev call_of : Op → Told
    call_of o = record { place = place; op = o; reply = r }

    abbrev StepOf : Op → Type 0
    StepOf o = Step plan w (call_entry t.worker (call_of o)) new

    -- a question was answered
    asked-stands : (q : Question) → next_question plan v told ≡ Some q → (o : Op) → Asks v.name q o → StepOf o
        → (r ≡ reply.NoMemory → ⊥) → InRound v (told ++ call_of o ∷ []) new
    asked-stands q next o asks s found =
        asked-more w new (call_entry t.worker (call_of o)) s v told round (asks-quiet v.name q o asks) (call_of o)
        (λ number p inputs wanted is.
        let same : q ≡ launch p.path None (attempt_at v number) inputs =
        same_Some _ _ (sym next ∙ ap (λ qs. slice_get qs (length told)) (questions-same plan uncached v told) ∙ is) in
        let name = asks-launch v.name p (attempt_at v number) inputs o (subst (λ x. Asks v.name x o) same asks) in (
          name.0,
          name.1,
          launch-launches plan f outer v round.sight.of_plan w round.at round.named its_state number p inputs wanted
              name.0 name.1 t.worker r new (subst StepOf name.2 s) found,
        ))

    -- ---- the Write

    current-is : IsCurrent plan w v round.at
    current-is = record {
      named = round.named;
      version = ap (λ (u : View). u.version) round.sight.view;
      view = ap (λ (u : View). record u { launches = (current_view w round.at).launches }) (sym round.sight.view);
      known = λ p a o is.
          let n = round.has.ends p a o is in
          let settled : is_settled w n.0 ≡ true = ap is_some n.2 in
          let launched = claimed-launched plan closure w round.history n.0
          (settled-claimed plan closure w round.history n.0 settled) in
          let own : IsOwn round.at.1.name p a n.0 = subst (λ x. IsOwn x p a n.0) its_name n.1 in
          ap is_some (outcome-known (current_view w round.at) p a w (current-launches w round.at) n.0 own launched)
          ∙ settled;
    }

    write-stands : (m : Move) (ms : List Move) → round_moves plan v told ≡ m ∷ ms
        → StepOf (op.Write v.name v.version (m ∷ ms))
        → (r ≡ reply.NoMemory → ⊥) → Raised new
    write-stands m ms are s found =
        let rises : Rises plan v 0 (m ∷ ms) =
        subst (Rises plan v 0) are
        (round-rises plan f outer uncached v round.sight.of_plan round.sight.unstored told) in
        let accepted = write-accepted plan w v round.at current-is (m ∷ ms) rises
        (omega arith) new t.worker r s found in
        let e : Reply → Entry = λ x. call_entry t.worker
        (record { place = place; op = op.Write v.name v.version (m ∷ ms); reply = x }) in
        now-raised w new (e r) s round.history round.so_far
        (write-raises plan f outer closure w.entries w round.history new t.worker v.name v.version
        (current_of round.at.1 + 1) (m ∷ ms)
        (subst (λ x. Step plan w (e x) new) accepted s))

    -- ---- the claim

    -- an attempt of a node itself is launched and not claimed
    record IsFree : Type 0 where
      name : AttemptName
      launched : is_launched w name ≡ true
      free : is_claimed w name ≡ false

    free-there : next_question plan v told ≡ None → round_moves plan v told ≡ [] → IsFree
    free-there all quiet =
        let awaits = quiet-round plan f outer uncached v round.sight.of_plan round.sight.runs
        (λ i p planned. round.sight.unstored i) told quiet in
        let number = awaits.number in
        let p = awaits.node in
        let a = attempt_at v number in
        let wanted = wanted-there plan f outer v round.sight.of_plan number p awaits.planned awaits.runs awaits.task in
        let whole = quiet-whole plan f outer v round.sight.of_plan told number p awaits.planned awaits.runs quiet in
        let there = by number p wanted.0 wanted.1 whole (known_attempt v p None a) refl in
        record {
          name = there.0;
          launched = there.2;
          free = unclaimed-is (is_claimed w there.0) (λ claimed.
              true≢false (sym (round.has.claimed p a there.0 there.1 claimed) ∙ ap is_some awaits.unknown));
        }
      where
        unclaimed-is : (b : Bool) → (b ≡ true → ⊥) → b ≡ false
        unclaimed-is true never = absurd (never refl)
        unclaimed-is false never = refl

        by : (number : ℕ) (p : PlanNode) (inputs : LiteralMap) → IsWanted plan v number p inputs
            → is_broken plan v.state [] ≡ false
            → (o : Option Known) → known_attempt v p None (attempt_at v number) ≡ o
            → IsLaunched v p (attempt_at v number) w
        by number p inputs wanted whole (Some k) known = round.has.launched p (attempt_at v number) k known
        by number p inputs wanted whole None unknown =
            let asked = launch-asked plan f outer v round.sight.of_plan whole number p inputs wanted unknown in
            round.asked number p inputs asked.0 wanted (asked-within asked.0 _ asked.1) asked.1
          where
            asked-within : (j : ℕ) (q : Question) → slice_get (questions plan v []) j ≡ Some q → j < length told
            asked-within j q is =
                let none : slice_get (questions plan v []) (length told) ≡ None =
                sym (ap (λ qs. slice_get qs (length told)) (questions-same plan uncached v told)) ∙ all in
                let within = slice_get_within (questions plan v []) j q is in
                ⊎_elim (λ more. absurd (none-some more.0 (sym none ∙ more.2))) (λ past. omega (arith, past.0, within))
                (slice_get_cases (questions plan v []) (length told)).1

    claim-stands : (next : Stage) → AfterClaim plan closure journal (call_of op.Claim) r next → StepOf op.Claim
        → (r ≡ reply.NoMemory → ⊥) → next_question plan v told ≡ None → round_moves plan v told ≡ [] → Stands next new
    claim-stands next after s found all quiet =
        let free = free-there all quiet in
        let hands = claim-hands plan w free.name free.launched free.free t.worker r new s found in
        let e : Reply → Entry = λ x. call_entry t.worker (record { place = place; op = op.Claim; reply = x }) in
        let raised = now-raised w new (e r) s round.history round.so_far
        (claim-raises plan f outer closure w.entries w round.history new t.worker hands.0
        (subst (λ x. Step plan w (e x) new) hands.1 s)) in
        let given = subst (λ x. AfterClaim plan closure journal (call_of op.Claim) x next) hands.1 after in
        subst (λ x. Stands x new) (sym given.2) raised

    -- ---- each call of a round

    quiet-next : (o : Op) (next : Stage) → is_quiet o ≡ true
        → AfterAsked plan closure journal v told (call_of o) o next
        → next ≡ asking v (told ++ call_of o ∷ [])
    quiet-next (op.Write exec base moves) next quiet after = absurd (false≢true quiet)
    quiet-next op.Claim next quiet after = absurd (false≢true quiet)
    quiet-next _ next quiet after = after

    closing-stands : (ms : List Move) → round_moves plan v told ≡ ms → (o : Op) (next : Stage) → o ≡ closing_op v ms
        → AfterAsked plan closure journal v told (call_of o) o next → StepOf o → (r ≡ reply.NoMemory → ⊥)
        → next_question plan v told ≡ None → Stands next new
    closing-stands [] are o next is after s found all =
        claim-stands next (subst (λ x. AfterAsked plan closure journal v told (call_of x) x next) is after)
        (subst StepOf is s) found all are
    closing-stands (m ∷ ms) are o next is after s found all =
        subst (λ x. Stands x new) (sym
        (subst (λ x. AfterAsked plan closure journal v told (call_of x) x next) is after))
        (write-stands m ms are (subst StepOf is s) found)

    round-stands : (o : Op) (next : Stage) → IsDueInRound plan v told (next_question plan v told) o
        → AfterAsked plan closure journal v told (call_of o) o next → StepOf o → (r ≡ reply.NoMemory → ⊥)
        → Stands next new
    round-stands o next due after s found = by (next_question plan v told) refl due
      where
        by : (q : Option Question) → next_question plan v told ≡ q → IsDueInRound plan v told q o → Stands next new
        by (Some q) is asks =
            subst (λ x. Stands x new) (sym (quiet-next o next (asks-quiet v.name q o asks) after))
            (asked-stands q is o asks s found)
        by None is closes = closing-stands (round_moves plan v told) refl o next closes after s found is

  -- ---- all calls

  starts-quiet : (o : Op) → IsDue plan t starting o → is_quiet o ≡ true
  starts-quiet (op.Tick now) due = refl
  starts-quiet _ due = absurd due

  sweeps-quiet : (o : Op) → IsDue plan t sweeping o → is_quiet o ≡ true
  sweeps-quiet op.Sweep due = refl
  sweeps-quiet _ due = absurd due

  claimed-stands : (c : Told) (r : Reply) (next : Stage) (new : World) → AfterClaim plan closure journal c r next
      → Raised new
      → Stands next new
  claimed-stands c reply.Nothing next new after raised = subst (λ x. Stands x new) (sym after) raised
  claimed-stands c (reply.Claimed name) next new after raised = subst (λ x. Stands x new) (sym after.2) raised
  claimed-stands c _ next new after raised = absurd after

  module _ (current : read_back t ≡ 0) where
    after-stands : (at next : Stage) (c : Told) (w new : World) → Stands at w → Call at next c w new
        → (c.reply ≡ reply.NoMemory → ⊥) → After plan closure journal at c next → Stands next new
    after-stands starting next c w new before call found after =
        subst (λ x. Stands x new) (sym after)
        (still-before w new (call_entry t.worker c) call.step before (starts-quiet c.op call.due))
    after-stands sweeping next c w new before call found after =
        subst (λ x. Stands x new) (sym after)
        (still-before w new (call_entry t.worker c) call.step before (sweeps-quiet c.op call.due))
    after-stands reading next c w new before call found after =
        read-stands current w new c.place c.op c.reply next call.due after call.step before call.holds
        call.rest call.rest_is
    after-stands (asking v told) next c w new round call found after =
        round-stands v told w new round c.place c.reply c.op next call.due after call.step found
    after-stands claiming next c w new raised call found after =
        claimed-stands c c.reply next new after (still-raised w new (call_entry t.worker c) call.step raised)
    after-stands (running work) next c w new raised call found after =
        subst (λ x. Stands x new) (sym after) (still-raised w new (call_entry t.worker c) call.step raised)
    after-stands (finishing work) next c w new raised call found after =
        subst (λ x. Stands x new) (sym after) (still-raised w new (call_entry t.worker c) call.step raised)
    after-stands over next c w new raised call found after = absurd after
    after-stands cut next c w new stands call found after = absurd after

    call-stands : (at next : Stage) (c : Told) (w new : World) → Stands at w → Call at next c w new → Stands next new
    call-stands at next c w new stands call =
        ⊎_elim (λ refused. subst (λ x. Stands x new) (sym refused.1) tt)
        (λ found. after-stands at next c w new stands call found.0 found.1)
        (passes-cases plan closure journal at next c.place c.op c.reply call.passes)

-- ---- turns

-- no call was told that all is over
none-idle : (calls : List Told) → is_idle calls ≡ false → All (λ (c : Told). is_idle_reply c.reply ≡ false) calls
none-idle [] e = All-nil (λ (c : Told). is_idle_reply c.reply ≡ false)
none-idle (c ∷ cs) e =
    let parts = or_parts (is_idle_reply c.reply) (is_idle cs) e in
    All-cons (λ (x : Told). is_idle_reply x.reply ≡ false) c cs parts.0 (none-idle cs parts.1)

pub turns-progress : TurnsProgress
turns-progress f t old new calls outer uncached legal_old legal_new adds turn settled current busy =
    let plan = old.plan in
    let closure = old.closure in
    let journal = new.world.entries in
    let start = progress plan old.world in
    let before : Before plan f outer uncached closure journal t start old.world =
    record { history = legal_old; so_far = omega arith; settled = settled-from old.world settled } in
    let long : length journal ≡ length old.world.entries + length calls =
    (let n = length-append old.world.entries (map (call_entry t.worker) calls) in
    omega (arith, n, ap length adds.entries, length-map calls (call_entry t.worker))) in
    let below : All (λ (c : Told). c.place < length old.world.entries + length calls) calls =
    subst (λ n. All (λ (c : Told). c.place < n) calls) long (below-end journal t.worker calls turn.there) in
    let holds = in-place (λ (c : Told). is_idle_reply c.reply ≡ false)
    (length old.world.entries) calls turn.rising adds.later below
    (none-idle calls busy) in
    (walk plan closure journal t (λ n c. (c.place ≡ n) × (is_idle_reply c.reply ≡ false))
    (Stands plan f outer uncached closure journal t start)
    (call-stands plan f outer uncached closure journal t start current)
    starting over calls old.world new.world before turn.goes adds.leads holds refl).more
