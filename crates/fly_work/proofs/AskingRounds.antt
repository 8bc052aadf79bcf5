-- The questions of a round, asked one after another.
use Rattle.std.proofs.Common.{◌≡◌, ℕ, ◌+◌, ◌-◌, ◌<◌, ◌≤◌, arith, false, ◌||◌, List, [], ◌∷◌, ◌++◌, length, Option, Some, None, Result, Ok, Err, refl, sym, ◌∙◌, ap, subst, length-append}
use Rattle.std.specs.Result.{IfOk}
use Rattle.std.proofs.lemmas.Grind.{flat_map-append}
use Rattle.std.proofs.lemmas.List.Elements.{filter-append}
use Rattle.std.proofs.lemmas.List.Folds.{list_any-append}
use Rattle.fly_ports.specs.Clock.{ClockState}
use Rattle.fly_types.specs.declared.memory.NoMemory.{NoMemory}
use Rattle.fly_docs.specs.declared.workflow.Workflow.{Workflow}
use Rattle.fly_state.specs.declared.moves.Move.{Move}
use Rattle.fly_state.specs.declared.entries.Op.{Op}
use Rattle.fly_state.specs.declared.view.View.{View}
use Rattle.fly_state.specs.OfPlan.{IsViewOfPlan}
use Rattle.fly_state.specs.PlanTables.{IsOuterPlan}
use Rattle.fly_state.specs.Plans.{RunPlan}
use Rattle.fly_world.specs.Kept.{Kept}
use Rattle.fly_round.specs.declared.told.Told.{Told}
use Rattle.fly_round.specs.Moves.{round_moves}
use Rattle.fly_round.specs.Questions.{Question, Asks, AsksWhere, next_question}
use Rattle.fly_round.specs.Rounds.{RoundState, first_round}
use Rattle.fly_round.proofs.ComeLemmas.{asks-some, asks-none}
use Rattle.fly_round.proofs.PathLemmas.{paths-of-ids}
use Rattle.fly_work.specs.Acting.{IsPart}
use Rattle.fly_work.specs.Asking.{AsksOne}
use Rattle.fly_work.specs.Parts.{AsksAll, IsAsked, MayStand}
use Rattle.fly_work.specs.Stages.{Turn, Stage, asking}
use Rattle.fly_work.specs.Turns.{is_idle_reply, is_claim, is_idle, claims_of, outcomes_by, outcomes_of}
use Rattle.fly_work.proofs.ActingLemmas.{part-none, part-both, part-weaker}
use Rattle.fly_work.proofs.QuestionCount.{next-few}
use Rattle.fly_work.proofs.QuestionPaths.{next-path, asks-stands}

-- ---- calls one after another

-- Calls of a worker, each of which asked a question of the round over a view; and where the turn has come with them.
pub record HasAsked (alone : Type 0) (worker : ℕ) (v : View) (calls : List Told) (at : Stage) (old new : Kept)
    : Type 0 where
  pub part : (t : Turn) (clock : ClockState) → t.worker ≡ worker
      → IsPart alone t (asking v []) at old new clock clock calls
  pub claims : claims_of calls ≡ []
  pub outcomes : outcomes_of calls ≡ []
  pub active : is_idle calls ≡ false

asked-none : (alone : Type 0) (worker : ℕ) (v : View) (k : Kept) → HasAsked alone worker v [] (asking v []) k k
asked-none alone worker v k = record {
  part = λ t clock same. part-none alone t (asking v []) k clock;
  claims = refl;
  outcomes = refl;
  active = refl;
}

asked-more : (alone still : Type 0) (worker : ℕ) (round new_round : RoundState) (old mid new : Kept)
    (result : Result (Unit {0}) NoMemory)
    → HasAsked alone worker round.view round.told (asking round.view round.told) old mid → (alone → still)
    → (one : AsksOne still worker round new_round mid new result)
    → HasAsked alone worker round.view (round.told ++ one.call ∷ []) one.at old new
asked-more alone still worker round new_round old mid new result before stays one =
    let told = round.told in
    let last : List Told = one.call ∷ [] in record {
      part = λ t clock same.
          part-both (before.part t clock same) (part-weaker stays (one.part t clock same));
      claims =
          filter-append is_claim told last ∙ ap (λ cs. cs ++ claims_of last) before.claims ∙ one.claims;
      outcomes =
          flat_map-append (λ (c : Told). outcomes_by c.op) told last
          ∙ ap (λ os. os ++ outcomes_of last) before.outcomes ∙ one.outcomes;
      active =
          list_any-append (λ (c : Told). is_idle_reply c.reply) told last
          ∙ ap (λ b. b || is_idle last) before.active ∙ one.active;
    }

-- a turn of the worker, and a clock
abbrev any_turn : ℕ → Turn
any_turn worker = record { worker = worker; number = 0; executions = 0; lag = 0 }

abbrev any_clock : ClockState
any_clock = record { moments = None }

module _ {alone : Type 0} {worker : ℕ} {v : View} {calls : List Told} {at : Stage} {old new : Kept}
    (asked : HasAsked alone worker v calls at old new) where
  asked-plan : new.plan ≡ old.plan
  asked-plan = (asked.part (any_turn worker) any_clock refl).acts.plan

  asked-room : old.spare ≤ new.spare + length calls
  asked-room = (asked.part (any_turn worker) any_clock refl).acts.room

  asks-all : {result : Result (List Move) NoMemory} → length calls ≤ 2_048 → IsAsked old.plan v at result
      → (t : Turn) (clock : ClockState) → t.worker ≡ worker → AsksAll alone t v old new clock result
  asks-all few is_asked t clock same = record {
    calls = calls;
    at = at;
    part = asked.part t clock same;
    few = few;
    claims = asked.claims;
    outcomes = asked.outcomes;
    active = asked.active;
    asked = is_asked;
  }

-- ---- a round

-- a round over a view, with what was told and the question that waits
abbrev pub round_with : RunPlan → View → List Told → Option Op → RoundState
round_with plan v told waiting = record { plan = plan; view = v; told = told; waiting = waiting }

-- A round none of whose questions waits: all that it was told are the calls that asked.
pub record IsAsking (alone still : Type 0) (worker : ℕ) (plan : RunPlan) (v : View) (round : RoundState)
    (old now : Kept) : Type 0 where
  pub round_is : round ≡ round_with plan v round.told None
  pub few : length round.told ≤ 2_048
  pub stays : alone → still
  pub asked : HasAsked alone worker v round.told (asking v round.told) old now

pub asking-first : (alone : Type 0) (worker : ℕ) (plan : RunPlan) (v : View) (round : RoundState) (k : Kept)
    → round ≡ first_round plan v → IsAsking alone alone worker plan v round k k
asking-first alone worker plan v round k is =
    subst (λ (r : RoundState). IsAsking alone alone worker plan v r k k) (sym is) (record {
      round_is = refl;
      few = omega arith;
      stays = λ a. a;
      asked = asked-none alone worker v k;
    })

-- where no moves came of it, no more is said
failed : (plan : RunPlan) (v : View) (at : Stage) (result : Result (List Move) NoMemory) (e : NoMemory)
    → result ≡ Err e → IsAsked plan v at result
failed plan v at result e is = subst (IsAsked plan v at) (sym is) tt

made : (plan : RunPlan) (v : View) (told : List Told) (result : Result (List Move) NoMemory)
    → next_question plan v told ≡ None
    → IfOk result (λ moves. moves ≡ round_moves plan v told) → IsAsked plan v (asking v told) result
made plan v told (Ok moves) none moves_are = (told, refl, none, moves_are)
made plan v told (Err e) none moves_are = tt

module _ {alone still : Type 0} {worker : ℕ} {plan : RunPlan} {w : Workflow} (outer : IsOuterPlan plan w) {v : View}
    (of_plan : IsViewOfPlan plan v) {round : RoundState} {old now : Kept} (own : old.plan ≡ plan)
    (room : 2_048 ≤ old.spare) (is : IsAsking alone still worker plan v round old now) where
  -- the round ends without its moves
  pub asking-failed : (result : Result (List Move) NoMemory) (e : NoMemory) → result ≡ Err e
      → (t : Turn) (clock : ClockState) → t.worker ≡ worker → AsksAll alone t v old now clock result
  asking-failed result e failed_is =
      asks-all is.asked is.few (failed old.plan v (asking v round.told) result e failed_is)

  now-own : now.plan ≡ plan
  now-own = asked-plan is.asked ∙ own

  -- the round asked, and this waits
  module _ {question : Option Op}
      (asks : AsksWhere round.view.name (next_question round.plan round.view round.told) question)
      {waiting : RoundState} (waits : waiting ≡ record round { waiting = question }) where
    abbrev before : RoundState
    before = round_with plan v round.told question

    abbrev found : Option Question
    found = next_question plan v round.told

    own-asks : AsksWhere v.name found question
    own-asks =
        subst (λ (r : RoundState). AsksWhere r.view.name (next_question r.plan r.view round.told) question)
        is.round_is asks

    own-waits : waiting ≡ before
    own-waits = waits ∙ ap (λ (r : RoundState). record r { waiting = question }) is.round_is

    -- nothing: all questions were asked, and these are the moves
    pub asking-done : question ≡ None → (result : Result (List Move) NoMemory)
        → IfOk result (λ moves. moves ≡ round_moves waiting.plan waiting.view waiting.told)
        → (t : Turn) (clock : ClockState) → t.worker ≡ worker → AsksAll alone t v old now clock result
    asking-done nothing result moves_are =
        let none : found ≡ None = asks-none v.name found (subst (AsksWhere v.name found) nothing own-asks) in
        let own_moves =
        subst (λ (r : RoundState). IfOk result (λ moves. moves ≡ round_moves r.plan r.view r.told)) own-waits
        moves_are in
        asks-all is.asked is.few
        (subst (λ p. IsAsked p v (asking v round.told) result) (sym own)
        (made plan v round.told result none own_moves))

    pub asking-own : now.plan ≡ waiting.plan
    asking-own = now-own ∙ sym (ap (λ (r : RoundState). r.plan) own-waits)

    -- an operation
    module _ {o : Op} (something : question ≡ Some o) where
      next : (q : Question) × (found ≡ Some q) × Asks v.name q o
      next = asks-some v.name found o (subst (AsksWhere v.name found) something own-asks)

      left : length round.told < 2_048
      left = next-few plan w outer v of_plan round.told next.0 next.1

      pub asking-room : 0 < now.spare
      asking-room =
          let few = left in
          let spent = asked-room is.asked in
          omega (arith, few, spent, room)

      pub asking-stands : MayStand now.plan worker o
      asking-stands =
          asks-stands now.plan v.name worker next.0 o of_plan.name
          (next-path plan v round.told (paths-of-ids plan w outer) next.0 next.1) next.2

      module _ {new : Kept} {new_round : RoundState} where
        -- no memory was found for it
        pub asking-cut : {d : NoMemory} → AsksOne still worker waiting new_round now new (Err d)
            → (result : Result (List Move) NoMemory) (e : NoMemory) → result ≡ Err e
            → (t : Turn) (clock : ClockState) → t.worker ≡ worker → AsksAll alone t v old new clock result
        asking-cut {d = d} asked result e failed_is =
            let one = subst (λ (r : RoundState). AsksOne still worker r new_round now new (Err d)) own-waits asked in
            let few = left in
            let most : length (round.told ++ one.call ∷ []) ≤ 2_048 =
            omega (arith, few, length-append round.told (one.call ∷ [])) in
            asks-all (asked-more alone still worker before new_round old now new (Err d) is.asked is.stays one) most
            (failed old.plan v one.at result e failed_is)

        module _ {d : Unit {0}} (asked : AsksOne still worker waiting new_round now new (Ok d)) where
          one : AsksOne still worker before new_round now new (Ok d)
          one = subst (λ (r : RoundState). AsksOne still worker r new_round now new (Ok d)) own-waits asked

          more-told : length (round.told ++ one.call ∷ []) ≡ length round.told + 1
          more-told = length-append round.told (one.call ∷ [])

          -- it was told
          pub asking-more : {later : Type 0} → (still → later) → IsAsking alone later worker plan v new_round old new
          asking-more {later = later} stays =
              let more : List Told = round.told ++ one.call ∷ [] in
              let few = left in
              let count = more-told in
              let at_is : one.at ≡ asking v more = one.told.1 ∙ ap (λ (r : RoundState). asking v r.told) one.told.0 in
              subst (λ (r : RoundState). IsAsking alone later worker plan v r old new) (sym one.told.0) (record {
                round_is = refl;
                few = omega (arith, few, count);
                stays = λ a. stays (is.stays a);
                asked =
                    subst (λ s. HasAsked alone worker v more s old new) at_is
                    (asked-more alone still worker before new_round old now new (Ok d) is.asked is.stays one);
              })

          -- and fewer than all are left
          pub asking-smaller : 2_048 - length new_round.told < 2_048 - length round.told
          asking-smaller =
              let few = left in
              let count : length new_round.told ≡ length round.told + 1 =
              ap (λ (r : RoundState). length r.told) one.told.0 ∙ more-told in
              omega (arith, few, count)
