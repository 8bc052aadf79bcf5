-- Behind a whole turn of a worker that acts alone each claimed attempt has an outcome, where that was so before it.
use Rattle.std.proofs.Common.{◌≡◌, inl, inr, ⊎_elim, ℕ, Bool, true, false, List, [], ◌∷◌, length, Contains, Option, Some, None, option_map, refl, sym, ◌∙◌, ap, subst}
use Rattle.std.proofs.lemmas.Bool.{true≢false}
use Rattle.std.proofs.lemmas.Option.{none-some, same_Some}
use Rattle.fly_graph.proofs.Members.{Contains-nil}
use Rattle.fly_cast.proofs.Options.{map-some}
use Rattle.fly_docs.specs.declared.attempt_name.AttemptName.{AttemptName}
use Rattle.fly_state.specs.declared.entries.Entry.{Entry}
use Rattle.fly_state.specs.declared.entries.Op.{Op}
use Rattle.fly_state.specs.declared.entries.Op.TheVariants as op
use Rattle.fly_state.specs.declared.entries.Reply.{Reply}
use Rattle.fly_state.specs.declared.entries.Reply.TheVariants as reply
use Rattle.fly_state.specs.declared.view.View.{View}
use Rattle.fly_state.specs.Plans.{RunPlan}
use Rattle.fly_state.proofs.FinalLemmas.{option_and_then-there}
use Rattle.fly_state.proofs.Lists.{in_one}
use Rattle.fly_world.specs.declared.work.Work.{Work}
use Rattle.fly_world.specs.World.{World, Launch, launch_of, is_claimed, is_settled}
use Rattle.fly_world.specs.Work.{task_of_attempt, work_for, work_of}
use Rattle.fly_world.specs.Journals.{IsHistory, Step}
use Rattle.fly_world.specs.ReadOff.{claims_by}
use Rattle.fly_round.specs.declared.told.Told.{Told}
use Rattle.fly_work.specs.Stages.{Turn, Stage, starting, sweeping, reading, asking, claiming, running, finishing, over, cut, IsDue, AfterRead, AfterClaim, AfterAsked, After}
use Rattle.fly_work.specs.Turns.{call_entry}
use Rattle.fly_work.specs.Progress.{TurnsSettle}
use Rattle.fly_work.proofs.TurnWalks.{IsTurnCall, history-step, walk, holds-nothing, passes-cases}
use Rattle.fly_work.proofs.AttemptSteps.{IsSettledBut, settled-from, settled-to, settled-stays, claimed-stays, claimed-cases, claims-there}
use Rattle.fly_work.proofs.AttemptSpots.{finish-settles}

-- ---- calls that claim nothing

abbrev is_claim_op : Op → Bool
is_claim_op op.Claim = true
is_claim_op _ = false

claims-nothing : (o : Op) (r : Reply) → is_claim_op o ≡ false → claims_by o r ≡ []
claims-nothing op.Claim r e = absurd (true≢false e)
claims-nothing _ r e = refl

-- ---- the work of a claim

work-named : (plan : RunPlan) (w : World) (name : AttemptName) (work : Work) → work_of plan w name ≡ Some work
    → work.name ≡ name
work-named plan w name work is =
    let l = option_and_then-there (λ (x : Launch). option_map (work_for name x.inputs) (task_of_attempt plan name))
    (launch_of w name) work is in
    let t = map-some (work_for name l.0.inputs) (task_of_attempt plan name) work l.2 in
    ap (λ (k : Work). k.name) t.2

module _ (plan : RunPlan) (closure : List ℕ) (journal : List Entry) (t : Turn) where
  abbrev Nothing : ℕ → Told → Type 0
  Nothing n c = Unit {0}

  abbrev Call : Stage → Stage → Told → World → World → Type 0
  Call = IsTurnCall plan closure journal t Nothing

  -- each claimed attempt has an outcome
  record Fine (w : World) : Type 0 where
    history : IsHistory plan closure w.entries w
    settled : IsSettledBut None w

  -- each claimed attempt has an outcome, but the one that was claimed last
  record Open (work : Work) (w : World) : Type 0 where
    history : IsHistory plan closure w.entries w
    claimed : is_claimed w work.name ≡ true
    others : IsSettledBut (Some work.name) w

  -- what stands at a stage
  abbrev Stands : Stage → World → Type 0
  Stands (running work) w = Open work w
  Stands (finishing work) w = Open work w
  Stands cut w = Unit {0}
  Stands _ w = Fine w

  -- ---- steps

  module _ (w new : World) (e : Entry) (s : Step plan w e new) where
    still-settled : (one : Option AttemptName) → IsSettledBut one w → claims_by e.op e.reply ≡ []
        → IsSettledBut one new
    still-settled one settled none name claimed =
        ⊎_elim
        (λ before. ⊎_elim (λ is. inl (settled-stays plan w new e s name is)) inr (settled name before))
        (λ here. absurd (Contains-nil name (subst (λ ns. Contains ns name) none here)))
        (claimed-cases plan w new e s name claimed)

    still-fine : Fine w → claims_by e.op e.reply ≡ [] → Fine new
    still-fine fine none = record {
      history = history-step plan closure w new e fine.history s;
      settled = still-settled None fine.settled none;
    }

    still-open : (work : Work) → Open work w → claims_by e.op e.reply ≡ [] → is_claimed new work.name ≡ true
        → Open work new
    still-open work left none claimed = record {
      history = history-step plan closure w new e left.history s;
      claimed = claimed;
      others = still-settled (Some work.name) left.others none;
    }

    now-open : (work : Work) → Fine w → claims_by e.op e.reply ≡ work.name ∷ [] → Open work new
    now-open work fine one = record {
      history = history-step plan closure w new e fine.history s;
      claimed = claims-there plan w new e s work.name one;
      others = λ name claimed.
          ⊎_elim
          (λ before. ⊎_elim (λ is. inl (settled-stays plan w new e s name is)) (λ other. absurd (none-some name other))
          (fine.settled name before))
          (λ here. inr (ap Some (in_one work.name name (subst (λ ns. Contains ns name) one here))))
          (claimed-cases plan w new e s name claimed);
    }

  -- ---- calls

  -- at a stage whose call claims nothing
  quiet-call : (w new : World) (c : Told) → Step plan w (call_entry t.worker c) new → Fine w
      → is_claim_op c.op ≡ false → Fine new
  quiet-call w new c s fine quiet = still-fine w new (call_entry t.worker c) s fine (claims-nothing c.op c.reply quiet)

  starts-quiet : (o : Op) → IsDue plan t starting o → is_claim_op o ≡ false
  starts-quiet (op.Tick now) due = refl
  starts-quiet _ due = absurd due

  sweeps-quiet : (o : Op) → IsDue plan t sweeping o → is_claim_op o ≡ false
  sweeps-quiet op.Sweep due = refl
  sweeps-quiet _ due = absurd due

  reads-quiet : (o : Op) → IsDue plan t reading o → is_claim_op o ≡ false
  reads-quiet (op.Read from back) due = refl
  reads-quiet _ due = absurd due

  runs-quiet : (work : Work) (o : Op) → IsDue plan t (running work) o → is_claim_op o ≡ false
  runs-quiet work (op.Tick now) due = refl
  runs-quiet work _ due = absurd due

  claims-claim : (o : Op) → IsDue plan t claiming o → o ≡ op.Claim
  claims-claim op.Claim due = refl
  claims-claim _ due = absurd due

  -- behind a read there is nothing new that is claimed
  read-fine : (w : World) (c : Told) (r : Reply) (next : Stage) → AfterRead plan closure journal c r next → Fine w
      → Stands next w
  read-fine w c reply.Idle next after fine = subst (λ s. Stands s w) (sym after) fine
  read-fine w c (reply.Viewed exec version current) next after fine = subst (λ s. Stands s w) (sym after.2) fine
  read-fine w c _ next after fine = absurd after

  -- behind a claim there is at most one
  claim-stands : (w new : World) (place : ℕ) (r : Reply) (next : Stage)
      → AfterClaim plan closure journal (record { place = place; op = op.Claim; reply = r }) r next
      → Step plan w (call_entry t.worker (record { place = place; op = op.Claim; reply = r })) new → Fine w
      → Stands next new
  claim-stands w new place reply.Nothing next after s fine =
      subst (λ x. Stands x new) (sym after) (still-fine w new _ s fine refl)
  claim-stands w new place (reply.Claimed name) next after s fine =
      let work = after.0 in
      let named : work.name ≡ name = work-named plan after.1.0 name work after.1.2 in
      subst (λ x. Stands x new) (sym after.2) (now-open w new _ s work fine (ap (λ n. n ∷ []) (sym named)))
  claim-stands w new place _ next after s fine = absurd after

  asked-stands : (w new : World) (v : View) (told : List Told) (place : ℕ) (o : Op) (r : Reply) (next : Stage)
      → AfterAsked plan closure journal v told (record { place = place; op = o; reply = r }) o next
      → Step plan w (call_entry t.worker (record { place = place; op = o; reply = r })) new → Fine w → Stands next new
  asked-stands w new v told place op.Claim r next after s fine = claim-stands w new place r next after s fine
  asked-stands w new v told place (op.Write exec base moves) r next after s fine =
      subst (λ x. Stands x new) (sym after) (still-fine w new _ s fine refl)
  asked-stands w new v told place _ r next after s fine =
      subst (λ x. Stands x new) (sym after) (still-fine w new _ s fine refl)

  ends-fine : (w new : World) (work : Work) (place : ℕ) (o : Op) (r : Reply) → IsDue plan t (finishing work) o
      → (r ≡ reply.NoMemory → ⊥)
      → Step plan w (call_entry t.worker (record { place = place; op = o; reply = r })) new → Open work w → Fine new
  ends-fine w new work place (op.Finish name o) r due found s left = record {
    history = history-step plan closure w new _ left.history s;
    settled = λ other claimed.
        ⊎_elim
        (λ before. ⊎_elim (λ is. inl (settled-stays plan w new _ s other is))
        (λ same. inl (subst (λ n. is_settled new n ≡ true) (due ∙ same_Some work.name other same)
        (finish-settles plan closure w left.history t.worker name o r
        (subst (λ n. is_claimed w n ≡ true) (sym due) left.claimed) new s found)))
        (left.others other before))
        (λ here. absurd (Contains-nil other here))
        (claimed-cases plan w new _ s other claimed);
  }
  ends-fine w new work place _ r due found s left = absurd due

  after-stands : (at next : Stage) (c : Told) (w new : World) → Stands at w → Call at next c w new
      → (c.reply ≡ reply.NoMemory → ⊥) → After plan closure journal at c next → Stands next new
  after-stands starting next c w new fine call found after =
      subst (λ s. Stands s new) (sym after) (quiet-call w new c call.step fine (starts-quiet c.op call.due))
  after-stands sweeping next c w new fine call found after =
      subst (λ s. Stands s new) (sym after) (quiet-call w new c call.step fine (sweeps-quiet c.op call.due))
  after-stands reading next c w new fine call found after =
      read-fine new c c.reply next after (quiet-call w new c call.step fine (reads-quiet c.op call.due))
  after-stands (asking v told) next c w new fine call found after =
      asked-stands w new v told c.place c.op c.reply next after call.step fine
  after-stands claiming next c w new fine call found after =
      claim-stands w new c.place c.reply next after
      (subst (λ o. Step plan w (call_entry t.worker (record { place = c.place; op = o; reply = c.reply })) new)
      (claims-claim c.op call.due) call.step) fine
  after-stands (running work) next c w new left call found after =
      subst (λ s. Stands s new) (sym after)
      (still-open w new (call_entry t.worker c) call.step work left
      (claims-nothing c.op c.reply (runs-quiet work c.op call.due))
      (claimed-stays plan w new (call_entry t.worker c) call.step work.name left.claimed))
  after-stands (finishing work) next c w new left call found after =
      subst (λ s. Stands s new) (sym after) (ends-fine w new work c.place c.op c.reply call.due found call.step left)
  after-stands over next c w new fine call found after = absurd after
  after-stands cut next c w new fine call found after = absurd after

  call-stands : (at next : Stage) (c : Told) (w new : World) → Stands at w → Call at next c w new → Stands next new
  call-stands at next c w new stands call =
      ⊎_elim (λ refused. subst (λ s. Stands s new) (sym refused.1) tt)
      (λ found. after-stands at next c w new stands call found.0 found.1)
      (passes-cases plan closure journal at next c.place c.op c.reply call.passes)

pub turns-settle : TurnsSettle
turns-settle f t old new calls outer legal_old legal_new adds turn settled =
    let fine : Fine old.plan old.closure new.world.entries t old.world =
    record { history = legal_old; settled = settled-from old.world settled } in
    settled-to new.world
    (walk old.plan old.closure new.world.entries t (λ n c. Unit {0}) (Stands old.plan old.closure new.world.entries t)
    (call-stands old.plan old.closure new.world.entries t) starting over calls old.world new.world fine
    turn.goes adds.leads
    (holds-nothing (length old.world.entries) calls) refl).settled
