-- What the calls of a turn are answered: what a read finds, what is asked, and what a claim hands out.
use Rattle.std.proofs.Common.{◌≡◌, ℕ, ◌-◌, true, false, not, List, [], length, Contains, Option, Some, None, option_map, refl, sym, ◌∙◌, ap, subst, arith}
use Rattle.std.specs.List.{slice_get}
use Rattle.std.specs.Option.{option_map_or}
use Rattle.std.proofs.lemmas.Bool.{false≢true, true≢false, not-true}
use Rattle.std.proofs.lemmas.Option.{same_Some, slice_get_past}
use Rattle.fly_types.specs.declared.text.Text.{Text}
use Rattle.fly_types.specs.declared.literals.LiteralMap.{LiteralMap}
use Rattle.fly_docs.specs.declared.attempt_name.AttemptName.{AttemptName}
use Rattle.fly_docs.specs.Plans.{PlanNode}
use Rattle.fly_state.specs.declared.entries.Op.{Op}
use Rattle.fly_state.specs.declared.entries.Op.TheVariants as op
use Rattle.fly_state.specs.declared.entries.Reply.{Reply}
use Rattle.fly_state.specs.declared.entries.Reply.TheVariants as reply
use Rattle.fly_state.specs.declared.view.View.{View}
use Rattle.fly_state.specs.declared.view.Known.{Known}
use Rattle.fly_state.specs.Plans.{RunPlan}
use Rattle.fly_state.proofs.AskedInputs.{found-in}
use Rattle.fly_world.specs.declared.versions.Past.{Past}
use Rattle.fly_world.specs.World.{World, Execution, Launch, same_name, current_of, state_at, end_of, is_over, world_before, is_launched, is_claimed, unclaimed, launches_of, current_view}
use Rattle.fly_world.specs.Journals.{Step}
use Rattle.fly_world.specs.ReadOff.{claims_by}
use Rattle.fly_world.specs.Steps.{Answer, says, step, read_execution, executions_from, viewed, claimed}
use Rattle.fly_world.proofs.AnswerLemmas.{on_option}
use Rattle.fly_world.proofs.LaunchLemmas.{found_there, named_same, name_of_launch}
use Rattle.fly_world.proofs.ReadLemmas.{read-there}
use Rattle.fly_round.specs.Questions.{Question, look_up, reserve, launch, expire, put, Asks}
use Rattle.fly_work.specs.Turns.{call_entry}
use Rattle.fly_work.proofs.AttemptSpots.{answered}
use Rattle.fly_work.proofs.AttemptSteps.{some-there, none-passes}
use Rattle.fly_work.proofs.QuietSteps.{is_quiet}
use Rattle.fly_work.proofs.ViewLaunches.{IsOwn, before-none}

-- ---- operations

-- a question is asked by a quiet operation
pub asks-quiet : (exec : Text) (q : Question) (o : Op) → Asks exec q o → is_quiet o ≡ true
asks-quiet exec (look_up path) (op.Lookup e p) asks = refl
asks-quiet exec (look_up path) _ asks = absurd asks
asks-quiet exec (reserve path) (op.Reserve e p) asks = refl
asks-quiet exec (reserve path) _ asks = absurd asks
asks-quiet exec (launch path item attempt inputs) (op.Launch name i) asks = refl
asks-quiet exec (launch path item attempt inputs) _ asks = absurd asks
asks-quiet exec (expire path item attempt) (op.Expire name) asks = refl
asks-quiet exec (expire path item attempt) _ asks = absurd asks
asks-quiet exec (put path) (op.Put e p) asks = refl
asks-quiet exec (put path) _ asks = absurd asks

pub quiet-claims : (o : Op) (r : Reply) → is_quiet o ≡ true → claims_by o r ≡ []
quiet-claims op.Claim r quiet = absurd (false≢true quiet)
quiet-claims _ r quiet = refl

-- the launch of an attempt of a node itself is asked by its name
pub asks-launch : (exec : Text) (p : PlanNode) (a : ℕ) (inputs : LiteralMap) (o : Op)
    → Asks exec (launch p.path None a inputs) o
    → (name : AttemptName) × IsOwn exec p a name × (o ≡ op.Launch name inputs)
asks-launch exec p a inputs (op.Launch name i) asks = (name, asks.0, ap (op.Launch name) asks.1)
asks-launch exec p a inputs _ asks = absurd asks

-- ---- views

-- what a view of the current version of an execution shows, with these launches
abbrev pub seen : ℕ × Execution → List Known → View
seen at launches = record {
  exec = at.0;
  name = at.1.name;
  version = current_of at.1;
  current = current_of at.1;
  state = state_at at.1 (current_of at.1);
  launches = launches;
}

-- the current version has no end
no-end : (x : Execution) → end_of x (current_of x) ≡ None
no-end x = ap (option_map (λ (p : Past). p.until)) (slice_get_past x.past (length x.past) (omega arith))

-- it shows all launches of its execution
pub current-launches : (w : World) (at : ℕ × Execution) → (current_view w at).launches ≡ launches_of w at.1.name
current-launches w at =
    ap (λ o. launches_of (world_before w o) at.1.name) (no-end at.1)
    ∙ ap (λ u. launches_of u at.1.name) (before-none w)

-- ---- reads

-- What a read found: an execution that is not over.
pub record IsReadAt (w : World) (back : ℕ) (exec : Text) (version : ℕ) : Type 0 where
  pub at : ℕ × Execution
  pub there : slice_get w.executions at.0 ≡ Some at.1
  pub on : is_over at.1 ≡ false
  pub exec_is : exec ≡ at.1.name
  pub version_is : version ≡ current_of at.1 - back

module _ (plan : RunPlan) (w : World) (from back : ℕ) (exec : Text) (version current : ℕ) where
  abbrev Reads : Answer → Type 0
  Reads a = a.reply ≡ reply.Viewed exec version current → IsReadAt w back exec version

  read-at : (at : ℕ × Execution) → read_execution w from ≡ Some at → Reads (viewed back at)
  read-at at found same = record {
    at = at;
    there = read-there w from at found;
    on = not-true (is_over at.1) (found-in (λ (x : ℕ × Execution). not (is_over x.1))
        (executions_from w from) at found).1;
    exec_is = cc;
    version_is = cc;
  }

  pub read-found : (worker : ℕ) (a : Answer) → step plan w worker (op.Read from back) ≡ Some a → Reads a
  unfolding step
  read-found worker a is =
      subst Reads (same_Some (option_map_or (viewed back) (read_execution w from) (says reply.Idle)) a is)
      (on_option Reads (viewed back) (read_execution w from) (says reply.Idle) read-at (λ same. cc))

-- ---- claims

-- a claim is answered with an attempt where one is launched that nobody has claimed
module _ (plan : RunPlan) (w : World) (name : AttemptName) (launched : is_launched w name ≡ true)
    (free : is_claimed w name ≡ false) where
  abbrev HandsOut : Answer → Type 0
  HandsOut a = (l : Launch) × (a.reply ≡ reply.Claimed l.name)

  unclaimed-there : (l : Launch) × (unclaimed w ≡ Some l)
  unclaimed-there =
      let at = some-there _ launched in
      let same = named_same name_of_launch name w.launches at.0 at.1 in
      let there = found_there (λ (x : Launch). same_name name x.name) w.launches at.0 at.1 in
      by at.0 there (subst (λ n. is_claimed w n ≡ false) same free) (unclaimed w) refl
    where
      by : (l : Launch) → Contains w.launches l → is_claimed w l.name ≡ false → (o : Option Launch) → unclaimed w ≡ o
          → (x : Launch) × (unclaimed w ≡ Some x)
      by l there fresh None none =
          absurd (true≢false (sym (ap not fresh)
          ∙ none-passes (λ (x : Launch). not (is_claimed w x.name)) w.launches l none there))
      by l there fresh (Some x) found = (x, found)

  claim-step : (worker : ℕ) (a : Answer) → step plan w worker op.Claim ≡ Some a → HandsOut a
  unfolding step
  claim-step worker a is =
      let found = unclaimed-there in
      subst HandsOut (same_Some (option_map_or claimed (unclaimed w) (says reply.Nothing)) a is)
      (subst (λ o. HandsOut (option_map_or claimed o (says reply.Nothing))) (sym found.1) (found.0, refl))

  pub claim-hands : (worker : ℕ) (r : Reply) (new : World)
      → Step plan w (call_entry worker (record { place = 0; op = op.Claim; reply = r })) new
      → (r ≡ reply.NoMemory → ⊥) → (n : AttemptName) × (r ≡ reply.Claimed n)
  claim-hands worker r new s found =
      let e = call_entry worker (record { place = 0; op = op.Claim; reply = r }) in
      let done = answered plan w new e s found in
      let out = claim-step worker done.answer done.is in
      (out.0.name, done.reply_is ∙ out.1)
