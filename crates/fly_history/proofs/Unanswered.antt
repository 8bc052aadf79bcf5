-- In a plan of nodes that are not cached no look-up gets an answer from the catalog, and so a journal records none.
use Rattle.std.proofs.Common.{◌≡◌, inl, inr, ℕ, Bool, true, false, List, [], ◌∷◌, ◌++◌, flat_map, find, All, Option, Some, None, option_map, option_and_then, option_to_list, refl, sym, ◌∙◌, ap, subst}
use Rattle.std.specs.List.{list_any, slice_get}
use Rattle.std.proofs.lemmas.Bool.{true≢false, or_left}
use Rattle.std.proofs.lemmas.List.Elements.{All-contains}
use Rattle.std.proofs.lemmas.Option.{none-some}
use Rattle.fly_types.specs.declared.text.Text.{Text}
use Rattle.fly_types.specs.declared.literals.LiteralMap.{LiteralMap}
use Rattle.fly_docs.specs.declared.task.Task.{Task}
use Rattle.fly_state.specs.declared.moves.Move.{Move}
use Rattle.fly_state.specs.declared.entries.Entry.{Entry}
use Rattle.fly_state.specs.declared.entries.Op.{Op}
use Rattle.fly_state.specs.declared.entries.Op.TheVariants as op
use Rattle.fly_state.specs.declared.entries.Reply.TheVariants as reply
use Rattle.fly_state.specs.Moves.{where_true, is_cached}
use Rattle.fly_state.specs.OfPlan.{IsEntryOfPlan}
use Rattle.fly_state.specs.Plans.{RunPlan, Path, same_path, task_of}
use Rattle.fly_state.proofs.FinalLemmas.{where_true-test, option_and_then-there}
use Rattle.fly_world.specs.World.{World, execution_named}
use Rattle.fly_world.specs.Journals.{IsStepBy, Step}
use Rattle.fly_world.specs.ReadOff.{lookup_result, lookup_place, hits_of_move, written_moves, hits_in}
use Rattle.fly_world.specs.Spots.{Spot, spot_of, cached_task, are_ids}
use Rattle.fly_world.specs.Steps.{Answer, says, step, if_known, on_cached, looked_up, on_lookup}
use Rattle.fly_world.proofs.AnswerLemmas.{on_option, allowed}
use Rattle.fly_world.proofs.StepLemmas.{spot_at}
use Rattle.fly_world.proofs.TypeLemmas.{contained}
use Rattle.fly_eval.specs.Laws.{HasHitsOf}
use Rattle.fly_agreement.specs.Laws.{HasNoCached}
use Rattle.fly_history.specs.Recorded.{recorded_hits}

-- ---- steps

module _ (plan : RunPlan) (uncached : HasNoCached plan) (w : World) where
  module _ (exec : Text) (path : Path) where
    -- the catalog gave no answer
    abbrev IsUnanswered : Answer → Type 0
    IsUnanswered a = lookup_result (record { worker = 0; op = op.Lookup exec path; reply = a.reply }) ≡ []

    not-cached : (spot : Spot) → spot_of plan w exec path ≡ Some spot → (t : Task)
        → cached_task plan spot.node ≡ Some t → ⊥
    not-cached spot there t cached =
        let at = spot_at plan path (execution_named w exec) spot there in
        let task = option_and_then-there (λ (x : Task). where_true x.cached (Some x)) (task_of plan spot.node) t
        cached in
        let keeps = where_true-test task.0.cached (Some task.0) t task.2 in
        let is : is_cached plan spot.node ≡ true =
        ap (λ o. list_any (λ (x : Task). x.cached) (option_to_list o)) task.1 ∙ or_left task.0.cached false keeps in
        true≢false (sym is ∙ uncached spot.number spot.node at.2)

    cached-unanswered : (spot : Spot) → spot_of plan w exec path ≡ Some spot
        → IsUnanswered (on_cached plan spot (looked_up w spot))
    cached-unanswered spot there =
        on_option IsUnanswered (looked_up w spot) (cached_task plan spot.node) (says reply.NotReady)
        (λ t cached. absurd (not-cached spot there t cached)) refl

    lookup-unanswered : (a : Answer) → on_lookup plan w exec path ≡ Some a → IsUnanswered a
    lookup-unanswered a h =
        let f : Spot → Answer = λ spot. on_cached plan spot (looked_up w spot) in
        allowed IsUnanswered (are_ids exec path) (if_known f (spot_of plan w exec path)) a h
        (on_option IsUnanswered f (spot_of plan w exec path) (says reply.Unknown) cached-unanswered refl)

    answer-unanswered : (worker : ℕ) (a : Answer) → step plan w worker (op.Lookup exec path) ≡ Some a → IsUnanswered a
    unfolding step
    answer-unanswered worker a h = lookup-unanswered a h

    by-unanswered : (e : Entry) (new : World) (o : Option Answer) → step plan w e.worker (op.Lookup exec path) ≡ o
        → IsStepBy w e new o
        → lookup_result (record { worker = e.worker; op = op.Lookup exec path; reply = e.reply }) ≡ []
    by-unanswered e new None h s = absurd s
    by-unanswered e new (Some a) h (inl answered) =
        subst (λ r. lookup_result (record { worker = e.worker; op = op.Lookup exec path; reply = r }) ≡ [])
        (sym answered.reply)
        (answer-unanswered e.worker a h)
    by-unanswered e new (Some a) h (inr refused) =
        subst (λ r. lookup_result (record { worker = e.worker; op = op.Lookup exec path; reply = r }) ≡ [])
        (sym refused.reply) refl

  -- no step is a look-up that the catalog answered
  pub step-unanswered : (e : Entry) (new : World) → Step plan w e new → lookup_result e ≡ []
  step-unanswered e new s = by e.op s
    where
      by : (o : Op) → IsStepBy w e new (step plan w e.worker o)
          → lookup_result (record { worker = e.worker; op = o; reply = e.reply }) ≡ []
      by (op.Lookup exec path) s = by-unanswered exec path e new (step plan w e.worker (op.Lookup exec path)) refl s
      by _ s = refl

-- ---- journals

-- no look-up of the journal was answered
abbrev pub AreUnanswered : List Entry → Type 0
AreUnanswered journal = All (λ (e : Entry). lookup_result e ≡ []) journal

module _ (journal : List Entry) (none : AreUnanswered journal) where
  place-unanswered : (place : Option ℕ) → flat_map lookup_result
      (option_to_list (option_and_then (slice_get journal) place)) ≡ []
  place-unanswered place = by (option_and_then (slice_get journal) place) refl
    where
      by : (o : Option Entry) → option_and_then (slice_get journal) place ≡ o
          → flat_map lookup_result (option_to_list o) ≡ []
      by None is = refl
      by (Some e) is =
          let at = option_and_then-there (slice_get journal) place e is in
          ap (λ xs. xs ++ []) (All-contains (λ (x : Entry). lookup_result x ≡ []) journal e none
          (contained journal at.0 e at.2))

  moves-unanswered : (moves : List Move) → flat_map (hits_of_move journal) moves ≡ []
  moves-unanswered [] = refl
  moves-unanswered (m ∷ moves) =
      ap (λ xs. xs ++ flat_map (hits_of_move journal) moves) (place-unanswered (lookup_place m.step))
      ∙ moves-unanswered moves

  -- so it records no answers of the catalog
  pub no-hits : (exec : Text) → hits_in journal exec ≡ []
  no-hits exec = moves-unanswered (flat_map (written_moves exec) journal)

  -- and any other records those that it does
  pub hits-grow : (later : List Entry) (exec : Text) → HasHitsOf (recorded_hits later exec) (recorded_hits journal exec)
  hits-grow later exec path answer is =
      let of_path : Path × Option LiteralMap → Bool = λ h. same_path path h.0 in
      let told : Path × Option LiteralMap → Option LiteralMap = λ h. h.1 in
      absurd (none-some answer (sym (ap (λ hs. option_map told (find of_path hs)) (no-hits exec)) ∙ is))

-- what was not answered is of the plan
pub entry-of_plan : (plan : RunPlan) (e : Entry) → lookup_result e ≡ [] → IsEntryOfPlan plan e
entry-of_plan plan e none exec path content i p is_op is_reply number planned =
    let found : lookup_result e ≡ (path, Some content) ∷ [] =
    λ k. lookup_result (record { worker = e.worker; op = is_op k; reply = is_reply k }) in
    absurd (none-some (path, Some content) (ap (λ hs. slice_get hs 0) (sym none ∙ found)))
