-- The first submission of a run.
use Rattle.std.proofs.Common.{◌≡◌, ◌⊎◌, ℕ, true, List, [], ◌∷◌, length, Option, Some, IsSome, inl, inr, subst, refl, sym, ap, ◌∙◌}
use Rattle.fly_state.specs.declared.entries.Op.{Op}
use Rattle.fly_state.specs.declared.entries.Reply.{Reply}
use Rattle.fly_state.specs.declared.entries.Reply.TheVariants as reply
use Rattle.fly_state.specs.Plans.{RunPlan}
use Rattle.fly_state.specs.States.{first_state}
use Rattle.fly_world.specs.declared.called.Called.{Called}
use Rattle.fly_world.specs.World.{World, unsettled}
use Rattle.fly_world.specs.Called.{IsCalled, entry_of}
use Rattle.fly_world.specs.Changes.{adds_execution}
use Rattle.fly_world.specs.Journals.{IsStepBy, beginning, begun_world}
use Rattle.fly_world.specs.Kept.{Kept, begun}
use Rattle.fly_world.specs.Steps.{Answer, does, are_workflow_inputs, step}
use Rattle.fly_make.specs.Making.{made_submission, made_op, opening, IsOpened}

-- what a begun run answers to the submission
abbrev submitted_answer : RunPlan → Answer
submitted_answer plan = does reply.Submitted
    (adds_execution made_submission.name made_submission.inputs (first_state plan made_submission.inputs))

submit-step : (plan : RunPlan) (hash : List ℕ) → are_workflow_inputs plan made_submission.inputs ≡ true
    → step plan (begun_world hash) 0 made_op ≡ Some (submitted_answer plan)
unfolding step
submit-step plan hash are = rw are refl

pub submit-stands : (plan : RunPlan) (hash : List ℕ) → are_workflow_inputs plan made_submission.inputs ≡ true
    → IsSome (step plan (begun_world hash) 0 made_op)
submit-stands plan hash are = rw (submit-step plan hash are) refl

-- the call is answered, or found no memory
submit-steps : (plan : RunPlan) (hash : List ℕ) (new : World) (c : Called)
    → are_workflow_inputs plan made_submission.inputs ≡ true
    → IsCalled plan (begun_world hash) new 0 made_op c
    → IsStepBy (begun_world hash) (entry_of 0 made_op c.reply) new (Some (submitted_answer plan))
submit-steps plan hash new c are called =
    subst (λ (a : Option Answer). IsStepBy (begun_world hash) (entry_of 0 made_op c.reply) new a)
    (submit-step plan hash are) called.step

pub submit-replies : (plan : RunPlan) (hash : List ℕ) (new : World) (c : Called)
    → are_workflow_inputs plan made_submission.inputs ≡ true
    → IsCalled plan (begun_world hash) new 0 made_op c → (c.reply ≡ reply.Submitted) ⊎ (c.reply ≡ reply.NoMemory)
submit-replies plan hash new c are called = by (submit-steps plan hash new c are called)
  where
    by : IsStepBy (begun_world hash) (entry_of 0 made_op c.reply) new (Some (submitted_answer plan))
        → (c.reply ≡ reply.Submitted) ⊎ (c.reply ≡ reply.NoMemory)
    by (inl answered) = inl answered.reply
    by (inr refused) = inr refused.reply

-- where it was answered, the run is opened
pub submit-opens : (plan : RunPlan) (hash : List ℕ) (new : Kept) (c : Called)
    → are_workflow_inputs plan made_submission.inputs ≡ true
    → IsCalled plan (begun_world hash) new.world 0 made_op c → new.closure ≡ hash → c.reply ≡ reply.Submitted
    → IsOpened new
submit-opens plan hash new c are called closure is = by (submit-steps plan hash new.world c are called)
  where
    by : IsStepBy (begun_world hash) (entry_of 0 made_op c.reply) new.world (Some (submitted_answer plan))
        → IsOpened new
    by (inl answered) = record {
      entries = ap (λ (w : World). w.entries) answered.world
          ∙ ap (λ (r : Reply). beginning hash ∷ entry_of 0 made_op r ∷ []) is ∙ ap opening (sym closure);
      one = ap (λ (w : World). length w.executions) answered.world;
      settled = ap unsettled answered.world;
    }
    by (inr refused) = let both : reply.Submitted ≡ reply.NoMemory = sym is ∙ refused.reply in absurd (cc both)

-- ---- from the store that has begun, and then made room

-- the plan, and the world in which the run has begun
room-plan : (k m : Kept) (n : ℕ) → m ≡ record k { spare = n } → m.plan ≡ k.plan
room-plan k m n room = ap (λ (x : Kept). x.plan) room

room-world : (k m : Kept) (n : ℕ) → k ≡ begun k.plan k.closure → m ≡ record k { spare = n }
    → m.world ≡ begun_world k.closure
room-world k m n begins room = ap (λ (x : Kept). x.world) room ∙ ap (λ (x : Kept). x.world) begins

pub stands-there : (k m : Kept) (n : ℕ) (o : Op) → k ≡ begun k.plan k.closure → m ≡ record k { spare = n } → o ≡ made_op
    → are_workflow_inputs k.plan made_submission.inputs ≡ true → IsSome (step m.plan m.world 0 o)
stands-there k m n o begins room is are = rw (is, room-plan k m n room, room-world k m n begins room)
    (submit-stands k.plan k.closure are)

pub called-there : (k m : Kept) (n : ℕ) (o : Op) (new : World) (c : Called) → k ≡ begun k.plan k.closure
    → m ≡ record k { spare = n } → o ≡ made_op
    → IsCalled m.plan m.world new 0 o c → IsCalled k.plan (begun_world k.closure) new 0 made_op c
called-there k m n o new c begins room is called =
    subst (λ (p : Op). IsCalled k.plan (begun_world k.closure) new 0 p c) is
    (subst (λ (w : World). IsCalled k.plan w new 0 o c) (room-world k m n begins room)
    (subst (λ (plan : RunPlan). IsCalled plan m.world new 0 o c) (room-plan k m n room) called))
