use Rattle.std.proofs.Common.{◌≡◌, Some, refl, sym, ◌∙◌, ap}
use Rattle.fly_world.specs.Answers.{answer_of, answer_in}
use Rattle.fly_world.specs.Steps.{step}
use Rattle.fly_world.proofs.WorldLemmas.{legal_more, change-can, other-nowhere, change-step}
use Rattle.fly_world.proofs.SoundLemmas.{legal-sound}
use Rattle.fly_world.proofs.world.World.admit.Goals as goal

pub answer_to-requires : goal.answer_to-requires
answer_to-requires c =
    let s = c.self.inside.store in
    legal-sound s.plan _ c.self.inside.closure s.world.entries s.world s.spare
    (rw c.plan.ensures at c.primary-task_nodes.ensures) c.self.invariant

pub add_entry-requires-clause-of_plan : goal.add_entry-requires-clause-of_plan
add_entry-requires-clause-of_plan c =
    let s = c.self.inside.store in
    legal-sound s.plan _ c.self.inside.closure s.world.entries s.world s.spare
    (rw c.plan.ensures at c.primary-task_nodes.ensures) c.self.invariant

pub returns-in_default-change_by : goal.returns-in_default-change_by
returns-in_default-change_by c =
    let s = c.self.inside.store in
    let e = c.args.entry in
    let h : Some (answer_of s.plan s.world c.in-Some.answer) ≡ step s.plan s.world e.worker e.op =
    ap (answer_in s) (sym c.in-Some.is) ∙ c.in_ok-answer.ensures.answer in
    rw (← c.self.view_is) (
      c.len-place.ensures,
      other-nowhere s.plan s.world e c.in-Some.answer h
          (rw c.in_default-change_by.is at c.change_by.ensures),
      refl,
    )

pub invariant_of-self-2 : goal.invariant_of-self-2
invariant_of-self-2 c =
    let s = c.self.inside.store in
    let e = c.args.entry in
    let h : Some (answer_of s.plan s.world c.in-Some.answer) ≡ step s.plan s.world e.worker e.op =
    ap (answer_in s) (sym c.in-Some.is) ∙ c.in_ok-answer.ensures.answer in
    rw c.in_ok-add_entry.ensures.ok
    (legal_more s.plan c.self.inside.closure s.world _ e c.self.invariant
    (change-step s.plan s.world e c.self.inside.closure c.in-Some.answer c.in-Some-change_by.change c.self.invariant h
    c.in-Some-change_by.ensures))

pub returns : goal.returns
returns c =
    let s = c.self.inside.store in
    let e = c.args.entry in
    let h : Some (answer_of s.plan s.world c.in-Some.answer) ≡ step s.plan s.world e.worker e.op =
    ap (answer_in s) (sym c.in-Some.is) ∙ c.in_ok-answer.ensures.answer in
    rw (c.in_ok-add_entry.ensures.ok, ← c.self.view_is) (
      change-step s.plan s.world e c.self.inside.closure c.in-Some.answer c.in-Some-change_by.change c.self.invariant h
          c.in-Some-change_by.ensures,
      refl,
    )
