use Rattle.std.proofs.Common.{ℕ, ◌+◌, ◌≤◌, Some, option_map, ap, sym, subst, ◌∙◌, arith}
use Rattle.std.specs.List.{list_all}
use Rattle.std.specs.Option.{option_map_or}
use Rattle.std.proofs.lemmas.Option.{slice_get_within}
use Rattle.fly_state.specs.declared.moves.Move.{Move}
use Rattle.fly_state.specs.declared.entries.Reply.TheVariants as reply
use Rattle.fly_state.specs.OfPlan.{IsViewOfPlan}
use Rattle.fly_world.specs.declared.answers.Answer.{Answer}
use Rattle.fly_world.specs.Answers.{answer_of, CanMake}
use Rattle.fly_world.specs.Changes.{adds_version, no_change}
use Rattle.fly_world.specs.Steps.{is_in_plan, says, does}
use Rattle.fly_world.specs.Writes.{IsMoved}
use Rattle.fly_world.specs.World.{Execution, execution_named, current_of, view_of}
use Rattle.fly_world.proofs.FinalSlots.{named_there}
use Rattle.fly_world.proofs.ReadLemmas.{numbered-is, numbered-there}
use Rattle.fly_world.proofs.WrittenLemmas.{view-numbered, on-stale, on-current, moved-bad, moved-on}
use Rattle.fly_world.proofs.writes.on_write.Goals as goal
use Rattle.fly_world.proofs.writes.on_write.Goals.{in-Bad, in-To}

pub returns-in_default-execution-clause-answer : goal.returns-in_default-execution-clause-answer
returns-in_default-execution-clause-answer c =
    let w = c.args.store.now.world in
    let exec = c.args.exec.now in
    absurd (numbered-there w (execution_named w exec) (named_there w exec) c.in-Some.number c.in-Some.ensures
    (sym c.in_default-execution.ensures))

pub returns-then-base-current-clause-answer : goal.returns-then-base-current-clause-answer
returns-then-base-current-clause-answer c =
    let s = c.args.store.now in
    let exec = c.args.exec.now in
    let moves = c.args.moves.now in
    let x = c.in-Some-execution.versions.now in
    let named = numbered-is s.world (execution_named s.world exec) (named_there s.world exec) c.in-Some.number
    c.in-Some.ensures x (sym c.in-Some-execution.ensures) in
    let id = sym c.is_id_text.ensures ∙ c.if-not-is_id_text.false in
    let within = sym (c.are_in_plan.ensures
    ∙ (λ k. list_all (λ (m : Move). is_in_plan (c.plan.ensures k) m.at) (c.as_slice.ensures k)))
    ∙ c.if-not-are_in_plan.false in
    ap (λ a. Some (answer_of s.plan s.world a)) c.says-then-base-current.ensures
    ∙ ap (λ n. Some (says (reply.Stale n))) c.number-current.ensures.value
    ∙ sym (on-stale s.plan s.world exec c.args.base moves (c.in-Some.number, x) named id within
    (λ e. c.if-base-current.true (e ∙ sym c.number-current.ensures.value)))

pub move_all-requires : goal.move_all-requires
move_all-requires c =
    let s = c.args.store.now in
    let exec = c.args.exec.now in
    let x = c.in-Some-execution.versions.now in
    let there = sym c.in-Some-execution.ensures in
    let named = numbered-is s.world (execution_named s.world exec) (named_there s.world exec) c.in-Some.number
    c.in-Some.ensures x there in
    let current = c.number-current.result in
    let short : current ≤ current_of x = omega (arith, c.number-current.ensures.value) in
    let seen = view-numbered s.world c.in-Some.number x current c.in-Some-2.view there
    (sym c.in-Some-2.is ∙ c.in_ok-view.ensures) in
    subst (IsViewOfPlan s.plan) (sym seen) (c.requires.of_plan.views exec (c.in-Some.number, x) current named short)

pub returns-clause-answer : goal.returns-clause-answer
returns-clause-answer c =
    let s = c.args.store.now in
    let exec = c.args.exec.now in
    let moves = c.args.moves.now in
    let x = c.in-Some-execution.versions.now in
    let at : ℕ × Execution = (c.in-Some.number, x) in
    let there = sym c.in-Some-execution.ensures in
    let named = numbered-is s.world (execution_named s.world exec) (named_there s.world exec) c.in-Some.number
    c.in-Some.ensures x there in
    let id = sym c.is_id_text.ensures ∙ c.if-not-is_id_text.false in
    let within = sym (c.are_in_plan.ensures
    ∙ (λ k. list_all (λ (m : Move). is_in_plan (c.plan.ensures k) m.at) (c.as_slice.ensures k)))
    ∙ c.if-not-are_in_plan.false in
    let current = c.number-current.ensures.value in
    let seen = view-numbered s.world c.in-Some.number x c.number-current.result c.in-Some-2.view there
    (sym c.in-Some-2.is ∙ c.in_ok-view.ensures) ∙ ap (view_of s.world at) current in
    let round = c.as_slice-2.result.now in
    let answered = on-current s.plan s.world exec c.args.base moves at named id within
    (c.if-base-current.false ∙ current) in
    elim c.match-branch-4.branch [
      | in-Bad b ↦
          ap (λ a. Some (answer_of s.plan s.world a)) (b.result-is ∙ b.says-in-Bad.ensures)
          ∙ sym (answered
          ∙ ap Some (moved-bad s at c.in-Some-2.view seen moves round c.as_slice-2.ensures b.in-Bad.index
          (subst (IsMoved s c.in-Some-2.view round) b.in-Bad.is c.in_ok-index.ensures)))
      | in-To b ↦
          ap (λ a. Some (answer_of s.plan s.world a)) b.result-is
          ∙ ap (λ o. Some (does (reply.Written (c.number-current.result + 1))
          (option_map_or (λ y. adds_version y b.in-To.state)
          (option_map (λ (y : Execution). (c.in-Some.number, y)) o) no_change))) there
          ∙ ap (λ n. Some (does (reply.Written (n + 1)) (adds_version at b.in-To.state))) current
          ∙ sym (answered ∙ ap Some (moved-on s at c.in-Some-2.view seen moves round c.as_slice-2.ensures b.in-To.state
          (subst (IsMoved s c.in-Some-2.view round) b.in-To.is c.in_ok-index.ensures)))
    ]

pub returns-clause-change : goal.returns-clause-change
returns-clause-change c =
    let s = c.args.store.now in
    elim c.match-branch-4.branch [
      | in-Bad b ↦ subst (λ (a : Answer). CanMake s a.change) (sym (b.result-is ∙ b.says-in-Bad.ensures)) tt
      | in-To b ↦ subst (λ (a : Answer). CanMake s a.change) (sym b.result-is)
          (slice_get_within s.world.executions c.in-Some.number c.in-Some-execution.versions.now
          (sym c.in-Some-execution.ensures))
    ]
