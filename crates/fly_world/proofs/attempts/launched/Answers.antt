use Rattle.std.proofs.Common.{◌≡◌, Some, is_some, true, false, sym, ◌∙◌, ap}
use Rattle.fly_attempts.specs.Attempts.{number_of}
use Rattle.fly_state.specs.declared.entries.Reply.TheVariants as reply
use Rattle.fly_world.specs.World.{is_launched}
use Rattle.fly_world.specs.Answers.{answer_of}
use Rattle.fly_world.specs.Changes.{adds_launch}
use Rattle.fly_world.specs.Steps.{does}
use Rattle.fly_world.proofs.AttemptLemmas.{launched-number, launched-already, launched-idle, launched-other, launched-new}
use Rattle.fly_world.proofs.attempts.launched.Goals as goal

pub returns-then-is_some-clause-answer : goal.returns-then-is_some-clause-answer
returns-then-is_some-clause-answer c = λ place at.
    let s = c.args.store.now in
    let name = c.args.name.now in
    let was : is_launched s.world name ≡ true =
    sym (launched-number s.world name) ∙ ap (λ a. is_some (number_of a name)) (sym c.attempts.ensures)
    ∙ ap is_some (sym c.in_ok-number_of.ensures) ∙ sym c.is_some.ensures ∙ c.if-is_some.true in
    ap (λ a. Some (answer_of s.plan s.world a)) c.says.ensures
    ∙ ap Some (sym (launched-already s.plan s.world name c.args.inputs.now place was))

pub returns-then-not-runs-clause-answer : goal.returns-then-not-runs-clause-answer
returns-then-not-runs-clause-answer c = λ place at.
    let s = c.args.store.now in
    let name = c.args.name.now in
    let not_yet : is_launched s.world name ≡ false =
    sym (launched-number s.world name) ∙ ap (λ a. is_some (number_of a name)) (sym c.attempts.ensures)
    ∙ ap is_some (sym c.in_ok-number_of.ensures) ∙ sym c.is_some.ensures ∙ c.if-is_some.false in
    ap (λ a. Some (answer_of s.plan s.world a)) c.says-then-not-runs.ensures
    ∙ ap Some (sym (launched-idle s.plan s.world name c.args.inputs.now place not_yet
    (sym (c.runs.ensures place at) ∙ c.if-not-runs.true)))

pub returns-then-not-branch-clause-answer : goal.returns-then-not-branch-clause-answer
returns-then-not-branch-clause-answer c = λ place at.
    let s = c.args.store.now in
    let name = c.args.name.now in
    let not_yet : is_launched s.world name ≡ false =
    sym (launched-number s.world name) ∙ ap (λ a. is_some (number_of a name)) (sym c.attempts.ensures)
    ∙ ap is_some (sym c.in_ok-number_of.ensures) ∙ sym c.is_some.ensures ∙ c.if-is_some.false in
    ap (λ a. Some (answer_of s.plan s.world a)) c.says-then-not-branch.ensures
    ∙ ap Some (sym (launched-other s.plan s.world name c.args.inputs.now place not_yet
    (sym (c.runs.ensures place at) ∙ c.if-not-runs.false)
    (sym (c.in_ok-has_inputs.ensures place at) ∙ c.if-not-branch.true)))

pub returns-clause-answer : goal.returns-clause-answer
returns-clause-answer c = λ place at.
    let s = c.args.store.now in
    let name = c.args.name.now in
    let not_yet : is_launched s.world name ≡ false =
    sym (launched-number s.world name) ∙ ap (λ a. is_some (number_of a name)) (sym c.attempts.ensures)
    ∙ ap is_some (sym c.in_ok-number_of.ensures) ∙ sym c.is_some.ensures ∙ c.if-is_some.false in
    (λ i. Some (does reply.Launched (adds_launch (c.in_ok-copy.ensures i) (c.in_ok-copy-2.ensures i))))
    ∙ ap Some (sym (launched-new s.plan s.world name c.args.inputs.now place not_yet
    (sym (c.runs.ensures place at) ∙ c.if-not-runs.false)
    (sym (c.in_ok-has_inputs.ensures place at) ∙ c.if-not-branch.false)))
