use Rattle.std.proofs.Common.{◌-◌, Some, ap, sym, ◌∙◌}
use Rattle.std.specs.Option.{option_map_or}
use Rattle.fly_docs.specs.declared.submission.Submission.{Submission}
use Rattle.fly_state.specs.declared.entries.Reply.TheVariants as reply
use Rattle.fly_world.specs.Answers.{answer_of}
use Rattle.fly_world.specs.Steps.{viewed, says, read_execution}
use Rattle.fly_world.proofs.ReadLemmas.{read-there, numbered-is, numbered-there}
use Rattle.fly_world.proofs.views.on_read.Goals as goal

pub returns-in_default-execution-clause-answer : goal.returns-in_default-execution-clause-answer
returns-in_default-execution-clause-answer c =
    let w = c.args.store.now.world in
    absurd (numbered-there w (read_execution w c.args.from) (read-there w c.args.from) c.in-Some.number
    c.in-Some.ensures (sym c.in_default-execution.ensures))

pub returns-clause-answer : goal.returns-clause-answer
returns-clause-answer c =
    let s = c.args.store.now in
    let x = c.in-Some-execution.versions.now in
    let w = s.world in
    let read = numbered-is w (read_execution w c.args.from) (read-there w c.args.from) c.in-Some.number
    c.in-Some.ensures x (sym c.in-Some-execution.ensures) in
    let current = c.number-current.ensures.value in
    let name = c.in_ok-copy.ensures ∙ ap (λ (y : Submission). y.name) c.submission.ensures in
    let version = c.saturating_sub.ensures ∙ ap (λ n. n - c.args.back) current in
    ap (λ a. Some (answer_of s.plan s.world a)) c.says-2.ensures
    ∙ (λ k. Some (says (reply.Viewed (name k) (version k) (current k))))
    ∙ sym (ap (λ o. Some (option_map_or (viewed c.args.back) o (says reply.Idle))) read)
