use Rattle.std.proofs.Common.{sym, ◌∙◌}
use Rattle.std.proofs.lemmas.Bool.{true≢false}
use Rattle.fly_work.proofs.OpeningLemmas.{read-stands, reads-view, reads-nothing}
use Rattle.fly_work.proofs.opening.read.Goals as goal
use Rattle.fly_work.proofs.opening.read.Goals.{in-Idle, in_default}

pub call-reply-requires-clause-stands : goal.call-reply-requires-clause-stands
call-reply-requires-clause-stands g c =
    read-stands (g.V.Service.store c.args.service.now).plan c.args.worker c.args.from c.args.back

pub returns-in-Some-clause-reads : goal.returns-in-Some-clause-reads
returns-in-Some-clause-reads g c =
    reads-view c.worlds_are_of_plan.ensures c.primary-task_nodes.ensures c.requires.own c.legal.ensures
    c.call-reply.ensures.adds c.in-Some.is

pub returns-clause-reads : goal.returns-clause-reads
returns-clause-reads g c =
    reads-nothing c.worlds_are_of_plan.ensures c.primary-task_nodes.ensures c.requires.own c.legal.ensures
    c.call-reply.ensures.adds
    (elim c.match-matches.branch [
      | in-Idle w ↦ λ idle. true≢false (sym w.matches-is ∙ c.if-matches.false)
      | in_default w ↦ w.in_default.not-Idle
    ])
