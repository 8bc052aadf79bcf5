use Rattle.std.proofs.Common.{sym, subst}
use Rattle.fly_state.specs.declared.entries.Op.TheVariants as op
use Rattle.fly_state.specs.PlanTables.{IsOuterPlan}
use Rattle.fly_work.specs.Acting.{AddsCall}
use Rattle.fly_work.specs.Stages.{IsDue}
use Rattle.fly_work.proofs.ClosingLemmas.{claims-by}
use Rattle.fly_work.proofs.ReplyLemmas.{claim-stands}
use Rattle.fly_work.proofs.closing.claim.Goals as goal

pub call-called-requires-clause-stands : goal.call-called-requires-clause-stands
call-called-requires-clause-stands g c = claim-stands _ _

pub returns-clause-claims : goal.returns-clause-claims
returns-clause-claims g c = λ t from clock worker due.
    let old = g.V.Service.store c.args.service.now in
    let new = g.V.Service.store c.call-called.new.self in
    let f = c.primary-task_nodes.result.now in
    claims-by t from clock
    (subst (λ n. AddsCall (g.V.Service.alone c.args.service.now) old new n op.Claim c.call-called.result) (sym worker)
    c.call-called.ensures.adds)
    (subst (λ p. IsDue p t from op.Claim) (sym c.requires.own) due) c.legal.ensures f
    (subst (λ p. IsOuterPlan p f) (sym c.requires.own) c.primary-task_nodes.ensures)
    c.claimed_work.result c.claimed_work.ensures
