use Rattle.std.proofs.Common.{refl}
use Rattle.std.proofs.lemmas.Result.{err_from_is_err_and}
use Rattle.fly_round.specs.Rounds.{first_round}
use Rattle.fly_work.proofs.AskingRounds.{asking-first, asking-failed, asking-done, asking-own, asking-room, asking-stands, asking-cut, asking-more, asking-smaller}
use Rattle.fly_work.proofs.asking.ask_all.Goals as goal

pub returns-in_err-round-clause-asks : goal.returns-in_err-round-clause-asks
returns-in_err-round-clause-asks g c =
    let p = err_from_is_err_and c.from_residual.result c.from_residual.ensures.1 in
    asking-failed c.primary.ensures c.requires.of_plan c.requires.own c.requires.room
    (asking-first (g.V.Service.alone c.args.service.now) c.args.worker c.args.plan.now c.args.view
    (first_round c.args.plan.now c.args.view) (g.V.Service.store c.args.service.now) refl)
    c.from_residual.result p.0 p.1

pub questions-init : goal.questions-init
questions-init g c =
    asking-first (g.V.Service.alone c.args.service.now) c.args.worker c.args.plan.now c.args.view c.in_ok-round.round
    (g.V.Service.store c.args.service.now) c.in_ok-round.ensures

pub returns-in_err-op-clause-asks : goal.returns-in_err-op-clause-asks
returns-in_err-op-clause-asks g c =
    let p = err_from_is_err_and c.from_residual-in_err-op.result c.from_residual-in_err-op.ensures.1 in
    asking-failed c.primary.ensures c.requires.of_plan c.requires.own c.requires.room c.questions.invariant
    c.from_residual-in_err-op.result p.0 p.1

pub ask_one-requires-clause-own : goal.ask_one-requires-clause-own
ask_one-requires-clause-own g c =
    asking-own c.primary.ensures c.requires.of_plan c.requires.own c.requires.room c.questions.invariant
    c.in_ok-op.ensures.question c.in_ok-op.ensures.state

pub ask_one-requires-clause-stands : goal.ask_one-requires-clause-stands
ask_one-requires-clause-stands g c =
    asking-stands c.primary.ensures c.requires.of_plan c.requires.own c.requires.room c.questions.invariant
    c.in_ok-op.ensures.question c.in_ok-op.ensures.state c.in-Some.is

pub ask_one-requires-clause-room : goal.ask_one-requires-clause-room
ask_one-requires-clause-room g c =
    asking-room c.primary.ensures c.requires.of_plan c.requires.own c.requires.room c.questions.invariant
    c.in_ok-op.ensures.question c.in_ok-op.ensures.state c.in-Some.is

pub questions-smaller : goal.questions-smaller
questions-smaller g c =
    asking-smaller c.primary.ensures c.requires.of_plan c.requires.own c.requires.room c.questions.invariant
    c.in_ok-op.ensures.question c.in_ok-op.ensures.state c.in-Some.is c.in_ok-ask_one.ensures.asks

pub questions-preserved : goal.questions-preserved
questions-preserved g c =
    asking-more c.primary.ensures c.requires.of_plan c.requires.own c.requires.room c.questions.invariant
    c.in_ok-op.ensures.question c.in_ok-op.ensures.state c.in-Some.is c.in_ok-ask_one.ensures.asks
    c.in_ok-ask_one.ensures.alone

pub returns-in_err-ask_one-clause-asks : goal.returns-in_err-ask_one-clause-asks
returns-in_err-ask_one-clause-asks g c =
    let p = err_from_is_err_and c.from_residual-in_err-ask_one.result c.from_residual-in_err-ask_one.ensures.1 in
    asking-cut c.primary.ensures c.requires.of_plan c.requires.own c.requires.room c.questions.invariant
    c.in_ok-op.ensures.question c.in_ok-op.ensures.state c.in-Some.is c.in_err-ask_one.ensures.asks
    c.from_residual-in_err-ask_one.result p.0 p.1

pub returns-clause-asks : goal.returns-clause-asks
returns-clause-asks g c =
    asking-done c.primary.ensures c.requires.of_plan c.requires.own c.requires.room c.questions.invariant
    c.in_ok-op.ensures.question c.in_ok-op.ensures.state c.in_default.is c.finish.result c.finish.ensures
