use Rattle.std.proofs.Common.{◌≡◌, Ok, sym, subst}
use Rattle.fly_round.specs.Rounds.{RoundState, with_answer}
use Rattle.fly_work.specs.Asking.{AsksOne}
use Rattle.fly_work.proofs.AskingLemmas.{asks-later, asks-cut, asks-told}
use Rattle.fly_work.proofs.asking.ask_one.Goals as goal

pub call-called-requires-clause-later : goal.call-called-requires-clause-later
call-called-requires-clause-later g c = asks-later _ _ c.args.op c.requires.question

pub returns-in-NoMemory-clause-asks : goal.returns-in-NoMemory-clause-asks
returns-in-NoMemory-clause-asks g c =
    asks-cut (g.V.Service.alone c.args.service.now) c.args.worker c.args.round.now
    (g.V.Service.store c.args.service.now) (g.V.Service.store c.call-called.new.self) c.args.op c.call-called.result
    c.requires.own c.requires.question c.call-called.ensures.adds c.in-NoMemory.is c.args.round.now (record {})

pub tell-requires : goal.tell-requires
tell-requires g c = (c.args.op, c.requires.waits)

pub returns-clause-asks : goal.returns-clause-asks
returns-clause-asks g c =
    let round = c.args.round.now in
    let alone = g.V.Service.alone c.args.service.now in
    let old = g.V.Service.store c.args.service.now in
    let new = g.V.Service.store c.call-called.new.self in
    let called = c.call-called.result in
    let answered : RoundState = with_answer round c.args.op called.place called.reply in
    let asked : AsksOne alone c.args.worker round answered old new (Ok tt) =
    asks-told alone c.args.worker round old new c.args.op called c.requires.own c.requires.question
    c.call-called.ensures.adds c.in_default.not-NoMemory in
    let told : c.tell.new.self ≡ answered = c.tell.ensures c.args.op c.requires.waits in
    subst (λ (new_round : RoundState). AsksOne alone c.args.worker round new_round old new (Ok tt)) (sym told) asked
