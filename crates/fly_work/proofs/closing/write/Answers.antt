use Rattle.std.proofs.Common.{sym, subst}
use Rattle.fly_state.specs.declared.entries.Op.TheVariants as op
use Rattle.fly_work.specs.Acting.{AddsCall}
use Rattle.fly_work.proofs.ClosingLemmas.{writes-by}
use Rattle.fly_work.proofs.RoundMoves.{write-stands}
use Rattle.fly_work.proofs.closing.write.Goals as goal

pub call-requires-clause-stands : goal.call-requires-clause-stands
call-requires-clause-stands g c = write-stands _ _ c.requires.round.0 c.requires.round.1 _ _ _ c.requires.round.2

pub returns-clause-writes : goal.returns-clause-writes
returns-clause-writes g c = λ t clock v told worker round some.
    let args = c.args in
    let alone = g.V.Service.alone args.service.now in
    let old = g.V.Service.store args.service.now in
    let new = g.V.Service.store c.call.new.self in
    writes-by t v told clock
    (subst (λ n. AddsCall alone old new n (op.Write args.exec args.base args.moves) c.call.result) (sym worker)
    c.call.ensures.adds)
    round some c.found_memory.result c.found_memory.ensures.ok c.found_memory.ensures.err
