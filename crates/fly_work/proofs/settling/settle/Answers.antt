use Rattle.std.proofs.Common.{w64, sym, subst}
use Rattle.std.proofs.lemmas.Int.{to_z-of_z}
use Rattle.fly_state.specs.declared.entries.Op.TheVariants as op
use Rattle.fly_work.specs.Acting.{AddsCall}
use Rattle.fly_work.proofs.ReplyLemmas.{tick-stands}
use Rattle.fly_work.proofs.SettlingLemmas.{settles-tick, settles-both}
use Rattle.fly_work.proofs.settling.settle.Goals as goal

pub call-requires-clause-stands : goal.call-requires-clause-stands
call-requires-clause-stands g c = tick-stands _ _ _

pub returns-in_err-found_memory-clause-settles : goal.returns-in_err-found_memory-clause-settles
returns-in_err-found_memory-clause-settles g c = λ t work worker named.
    let alone = g.V.Service.alone c.args.service.now in
    let old = g.V.Service.store c.args.service.now in
    let new = g.V.Service.store c.call.new.self in
    let same = to_z-of_z w64 c.now-now.result (record { sfits = c.now-now.type_inv }) in
    settles-tick t work _ _ c.args.outcome c.from_residual.result
    (subst (λ n. AddsCall alone old new n (op.Tick c.now-now.result) c.call.result) (sym worker)
    (subst (λ m. AddsCall alone old new c.args.worker (op.Tick m) c.call.result) same c.call.ensures.adds))
    c.now-now.ensures c.in_err-found_memory.ensures.err c.from_residual.ensures.0

pub returns-clause-settles : goal.returns-clause-settles
returns-clause-settles g c = λ t work worker named.
    let alone = g.V.Service.alone c.args.service.now in
    let less = g.V.Service.alone c.call.new.self in
    let old = g.V.Service.store c.args.service.now in
    let mid = g.V.Service.store c.call.new.self in
    let new = g.V.Service.store c.call-2.new.self in
    let same = to_z-of_z w64 c.now-now.result (record { sfits = c.now-now.type_inv }) in
    settles-both t work _ _ named c.call.ensures.alone
    (subst (λ n. AddsCall alone old mid n (op.Tick c.now-now.result) c.call.result) (sym worker)
    (subst (λ m. AddsCall alone old mid c.args.worker (op.Tick m) c.call.result) same c.call.ensures.adds))
    c.now-now.ensures c.in_ok-found_memory.ensures.ok
    (subst (λ n. AddsCall less mid new n (op.Finish c.args.name c.args.outcome) c.call-2.result) (sym worker)
    c.call-2.ensures.adds)
    c.found_memory-2.result c.found_memory-2.ensures.ok c.found_memory-2.ensures.err
