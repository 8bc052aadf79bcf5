use Rattle.fly_work.proofs.OpeningLemmas.{sweep-stands, is-swept}
use Rattle.fly_work.proofs.opening.sweep.Goals as goal

pub call-requires-clause-stands : goal.call-requires-clause-stands
call-requires-clause-stands g c = sweep-stands (g.V.Service.store c.args.service.now).plan c.args.worker

pub returns-clause-sweeps : goal.returns-clause-sweeps
returns-clause-sweeps g c = record {
  called = c.call.result;
  adds = c.call.ensures.adds;
  told = is-swept c.call.ensures.adds c.found_memory.result c.found_memory.ensures.ok c.found_memory.ensures.err;
}
