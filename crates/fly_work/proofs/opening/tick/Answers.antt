use Rattle.std.proofs.Common.{SFits, w64, rules}
use Rattle.std.proofs.lemmas.Int.{to_z-of_z}
use Rattle.fly_work.proofs.OpeningLemmas.{tick-stands, is-ticked}
use Rattle.fly_work.proofs.opening.tick.Goals as goal

pub call-requires-clause-stands : goal.call-requires-clause-stands
call-requires-clause-stands g c = tick-stands (g.V.Service.store c.args.service.now).plan c.args.worker _

pub returns-clause-ticks : goal.returns-clause-ticks
returns-clause-ticks g c =
    let fits : SFits w64 c.now-now.result = search rules in
    record {
      now = c.now-now.result;
      called = c.call.result;
      adds = rw (to_z-of_z w64 c.now-now.result fits) at c.call.ensures.adds;
      gives = c.now-now.ensures;
      told = is-ticked c.call.ensures.adds c.found_memory.result c.found_memory.ensures.ok c.found_memory.ensures.err;
    }
