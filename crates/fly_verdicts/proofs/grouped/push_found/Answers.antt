use Rattle.std.proofs.lemmas.Result.{on_ok_weaker}
use Rattle.fly_verdicts.specs.Grouped.{lists_of}
use Rattle.fly_verdicts.proofs.GroupLemmas.{found-pushed}
use Rattle.fly_verdicts.proofs.grouped.push_found.Goals as goal

pub returns-in-Some : goal.returns-in-Some
returns-in-Some g c =
    on_ok_weaker c.push_at.result
    (found-pushed c.args.number c.in-Some.item c.args.item c.in-Some.is (lists_of c.args.table.now.items)
    (lists_of c.push_at.new.table.items)) c.push_at.ensures
