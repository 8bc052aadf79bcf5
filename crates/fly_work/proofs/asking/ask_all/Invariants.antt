use Rattle.std.proofs.Common.{◌-◌, length}
use Rattle.fly_work.proofs.AskingRounds.{IsAsking}
use Rattle.fly_work.proofs.asking.ask_all.Given as goal

abbrev pub invariant-questions : goal.invariant-questions
invariant-questions g l =
    IsAsking (g.V.Service.alone l.initial.service) (g.V.Service.alone l.service) l.worker l.plan l.fn.view l.round
    (g.V.Service.store l.initial.service) (g.V.Service.store l.service)

abbrev pub decreases-questions : goal.decreases-questions
decreases-questions g l = 2_048 - length l.round.told
