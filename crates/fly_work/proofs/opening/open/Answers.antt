use Rattle.fly_work.proofs.OpeningLemmas.{opens-no_tick, opens-no_sweep, opens-no_view, opens-view}
use Rattle.fly_work.proofs.opening.open.Goals as goal

pub returns-in_err-tick-clause-opens : goal.returns-in_err-tick-clause-opens
returns-in_err-tick-clause-opens g c = λ t is from_is back_is.
    opens-no_tick c.from_residual.result c.from_residual.ensures.0 c.in_err-tick.ensures.ticks t is

pub returns-in_err-sweep-clause-opens : goal.returns-in_err-sweep-clause-opens
returns-in_err-sweep-clause-opens g c = λ t is from_is back_is.
    opens-no_sweep c.from_residual-in_err-sweep.result c.from_residual-in_err-sweep.ensures.0 c.in_ok-tick.ensures.alone
    c.in_ok-tick.ensures.ticks c.in_err-sweep.ensures.sweeps t is

pub returns-in_err-view-clause-opens : goal.returns-in_err-view-clause-opens
returns-in_err-view-clause-opens g c = λ t is from_is back_is.
    opens-no_view c.in_ok-tick.ensures.alone c.in_ok-sweep.ensures.alone c.in_ok-tick.ensures.ticks
    c.in_ok-sweep.ensures.sweeps t is from_is back_is
    c.from_residual-in_err-view.result c.from_residual-in_err-view.ensures.0 c.in_err-view.ensures.reads

pub returns-clause-opens : goal.returns-clause-opens
returns-clause-opens g c = λ t is from_is back_is.
    opens-view c.in_ok-tick.ensures.alone c.in_ok-sweep.ensures.alone c.in_ok-tick.ensures.ticks
    c.in_ok-sweep.ensures.sweeps t is from_is back_is
    c.in_ok-view.view c.in_ok-view.ensures.reads
