use Rattle.fly_app.proofs.AcceptingLemmas.{ready}
use Rattle.fly_app.proofs.accepting.fit.Goals as goal

pub returns-in-Ok : goal.returns-in-Ok
returns-in-Ok c =
    ready c.args.plan.now c.args.submissions c.in-Ok.fitted c.in-Ok.ensures.ok (c.in-Ok.ensures.opens c.requires.ids)
