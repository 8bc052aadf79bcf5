use Rattle.std.proofs.lemmas.Result.{on_ok_weaker}
use Rattle.fly_opening.proofs.Opened.{taken-stands, taken-replies, taken-leaves}
use Rattle.fly_opening.proofs.opening.submit.Goals as goal

pub perform-called-requires-clause-stands : goal.perform-called-requires-clause-stands
perform-called-requires-clause-stands c =
    let k = c.args.world.now in taken-stands k.plan k.world c.args.submission c.requires.stands

pub submitted-requires : goal.submitted-requires
submitted-requires c =
    let k = c.args.world.now in
    taken-replies k.plan k.world c.perform-called.new.self.world c.args.submission c.perform-called.result
    c.requires.stands c.perform-called.ensures.called

pub returns : goal.returns
returns c =
    let k = c.args.world.now in
    on_ok_weaker c.submitted.result
    (taken-leaves k c.perform-called.new.self c.args.submission c.perform-called.result c.requires.stands
    c.perform-called.ensures.called c.perform-called.ensures.moved)
    c.submitted.ensures
