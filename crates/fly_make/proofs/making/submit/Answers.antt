use Rattle.std.proofs.Common.{◌≡◌, ap, ◌∙◌}
use Rattle.std.proofs.lemmas.Result.{on_ok_weaker}
use Rattle.fly_world.specs.Kept.{Kept}
use Rattle.fly_make.proofs.OpeningLemmas.{stands-there, called-there, submit-replies, submit-opens}
use Rattle.fly_make.proofs.making.submit.Goals as goal

pub perform-called-requires-clause-stands : goal.perform-called-requires-clause-stands
perform-called-requires-clause-stands c =
    stands-there c.args.world.now c.reserve.new.self _ c.in_ok-op.op c.requires.begins c.in_ok-reserve.ensures.ok
    c.in_ok-op.ensures c.requires.inputs

pub submitted-requires : goal.submitted-requires
submitted-requires c =
    let k = c.args.world.now in
    let new = c.perform-called.new.self in
    submit-replies k.plan k.closure new.world c.perform-called.result c.requires.inputs
    (called-there k c.reserve.new.self _ c.in_ok-op.op new.world c.perform-called.result c.requires.begins
    c.in_ok-reserve.ensures.ok c.in_ok-op.ensures
    c.perform-called.ensures.called)

pub returns-clause-opened : goal.returns-clause-opened
returns-clause-opened c =
    let k = c.args.world.now in
    let new = c.perform-called.new.self in
    let called = called-there k c.reserve.new.self _ c.in_ok-op.op new.world c.perform-called.result
    c.requires.begins c.in_ok-reserve.ensures.ok c.in_ok-op.ensures
    c.perform-called.ensures.called in
    let closure : new.closure ≡ k.closure =
    ap (λ (x : Kept). x.closure) c.perform-called.ensures.moved
    ∙ ap (λ (x : Kept). x.closure) c.in_ok-reserve.ensures.ok in
    on_ok_weaker c.submitted.result
    (submit-opens k.plan k.closure new c.perform-called.result c.requires.inputs called closure)
    c.submitted.ensures
