use Rattle.std.proofs.Common.{not, ◌||◌, Some, sym, ◌∙◌, ap}
use Rattle.fly_state.specs.States.{is_final, is_not_yet_started}
use Rattle.fly_world.specs.Steps.{reserved}
use Rattle.fly_world.proofs.CacheLemmas.{said, at_cached, reserved-ready}
use Rattle.fly_world.proofs.FoundSpots.{names_of-spot}
use Rattle.fly_world.proofs.cache.on_reserve.Goals as goal

pub returns-in-Says-clause-answer : goal.returns-in-Says-clause-answer
returns-in-Says-clause-answer c =
    let s = c.args.store.now in
    said s c.args.exec.now c.args.path.now (reserved s.world) c.in-Says.reply c.says.result c.in-Says.ensures
    c.says.ensures

pub returns-in_ok-granted-in-At-clause-answer : goal.returns-in_ok-granted-in-At-clause-answer
returns-in_ok-granted-in-At-clause-answer c =
    let s = c.args.store.now in
    let at = c.in-At.ensures in
    let names = names_of-spot s.plan s.world c.args.exec.now c.args.path.now at.1 at.3 in
    let t = c.in-At.task.now in
    let ready =
    ap (λ phase. (not t.serializable || is_not_yet_started phase) || is_final phase)
    (sym (c.phase_of.ensures at.1 at.2))
    ∙ sym c.has_no_turn.ensures
    ∙ c.if-has_no_turn.false in
    c.in_ok-granted-in-At.ensures.answer at.1 at.2 names.0 names.1
    ∙ sym (at_cached s c.args.exec.now c.args.path.now (reserved s.world) at.1 t at.0 at.3 at.4
    ∙ ap Some (reserved-ready s.world at.1 t ready))

pub returns-in_ok-granted-in-At-clause-change : goal.returns-in_ok-granted-in-At-clause-change
returns-in_ok-granted-in-At-clause-change c =
    let s = c.args.store.now in
    let at = c.in-At.ensures in
    let names = names_of-spot s.plan s.world c.args.exec.now c.args.path.now at.1 at.3 in
    c.in_ok-granted-in-At.ensures.change at.1 at.2 names.0 names.1
