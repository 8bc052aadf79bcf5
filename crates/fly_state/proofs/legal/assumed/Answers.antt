use Rattle.std.proofs.Common.{[], ◌∙◌, ap, sym}
use Rattle.fly_rules.specs.Standing.{is_ready_standing, is_skipped_standing}
use Rattle.fly_state.specs.Standing.{known_standing}
use Rattle.fly_state.proofs.ReadyLemmas.{ready-alike, skipped-alike}
use Rattle.fly_state.proofs.legal.assumed.Goals as goal

pub returns-clause-ready : goal.returns-clause-ready
returns-clause-ready c =
    ap is_ready_standing c.standing_by.ensures
    ∙ sym (ready-alike c.args.p.now c.primary.result.now c.primary.ensures c.order.result.now c.order.ensures
    c.args.state.now c.args.number c.requires (known_standing []))

pub returns-clause-skipped : goal.returns-clause-skipped
returns-clause-skipped c =
    ap is_skipped_standing c.standing_by.ensures
    ∙ sym (skipped-alike c.args.p.now c.primary.result.now c.primary.ensures c.order.result.now c.order.ensures
    c.args.state.now c.args.number c.requires (known_standing []))
