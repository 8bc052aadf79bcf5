use Rattle.std.proofs.Common.{sym, ◌∙◌}
use Rattle.fly_state.proofs.EffectNodes.{no-item-move}
use Rattle.fly_state.proofs.effects.effect_of.Goals as goal

pub unreachable-requires : goal.unreachable-requires
unreachable-requires c =
    no-item-move c.args.p.now c.primary.result.now c.primary.ensures c.args.v.now c.requires.state c.args.cited.now
    c.args.m.now c.in-Some.number c.in-Some-item.field-0 c.in-Some.is c.in-Some-item.is
    (sym c.legal_move.ensures ∙ c.if-not-legal_move.false)
