use Rattle.std.proofs.Common.{◌≡◌, length, get_or, ap, ◌∙◌, arith}
use Rattle.fly_state.specs.declared.entries.Entry.{Entry}
use Rattle.fly_state.specs.PlanTables.{outer_node}
use Rattle.fly_state.proofs.EffectLemmas.{cited-hit}
use Rattle.fly_state.proofs.OuterPlans.{planned-outer}
use Rattle.fly_state.proofs.node_slots.hit_slot.Goals as goal

pub bounds-cited-0 : goal.bounds-cited-0
bounds-cited-0 c =
    let plan = c.args.p.now in
    let v = c.args.v.now in
    let i = c.args.number in
    let node = planned-outer plan c.primary.result.now c.primary.ensures i c.requires.number in
    let p = outer_node c.primary.result.now (i, node.0) in
    let hit = cited-hit plan v i p node.1 c.args.cited.now 0 c.requires.legal in
    let one : length c.args.cited.now ≡ 1 = ap length hit.alone in
    omega (arith, one)

pub unreachable-requires : goal.unreachable-requires
unreachable-requires c =
    let plan = c.args.p.now in
    let v = c.args.v.now in
    let i = c.args.number in
    let node = planned-outer plan c.primary.result.now c.primary.ensures i c.requires.number in
    let p = outer_node c.primary.result.now (i, node.0) in
    let hit = cited-hit plan v i p node.1 c.args.cited.now 0 c.requires.legal in
    let entry = c.index-cited-0.result in
    let same : entry ≡ hit.entry = c.index-cited-0.is ∙ ap (λ es. get_or es 0 entry) hit.alone in
    c.in_default.not-Hit hit.content (ap (λ (e : Entry). e.reply) same ∙ hit.says)
