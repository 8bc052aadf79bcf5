use Rattle.std.proofs.Common.{◌∙◌, ap, sym}
use Rattle.fly_rules.specs.Standing.{standing_among}
use Rattle.fly_state.specs.PlanTables.{outer_node}
use Rattle.fly_state.specs.Standing.{known_standing, signs_at}
use Rattle.fly_state.proofs.OuterPlans.{planned-outer, case-none}
use Rattle.fly_state.proofs.StandingLemmas.{by_outer}
use Rattle.fly_state.proofs.plan.Plan.standing_by.Goals as goal

pub returns : goal.returns
returns c =
    let plan = c.args.self.now in
    let i = c.args.number in
    let s = c.args.state.now in
    let known = known_standing c.args.known.now in
    let w = c.primary.result.now in
    let node = planned-outer plan w c.primary.ensures i c.requires in
    c.standing_among.ensures
    ∙ ap (λ us. standing_among (signs_at s known us)) c.looks.ensures
    ∙ sym (by_outer plan s i (outer_node w (i, node.0)) known node.1 (case-none plan w c.primary.ensures (outer_node w (i, node.0))))
