use Rattle.std.proofs.Common.{is_some, None, option_map, sym, ap, ◌∙◌}
use Rattle.std.specs.Option.{option_copied}
use Rattle.std.proofs.lemmas.Bool.{false≢true}
use Rattle.std.proofs.lemmas.Option.{same_Some}
use Rattle.fly_docs.specs.Plans.{PlanNode}
use Rattle.fly_state.specs.declared.slots.SlotState.{SlotState}
use Rattle.fly_state.specs.Moves.{outcome_in}
use Rattle.fly_state.specs.PlanTables.{outer_node}
use Rattle.fly_state.proofs.EffectLemmas.{settled-outcome}
use Rattle.fly_state.proofs.OuterPlans.{planned-outer}
use Rattle.fly_state.proofs.settling.settled_slot.Goals as goal

pub unreachable-requires : goal.unreachable-requires
unreachable-requires c =
    let plan = c.args.p.now in
    let v = c.args.v.now in
    let i = c.args.number in
    let node = planned-outer plan c.primary.result.now c.primary.ensures i c.requires.number in
    let p : PlanNode = outer_node c.primary.result.now (i, node.0) in
    let path = same_Some _ _ (sym (ap (option_map (λ (q : PlanNode). q.path)) node.1) ∙ c.path_of.ensures) in
    let told = sym (c.outcome_in.ensures p path) ∙ ap option_copied c.in_default.is in
    let own = ap (λ (slot : SlotState). outcome_in v p None slot.attempt) c.in_ok-slot.ensures in
    false≢true (sym (ap is_some (sym own ∙ told)) ∙ settled-outcome plan v i p node.1 c.requires.legal)
