use Rattle.std.proofs.Common.{is_some, refl, sym, ap, ◌∙◌, arith}
use Rattle.std.specs.Prelude.{List}
use Rattle.std.proofs.lemmas.Option.{slice_get_past}
use Rattle.fly_state.specs.declared.entries.Entry.{Entry}
use Rattle.fly_state.specs.Moves.{node_effect}
use Rattle.fly_state.specs.PlanTables.{outer_node}
use Rattle.fly_state.proofs.MoveLemmas.{legal-nowhere, legal-barred, legal-node, legal-item}
use Rattle.fly_state.proofs.OuterPlans.{planned-outer}
use Rattle.fly_state.proofs.OuterTypes.{known-types}
use Rattle.fly_state.proofs.legal.legal_move.Goals as goal

pub is_root_step-requires : goal.is_root_step-requires
is_root_step-requires c =
    known-types c.args.p.now c.primary.result.now c.primary.ensures c.args.v.now.state c.requires.state

pub is_node_step-requires-clause-known : goal.is_node_step-requires-clause-known
is_node_step-requires-clause-known c =
    known-types c.args.p.now c.primary.result.now c.primary.ensures c.args.v.now.state c.requires.state

pub returns-then-number-len : goal.returns-then-number-len
returns-then-number-len c =
    let plan = c.args.p.now in
    let i = c.in-Some.number in
    sym (legal-nowhere plan c.args.v.now c.args.cited.now c.args.m.now i c.in-Some.is
    (slice_get_past plan.nodes i (omega (arith, c.len.ensures, c.if-number-len.true))))

pub returns-then-not-may_step : goal.returns-then-not-may_step
returns-then-not-may_step c =
    let plan = c.args.p.now in
    let w = c.primary.result.now in
    let i = c.in-Some.number in
    let node = planned-outer plan w c.primary.ensures i (omega (arith, c.len.ensures, c.if-number-len.false)) in
    sym (legal-barred plan c.args.v.now c.args.cited.now c.args.m.now i c.in-Some.is
    (outer_node w (i, node.0)) node.1 refl
    (sym c.may_step.ensures ∙ c.if-not-may_step.true))

pub returns-in-None-item : goal.returns-in-None-item
returns-in-None-item c =
    let plan = c.args.p.now in
    let w = c.primary.result.now in
    let v = c.args.v.now in
    let m = c.args.m.now in
    let i = c.in-Some.number in
    let node = planned-outer plan w c.primary.ensures i (omega (arith, c.len.ensures, c.if-number-len.false)) in
    let p = outer_node w (i, node.0) in
    c.is_node_step.ensures p node.1
    ∙ ap (λ (entries : List Entry). is_some (node_effect plan v entries i p m.step)) c.as_slice.ensures
    ∙ sym (legal-node plan v c.args.cited.now m i c.in-Some.is p node.1 refl
    c.in-None-item.is (sym c.may_step.ensures ∙ c.if-not-may_step.false))

pub returns-in-Some-item : goal.returns-in-Some-item
returns-in-Some-item c =
    let plan = c.args.p.now in
    let w = c.primary.result.now in
    let i = c.in-Some.number in
    let node = planned-outer plan w c.primary.ensures i (omega (arith, c.len.ensures, c.if-number-len.false)) in
    let p = outer_node w (i, node.0) in
    c.is_item_step.ensures p node.1
    ∙ sym (legal-item plan c.args.v.now c.args.cited.now c.args.m.now i c.in-Some.is p node.1 refl
    c.in-Some-item.item c.in-Some-item.is (sym c.may_step.ensures ∙ c.if-not-may_step.false))
