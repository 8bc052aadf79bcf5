use Rattle.std.proofs.Common.{get_or, sym, subst, arith}
use Rattle.fly_state.specs.PlanTables.{outer_node}
use Rattle.fly_state.proofs.OuterPlans.{planned-outer}
use Rattle.fly_eval.specs.declared.passes.Pass.{Pass}
use Rattle.fly_eval.specs.Evaluation.{whole_sight}
use Rattle.fly_eval.specs.Judging.{entering_over, IsJudged, IsPass, TellsNode}
use Rattle.fly_eval.proofs.PassSteps.{number-small, more-holds, more-done, all-told, first-holds, pass-types}
use Rattle.fly_eval.proofs.passes.judge_all.Goals as goal

pub loop-number-init : goal.loop-number-init
loop-number-init c =
    let plan = c.args.plan.now in
    record {
      holds =
          first-holds plan c.primary.result.now c.primary.ensures c.args.inputs.now c.args.records.now.results.now c.args.records.now.hits.now
          c.requires.typed c.in_ok-pass.pass c.in_ok-pass.ensures;
      done = λ j lt. absurd (omega arith);
    }

pub judge-requires-clause-number : goal.judge-requires-clause-number
judge-requires-clause-number c =
    number-small c.args.plan.now c.primary.result.now c.primary.ensures c.args.inputs.now c.args.records.now.results.now
    c.args.records.now.hits.now c.requires.typed c.order-number-items.result.now c.order-number-items.ensures c.loop-number.number-index
    c.loop-number-test.true

pub judge-requires-clause-types : goal.judge-requires-clause-types
judge-requires-clause-types c =
    pass-types c.args.plan.now c.primary.result.now c.primary.ensures c.args.inputs.now c.loop-number.pass c.loop-number.invariant.holds

pub note-requires-clause-number : goal.note-requires-clause-number
note-requires-clause-number c =
    number-small c.args.plan.now c.primary.result.now c.primary.ensures c.args.inputs.now c.args.records.now.results.now
    c.args.records.now.hits.now c.requires.typed c.order-number-items.result.now c.order-number-items.ensures c.loop-number.number-index
    c.loop-number-test.true

pub note-requires-clause-nodes : goal.note-requires-clause-nodes
note-requires-clause-nodes c =
    let small = number-small c.args.plan.now c.primary.result.now c.primary.ensures c.args.inputs.now c.args.records.now.results.now
    c.args.records.now.hits.now c.requires.typed c.order-number-items.result.now c.order-number-items.ensures c.loop-number.number-index
    c.loop-number-test.true in
    let long = c.loop-number.invariant.holds.nodes_each in
    omega (arith, small, long)

pub note-requires-clause-known : goal.note-requires-clause-known
note-requires-clause-known c =
    let small = number-small c.args.plan.now c.primary.result.now c.primary.ensures c.args.inputs.now c.args.records.now.results.now
    c.args.records.now.hits.now c.requires.typed c.order-number-items.result.now c.order-number-items.ensures c.loop-number.number-index
    c.loop-number-test.true in
    let long = c.loop-number.invariant.holds.known_each in
    omega (arith, small, long)

pub note-requires-clause-seen : goal.note-requires-clause-seen
note-requires-clause-seen c =
    let small = number-small c.args.plan.now c.primary.result.now c.primary.ensures c.args.inputs.now c.args.records.now.results.now
    c.args.records.now.hits.now c.requires.typed c.order-number-items.result.now c.order-number-items.ensures c.loop-number.number-index
    c.loop-number-test.true in
    let long = c.loop-number.invariant.holds.seen_each in
    omega (arith, small, long)

pub loop-number-preserved : goal.loop-number-preserved
loop-number-preserved c =
    let plan = c.args.plan.now in
    let w = c.primary.result.now in
    let outer = c.primary.ensures in
    let inputs = c.args.inputs.now in
    let results = c.args.records.now.results.now in
    let hits = c.args.records.now.hits.now in
    let typed = c.requires.typed in
    let order = c.order-number-items.result.now in
    let ordered = c.order-number-items.ensures in
    let k = c.loop-number.number-index in
    let v = get_or order k 0 in
    let within = c.loop-number-test.true in
    let pass = c.loop-number.pass in
    let holds = c.loop-number.invariant.holds in
    let done = c.loop-number.invariant.done in
    let node = planned-outer plan w outer v (number-small plan w outer inputs results hits typed order ordered k within) in
    let p = outer_node w (v, node.0) in
    let judged = c.in_ok-judged.judged in
    let is : IsJudged plan results hits p (entering_over plan pass.state pass.known v p) judged =
    subst (λ ks. IsJudged plan results hits p (entering_over plan pass.state ks v p) judged) c.as_slice.ensures (c.in_ok-judged.ensures p node.1) in
    let next = c.in_ok-pass-2.ensures p node.1 in
    record {
      holds = subst (IsPass plan inputs) (sym next) (more-holds plan w outer inputs results hits typed order ordered pass holds k within done p node.1 judged is);
      done = λ j lt.
          subst (λ (x : Pass). TellsNode plan results hits (whole_sight plan inputs results hits) x (get_or order j 0)) (sym next)
          (more-done plan w outer inputs results hits typed order ordered pass holds k within done p node.1 judged is j lt);
    }

pub returns : goal.returns
returns c =
    all-told c.args.plan.now c.primary.result.now c.primary.ensures c.args.inputs.now c.args.records.now.results.now
    c.args.records.now.hits.now c.requires.typed c.order-number-items.result.now c.order-number-items.ensures c.loop-number.pass
    c.loop-number.invariant.holds (λ j lt. c.loop-number.invariant.done j (omega arith))
