use Rattle.std.proofs.Common.{◌≤◌, ◌++◌, arith, flat_map, length, map, take, option_to_list, Some, None, sym, subst, ap, ◌∙◌}
use Rattle.std.specs.List.{enumerate_from}
use Rattle.std.proofs.lemmas.List.FromFn.{length-enumerate_from}
use Rattle.fly_state.specs.PlanTables.{outer_node}
use Rattle.fly_state.proofs.OuterPlans.{planned-outer}
use Rattle.fly_round.specs.Answers.{HasAnswers}
use Rattle.fly_round.specs.Moves.{node_moves}
use Rattle.fly_round.specs.Steps.{move_at}
use Rattle.fly_round.proofs.ComeLemmas.{numbered-at}
use Rattle.fly_round.proofs.Lists.{take-whole}
use Rattle.fly_round.proofs.MoveLemmas.{flat_map-take_more}
use Rattle.fly_round.proofs.moves.round_moves.Goals as goal

pub loop-number-preserved : goal.loop-number-preserved
loop-number-preserved c =
    let plan = c.args.plan.now in
    let w = c.primary-primary.result.now in
    let outer = c.primary-primary.ensures in
    let v = c.args.v.now in
    let told = c.args.told.now in
    let i = c.loop-number.number in
    let ats = enumerate_from 0 plan.nodes in
    let moves = node_moves plan v told in
    let node = planned-outer plan w outer i (omega (arith, c.len-number-end.ensures, c.loop-number-test.true)) in
    let p = outer_node w (i, node.0) in
    let has = subst (HasAnswers plan v told) (sym c.deref.ensures.value) c.in_ok-answers.ensures in
    c.in_ok-add.ensures
    ∙ ap (λ ms. ms ++ map (move_at (Some i)) (option_to_list c.node_step-step.result)) c.loop-number.invariant
    ∙ ap (λ ms. flat_map moves (take i ats) ++ ms) (sym (c.node_step-step.ensures told p has node.1))
    ∙ sym (flat_map-take_more moves ats i (i, p) (numbered-at plan w outer v c.requires.of_plan i p node.1))

pub returns : goal.returns
returns c =
    let plan = c.args.plan.now in
    let v = c.args.v.now in
    let i = c.loop-number.number in
    let ats = enumerate_from 0 plan.nodes in
    let moves = node_moves plan v c.args.told.now in
    let all : length ats ≤ i =
    let n = length-enumerate_from 0 plan.nodes in omega (arith, n, c.len-number-end.ensures, c.loop-number-test.false) in
    let last = map (move_at None) (option_to_list c.root_step.result) in
    c.from_vec.ensures.value
    ∙ c.in_ok-add-2.ensures
    ∙ ap (λ ms. ms ++ last) (c.loop-number.invariant ∙ ap (flat_map moves) (take-whole ats i all))
    ∙ ap (λ ms. flat_map moves ats ++ ms) (sym c.root_step.ensures)
