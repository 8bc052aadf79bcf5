use Rattle.std.proofs.Common.{◌≤◌, Bool, true, length, Option, sym, subst, arith}
use Rattle.fly_state.specs.declared.entries.Op.{Op}
use Rattle.fly_state.specs.States.{phase_of}
use Rattle.fly_state.proofs.OuterPlans.{planned-outer}
use Rattle.fly_state.specs.PlanTables.{outer_node}
use Rattle.fly_round.specs.Questions.{AsksWhere, first_question, second_in}
use Rattle.fly_round.specs.Rounds.{HasCome, IsNext}
use Rattle.fly_round.proofs.ComeLemmas.{progress, skip-first, found-first, skip-second, found-second, next-end}
use Rattle.fly_round.proofs.finding.next_question.Goals as goal
use Rattle.fly_round.proofs.finding.next_question.Goals.{then-not-half+in_ok-op+in_default, else-not-half}

pub loop-number-init : goal.loop-number-init
loop-number-init c = λ told come. come

pub returns-in-Some : goal.returns-in-Some
returns-in-Some c = λ told start.
    let plan = c.args.plan.now in
    let v = c.args.v.now in
    let i = c.loop-number.number in
    let w = c.primary.result.now in
    let node = planned-outer plan w c.primary.ensures i (omega (arith, c.len-number-end.ensures, c.loop-number-test.true)) in
    let p = outer_node w (i, node.0) in
    let come = subst (λ (half : Bool). HasCome plan v told (progress i half c.loop-number.missed) (length told)) c.if-not-half.true (c.loop-number.invariant told start) in
    let asked = subst (λ (o : Option Op). AsksWhere v.name (first_question plan v (i, p)) o) c.in-Some.is (c.in_ok-op.ensures p node.1) in
    subst (IsNext plan v told c.in-Some.op) (sym c.behind_first.ensures)
    (found-first plan w c.primary.ensures v c.requires.of_plan c.requires.goes_on i p node.1 told c.loop-number.missed c.in-Some.op come asked)

pub returns-in-Some-2 : goal.returns-in-Some-2
returns-in-Some-2 c = λ told start.
    let plan = c.args.plan.now in
    let v = c.args.v.now in
    let i = c.loop-number.number in
    let w = c.primary.result.now in
    let missed = c.loop-number.missed in
    let node = planned-outer plan w c.primary.ensures i (omega (arith, c.len-number-end.ensures, c.loop-number-test.true)) in
    let p = outer_node w (i, node.0) in
    let begun = c.loop-number.invariant told start in
    let come : HasCome plan v told (progress i true missed) (length told) =
    elim c.if-not-half.branch [
      | then-not-half+in_ok-op+in_default w' ↦
          skip-first plan w c.primary.ensures v c.requires.of_plan c.requires.goes_on i p node.1 told missed
          (subst (λ (half : Bool). HasCome plan v told (progress i half missed) (length told)) w'.if-not-half.true begun)
          (subst (λ (o : Option Op). AsksWhere v.name (first_question plan v (i, p)) o) w'.in_default.is (w'.in_ok-op.ensures p node.1))
      | else-not-half w' ↦ subst (λ (half : Bool). HasCome plan v told (progress i half missed) (length told)) w'.if-not-half.false begun
    ] in
    let asked = subst (λ (o : Option Op). AsksWhere v.name (second_in plan missed (i, p) (phase_of v.state i)) o) c.in-Some-2.is (c.in_ok-op-2.ensures p node.1) in
    subst (IsNext plan v told c.in-Some-2.op) (sym c.start_of.ensures)
    (found-second plan w c.primary.ensures v c.requires.of_plan c.requires.goes_on i p node.1 told missed c.in-Some-2.op come asked)

pub loop-number-preserved : goal.loop-number-preserved
loop-number-preserved c = λ told start.
    let plan = c.args.plan.now in
    let v = c.args.v.now in
    let i = c.loop-number.number in
    let w = c.primary.result.now in
    let missed = c.loop-number.missed in
    let node = planned-outer plan w c.primary.ensures i (omega (arith, c.len-number-end.ensures, c.loop-number-test.true)) in
    let p = outer_node w (i, node.0) in
    let begun = c.loop-number.invariant told start in
    let come : HasCome plan v told (progress i true missed) (length told) =
    elim c.if-not-half.branch [
      | then-not-half+in_ok-op+in_default w' ↦
          skip-first plan w c.primary.ensures v c.requires.of_plan c.requires.goes_on i p node.1 told missed
          (subst (λ (half : Bool). HasCome plan v told (progress i half missed) (length told)) w'.if-not-half.true begun)
          (subst (λ (o : Option Op). AsksWhere v.name (first_question plan v (i, p)) o) w'.in_default.is (w'.in_ok-op.ensures p node.1))
      | else-not-half w' ↦ subst (λ (half : Bool). HasCome plan v told (progress i half missed) (length told)) w'.if-not-half.false begun
    ] in
    let asked = subst (λ (o : Option Op). AsksWhere v.name (second_in plan missed (i, p) (phase_of v.state i)) o) c.in_default-2.is (c.in_ok-op-2.ensures p node.1) in
    skip-second plan w c.primary.ensures v c.requires.of_plan c.requires.goes_on i p node.1 told missed come asked

pub returns : goal.returns
returns c = λ told start.
    let plan = c.args.plan.now in
    let v = c.args.v.now in
    let i = c.loop-number.number in
    let past : length plan.nodes ≤ i = omega (arith, c.len-number-end.ensures, c.loop-number-test.false) in
    next-end plan v told i c.loop-number.half c.loop-number.missed past (c.loop-number.invariant told start)
