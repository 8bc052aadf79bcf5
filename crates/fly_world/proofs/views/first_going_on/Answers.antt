use Rattle.std.proofs.Common.{option_map, ap, sym, ◌∙◌}
use Rattle.fly_world.proofs.ReadLemmas.{between_found, between_over, between_past}
use Rattle.fly_world.proofs.views.first_going_on.Goals as goal
use Rattle.fly_world.proofs.views.first_going_on.Goals.{in-Some+else-not-is_over, in_default}

pub returns-then-not-is_over : goal.returns-then-not-is_over
returns-then-not-is_over c =
    let found = between_found c.args.store.now.world c.loop-number.number c.args.end c.loop-number-test.true
    c.in-Some.versions.now (sym c.in-Some.ensures) (sym c.is_over.ensures ∙ c.if-not-is_over.true) in
    sym (ap (option_map (λ at. at.0)) (c.loop-number.invariant ∙ found))

pub loop-number-preserved : goal.loop-number-preserved
loop-number-preserved c =
    let w = c.args.store.now.world in
    c.loop-number.invariant
    ∙ elim c.match-execution.branch [
      | in-Some+else-not-is_over b ↦
          between_over w c.loop-number.number c.args.end c.loop-number-test.true b.in-Some.versions.now
          (sym b.in-Some.ensures) (sym b.is_over.ensures ∙ b.if-not-is_over.false)
      | in_default b ↦
          between_past w c.loop-number.number c.args.end c.loop-number-test.true (sym b.in_default.ensures)
    ]
