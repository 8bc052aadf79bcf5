use Rattle.std.proofs.Common.{◌+◌, ◌*◌}
use Rattle.fly_types.specs.Levels.{type_levels}
use Rattle.fly_cast.proofs.plan.+plan.Given as goal

abbrev pub decreases-steps_between : goal.decreases-steps_between
decreases-steps_between l = 2 * (type_levels l.a.now + type_levels l.b.now) + 1

abbrev pub decreases-steps_by_form : goal.decreases-steps_by_form
decreases-steps_by_form l = 2 * (type_levels l.a.now + type_levels l.b.now)
