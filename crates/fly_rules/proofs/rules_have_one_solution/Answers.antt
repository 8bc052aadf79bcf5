use Rattle.fly_rules.proofs.GroundLemmas.{solution_of-solves, one_solution}
use Rattle.fly_rules.proofs.rules_have_one_solution.Goals as goal

pub returns-clause-exists : goal.returns-clause-exists
returns-clause-exists g c = λ rule count grounded. solution_of-solves rule count grounded

pub returns-clause-only : goal.returns-clause-only
returns-clause-only g c = λ rule count f h grounded first second. one_solution rule count grounded f h first second
