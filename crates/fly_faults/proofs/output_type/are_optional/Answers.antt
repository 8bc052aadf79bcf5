use Rattle.std.proofs.Common.{arith}
use Rattle.fly_faults.proofs.Loops.{two_elements}
use Rattle.fly_faults.proofs.Casts.{optional-then, optional-else, optional-not}
use Rattle.fly_faults.proofs.output_type.are_optional.Goals as goal

pub returns-then-is_same : goal.returns-then-is_same
returns-then-is_same c =
    optional-then _ c.first-item.result c.second-item.result _ _ (two_elements _ _ _ (omega arith) c.first-item.is c.second-item.is)
    (c.is_same.ensures.0 c.if-is_same.true) c.is_none.ensures

pub returns-else-is_same : goal.returns-else-is_same
returns-else-is_same c =
    optional-else _ c.first-item.result c.second-item.result _ _ (two_elements _ _ _ (omega arith) c.first-item.is c.second-item.is)
    c.is_same.ensures c.if-is_same.false

pub returns-in_default : goal.returns-in_default
returns-in_default c = optional-not _ _ (λ long. omega arith)

pub returns-in_default-2 : goal.returns-in_default-2
returns-in_default-2 c = optional-not _ _ (λ long. omega arith)
