-- The size of a run, as far as it is counted.
use Rattle.std.specs.Prelude.{◌≡◌, ◌+◌, min, length}
use Rattle.fly_docs.specs.declared.workflow.Bundle.{Bundle}
use Rattle.fly_docs.specs.Plans.{plan_of}
use Rattle.fly_links.specs.declared.run_size.RunSize.{RunSize}
use Rattle.fly_links.specs.Reach.{nests_too_deep, max_plan, max_arrays, array_count}

-- the numbers are those of the bundle, up to one more than there may be
pub record IsRunSize (b : Bundle) (size : RunSize) : Type 0 where
  pub deep : size.is_deep ≡ nests_too_deep b
  pub plan : size.plan ≡ min (length (plan_of b)) (max_plan + 1)
  pub arrays : size.arrays ≡ min (array_count b) (max_arrays + 1)
