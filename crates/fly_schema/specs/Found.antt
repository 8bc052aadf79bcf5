-- The faults that the walk hands on.
use Rattle.std.specs.Prelude.{map, reverse}
use Rattle.fly_schema.specs.declared.places.Step.{Step}
use Rattle.fly_schema.specs.declared.places.Step.TheVariants.{Field, Index}
use Rattle.fly_schema.specs.declared.places.Found.{Found}
use Rattle.fly_schema.specs.Places as places

abbrev pub step_of : Step → places.Step
step_of (Field name) = places.field name.now
step_of (Index n) = places.index n

-- the steps of the walk come with the last one first
abbrev pub found_of : Found → places.Fault
found_of f = (f.kind, reverse (map step_of f.steps.items))
