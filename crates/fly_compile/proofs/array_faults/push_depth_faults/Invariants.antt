use Rattle.std.proofs.Common.{◌≡◌, ◌++◌, map, take, filter}
use Rattle.std.specs.Prelude.{nat_lt}
use Rattle.fly_types.specs.declared.variable.Variable.{Variable}
use Rattle.fly_types.specs.Levels.{max_levels, type_levels}
use Rattle.fly_faults.specs.declared.fault.Code.TheVariants as code
use Rattle.fly_faults.specs.OutputTypes.{list_of_items}
use Rattle.fly_faults.specs.Places.{fault_at, variable_place}
use Rattle.fly_compile.proofs.array_faults.push_depth_faults.Given as goal

abbrev pub invariant-loop-variable : goal.invariant-loop-variable
invariant-loop-variable l =
    l.faults.items ≡ l.initial.faults.items
    ++ map (λ (v : Variable). fault_at code.TypeTooDeep (variable_place l.place v.name))
    (filter (λ (v : Variable). nat_lt max_levels (type_levels (list_of_items l.may_lack v.kind))) (take l.variable-index l.outputs))
