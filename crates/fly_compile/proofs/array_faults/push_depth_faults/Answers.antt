use Rattle.std.specs.Prelude.{nat_lt}
use Rattle.fly_types.specs.declared.variable.Variable.{Variable}
use Rattle.fly_types.specs.Levels.{max_levels, type_levels}
use Rattle.fly_faults.specs.declared.fault.Code.TheVariants as code
use Rattle.fly_faults.specs.OutputTypes.{list_of_items}
use Rattle.fly_faults.specs.Places.{fault_at, variable_place}
use Rattle.fly_faults.proofs.Loops.{filtered_more}
use Rattle.fly_compile.proofs.array_faults.push_depth_faults.Goals as goal

pub loop-variable-preserved : goal.loop-variable-preserved
loop-variable-preserved c =
    filtered_more (λ (v : Variable). nat_lt max_levels (type_levels (list_of_items c.args.may_lack v.kind)))
    (λ (v : Variable). fault_at code.TypeTooDeep (variable_place c.args.place.now v.name))
    _ _ c.variable-item.result _ _ _ c.loop-variable-test.true c.variable-item.is c.loop-variable.invariant c.in_ok-push_depth_fault.ensures
