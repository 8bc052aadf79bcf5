use Rattle.std.specs.Option.{option_map}
use Rattle.fly_docs.specs.declared.binding.Binding.{Binding}
use Rattle.fly_docs.specs.Conditions.{bound_primitive}
use Rattle.fly_compile.specs.Scopes.{source_there}
use Rattle.fly_faults.proofs.Loops.{chosen_more}
use Rattle.fly_compile.proofs.condition_faults.branch_variables.Goals as goal

pub loop-x-preserved : goal.loop-x-preserved
loop-x-preserved c =
    chosen_more (λ (x : Binding). option_map (λ s. (x.var, s)) (bound_primitive (source_there c.args.sources.now) x.bound))
    _ _ c.x-item.result _ _ c.loop-x-test.true c.x-item.is c.loop-x.invariant c.in_ok-push_branch_variable.ensures
