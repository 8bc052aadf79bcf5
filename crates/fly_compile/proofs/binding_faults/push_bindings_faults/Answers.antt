use Rattle.std.proofs.Common.{ℕ, ◌∙◌, ◌++◌, take, ap}
use Rattle.fly_docs.specs.declared.binding.Binding.{Binding}
use Rattle.fly_faults.specs.BindingFaults.{binding_faults, wanted_faults, node_faults, variable_faults, value_faults, wanted_for}
use Rattle.fly_compile.specs.Sites.{site_of}
use Rattle.fly_faults.proofs.Loops.{numbered_more}
use Rattle.fly_compile.proofs.NameTables.{names_more, twice-by}
use Rattle.fly_compile.proofs.binding_faults.push_bindings_faults.Goals as goal

pub loop-x-preserved : goal.loop-x-preserved
loop-x-preserved c =
    let site = site_of c.args.site.now in
    let x = c.x-item.result in
    record {
      faults = numbered_more (λ (at : ℕ × Binding). binding_faults site (take at.0 c.args.bindings.now) at.1) _ _ x _ _ _ c.loop-x-test.true c.x-item.is
          c.loop-x.invariant.faults
          (c.in_ok-push_binding_faults.ensures
          ∙ ap (λ r. c.loop-x.faults.items
          ++ (r ++ wanted_faults site x ++ node_faults site x ++ variable_faults site x ++ value_faults site x (wanted_for site x.var)))
          (twice-by site (take c.loop-x.x-index c.args.bindings.now) x _ _ c.as_str.result c.loop-x.invariant.names c.as_str.ensures c.in_ok-is_first.ensures.added));
      names = names_more _ _ x _ _ c.as_str.result c.loop-x-test.true c.x-item.is c.loop-x.invariant.names c.as_str.ensures c.in_ok-is_first.ensures.updates;
    }
