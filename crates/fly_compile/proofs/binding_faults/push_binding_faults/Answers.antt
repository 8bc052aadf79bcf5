use Rattle.std.proofs.Common.{[], ◌∷◌, ◌++◌, ◌∙◌, ap, cond}
use Rattle.fly_faults.specs.declared.fault.Code.TheVariants as code
use Rattle.fly_faults.specs.Places.{fault_at}
use Rattle.fly_compile.specs.Sites.{site_of}
use Rattle.fly_faults.proofs.Loops.{on_ok, five}
use Rattle.fly_compile.proofs.ValueFaults.{node-faults-by, variable-faults-by}
use Rattle.fly_compile.proofs.binding_faults.push_binding_faults.Goals as goal

pub returns : goal.returns
returns c =
    let site = site_of c.args.site.now in
    let x = c.args.x.now in
    on_ok c.push_value_faults.result
    (λ last. five _ c.push_twice_faults.new.faults.items c.push_wanted_faults.new.faults.items c.push_node_faults.new.faults.items
    c.push_variable_faults.new.faults.items _ _ _ _ _ _
    (c.in_ok-push_twice_faults.ensures
    ∙ ap (λ place. c.args.faults.now.items ++ cond c.args.is_first [] (fault_at code.BoundTwice place ∷ [])) c.in_ok-place.ensures)
    c.in_ok-push_wanted_faults.ensures
    (c.in_ok-push_node_faults.ensures
    ∙ ap (λ r. c.push_wanted_faults.new.faults.items ++ r) (node-faults-by site x _ _ _ c.in_ok-promises.ensures c.deref.ensures.value c.in_ok-place.ensures))
    (c.in_ok-push_variable_faults.ensures
    ∙ ap (λ r. c.push_node_faults.new.faults.items ++ r) (variable-faults-by site x _ _ _ c.in_ok-promises.ensures c.deref-2.ensures.value c.in_ok-place.ensures))
    last)
    c.push_value_faults.ensures
