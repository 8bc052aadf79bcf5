use Rattle.std.proofs.Common.{◌++◌, ◌∙◌, ap, is_some}
use Rattle.std.specs.Prelude.{unwrap_or, []}
use Rattle.std.specs.List.{list_all, flat_map}
use Rattle.std.specs.Option.{option_to_list}
use Rattle.fly_types.specs.declared.variable.Variable.{Variable}
use Rattle.fly_docs.specs.Bindings.{binding_of}
use Rattle.fly_faults.specs.declared.fault.Code.TheVariants as code
use Rattle.fly_faults.specs.BindingFaults.{bindings_faults, unbound_faults}
use Rattle.fly_compile.specs.Branches.{condition_faults_of}
use Rattle.fly_faults.specs.Places.{fault_at, variable_place}
use Rattle.fly_compile.specs.Sites.{site_of, input_variables}
use Rattle.fly_faults.proofs.Loops.{on_ok, four}
use Rattle.fly_compile.proofs.NodeSites.{unbound-known, bound-by}
use Rattle.fly_compile.proofs.node_faults.push_node_bindings.Goals as goal

pub push_array_faults-requires-clause-bound : goal.push_array_faults-requires-clause-bound
push_array_faults-requires-clause-bound c =
    c.in_ok-are_bound.ensures.none
    ∙ bound-by c.as_slice-inputs.result.now c.in_ok-names.names c.in_ok-names.ensures.names
    (λ (v : Variable). fault_at code.NotBound (variable_place c.args.site.now.place v.name)) (unwrap_or (input_variables c.args.site.now.inputs) [])
    ∙ (λ i. list_all (λ (v : Variable). is_some (binding_of v.name (c.as_slice-inputs.ensures i))) (unwrap_or (input_variables c.args.site.now.inputs) []))

pub returns : goal.returns
returns c =
    let site = site_of c.args.site.now in
    on_ok c.push_condition_faults.result
    (λ last. four _ c.push_checked_bindings.new.faults.items c.push_input_faults.new.faults.items c.push_array_faults.new.faults.items _ _ _ _ _
    (c.in_ok-names.ensures.faults ∙ ap (λ bs. c.args.faults.now.items ++ bindings_faults site bs) c.as_slice-inputs.ensures)
    (c.in_ok-are_bound.ensures.faults
    ∙ ap (λ r. c.push_checked_bindings.new.faults.items ++ r)
    (unbound-known c.as_slice-inputs.result.now c.in_ok-names.names c.in_ok-names.ensures.names code.NotBound c.args.site.now.place (input_variables c.args.site.now.inputs)
    ∙ ap (λ bs. flat_map (λ vs. unbound_faults code.NotBound c.args.site.now.place vs bs) (option_to_list (input_variables c.args.site.now.inputs))) c.as_slice-inputs.ensures))
    c.in_ok-push_array_faults.ensures
    (last ∙ (λ i. c.push_array_faults.new.faults.items ++ condition_faults_of site (c.as_slice-inputs.ensures i) (c.cases_of.ensures i))))
    c.push_condition_faults.ensures
