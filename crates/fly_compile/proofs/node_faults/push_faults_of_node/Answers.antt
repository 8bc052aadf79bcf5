use Rattle.std.proofs.Common.{◌≡◌, ◌++◌, ◌∙◌, ap}
use Rattle.std.specs.List.{flat_map}
use Rattle.std.specs.Option.{option_to_list}
use Rattle.fly_docs.specs.declared.node.Target.{out-Target}
use Rattle.fly_docs.specs.NodeInterfaces.{inputs_by, inputs_of}
use Rattle.fly_faults.specs.declared.fault.Code.TheVariants as code
use Rattle.fly_compile.specs.declared.site.Site as kept
use Rattle.fly_faults.specs.BindingFaults.{bindings_faults, unbound_faults}
use Rattle.fly_faults.specs.NodeFaults.{node_site, id_faults, target_faults, upstream_faults, no_condition_faults, input_faults, array_faults_in, condition_faults}
use Rattle.fly_faults.specs.Places.{node_place}
use Rattle.fly_compile.specs.Sites.{IsSiteOf, site_of, input_variables, wanted_for_target}
use Rattle.fly_faults.proofs.Loops.{on_ok, four_behind}
use Rattle.fly_compile.proofs.NodeSites.{site-same}
use Rattle.fly_compile.proofs.node_faults.push_faults_of_node.Goals as goal

pub returns : goal.returns
returns c =
    let b = c.args.sources.now.bundle in
    let w = c.args.sources.now.workflow in
    let n = c.args.node.now in
    let place : c.in_ok-place.place ≡ node_place w n =
    c.in_ok-place.ensures ∙ ap (λ w. node_place w n) (c.workflow.ensures ∙ c.layout.ensures) in
    let wanted = c.node_inputs-inputs.ensures.wanted ∙ ap (λ d. wanted_for_target d (out-Target n.target)) c.directory.ensures in
    let variables : input_variables c.node_inputs-inputs.result ≡ inputs_of b n =
    c.node_inputs-inputs.ensures.variables ∙ ap (λ d. inputs_by d (out-Target n.target)) c.directory.ensures in
    let site : kept.Site = record { place = c.in_ok-place.place; sources = c.args.sources; inputs = c.node_inputs-inputs.result } in
    let is : IsSiteOf n site =
    record { place = place; inputs = record { wanted = wanted; variables = variables; sorted = c.node_inputs-inputs.ensures.sorted } } in
    let same : site_of site ≡ node_site b w n = site-same n site is in
    on_ok c.push_node_bindings.result
    (λ last. four_behind c.args.faults.now.items c.push_node_checks.new.faults.items c.push_node_bindings.new.faults.items
    (id_faults w c.args.index n ++ target_faults b w n ++ upstream_faults w n ++ no_condition_faults w n)
    (bindings_faults (node_site b w n) n.inputs) (input_faults b (node_site b w n) n) (array_faults_in b (node_site b w n) n (out-Target n.target))
    (condition_faults (node_site b w n) n) c.in_ok-push_node_checks.ensures
    (last
    ∙ (λ i. c.push_node_checks.new.faults.items
    ++ (bindings_faults (same i) n.inputs
    ++ flat_map (λ vs. unbound_faults code.NotBound (place i) vs n.inputs) (option_to_list (variables i))
    ++ array_faults_in b (same i) n (out-Target n.target)
    ++ condition_faults (same i) n))))
    c.push_node_bindings.ensures
