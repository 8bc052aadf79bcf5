use Rattle.std.proofs.Common.{◌++◌, ◌∙◌, ap, map, filter}
use Rattle.std.specs.Prelude.{not, is_none}
use Rattle.fly_docs.specs.declared.node.Case.{Case}
use Rattle.fly_faults.specs.declared.fault.Code.TheVariants as code
use Rattle.fly_faults.specs.NodeFaults.{id_faults, is_node_or_start}
use Rattle.fly_faults.specs.Places.{fault_at, fault_with}
use Rattle.fly_faults.proofs.Loops.{on_ok, four}
use Rattle.fly_compile.proofs.node_faults.push_node_checks.Goals as goal

pub returns : goal.returns
returns c =
    on_ok c.push_no_condition_faults.result
    (λ last. four _ c.push_id_faults.new.faults.items c.push_target_faults.new.faults.items c.push_upstream_faults.new.faults.items _ _ _ _ _
    (c.in_ok-push_id_faults.ensures ∙ ap (λ w. c.args.faults.now.items ++ id_faults w c.args.index c.args.node.now) c.layout-layout.ensures)
    c.in_ok-push_target_faults.ensures
    (c.in_ok-push_upstream_faults.ensures
    ∙ (λ i. c.push_target_faults.new.faults.items
    ++ map (λ id. fault_with code.NodeNotFound (c.requires.site.place i) id) (filter (λ id. not (is_node_or_start (c.layout-layout.ensures i) id)) (c.as_slice.ensures i))))
    (last
    ∙ (λ i. c.push_upstream_faults.new.faults.items
    ++ map (λ (case : Case). fault_at code.BranchNoCondition (c.requires.site.place i)) (filter (λ (case : Case). is_none case.condition) (c.cases_of.ensures i)))))
    c.push_no_condition_faults.ensures
