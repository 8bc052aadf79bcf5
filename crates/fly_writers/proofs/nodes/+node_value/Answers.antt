use Rattle.std.proofs.Common.{[], ◌∷◌, map, drop, slice_get, option_map, Some, codes, sym, ap, ◌∙◌}
use Rattle.std.proofs.lemmas.Result.{on_ok_weaker}
use Rattle.fly_writers.specs.Json.{message, message_of, with_field, with_fields, optional_list}
use Rattle.fly_writers.specs.Built.{members_of, data_of}
use Rattle.fly_writers.specs.Nodes.{target_fields, case_json, node_json, branch_error_json}
use Rattle.fly_writers.proofs.NodeLayers.{target_fields-Workflow, branch_fields, target_fields-Array}
use Rattle.fly_writers.proofs.nodes.+node_value.Goals as goal

pub add_target-returns-in_ok-workflow_node_value-in-Workflow : goal.add_target-returns-in_ok-workflow_node_value-in-Workflow
add_target-returns-in_ok-workflow_node_value-in-Workflow t c =
    let old = members_of c.args.message.now in
    on_ok_weaker c.put-in-Workflow.result (λ e. e ∙ ap (λ d. with_field old (codes "workflowNode") (Some d)) c.in_ok-workflow_node_value-in-Workflow.ensures
    ∙ ap (λ fs. with_fields old fs) (sym (target_fields-Workflow c.in-Workflow.workflow) ∙ ap target_fields (sym c.in-Workflow.is))) c.put-in-Workflow.ensures

pub add_target-returns-in_ok-branch_value-in-Branch : goal.add_target-returns-in_ok-branch_value-in-Branch
add_target-returns-in_ok-branch_value-in-Branch t c =
    let old = members_of c.args.message.now in
    let cases = c.in-Branch.cases in
    let first = c.in_ok-first-in-Branch.ensures ∙ ap (λ s. slice_get (map case_json s) 0) c.as_slice.ensures in
    let others = c.in_ok-others-in-Branch.ensures ∙ ap (λ s. optional_list (drop 1 (map case_json s))) c.as_slice-in-Branch.ensures in
    let otherwise = c.in_ok-otherwise-in-Branch.ensures in
    let error = c.in_ok-error-in-Branch.ensures in
    let block =
    ap (λ o. message ((codes "case", o) ∷ (codes "other", option_map data_of c.in_ok-others-in-Branch.others) ∷ (codes "elseNode", option_map data_of c.in_ok-otherwise-in-Branch.otherwise) ∷ (codes "error", option_map data_of c.in_ok-error-in-Branch.error) ∷ [])) first
    ∙ ap (λ o. message ((codes "case", slice_get (map case_json cases) 0) ∷ (codes "other", o) ∷ (codes "elseNode", option_map data_of c.in_ok-otherwise-in-Branch.otherwise) ∷ (codes "error", option_map data_of c.in_ok-error-in-Branch.error) ∷ [])) others
    ∙ ap (λ o. message ((codes "case", slice_get (map case_json cases) 0) ∷ (codes "other", optional_list (drop 1 (map case_json cases))) ∷ (codes "elseNode", o) ∷ (codes "error", option_map data_of c.in_ok-error-in-Branch.error) ∷ [])) otherwise
    ∙ ap (λ o. message ((codes "case", slice_get (map case_json cases) 0) ∷ (codes "other", optional_list (drop 1 (map case_json cases))) ∷ (codes "elseNode", option_map node_json c.in-Branch.otherwise) ∷ (codes "error", o) ∷ [])) error in
    on_ok_weaker c.put-in-Branch.result (λ e. e ∙ ap (λ d. with_field old (codes "branchNode") (Some d)) (c.in_ok-branch_value-in-Branch.ensures ∙ ap (λ d. message_of (codes "ifElse") d) block)
    ∙ ap (λ fs. with_fields old fs) (sym (branch_fields cases c.in-Branch.otherwise c.in-Branch.error) ∙ ap target_fields (sym c.in-Branch.is))) c.put-in-Branch.ensures

pub add_target-returns-in_ok-array_node_value-in-Array : goal.add_target-returns-in_ok-array_node_value-in-Array
add_target-returns-in_ok-array_node_value-in-Array t c =
    let old = members_of c.args.message.now in
    on_ok_weaker c.put-in-Array.result (λ e. e ∙ ap (λ d. with_field old (codes "arrayNode") (Some d)) c.in_ok-array_node_value-in-Array.ensures
    ∙ ap (λ fs. with_fields old fs) (sym (target_fields-Array c.in-Array.task c.in-Array.min_successes) ∙ ap target_fields (sym c.in-Array.is))) c.put-in-Array.ensures
