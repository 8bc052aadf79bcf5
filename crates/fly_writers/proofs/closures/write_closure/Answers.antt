use Rattle.std.proofs.Common.{List, ◌∷◌, ◌++◌, [], map, drop, false, codes, ap, ap₂, ◌∙◌, option_map}
use Rattle.std.specs.List.{slice_get}
use Rattle.fly_docs.specs.declared.task.Task.{Task}
use Rattle.fly_docs.specs.declared.workflow.Workflow.{Workflow}
use Rattle.fly_docs.specs.declared.closure.Connections.{Connections}
use Rattle.fly_writers.specs.Json.{optional_list}
use Rattle.fly_writers.specs.Closures.{compiled_workflow_json, compiled_workflows, compiled_task_json, field_text}
use Rattle.fly_writers.proofs.ClosureTexts.{closure-text, closure-same}
use Rattle.fly_writers.proofs.closures.write_closure.Goals as goal

pub returns : goal.returns
returns c =
    let closure = c.args.closure.now in
    let first = c.in_ok-later.ensures in
    let second = c.in_ok-later-2.ensures in
    let third = c.in_ok-put_task_list.ensures in
    let primary = option_map (compiled_workflow_json closure.primary) (slice_get c.as_slice-connections.result.now 0) in
    let start = c.in_ok-push.ensures.items ∙ ap (λ x. x ++ 123 ∷ []) c.new-text.ensures.items in
    closure-text _ _ _ _ _ _ _ _ _ (first.text ∙ ap (λ x. x ++ field_text false (codes "primary") primary) start)
    first.stands second.text second.stands third.text c.in_ok-push-2.ensures.items
    ∙ closure-same _ _ _ _ _ _
    (ap (λ (ks : List Connections). option_map (compiled_workflow_json closure.primary) (slice_get ks 0))
    c.as_slice-connections.ensures)
    (ap₂ (λ (ws : List Workflow) (ks : List Connections). optional_list (compiled_workflows ws ks))
    c.as_slice-subs.ensures (c.others.ensures ∙ ap (drop 1) c.as_slice-connections.ensures))
    (ap (λ (ts : List Task). optional_list (map compiled_task_json ts)) c.as_slice.ensures)
