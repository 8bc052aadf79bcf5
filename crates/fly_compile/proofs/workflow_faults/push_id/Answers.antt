use Rattle.std.proofs.Common.{◌++◌, ◌∙◌, ap, map, sym, append-nil}
use Rattle.std.proofs.lemmas.List.{map_push}
use Rattle.std.specs.Borrow.{Bor}
use Rattle.fly_types.specs.declared.text.Text.{Text}
use Rattle.fly_compile.proofs.WorkflowSteps.{id_there, id_nowhere}
use Rattle.fly_compile.proofs.workflow_faults.push_id.Goals as goal

pub returns-then-place-nodes : goal.returns-then-place-nodes
returns-then-place-nodes c =
    let old = map (λ (id : Bor Text). id.now) c.args.ids.now.items in
    sym (append-nil old) ∙ ap (λ r. old ++ r) (sym (id_nowhere c.args.nodes.now c.args.place c.if-place-nodes.true))

pub returns : goal.returns
returns c =
    let old = map (λ (id : Bor Text). id.now) c.args.ids.now.items in
    ap (map (λ (id : Bor Text). id.now)) c.in_ok-push.ensures.items ∙ map_push (λ (id : Bor Text). id.now) c.args.ids.now.items _
    ∙ ap (λ r. old ++ r) (sym (id_there c.args.nodes.now c.args.place c.index-nodes-place.result c.if-place-nodes.false c.index-nodes-place.is))
