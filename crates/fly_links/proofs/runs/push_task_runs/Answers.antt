use Rattle.std.proofs.Common.{◌∷◌, [], ◌++◌, ℕ, Option, Some, None, append_assoc, sym, ap, ◌∙◌}
use Rattle.std.proofs.lemmas.List.{append-nil}
use Rattle.std.specs.Option.{option_and_then}
use Rattle.fly_docs.specs.declared.node.Node.{Node}
use Rattle.fly_docs.specs.Reaching.{task_place, task_id_of}
use Rattle.fly_links.proofs.RunLemmas.{runs_more}
use Rattle.fly_links.proofs.runs.push_task_runs.Goals as goal
use Rattle.fly_links.proofs.runs.push_task_runs.Goals.{in-Some+in_ok-push, in_default}

pub loop-node-preserved : goal.loop-node-preserved
loop-node-preserved c =
    let f : Node → Option ℕ = λ n. option_and_then (task_place c.args.directory.now) (task_id_of n) in
    let xs = c.deref-node-items.result.now in
    let i = c.loop-node.node-index in
    let more = runs_more f xs i c.node-item.result c.loop-node-test.true c.node-item.is in
    elim c.match-task_run.branch [
      | in-Some+in_ok-push w ↦
          ap (λ v. v.items) w.places-is ∙ w.in_ok-push.ensures.items
          ∙ ap (λ ys. ys ++ w.in-Some.place ∷ []) c.loop-node.invariant
          ∙ append_assoc c.args.places.now.items _ _ ∙ ap (λ ys. c.args.places.now.items ++ ys) (sym (more (Some w.in-Some.place) (sym w.in-Some.ensures)))
      | in_default w ↦
          ap (λ v. v.items) w.places-is ∙ c.loop-node.invariant
          ∙ ap (λ ys. c.args.places.now.items ++ ys) (sym (more None (sym w.in_default.ensures) ∙ append-nil _))
    ]
