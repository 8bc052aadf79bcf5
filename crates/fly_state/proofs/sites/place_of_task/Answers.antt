use Rattle.std.proofs.Common.{◌≡◌, ap, sym, ◌∙◌, position}
use Rattle.fly_docs.specs.declared.node.Target.{out-Target}
use Rattle.fly_docs.specs.declared.node.Target.TheViews as view
use Rattle.fly_state.specs.Sites.{task_place, place_of_target}
use Rattle.fly_state.proofs.sites.place_of_task.Goals as goal

pub returns-in-Task : goal.returns-in-Task
returns-in-Task c =
    let tasks = c.args.tasks.now in
    c.found.ensures ∙ c.requires c.key_of.result ∙ ap (task_place tasks) c.key_of.ensures
    ∙ sym (ap (place_of_target tasks) (ap out-Target c.in-Task.is ∙ view.outs-Task c.in-Task.id))

pub returns-in-Array : goal.returns-in-Array
returns-in-Array c =
    let tasks = c.args.tasks.now in
    c.found-in-Array.ensures ∙ c.requires c.key_of-in-Array.result ∙ ap (task_place tasks) c.key_of-in-Array.ensures
    ∙ sym (ap (place_of_target tasks) (ap out-Target c.in-Array.is ∙ view.outs-Array c.in-Array.task c.in-Array.min_successes))
