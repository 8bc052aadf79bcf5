use Rattle.std.proofs.Common.{sym, ◌∙◌, ap}
use Rattle.fly_docs.specs.Lookups.{task_named}
use Rattle.fly_compile.proofs.OutputLemmas.{task_in_form}
use Rattle.fly_compile.proofs.node_faults.push_array_faults.Goals as goal

pub push_task_array_faults-requires-clause-sorted : goal.push_task_array_faults-requires-clause-sorted
push_task_array_faults-requires-clause-sorted c =
    (task_in_form c.args.site.now.sources.now.bundle c.in-Array.task c.in-Some.task.now c.requires.form
    (sym (c.in-Some.ensures ∙ ap (λ b. task_named b c.in-Array.task) c.directory.ensures))).interface.inputs
