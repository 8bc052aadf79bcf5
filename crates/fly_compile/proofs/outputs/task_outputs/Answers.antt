use Rattle.std.proofs.Common.{sym}
use Rattle.fly_compile.proofs.OutputLemmas.{task_in_form}
use Rattle.fly_compile.proofs.SortedNames.{sorted_nothing}
use Rattle.fly_compile.proofs.outputs.task_outputs.Goals as goal

pub returns-in-Some-clause-sorted : goal.returns-in-Some-clause-sorted
returns-in-Some-clause-sorted c =
    (task_in_form c.args.directory.now c.args.id.now c.in-Some.task.now c.requires.form (sym c.in-Some.ensures)).interface.outputs

pub returns-in-None-clause-sorted : goal.returns-in-None-clause-sorted
returns-in-None-clause-sorted c = sorted_nothing
