-- The work of an attempt: the words of its task as they are written, the inputs of its launch, and the outputs that
-- are wanted.
use Rattle.std.specs.Prelude.{Option, option_map, option_and_then}
use Rattle.fly_types.specs.declared.literals.LiteralMap.{LiteralMap}
use Rattle.fly_docs.specs.declared.attempt_name.AttemptName.{AttemptName}
use Rattle.fly_docs.specs.declared.task.Task.{Task}
use Rattle.fly_docs.specs.Templates.{words_of}
use Rattle.fly_state.specs.Plans.{RunPlan, node_numbered, number_of}
use Rattle.fly_state.specs.Moves.{task_run_by}
use Rattle.fly_world.specs.declared.work.Work.{Work}
use Rattle.fly_world.specs.World.{World, Launch, launch_of}

-- the task that runs in an attempt
abbrev pub task_of_attempt : RunPlan → AttemptName → Option Task
task_of_attempt plan name = option_and_then (task_run_by plan)
    (option_and_then (node_numbered plan) (number_of plan name.path))

abbrev pub work_for : AttemptName → LiteralMap → Task → Work
work_for name inputs t = record { name = name; words = words_of t; inputs = inputs; outputs = t.interface.outputs }

-- the work of a launched attempt
abbrev pub work_of : RunPlan → World → AttemptName → Option Work
work_of plan w name =
    option_and_then (λ (l : Launch). option_map (work_for name l.inputs) (task_of_attempt plan name))
    (launch_of w name)
