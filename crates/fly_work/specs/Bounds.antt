-- How many passes a run takes at most.
use Rattle.std.specs.Prelude.{ℕ, ◌+◌, ◌*◌, if◌then◌else◌, length, sum_by}
use Rattle.std.specs.List.{enumerate_from}
use Rattle.fly_docs.specs.Plans.{PlanNode}
use Rattle.fly_state.specs.declared.slots.ExecState.{ExecState}
use Rattle.fly_state.specs.Plans.{RunPlan, is_task}
use Rattle.fly_state.specs.States.{node_state}
use Rattle.fly_state.specs.Moves.{attempt_limit}
use Rattle.fly_world.specs.World.{World, Execution}

-- a slot of so many attempts: four, and three for each attempt
abbrev pub slot_bound : ℕ → ℕ
slot_bound attempts = 4 + 3 * attempts

-- the attempts of the node itself
abbrev pub own_attempts : RunPlan → PlanNode → ℕ
own_attempts plan p = if is_task p.node then attempt_limit plan p else 0

-- a node, and the items that it has in a state
abbrev pub node_bound : RunPlan → ExecState → ℕ × PlanNode → ℕ
node_bound plan s at = slot_bound (own_attempts plan at.1) + length (node_state s at.0).items * slot_bound (attempt_limit plan at.1)

-- an execution: its root, its nodes and the items that it has in its last version
abbrev pub execution_bound : RunPlan → Execution → ℕ
execution_bound plan x = slot_bound 0 + sum_by (node_bound plan x.state) (enumerate_from 0 plan.nodes)

-- all executions
abbrev pub world_bound : RunPlan → World → ℕ
world_bound plan w = sum_by (execution_bound plan) w.executions

-- the most passes that begin, where workers look back at most so many versions
abbrev pub pass_bound : RunPlan → World → ℕ → ℕ
pass_bound plan w lag = (lag + 1) * world_bound plan w + 1
