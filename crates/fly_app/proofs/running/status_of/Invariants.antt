use Rattle.std.proofs.Common.{◌≡◌, ◌<◌, ℕ, slice_get, Some}
use Rattle.fly_state.specs.declared.phase.Phase.TheVariants as phase
use Rattle.fly_world.specs.World.{Execution}
use Rattle.fly_app.proofs.running.status_of.Given as goal

abbrev pub invariant-loop-number : goal.invariant-loop-number
invariant-loop-number l = (i : ℕ) → i < l.number → (x : Execution) → slice_get l.world.world.executions i ≡ Some x
    → x.state.root.phase ≡ phase.Succeeded
