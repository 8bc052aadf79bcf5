use Rattle.std.proofs.Common.{◌-◌}
use Rattle.fly_state.specs.Plans.{RunPlan}
use Rattle.fly_work.specs.Playing.{worker_outside}
use Rattle.fly_work.specs.Passes.{GoesInPass}
use Rattle.fly_work.proofs.driving.pass.Given as goal

abbrev pub invariant-loop-number : goal.invariant-loop-number
invariant-loop-number g l = record {
  goes : GoesInPass g.K.Keep.kept g.K.Keep.kept_part g.K.Keep.faults l.lag l.first (l.number - l.first) l.fn.w l.w
      (worker_outside (g.C.Clock.state l.fn.hand.clock) (g.S.Spawner.state l.fn.hand.spawner) l.fn.keep)
      (worker_outside (g.C.Clock.state l.hand.clock) (g.S.Spawner.state l.hand.spawner) l.keep);
  takes : (plan : RunPlan) → g.K.Keep.takes l.fn.keep plan → g.K.Keep.takes l.keep plan;
}
