use Rattle.std.proofs.Common.{◌-◌}
use Rattle.fly_state.specs.Plans.{RunPlan}
use Rattle.fly_work.specs.Bounds.{pass_bound}
use Rattle.fly_work.specs.Playing.{worker_outside}
use Rattle.fly_work.specs.Passes.{HasPassed}
use Rattle.fly_work.proofs.driving.drive_alone.Given as goal

abbrev pub invariant-loop-end : goal.invariant-loop-end
invariant-loop-end g l = record {
  passed : HasPassed g.K.Keep.kept g.K.Keep.kept_part g.K.Keep.faults l.lag l.first l.fn.w l.w
      (worker_outside (g.C.Clock.state l.fn.hand.clock) (g.S.Spawner.state l.fn.hand.spawner) l.fn.keep)
      (worker_outside (g.C.Clock.state l.hand.clock) (g.S.Spawner.state l.hand.spawner) l.keep) l.fn.steps l.steps;
  takes : (plan : RunPlan) → g.K.Keep.takes l.fn.keep plan → g.K.Keep.takes l.keep plan;
}

-- the steps say how many passes have begun
abbrev pub decreases-loop-end : goal.decreases-loop-end
decreases-loop-end g l = pass_bound l.fn.w.plan l.fn.w.world l.lag - (l.steps - l.fn.steps)
