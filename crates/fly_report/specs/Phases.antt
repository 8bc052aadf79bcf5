-- What phases are called in what is printed, as flyteidl's `NodeExecution` names them.
use Rattle.std.specs.Prelude.{ℕ, List, codes}
use Rattle.fly_state.specs.declared.phase.Phase.{Phase}
use Rattle.fly_state.specs.declared.phase.Phase.TheVariants as phase

abbrev pub phase_name : Phase → List ℕ
phase_name phase.NotYetStarted = codes "NOT_YET_STARTED"
phase_name phase.Queued = codes "QUEUED"
phase_name phase.Running = codes "RUNNING"
phase_name phase.RetryableFailure = codes "RETRYABLE_FAILURE"
phase_name phase.Succeeding = codes "SUCCEEDING"
phase_name phase.Succeeded = codes "SUCCEEDED"
phase_name phase.Failed = codes "FAILED"
phase_name phase.TimedOut = codes "TIMED_OUT"
phase_name phase.Skipped = codes "SKIPPED"
phase_name phase.Aborted = codes "ABORTED"
