-- The laws of progress.
pub use Rattle.fly_work.proofs.ProgressStays.{progress-stays, progress-bounded, bound-stays}
pub use Rattle.fly_work.proofs.TurnsProgress.{turns-progress}
pub use Rattle.fly_work.proofs.TurnsSettle.{turns-settle}
