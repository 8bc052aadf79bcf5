use Rattle.std.proofs.Common.{◌≡◌, ℕ, ◌+◌, ◌*◌, ◌<◌, false, length, slice_index_or, vec_len}
use Rattle.std.specs.Prelude.{vec_capacity}
use Rattle.fly_desk.specs.Pass.{IsOf, own, calls_left, is_out, HasSameStart}
use Rattle.fly_desk.specs.Workers.{IsFresh}
use Rattle.fly_desk.proofs.tests.workers.hire.Given as goal

abbrev pub invariant-loop-worker : goal.invariant-loop-worker
invariant-loop-worker g l =
    IsOf l.desk l.pass × (is_out l.pass ≡ false) × (own l.pass ≡ own l.initial.pass)
    × (calls_left l.pass + l.worker * l.calls ≡ calls_left l.initial.pass) × HasSameStart l.pass l.initial.pass
    × (vec_len l.jobs ≡ l.worker) × (vec_capacity l.jobs ≡ l.workers) × (length l.jobs.items ≡ l.worker)
    × ((i : ℕ) (d : _) → i < l.worker →
    ((slice_index_or l.jobs.items i d).worker ≡ i) × IsFresh l.desk l.calls (slice_index_or l.jobs.items i d).pass)
