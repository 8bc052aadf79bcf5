-- What follows an attempt.
use Rattle.std.specs.Prelude.{ℕ, ◌+◌, nat_lt, if◌then◌else◌}
use Rattle.fly_policy.specs.declared.outcome.Outcome.{Outcome}
use Rattle.fly_policy.specs.declared.outcome.Outcome.TheVariants.{Succeeded, Recoverable, Fatal, TimedOut}
use Rattle.fly_policy.specs.declared.retries.Next.{Next}
use Rattle.fly_policy.specs.declared.retries.Next.TheVariants as next

-- another attempt, where there may be one after this, which is numbered from 0, and else what else follows
abbrev pub retry_or : Next → ℕ → ℕ → Next
retry_or other attempt limit = if nat_lt (attempt + 1) limit then next.Again else other

-- what follows an attempt with this outcome
abbrev pub next_of : Outcome → ℕ → ℕ → Next
next_of (Succeeded outputs) attempt limit = next.Done
next_of (Recoverable code message) attempt limit = retry_or next.Failed attempt limit
next_of (Fatal code message) attempt limit = next.Failed
next_of TimedOut attempt limit = retry_or next.TimedOut attempt limit
