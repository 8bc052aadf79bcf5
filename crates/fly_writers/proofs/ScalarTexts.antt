-- Sound date-times and durations have a text.
use Rattle.std.proofs.Common.{◌≡◌, ℕ, ◌^◌, ◌<◌, nat_lt, true, false, ℤ, pos, neg_ℤ, int_lt, nat_abs, Some, refl, arith}
use Rattle.std.proofs.lemmas.Bool.Decides.{nat_tests}
use Rattle.serde_json.specs.Data.{string}
use Rattle.fly_types.specs.Sound.{IsInstant, IsSpan}
use Rattle.fly_scalars.specs.Datetime.{datetime_text}
use Rattle.fly_scalars.specs.Duration.{duration_text}
use Rattle.fly_scalars.proofs.DatetimeLemmas.{not_lt}
use Rattle.fly_writers.specs.Literals.{datetime_json, duration_json}

pub datetime_written : (seconds : ℤ) (nanos : ℕ) → IsInstant seconds nanos → datetime_json seconds nanos ≡ Some (string (datetime_text (record { seconds = seconds; nanos = nanos })))
datetime_written seconds nanos h =
    let low = not_lt (neg_ℤ (pos 62_135_596_800)) seconds h.after_first in
    let high = not_lt seconds (pos 253_402_300_799) h.before_last in
    let below : nat_lt nanos (10 ^ 9) ≡ true = grind (arith, nat_tests, h.nanos_below) in
    rw (low, high, below) refl

pub duration_written : (seconds nanos : ℤ) → IsSpan seconds nanos → duration_json seconds nanos ≡ Some (string (duration_text (record { seconds = seconds; nanos = nanos })))
duration_written seconds nanos h =
    let below : nat_lt (nat_abs nanos) (10 ^ 9) ≡ true = grind (arith, nat_tests, h.nanos_below) in
    rw below refl
