-- What scalar fields are as values (the proto3 JSON mapping). What has another form, or is out of range, is at its default.
use Rattle.std.specs.Prelude.{ℕ, ◌+◌, ◌*◌, ◌/◌, ◌^◌, nat_le, nat_lt, nat_abs, ℤ, pos, List, [], Option, Some, None, unwrap_or, if◌then◌else◌}
use Rattle.serde_json.specs.Data.{Num, Data, number, string}
use Rattle.serde_json.specs.Find.{as_i64, as_u64}
use Rattle.fly_scalars.specs.declared.datetime.Instant.{Instant}
use Rattle.fly_scalars.specs.declared.duration.Span.{Span}
use Rattle.fly_scalars.specs.Whole.{i64_of, u32_of}
use Rattle.fly_scalars.specs.Binary.{bytes_of}
use Rattle.fly_scalars.specs.Datetime.{datetime_of}
use Rattle.fly_scalars.specs.Duration.{duration_of, is_negative}

-- a signed number of 64 bits, as a number or a text
abbrev pub integer_value : Data → ℤ
integer_value (number n) = unwrap_or (as_i64 n) (pos 0)
integer_value (string text) = unwrap_or (i64_of text) (pos 0)
integer_value _ = pos 0

abbrev pub at_most : ℕ → Option ℕ → ℕ
at_most most None = 0
at_most most (Some n) = if nat_le n most then n else 0

-- a number from 0 to a greatest one, as a number or a text
abbrev pub whole_value : ℕ → Data → ℕ
whole_value most (number n) = at_most most (as_u64 n)
whole_value most (string text) = at_most most (u32_of text)
whole_value most _ = 0

-- a number in the content of a STRUCT, which a JSON number of 64 bits holds exactly
abbrev pub exact_value : Num → ℤ
exact_value n = let z = unwrap_or (as_i64 n) (pos 0) in if nat_lt (nat_abs z) (2 ^ 53) then z else pos 0

abbrev pub bytes_value : Data → List ℕ
bytes_value (string text) = unwrap_or (bytes_of text) []
bytes_value _ = []

-- 1970-01-01T00:00:00Z
abbrev pub epoch : Instant
epoch = record { seconds = pos 0; nanos = 0 }

abbrev pub datetime_value : Data → Instant
datetime_value (string text) = unwrap_or (datetime_of text) epoch
datetime_value _ = epoch

abbrev pub no_time : Span
no_time = record { seconds = pos 0; nanos = pos 0 }

abbrev pub duration_value : Data → Span
duration_value (string text) = unwrap_or (duration_of text) no_time
duration_value _ = no_time

-- a duration in milliseconds, rounded up; a negative one is none
abbrev pub milliseconds_of : Span → ℕ
milliseconds_of t =
    if is_negative t then 0 else nat_abs t.seconds * 1_000 + (nat_abs t.nanos + 999_999) / 1_000_000

abbrev pub timeout_value : Data → ℕ
timeout_value d = milliseconds_of (duration_value d)
