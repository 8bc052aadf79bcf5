-- Durations as texts, as the proto3 JSON mapping writes `Duration`: an optional `-`, digits, an optional point with 1 to 9 digits, and
-- `s`.
use Rattle.std.specs.Prelude.{ℕ, ◌+◌, ◌*◌, ◌%◌, ◌/◌, ◌^◌, ◌≤◌, ◌==◌, ◌||◌, nat_le, Bool, ℤ, pos, neg_ℤ, int_lt, nat_abs, List, [], length, ◌∷◌, ◌++◌, Option, option_map, Some, None, decimal, if◌then◌else◌}
use Rattle.fly_scalars.specs.declared.duration.Span.{Span}
use Rattle.fly_scalars.specs.Digits.{◌>>=◌, number, after, fraction}
use Rattle.fly_scalars.specs.Datetime.{fraction_text}

-- ---- reading

-- the longest duration, some 10,000 years, in seconds
abbrev pub longest : ℕ
longest = 315_576_000_000

-- seconds and nanoseconds, where they are no more than the longest duration
abbrev pub length_of : ℕ → ℕ → Option (ℕ × ℕ)
length_of seconds nanos =
    if nat_le (seconds * 10 ^ 9 + nanos) (longest * 10 ^ 9) then Some (seconds, nanos) else None

abbrev pub IsLength : ℕ → ℕ → Type 0
IsLength seconds nanos = seconds * 10 ^ 9 + nanos ≤ longest * 10 ^ 9

-- so long a duration, and the same backward
abbrev pub forward_span : ℕ × ℕ → Span
forward_span p = record { seconds = pos p.0; nanos = pos p.1 }

abbrev pub backward_span : ℕ × ℕ → Span
backward_span p = record { seconds = neg_ℤ (pos p.0); nanos = neg_ℤ (pos p.1) }

-- digits, an optional fraction and `s`
unfoldable pub unsigned_span : List ℕ → Option (ℕ × ℕ)
unsigned_span text = do
  seconds ← number text
  nanos ← fraction seconds.1
  rest ← after 115 nanos.1
  if length rest == 0 then length_of seconds.0 nanos.0 else None

-- what stands behind the `-`, where there is one, is a duration backward
abbrev pub signed_span : Option (List ℕ) → List ℕ → Option Span
signed_span (Some rest) text = option_map backward_span (unsigned_span rest)
signed_span None text = option_map forward_span (unsigned_span text)

-- the duration that a text is
unfoldable pub duration_of : List ℕ → Option Span
duration_of text = signed_span (after 45 text) text

-- ---- writing

-- less than nothing
abbrev pub is_negative : Span → Bool
is_negative t = int_lt t.seconds (pos 0) || int_lt t.nanos (pos 0)

-- `-`, where the duration is less than nothing
abbrev pub sign_text : Span → List ℕ
sign_text t = if is_negative t then 45 ∷ [] else []

-- the text of a duration
unfoldable pub duration_text : Span → List ℕ
duration_text t = sign_text t ++ decimal (nat_abs t.seconds) ++ fraction_text (nat_abs t.nanos) ++ 115 ∷ []

-- ---- durations of whole milliseconds

-- the duration that so many milliseconds are
abbrev pub span_of_millis : ℕ → Span
span_of_millis millis = record { seconds = pos (millis / 1_000); nanos = pos (millis % 1_000 * 1_000_000) }

-- the text of so many milliseconds
abbrev pub millis_text : ℕ → List ℕ
millis_text millis = duration_text (span_of_millis millis)
