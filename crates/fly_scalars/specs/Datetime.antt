-- Date-times as texts (RFC 3339, as the proto3 JSON mapping writes `Timestamp`): `YYYY-MM-DDTHH:MM:SS`, an optional point with 1 to
-- 9 digits, and `Z` or an offset. The calendar is jiff's.
use Rattle.std.specs.Prelude.{ℕ, zero, suc, ◌+◌, ◌-◌, ◌*◌, ◌/◌, ◌%◌, ◌==◌, ◌&&◌, nat_le, not, Bool, ℤ, pos, neg_ℤ, ◌+ℤ◌, ◌-ℤ◌, ◌*ℤ◌, int_lt, unsigned_abs, List, [], length, ◌∷◌, ◌++◌, Option, Some, None, if◌then◌else◌}
use Rattle.std.specs.Int.{int_div_euclid, int_rem_euclid}
use Rattle.jiff_core.specs.Calendar.{days_in_month, days_from_civil}
use Rattle.jiff_fmt.specs.Reader.{two_digits, four_digits}
use Rattle.jiff_fmt.specs.Text.{pad2, pad4, fraction_part}
use Rattle.fly_scalars.specs.declared.datetime.Instant.{Instant}
use Rattle.fly_scalars.specs.Digits.{Front, ◌>>=◌, after, fraction, fraction_digits}

-- ---- reading

-- the calendar has this day
abbrev pub is_day : ℕ → ℕ → ℕ → Bool
is_day year month day =
    nat_le 1 month && nat_le month 12 && nat_le 1 day && nat_le day (days_in_month (pos year) month)

-- the number of a day, from 1970-01-01 on, where the calendar has it
abbrev pub day_number : ℕ → ℕ → ℕ → Option ℤ
day_number year month day = if is_day year month day then Some (days_from_civil (pos year) month day) else None

-- `YYYY-MM-DD`, as the number of the day
unfoldable pub date_front : List ℕ → Front ℤ
date_front text = do
  year ← four_digits text
  month_text ← after 45 year.1
  month ← two_digits month_text
  day_text ← after 45 month.1
  day ← two_digits day_text
  number ← day_number year.0 month.0 day.0
  Some (number, day.1)

-- `HH:MM`, up to 23:59, in seconds
unfoldable pub minutes_front : List ℕ → Front ℕ
minutes_front text = do
  hour ← two_digits text
  minute_text ← after 58 hour.1
  minute ← two_digits minute_text
  if nat_le hour.0 23 && nat_le minute.0 59 then Some (hour.0 * 3600 + minute.0 * 60, minute.1) else None

-- `HH:MM:SS`, up to 23:59:59, in seconds
unfoldable pub time_front : List ℕ → Front ℕ
time_front text = do
  minutes ← minutes_front text
  second_text ← after 58 minutes.1
  second ← two_digits second_text
  if nat_le second.0 59 then Some (minutes.0 + second.0, second.1) else None

-- the value, where nothing follows it
abbrev pub at_end : {A : Type 0} → Front A → Option A
at_end front = front >>= (λ p. if length p.1 == 0 then Some p.0 else None)

-- the offset from UTC in seconds, all that the text has: `Z`, `+HH:MM` or `-HH:MM`
unfoldable pub offset_of : List ℕ → Option ℤ
offset_of [] = None
offset_of (b ∷ rest) =
    if b == 90 then at_end (Some (pos 0, rest))
    else (if b == 43 then at_end (minutes_front rest) >>= (λ seconds. Some (pos seconds))
    else (if b == 45 then at_end (minutes_front rest) >>= (λ seconds. Some (neg_ℤ (pos seconds)))
    else None))

-- the instant, where it lies from 0001-01-01T00:00:00Z to the end of year 9999
abbrev pub instant_at : ℤ → ℕ → Option Instant
instant_at seconds nanos =
    if not (int_lt seconds (neg_ℤ (pos 62_135_596_800))) && not (int_lt (pos 253_402_300_799) seconds)
    then Some (record { seconds = seconds; nanos = nanos }) else None

-- the instant that a text is
unfoldable pub datetime_of : List ℕ → Option Instant
datetime_of text = do
  date ← date_front text
  time_text ← after 84 date.1
  time ← time_front time_text
  nanos ← fraction time.1
  offset ← offset_of nanos.1
  instant_at ((date.0 *ℤ pos 86_400 +ℤ pos time.0) -ℤ offset) nanos.0

-- ---- writing

-- the last of the numbers from 1 to n that begins no later than the day, or 0
unfoldable pub last_begun : (ℕ → ℤ) → ℤ → ℕ → ℕ
last_begun first_day day zero = 0
last_begun first_day day (suc n) = if int_lt day (first_day (suc n)) then last_begun first_day day n else suc n

-- the year from 1 to 9999 that has the day
abbrev pub year_of : ℤ → ℕ
year_of day = last_begun (λ year. days_from_civil (pos year) 1 1) day 9999

-- the month of that year that has the day
abbrev pub month_of : ℤ → ℕ
month_of day = last_begun (λ month. days_from_civil (pos (year_of day)) month 1) day 12

-- the day's place in that month, from 1
abbrev pub day_of_month : ℤ → ℕ
day_of_month day = unsigned_abs (day -ℤ days_from_civil (pos (year_of day)) (month_of day) 1) + 1

-- `YYYY-MM-DD`
abbrev pub date_text : ℤ → List ℕ
date_text day = pad4 (year_of day) ++ 45 ∷ pad2 (month_of day) ++ 45 ∷ pad2 (day_of_month day)

-- `HH:MM:SS`
abbrev pub time_text : ℕ → List ℕ
time_text second = pad2 (second / 3600) ++ 58 ∷ pad2 (second / 60 % 60) ++ 58 ∷ pad2 (second % 60)

-- a point with 3, 6 or 9 digits, or nothing
abbrev pub fraction_text : ℕ → List ℕ
fraction_text nanos = fraction_part (Some (fraction_digits nanos)) nanos

-- the text of an instant, in UTC
unfoldable pub datetime_text : Instant → List ℕ
datetime_text t =
    date_text (int_div_euclid t.seconds (pos 86_400)) ++ 84 ∷ time_text (unsigned_abs (int_rem_euclid t.seconds (pos 86_400)))
    ++ fraction_text t.nanos ++ 90 ∷ []
