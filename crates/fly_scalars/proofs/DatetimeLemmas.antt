-- The days of the calendar as they are counted and as they are written.
use Rattle.std.proofs.Common.{◌≡◌, ℕ, zero, suc, ◌+◌, ◌-◌, ◌*◌, ◌/◌, ◌%◌, ◌^◌, ◌<◌, ◌≤◌, ◌==◌, ◌&&◌, nat_le, not, ℤ, pos, negsuc, neg_ℤ, int_lt, ◌+ℤ◌, ◌-ℤ◌, ◌*ℤ◌, ◌≤ℤ◌, ◌<ℤ◌, unsigned_abs, List, [], ◌∷◌, ◌++◌, true, false, Bool, cond, Option, Some, None, IfSome, inl, inr, refl, sym, ap, subst, ◌∙◌, arith, rules}
use Rattle.std.proofs.lemmas.Bool.Decides.{nat_tests}
use Rattle.std.proofs.lemmas.Bool.{cases_order}
use Rattle.std.specs.Int.{int_div_euclid, int_rem_euclid}
use Rattle.fly_types.specs.Sound.{IsInstant}
use Rattle.jiff_core.specs.declared.civil.date.Date.{Date}
use Rattle.jiff_core.specs.declared.civil.time.Time.{Time}
use Rattle.jiff_core.specs.Calendar.{days_in_month, days_from_civil, day_count, day_of_year}
use Rattle.jiff_core.specs.Date.{epoch_day, ordinal}
use Rattle.jiff_core.proofs.SignedLemmas.{signed_arith}
use Rattle.jiff_core.proofs.MarchLemmas.{day_count-early}
use Rattle.jiff_core.proofs.CalendarLemmas.{days_from_civil-day_count, day_count-lt_year, day_count-lt_month, day_count-day, day_count-day_of_year, days_in_month_bounds}
use Rattle.jiff_core.proofs.DateLemmas.{civil, days_from_civil-day}
use Rattle.jiff_fmt.specs.Reader.{two_digits, four_digits}
use Rattle.jiff_fmt.specs.Text.{pad2, pad4}
use Rattle.jiff_fmt.specs.Text as jiff
use Rattle.jiff_fmt.proofs.RoundTrip.{two_digits-pad2, four_digits-pad4}
use Rattle.fly_scalars.specs.declared.datetime.Instant.{Instant}
use Rattle.fly_scalars.specs.Digits.{Front, ◌>>=◌, after, fraction, fraction_digits}
use Rattle.fly_scalars.specs.Datetime.{is_day, day_number, date_front, minutes_front, time_front, at_end, offset_of, instant_at, datetime_of, last_begun, year_of, month_of, day_of_month, date_text, time_text, fraction_text, datetime_text}
use Rattle.fly_scalars.proofs.DigitLemmas.{fraction-text}

-- ---- tests of signed numbers

pub is_lt : (a b : ℤ) → a <ℤ b → int_lt a b ≡ true
is_lt a b h = by (int_lt a b) refl where
  by : (t : Bool) → int_lt a b ≡ t → int_lt a b ≡ true
  by true e = e
  by false e = absurd (omega (arith, signed_arith, h, e))

pub not_lt : (a b : ℤ) → a ≤ℤ b → int_lt b a ≡ false
not_lt a b h = by (int_lt b a) refl where
  by : (t : Bool) → int_lt b a ≡ t → int_lt b a ≡ false
  by false e = e
  by true e = absurd (omega (arith, signed_arith, h, e))

-- ---- the year, the month and the day of a day's number

last_begun-step : (first_day : ℕ → ℤ) (day : ℤ) (n k : ℕ) → 1 ≤ k → k ≤ suc n → first_day k ≤ℤ day → ((j : ℕ) → k < j → j ≤ suc n → day <ℤ first_day j)
    → (k ≤ n → last_begun first_day day n ≡ k) → last_begun first_day day (suc n) ≡ k
unfolding last_begun
last_begun-step first_day day n k some within begun later below = elim (cases_order k (suc n)) [
  | inl same ↦
      let not_before : int_lt day (first_day (suc n)) ≡ false = subst (λ j. int_lt day (first_day j) ≡ false) same (not_lt (first_day k) day begun) in
      rw not_before (sym same)
  | inr (inl lt) ↦
      let before : int_lt day (first_day (suc n)) ≡ true = is_lt day (first_day (suc n)) (later (suc n) lt (omega arith)) in
      rw before (below (omega arith))
  | inr (inr gt) ↦ absurd (omega arith)
]

pub last_begun_is : (first_day : ℕ → ℤ) (day : ℤ) (n k : ℕ) → 1 ≤ k → k ≤ n → first_day k ≤ℤ day → ((j : ℕ) → k < j → j ≤ n → day <ℤ first_day j)
    → last_begun first_day day n ≡ k
last_begun_is first_day day zero k some within begun later = absurd (omega arith)
last_begun_is first_day day (suc n) k some within begun later =
    last_begun-step first_day day n k some within begun later (λ le. last_begun_is first_day day n k some le begun (λ j above below. later j above (omega arith)))

-- the date's year, which is one from 1 to 9999
module _ (d : Date) (y : ℕ) (is : d.year ≡ pos y) (some : 1 ≤ y) (four : y ≤ 9999) where
  pub year_is : year_of (epoch_day d) ≡ y
  year_is =
      last_begun_is (λ year. days_from_civil (pos year) 1 1) (epoch_day d) 9999 y some four begun later where
        begun : days_from_civil (pos y) 1 1 ≤ℤ epoch_day d
        begun = subst (λ z. days_from_civil z 1 1 ≤ℤ epoch_day d) is (omega (arith, signed_arith, days_from_civil-day_count, day_count-day_of_year d.year d.month d.day d.day_in.0, d.day_in.0))

        later : (j : ℕ) → y < j → j ≤ 9999 → epoch_day d <ℤ days_from_civil (pos j) 1 1
        later j above within =
            let less : d.year <ℤ pos j = omega (arith, signed_arith, is) in
            omega (arith, signed_arith, days_from_civil-day_count, day_count-lt_year d.year d.month d.day (pos j) 1 1 (civil d) (omega arith) less)

  pub month_is : month_of (epoch_day d) ≡ d.month
  month_is =
      subst (λ n. last_begun (λ month. days_from_civil (pos n) month 1) (epoch_day d) 12 ≡ d.month) (sym year_is)
      (subst (λ z. last_begun (λ month. days_from_civil z month 1) (epoch_day d) 12 ≡ d.month) is
      (last_begun_is (λ month. days_from_civil d.year month 1) (epoch_day d) 12 d.month d.month_in.0 d.month_in.1 begun later)) where
        begun : days_from_civil d.year d.month 1 ≤ℤ epoch_day d
        begun = omega (arith, signed_arith, days_from_civil-day_count, day_count-day d.year d.month d.day 1 d.day_in.0 (omega arith), d.day_in.0)

        later : (j : ℕ) → d.month < j → j ≤ 12 → epoch_day d <ℤ days_from_civil d.year j 1
        later j above within =
            omega (arith, signed_arith, days_from_civil-day_count, day_count-lt_month d.year d.month d.day j 1 (civil d) (omega arith) above)

  pub day_is : day_of_month (epoch_day d) ≡ d.day
  day_is =
      let first : days_from_civil (pos (year_of (epoch_day d))) (month_of (epoch_day d)) 1 ≡ days_from_civil d.year d.month 1 =
      ap (λ n. days_from_civil (pos n) (month_of (epoch_day d)) 1) year_is ∙ ap (λ m. days_from_civil (pos y) m 1) month_is ∙ ap (λ z. days_from_civil z d.month 1) (sym is) in
      let apart : epoch_day d -ℤ days_from_civil d.year d.month 1 ≡ pos (d.day - 1) = omega (arith, signed_arith, days_from_civil-day d.year d.month d.day 1 d.day_in.0 (omega arith), d.day_in.0) in
      ap (λ z. unsigned_abs (epoch_day d -ℤ z) + 1) first ∙ ap (λ z. unsigned_abs z + 1) apart ∙ omega (arith, d.day_in.0)

  -- the date as jiff writes it
  pub date_is : date_text (epoch_day d) ≡ jiff.date_text d
  date_is = rw (day_is, month_is, year_is, is) refl

  pub date_reads : (rest : List ℕ) → date_front (date_text (epoch_day d) ++ rest) ≡ Some (epoch_day d, rest)
  unfolding date_front
  date_reads rest =
      let month_small : d.month < 100 = omega (arith, d.month_in.1) in
      let day_small : d.day < 100 = omega (arith, d.day_in.1, (days_in_month_bounds d.year d.month).0) in
      let year = four_digits-pad4 y (45 ∷ pad2 d.month ++ 45 ∷ pad2 d.day ++ rest) (omega arith) in
      let month = two_digits-pad2 d.month (45 ∷ pad2 d.day ++ rest) month_small in
      let day = two_digits-pad2 d.day rest day_small in
      let tests : is_day y d.month d.day ≡ true = subst (λ z. (nat_le 1 d.month && nat_le d.month 12 && nat_le 1 d.day && nat_le d.day (days_in_month z d.month)) ≡ true) is (grind (arith, nat_tests, d.month_in.0, d.month_in.1, d.day_in.0, d.day_in.1)) in
      let same : days_from_civil (pos y) d.month d.day ≡ epoch_day d = ap (λ z. days_from_civil z d.month d.day) (sym is) in
      let written : date_text (epoch_day d) ≡ pad4 y ++ 45 ∷ pad2 d.month ++ 45 ∷ pad2 d.day = rw (day_is, month_is, year_is) refl in
      ap (λ text. date_front (text ++ rest)) written ∙ rw (year, month, day, tests, same) refl

-- ---- the time of day

pub minutes_read : (hour minute : ℕ) (rest : List ℕ) → hour ≤ 23 → minute ≤ 59 → minutes_front (pad2 hour ++ 58 ∷ pad2 minute ++ rest) ≡ Some (hour * 3600 + minute * 60, rest)
unfolding minutes_front
minutes_read hour minute rest h m =
    let first = two_digits-pad2 hour (58 ∷ pad2 minute ++ rest) (omega arith) in
    let second = two_digits-pad2 minute rest (omega arith) in
    let tests : (nat_le hour 23 && nat_le minute 59) ≡ true = grind (arith, nat_tests) in
    rw (first, second, tests) refl

pub time_reads : (second : ℕ) (rest : List ℕ) → second < 86_400 → time_front (time_text second ++ rest) ≡ Some (second, rest)
unfolding time_front
time_reads second rest below =
    let minutes = minutes_read (second / 3600) (second / 60 % 60) (58 ∷ pad2 (second % 60) ++ rest) (omega arith) (omega arith) in
    let last = two_digits-pad2 (second % 60) rest (omega arith) in
    let test : nat_le (second % 60) 59 ≡ true = grind (arith, nat_tests) in
    let whole : second / 3600 * 3600 + second / 60 % 60 * 60 + second % 60 ≡ second = omega arith in
    rw (minutes, last, test, whole) refl

-- ---- the first and the last day

pub first_day : days_from_civil (pos 1) 1 1 ≡ neg_ℤ (pos 719_162)
first_day = omega (arith, signed_arith, days_from_civil-day_count (pos 1) 1 1, day_count-early (pos 1) 10000 1 1 refl (omega arith) (omega arith) (omega arith))

-- a date from 0001-01-01 on has a year from 1 on
pub year_positive : (d : Date) → neg_ℤ (pos 719_162) ≤ℤ epoch_day d → (y : ℕ) × (d.year ≡ pos y) × (1 ≤ y) × (y ≤ 9999)
year_positive d late = by d.year refl where
  by : (z : ℤ) → d.year ≡ z → (y : ℕ) × (d.year ≡ pos y) × (1 ≤ y) × (y ≤ 9999)
  by (pos zero) is =
      let less : d.year <ℤ pos 1 = omega (arith, signed_arith, is) in
      absurd (omega (arith, signed_arith, late, first_day, days_from_civil-day_count, day_count-lt_year d.year d.month d.day (pos 1) 1 1 (civil d) (omega arith) less))
  by (pos (suc n)) is = (suc n, is, omega arith, omega (arith, signed_arith, is, d.year_in.1))
  by (negsuc n) is =
      let less : d.year <ℤ pos 1 = omega (arith, signed_arith, is) in
      absurd (omega (arith, signed_arith, late, first_day, days_from_civil-day_count, day_count-lt_year d.year d.month d.day (pos 1) 1 1 (civil d) (omega arith) less))

-- ---- whole date-times

pub instant_in : (t : Instant) → IsInstant t.seconds t.nanos → instant_at t.seconds t.nanos ≡ Some t
instant_in t h =
    let low = not_lt (neg_ℤ (pos 62_135_596_800)) t.seconds h.after_first in
    let high = not_lt t.seconds (pos 253_402_300_799) h.before_last in
    rw (low, high) refl

pub instant_range : (seconds : ℤ) (nanos : ℕ) → nanos < 10 ^ 9 → IfSome (instant_at seconds nanos) (λ t. IsInstant t.seconds t.nanos)
instant_range seconds nanos below = by (int_lt seconds (neg_ℤ (pos 62_135_596_800))) (int_lt (pos 253_402_300_799) seconds) refl refl where
  by : (a b : Bool) → int_lt seconds (neg_ℤ (pos 62_135_596_800)) ≡ a → int_lt (pos 253_402_300_799) seconds ≡ b
      → IfSome (cond (not a && not b) (Some (record { seconds = seconds; nanos = nanos })) None) (λ (t : Instant). IsInstant t.seconds t.nanos)
  by true b e f = tt
  by false true e f = tt
  by false false e f = record { after_first = omega (arith, signed_arith, e); before_last = omega (arith, signed_arith, f); nanos_below = below }

-- the day of an instant, and the second of that day
pub split_seconds : (seconds : ℤ) → (int_div_euclid seconds (pos 86_400) *ℤ pos 86_400 +ℤ pos (unsigned_abs (int_rem_euclid seconds (pos 86_400)))) -ℤ pos 0 ≡ seconds
split_seconds seconds = omega (arith, signed_arith)

pub datetime_reads : (t : Instant) (d : Date) → IsInstant t.seconds t.nanos → epoch_day d ≡ int_div_euclid t.seconds (pos 86_400) → datetime_of (datetime_text t) ≡ Some t
unfolding datetime_of datetime_text offset_of
datetime_reads t d range is =
    let day = int_div_euclid t.seconds (pos 86_400) in
    let second = unsigned_abs (int_rem_euclid t.seconds (pos 86_400)) in
    let late : neg_ℤ (pos 719_162) ≤ℤ epoch_day d = omega (arith, signed_arith, is, range.after_first) in
    let year = year_positive d late in
    let below : second < 86_400 = omega (arith, signed_arith) in
    let date = date_reads d year.0 year.1 year.2 year.3 (84 ∷ time_text second ++ fraction_text t.nanos ++ 90 ∷ []) in
    let time = time_reads second (fraction_text t.nanos ++ 90 ∷ []) below in
    let nanos = fraction-text t.nanos 90 [] range.nanos_below refl (λ e. omega (arith, e)) in
    let date' : date_front (date_text day ++ 84 ∷ time_text second ++ fraction_text t.nanos ++ 90 ∷ []) ≡ Some (day, 84 ∷ time_text second ++ fraction_text t.nanos ++ 90 ∷ []) =
    subst (λ x. date_front (date_text x ++ 84 ∷ time_text second ++ fraction_text t.nanos ++ 90 ∷ []) ≡ Some (x, 84 ∷ time_text second ++ fraction_text t.nanos ++ 90 ∷ [])) is date in
    let seconds = split_seconds t.seconds in
    let within = instant_in t range in
    rw (date', time, nanos, seconds) within

-- an instant as jiff writes it, and `Z`
pub text_is : (t : Instant) (d : Date) (time : Time) → IsInstant t.seconds t.nanos → epoch_day d ≡ int_div_euclid t.seconds (pos 86_400)
    → time.hour ≡ unsigned_abs (int_rem_euclid t.seconds (pos 86_400)) / 3600
    → time.minute ≡ unsigned_abs (int_rem_euclid t.seconds (pos 86_400)) / 60 % 60
    → time.second ≡ unsigned_abs (int_rem_euclid t.seconds (pos 86_400)) % 60
    → time.subsec_nanosecond ≡ t.nanos
    → (jiff.date_text d ++ 84 ∷ jiff.time_text (Some (fraction_digits t.nanos)) time) ++ 90 ∷ [] ≡ datetime_text t
unfolding datetime_text
text_is t d time range is hour minute second nanos =
    let late : neg_ℤ (pos 719_162) ≤ℤ epoch_day d = omega (arith, signed_arith, is, range.after_first) in
    let year = year_positive d late in
    let date : jiff.date_text d ≡ date_text (int_div_euclid t.seconds (pos 86_400)) = sym (date_is d year.0 year.1 year.2 year.3) ∙ ap date_text is in
    ap (λ x. (x ++ 84 ∷ jiff.time_text (Some (fraction_digits t.nanos)) time) ++ 90 ∷ []) date ∙ rw (hour, minute, second, nanos) refl
