-- A date-time of a document is read back from its text: the calendar has each of its days.
use Rattle.std.proofs.Common.{◌≡◌, ℕ, zero, suc, ◌+◌, ◌<◌, ◌≤◌, nat_lt, Bool, true, false, ℤ, pos, negsuc, neg_ℤ, ◌+ℤ◌, ◌<ℤ◌, int_lt, Some, refl, ap, ap₂, arith}
use Rattle.std.proofs.lemmas.Bool.{ltb-true, ltb-false}
use Rattle.std.specs.Int.{int_div_euclid}
use Rattle.jiff_core.specs.declared.civil.date.Date.{Date}
use Rattle.jiff_core.specs.Calendar.{days_in_month, day_count}
use Rattle.jiff_core.proofs.SignedLemmas.{signed_arith}
use Rattle.jiff_core.proofs.CalendarLemmas.{days_from_civil-day_count, days_in_month_bounds, day_count-next_year, day_count-day, day_count-next_month, day_count-last_of_year, day_count-min, day_count-end}
use Rattle.fly_types.specs.Sound.{IsInstant}
use Rattle.fly_scalars.specs.declared.datetime.Instant.{Instant}
use Rattle.fly_scalars.specs.Datetime.{datetime_of, datetime_text}
use Rattle.fly_scalars.proofs.DatetimeLemmas.{datetime_reads}

-- the calendar has the day of this count
abbrev HasDay : ℕ → Type 0
HasDay n = (d : Date) × (day_count d.year d.month d.day ≡ n)

first : HasDay 366
first = (
  record {
    year = neg_ℤ (pos 9999);
    month = 1;
    day = 1;
    year_in = (omega (arith, signed_arith), omega (arith, signed_arith));
    month_in = (omega arith, omega arith);
    day_in = (omega arith, omega (arith, days_in_month_bounds (neg_ℤ (pos 9999)) 1));
  },
  day_count-min,
)

-- ---- the day after a day

abbrev HasNext : Date → Type 0
HasNext d = HasDay (day_count d.year d.month d.day + 1)

in_month : (d : Date) → d.day < days_in_month d.year d.month → HasNext d
in_month d h = (
  record {
    year = d.year;
    month = d.month;
    day = d.day + 1;
    year_in = d.year_in;
    month_in = d.month_in;
    day_in = (omega arith, omega (arith, h));
  },
  omega (arith, day_count-day d.year d.month d.day (d.day + 1) d.day_in.0 (omega arith)),
)

next_month : (d : Date) → days_in_month d.year d.month ≤ d.day → d.month < 12 → HasNext d
next_month d last h = (
  record {
    year = d.year;
    month = d.month + 1;
    day = 1;
    year_in = d.year_in;
    month_in = (omega arith, omega (arith, h));
    day_in = (omega arith, omega (arith, days_in_month_bounds d.year (d.month + 1)));
  },
  omega (
    arith,
    day_count-next_month d.year d.month d.month_in.0,
    day_count-day d.year d.month 1 d.day (omega arith) d.day_in.0,
    last,
    d.day_in.1,
  ),
)

at_december : (d : Date) → d.month ≡ 12 → d.day ≡ 31 → day_count d.year d.month d.day ≡ day_count d.year 12 31
at_december d month day = ap₂ (day_count d.year) month day

next_year : (d : Date) → d.month ≡ 12 → d.day ≡ 31 → d.year <ℤ pos 9999 → HasNext d
next_year d month day h = (
  record {
    year = d.year +ℤ pos 1;
    month = 1;
    day = 1;
    year_in = (omega (arith, signed_arith, d.year_in.0), omega (arith, signed_arith, h));
    month_in = (omega arith, omega arith);
    day_in = (omega arith, omega (arith, days_in_month_bounds (d.year +ℤ pos 1) 1));
  },
  omega (
    arith,
    at_december d month day,
    day_count-last_of_year d.year,
    day_count-next_year d.year (d.year +ℤ pos 1) (omega (arith, signed_arith, d.year_in.0)) refl,
  ),
)

last_count : (d : Date) → d.month ≡ 12 → d.day ≡ 31 → d.year ≡ pos 9999
    → day_count d.year d.month d.day + 1 ≡ 7_304_850
last_count d month day year =
    let next = day_count-next_year d.year (pos 10000) (omega (arith, signed_arith, d.year_in.0))
    (omega (arith, signed_arith, year)) in
    omega (arith, at_december d month day, day_count-last_of_year d.year, next, day_count-end)

december : (d : Date) → d.month ≡ 12 → days_in_month d.year d.month ≤ d.day → d.day ≡ 31
december d month last =
    let long : days_in_month d.year d.month ≡ 31 = ap (days_in_month d.year) month in
    omega (arith, long, last, d.day_in.1)

next_day : (d : Date) → day_count d.year d.month d.day + 1 ≤ 7_304_849 → HasNext d
next_day d h = by (nat_lt d.day (days_in_month d.year d.month)) (nat_lt d.month 12) (int_lt d.year (pos 9999))
    refl refl refl
  where
    by : (a b c : Bool) → nat_lt d.day (days_in_month d.year d.month) ≡ a → nat_lt d.month 12 ≡ b
        → int_lt d.year (pos 9999) ≡ c → HasNext d
    by true b c e f g = in_month d (ltb-true _ _ e)
    by false true c e f g = next_month d (ltb-false _ _ e) (ltb-true _ _ f)
    by false false true e f g =
        let month : d.month ≡ 12 = omega (arith, ltb-false _ _ f, d.month_in.1) in
        next_year d month (december d month (ltb-false _ _ e)) (omega (arith, signed_arith, g))
    by false false false e f g =
        let month : d.month ≡ 12 = omega (arith, ltb-false _ _ f, d.month_in.1) in
        let year : d.year ≡ pos 9999 = omega (arith, signed_arith, g, d.year_in.1) in
        absurd (omega (arith, h, last_count d month (december d month (ltb-false _ _ e)) year))

-- ---- every day

any_day : (k : ℕ) → 366 + k ≤ 7_304_849 → HasDay (366 + k)
any_day zero h = first
any_day (suc k) h =
    let d = any_day k (omega (arith, h)) in
    let n = next_day d.0 (omega (arith, d.1, h)) in
    (n.0, omega (arith, n.1, d.1))

pub datetime-read : (t : Instant) → IsInstant t.seconds t.nanos → datetime_of (datetime_text t) ≡ Some t
datetime-read t h = by (int_div_euclid t.seconds (pos 86_400) +ℤ pos 4_371_587) refl
  where
    by : (z : ℤ) → int_div_euclid t.seconds (pos 86_400) +ℤ pos 4_371_587 ≡ z → datetime_of (datetime_text t) ≡ Some t
    by (pos k) is =
        let d = any_day k (omega (arith, signed_arith, is, h.before_last)) in
        datetime_reads t d.0 h
        (omega (arith, signed_arith, is, d.1, days_from_civil-day_count d.0.year d.0.month d.0.day))
    by (negsuc k) is = absurd (omega (arith, signed_arith, is, h.after_first))
