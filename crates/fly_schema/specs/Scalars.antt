-- Which JSON values a scalar field may have, and which are refused as floats.
use Rattle.std.specs.Prelude.{ℕ, ◌==◌, ◌&&◌, ◌||◌, nat_le, not, Bool, true, false, ℤ, List, length, Option, Some, None, is_some, option_map, option_and_then, if◌then◌else◌}
use Rattle.std.specs.List.{find, list_any, list_all}
use Rattle.std.specs.Str.{bytes_eq}
use Rattle.serde_json.specs.Data.{unsigned, Data, number, string}
use Rattle.serde_json.specs.Find.{as_bool, as_str, as_i64, as_u64, is_float}
use Rattle.fly_scalars.specs.declared.datetime.Instant.{Instant}
use Rattle.fly_scalars.specs.declared.duration.Span.{Span}
use Rattle.fly_scalars.specs.Whole.{i64_of, u32_of}
use Rattle.fly_scalars.specs.Binary.{bytes_of}
use Rattle.fly_scalars.specs.Datetime.{datetime_of}
use Rattle.fly_scalars.specs.Duration.{duration_of, is_negative}
use Rattle.fly_schema.specs.Table.{Texts, any_text, bytes_within, Value, Scalars, boolean_form, text_form, integer_form, whole_form, enum_form, bytes_form, datetime_form, duration_form, timeout_form, float_form}

-- the value, where it passes the test
abbrev pub if_passes : {A : Type 0} → (A → Bool) → Option A → Option A
if_passes test o = option_and_then (λ x. if test x then Some x else None) o

-- ---- texts

abbrev pub is_within : List (ℕ × ℕ) → ℕ → Bool
is_within ranges b = list_any (λ r. nat_le r.0 b && nat_le b r.1) ranges

abbrev pub fits_texts : Texts → List ℕ → Bool
fits_texts any_text text = true
fits_texts (bytes_within least most ranges) text =
    nat_le least (length text) && nat_le (length text) most && list_all (is_within ranges) text

-- ---- the values that JSON values are

abbrev pub text_in : Texts → Data → Option (List ℕ)
text_in form d = if_passes (fits_texts form) (as_str d)

-- a whole number, or a text of one
abbrev pub integer_in : Data → Option ℤ
integer_in (number n) = as_i64 n
integer_in (string text) = i64_of text
integer_in _ = None

abbrev pub unsigned_in : Data → Option ℕ
unsigned_in (number n) = as_u64 n
unsigned_in (string text) = u32_of text
unsigned_in _ = None

abbrev pub whole_in : ℕ → Data → Option ℕ
whole_in most d = if_passes (λ n. nat_le n most) (unsigned_in d)

-- the number of the enum's value that has the name, or the number
abbrev pub enum_in : List Value → Data → Option ℕ
enum_in values (string text) = option_map (λ (v : Value). v.number) (find (λ (v : Value). bytes_eq text v.name) values)
enum_in values (number (unsigned n)) = option_map (λ (v : Value). v.number) (find (λ (v : Value). n == v.number) values)
enum_in values _ = None

abbrev pub bytes_in : Data → Option (List ℕ)
bytes_in d = option_and_then bytes_of (as_str d)

abbrev pub datetime_in : Data → Option Instant
datetime_in d = option_and_then datetime_of (as_str d)

abbrev pub duration_in : Data → Option Span
duration_in d = option_and_then duration_of (as_str d)

abbrev pub timeout_in : Data → Option Span
timeout_in d = if_passes (λ t. not (is_negative t)) (duration_in d)

-- ---- forms

abbrev pub is_fraction : Data → Bool
is_fraction (number n) = is_float n
is_fraction _ = false

-- a float, or a number that is no whole number of 64 bits where a whole number is read
abbrev pub is_refused_float : Scalars → Data → Bool
is_refused_float float_form d = true
is_refused_float integer_form d = is_fraction d
is_refused_float (whole_form most) d = is_fraction d
is_refused_float (enum_form values refused) d = is_fraction d || is_some (enum_in refused d)
is_refused_float _ d = false

-- the value has the form, and is in the range
abbrev pub has_form : Scalars → Data → Bool
has_form boolean_form d = is_some (as_bool d)
has_form (text_form texts) d = is_some (text_in texts d)
has_form integer_form d = is_some (integer_in d)
has_form (whole_form most) d = is_some (whole_in most d)
has_form (enum_form values refused) d = is_some (enum_in values d)
has_form bytes_form d = is_some (bytes_in d)
has_form datetime_form d = is_some (datetime_in d)
has_form duration_form d = is_some (duration_in d)
has_form timeout_form d = is_some (timeout_in d)
has_form float_form d = false
