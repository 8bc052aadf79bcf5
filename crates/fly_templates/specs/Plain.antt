-- Literals as plain texts.
use Rattle.std.specs.Prelude.{ℕ, ◌^◌, nat_lt, Bool, true, false, ℤ, nat_abs, List, codes, Option, Some, None, unwrap_or, if◌then◌else◌}
use Rattle.fly_types.specs.declared.literals.Literal.{Literal, out-Literal}
use Rattle.fly_types.specs.declared.literals.Literal.TheOpen.{Literal-F}
use Rattle.fly_types.specs.Layer.{LiteralLayer}
use Rattle.fly_scalars.specs.Whole.{integer_text}
use Rattle.fly_scalars.specs.Datetime.{datetime_text}
use Rattle.fly_scalars.specs.Duration.{duration_text}
use Rattle.fly_writers.specs.Literals.{literal_text, is_written_instant}

abbrev pub truth_text : Bool → List ℕ
truth_text true = codes "true"
truth_text false = codes "false"

-- a date-time from year 1 to year 9999
abbrev pub plain_datetime : ℤ → ℕ → Option (List ℕ)
plain_datetime seconds nanos =
    if is_written_instant seconds nanos
    then Some (datetime_text (record { seconds = seconds; nanos = nanos })) else None

-- a duration whose nanoseconds are below a second
abbrev pub plain_duration : ℤ → ℤ → Option (List ℕ)
plain_duration seconds nanos =
    if nat_lt (nat_abs nanos) (10 ^ 9) then Some (duration_text (record { seconds = seconds; nanos = nanos })) else None

-- a text, a number or a truth value, and a date-time or a duration that has a text
abbrev pub plain_text_by : LiteralLayer → Option (List ℕ)
plain_text_by (Literal-F.Integer value) = Some (integer_text value)
plain_text_by (Literal-F.Text text) = Some text
plain_text_by (Literal-F.Boolean value) = Some (truth_text value)
plain_text_by (Literal-F.Datetime seconds nanos) = plain_datetime seconds nanos
plain_text_by (Literal-F.Duration seconds nanos) = plain_duration seconds nanos
plain_text_by _ = None

-- its plain text, or else its JSON
unfoldable pub plain_text : Literal → List ℕ
plain_text l = unwrap_or (plain_text_by (out-Literal l)) (literal_text l)
