-- Whole numbers as texts: an optional `-` and decimal digits, as the proto3 JSON mapping has numbers of 64 bits.
use Rattle.std.specs.Prelude.{ℕ, ◌^◌, ◌<◌, ◌&&◌, nat_lt, not, Bool, ℤ, pos, neg_ℤ, int_lt, unsigned_abs, List, length, drop, Option, Some, None, cond, if◌then◌else◌}
use Rattle.std.specs.Fmt.{signed_decimal}
use Rattle.std.specs.Str.{all_ascii_digits}
use Rattle.std.specs.Str.Parse.{digits_value, starts_with_minus}
use Rattle.fly_scalars.specs.Digits.{◌>>=◌}

-- what stands behind the sign, where there is one
abbrev pub without_minus : List ℕ → List ℕ
without_minus text = drop (cond (starts_with_minus text) 1 0) text

-- digits alone, one at least
abbrev pub is_numeral : List ℕ → Bool
is_numeral text = nat_lt 0 (length text) && all_ascii_digits text

-- the number under its sign
abbrev pub signed_value : List ℕ → ℤ
signed_value text =
    let value = digits_value 10 (without_minus text) in cond (starts_with_minus text) (neg_ℤ (pos value)) (pos value)

-- the number that a text of an optional `-` and digits is, of whatever size
abbrev pub integer_of : List ℕ → Option ℤ
integer_of text = if is_numeral (without_minus text) then Some (signed_value text) else None

-- from -2^63 to 2^63 - 1
abbrev pub fits_i64 : ℤ → Bool
fits_i64 z = not (int_lt z (neg_ℤ (pos (2 ^ 63)))) && int_lt z (pos (2 ^ 63))

-- from 0 to 2^32 - 1
abbrev pub fits_u32 : ℤ → Bool
fits_u32 z = not (int_lt z (pos 0)) && int_lt z (pos (2 ^ 32))

-- the number, where it has 32 bits and no sign
abbrev pub narrow : ℤ → Option ℕ
narrow z = if fits_u32 z then Some (unsigned_abs z) else None

-- the signed number of 64 bits that the text is
unfoldable pub i64_of : List ℕ → Option ℤ
i64_of text = integer_of text >>= (λ z. if fits_i64 z then Some z else None)

-- the unsigned number of 32 bits that the text is
unfoldable pub u32_of : List ℕ → Option ℕ
u32_of text = integer_of text >>= narrow

-- the text of a number
abbrev pub integer_text : ℤ → List ℕ
integer_text z = signed_decimal z
