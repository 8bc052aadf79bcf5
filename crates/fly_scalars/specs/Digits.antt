-- What stands at the front of a text: a byte, digits, and a fraction of a second.
use Rattle.std.specs.Prelude.{ℕ, ◌-◌, ◌*◌, ◌^◌, ◌%◌, ◌==◌, ◌||◌, nat_lt, List, [], ◌∷◌, take, drop, Option, Some, None, option_map, if◌then◌else◌}
use Rattle.std.specs.List.{prefix_len}
use Rattle.std.specs.Char.{is_ascii_digit}
use Rattle.std.specs.Borrow.{Bor}
use Rattle.std.specs.Str.Parse.{digits_value}

-- a value at the front of a text, and what follows it
abbrev pub Front : Type 0 → Type 0
Front A = Option (A × List ℕ)

-- what a function found, with the rest behind the reference
abbrev pub front_view : {A : Type 0} → Option (A × Bor (List ℕ)) → Front A
front_view r = option_map (λ p. (p.0, p.1.now)) r

abbrev pub rest_view : Option (Bor (List ℕ)) → Option (List ℕ)
rest_view r = option_map (λ s. s.now) r

-- the next step, where the one before found what it looked for
infixl 10 ◌>>=◌
abbrev pub ◌>>=◌ : {A B : Type 0} → Option A → (A → Option B) → Option B
None >>= f = None
(Some x) >>= f = f x

-- the byte, and what follows it
abbrev pub after : ℕ → List ℕ → Option (List ℕ)
after byte [] = None
after byte (b ∷ rest) = if b == byte then Some rest else None

-- all the digits at the front, one at least, as a number
unfoldable pub number : List ℕ → Front ℕ
number text =
    let count = prefix_len is_ascii_digit text in
    if count == 0 then None else Some (digits_value 10 (take count text), drop count text)

-- all the digits at the front, 1 to 9 of them, as the first digits of nine
unfoldable pub billionths : List ℕ → Front ℕ
billionths text =
    let count = prefix_len is_ascii_digit text in
    if count == 0 || nat_lt 9 count then None
    else Some (digits_value 10 (take count text) * 10 ^ (9 - count), drop count text)

-- a fraction of a second in nanoseconds: none, or a point with 1 to 9 digits
unfoldable pub fraction : List ℕ → Front ℕ
fraction [] = Some (0, [])
fraction (b ∷ rest) = if b == 46 then billionths rest else Some (0, b ∷ rest)

-- how many digits a fraction is written with, the fewest of 0, 3, 6 and 9 that are exact
abbrev pub fraction_digits : ℕ → ℕ
fraction_digits nanos =
    if nanos == 0 then 0 else (if nanos % 1_000_000 == 0 then 3 else (if nanos % 1_000 == 0 then 6 else 9))

-- the same where the number has 64 bits
abbrev pub short_number : List ℕ → Front ℕ
short_number text = number text >>= (λ p. if nat_lt p.0 (2 ^ 64) then Some p else None)
