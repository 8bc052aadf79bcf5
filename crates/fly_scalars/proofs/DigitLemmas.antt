-- Digits at the front of a text.
use Rattle.std.proofs.Common.{◌≡◌, ◌≢◌, ℕ, zero, suc, ◌+◌, ◌-◌, ◌*◌, ◌%◌, ◌^◌, ◌<◌, ◌≤◌, ◌==◌, ◌++◌, ◌||◌, nat_lt, List, [], ◌∷◌, length, get_or, take, drop, true, false, Bool, cond, Option, Some, None, Result, Ok, Err, refl, sym, ap, subst, ◌∙◌, arith, rules}
use Rattle.std.proofs.lemmas.Bool.Decides.{nat_tests}
use Rattle.std.proofs.lemmas.Nat.{pow-add}
use Rattle.std.proofs.lemmas.List.{length-drop}
use Rattle.std.proofs.lemmas.List.Folds.{length-prefix_len}
use Rattle.std.proofs.lemmas.Int.Digits.{digits_value-lt}
use Rattle.std.proofs.lemmas.Str.{digit_value_digit, IsUtf8-from_ascii}
use Rattle.std.proofs.lemmas.Str.Parse.{IsNumeralModel, numerals_by_value, tells_digits, not_in_digits, parse_plain}
use Rattle.std.proofs.lemmas.Fmt.{IsAscii-from_digits}
use Rattle.std.proofs.Math.Nat.{mul-lt-mul_of_pos_right, mul-le-mul_left}
use Rattle.std.specs.Char.{is_ascii_digit, digit_value}
use Rattle.std.specs.Int.{IsInRange}
use Rattle.std.specs.List.{prefix_len}
use Rattle.std.specs.Result.{OkIff}
use Rattle.std.specs.Str.{IsUtf8}
use Rattle.std.specs.Str.Parse.{AllDigits, digits_value, ParsesUnsigned}
use Rattle.std.proofs.Math.Seq.{take-append_seam, drop-append_seam}
use Rattle.std.proofs.lemmas.Str.Parse.{digit_from_value}
use native.Mathlib.Nat.{pow-suc}
use Rattle.std.specs.Str.Parse.{digits_value_after}
use Rattle.jiff_fmt.specs.Reader.{fraction_value}
use Rattle.jiff_fmt.specs.Text.{places, fraction_part}
use Rattle.jiff_fmt.proofs.TextLemmas.{places-read}
use Rattle.jiff_fmt.proofs.ReaderLemmas.{ten_pow-pos, fraction_value-nil, fraction_value-cons}
use Rattle.fly_scalars.specs.Datetime.{fraction_text}
use Rattle.fly_scalars.specs.Digits.{Front, number, billionths, short_number, fraction, fraction_digits}

-- how many digits stand at the front
abbrev pub count : List ℕ → ℕ
count text = prefix_len is_ascii_digit text

-- the number that they are
abbrev pub value : List ℕ → ℕ
value text = digits_value 10 (take (count text) text)

pub own : IsNumeralModel (AllDigits 10) (digits_value 10)
own = numerals_by_value (AllDigits 10) tells_digits

digit-range : (c : ℕ) → is_ascii_digit c ≡ true → IsInRange 48 57 c
digit-range c h = grind (arith, nat_tests)

pub digit-below : (c : ℕ) → is_ascii_digit c ≡ true → digit_value c < 10
digit-below c h = let range = digit-range c h in omega (arith, digit_value_digit c range, range.0, range.1)

front_digits-step : (c : ℕ) (cs : List ℕ) (b : Bool) → is_ascii_digit c ≡ b → AllDigits 10 (take (count cs) cs) → AllDigits 10 (take (cond b (1 + count cs) 0) (c ∷ cs))
front_digits-step c cs false h rest = tt
front_digits-step c cs true h rest =
    let more : 1 + count cs ≡ suc (count cs) = omega arith in
    subst (λ n. AllDigits 10 (take n (c ∷ cs))) (sym more) (digit-below c h, rest)

pub front_digits : (text : List ℕ) → AllDigits 10 (take (count text) text)
front_digits [] = tt
front_digits (c ∷ cs) = front_digits-step c cs (is_ascii_digit c) refl (front_digits cs)

pub front_utf8 : (text : List ℕ) → IsUtf8 (take (count text) text)
front_utf8 text = IsUtf8-from_ascii (take (count text) text) (IsAscii-from_digits (take (count text) text) (front_digits text))

pub no_plus : (ds : List ℕ) → AllDigits 10 ds → get_or ds 0 0 ≢ 43
no_plus [] d = λ e. omega (arith, e)
no_plus (c ∷ cs) d = not_in_digits own (c ∷ cs) 43 d (λ within. omega arith) 0 (omega arith)

-- ---- numbers of 64 bits

pub short_number-some : (text : List ℕ) → 0 < count text → value text < 2 ^ 64 → short_number text ≡ Some (value text, drop (count text) text)
unfolding number
short_number-some text h k =
    let some : (count text == 0) ≡ false = grind (arith, nat_tests) in
    let fits : nat_lt (value text) (2 ^ 64) ≡ true = grind (arith, nat_tests) in
    rw (some, fits)

pub short_number-no_digit : (text : List ℕ) → count text ≡ 0 → short_number text ≡ None
unfolding number
short_number-no_digit text h = let none : (count text == 0) ≡ true = grind (arith, nat_tests) in rw none

pub short_number-long : (text : List ℕ) → 2 ^ 64 ≤ value text → short_number text ≡ None
unfolding number
short_number-long text h = by (count text == 0) refl where
  by : (b : Bool) → (count text == 0) ≡ b → short_number text ≡ None
  by true e = rw e
  by false e = let past : nat_lt (value text) (2 ^ 64) ≡ false = grind (arith, nat_tests) in rw (e, past)

-- what `parse` gave of the digits, and what follows them
abbrev pub parsed_front : {E : Type 0} → Result ℕ E → List ℕ → Front ℕ
parsed_front (Ok n) rest = Some (n, rest)
parsed_front (Err e) rest = None

pub parsed : {E : Type 0} (text : List ℕ) (r : Result ℕ E) → ParsesUnsigned 64 10 (take (count text) text) r → parsed_front r (drop (count text) text) ≡ short_number text
parsed {E} text r h =
    by r (parse_plain own 64 (take (count text) text) r h (no_plus (take (count text) text) (front_digits text))) where
      by : (r : Result ℕ E) → OkIff r (AllDigits 10 (take (count text) text) × (0 < length (take (count text) text)) × (value text < 2 ^ 64)) (value text) → parsed_front r (drop (count text) text) ≡ short_number text
      by (Ok n) e = ap (λ v. Some (v, drop (count text) text)) e.1 ∙ sym (short_number-some text (omega (arith, length-prefix_len is_ascii_digit text, e.0.1)) e.0.2)
      by (Err _) bad = refused (nat_lt 0 (count text)) (nat_lt (value text) (2 ^ 64)) refl refl where
        refused : (a b : Bool) → nat_lt 0 (count text) ≡ a → nat_lt (value text) (2 ^ 64) ≡ b → None ≡ short_number text
        refused false b h k = sym (short_number-no_digit text (grind (arith, nat_tests)))
        refused true false h k = sym (short_number-long text (grind (arith, nat_tests)))
        refused true true h k =
            let some : 0 < count text = grind (arith, nat_tests) in
            let fits : value text < 2 ^ 64 = grind (arith, nat_tests) in
            absurd (bad (front_digits text, omega (arith, length-prefix_len is_ascii_digit text), fits))

-- ---- the first digits of nine

abbrev front_value : Front ℕ → ℕ
front_value None = 0
front_value (Some p) = p.0

abbrev front_rest : Front ℕ → List ℕ
front_rest None = []
front_rest (Some p) = p.1

front_none : (p : ℕ × List ℕ) → Some p ≡ None → ⊥
front_none p e = cc

-- the digits at the front, and what follows them, as `number` found them
pub record IsFront (text : List ℕ) (v : ℕ) (rest : List ℕ) : Type 0 where
  pub some : 0 < count text
  pub is : v ≡ value text
  pub behind : rest ≡ drop (count text) text

pub front_of : (text : List ℕ) (v : ℕ) (rest : List ℕ) → Some (v, rest) ≡ short_number text → IsFront text v rest
unfolding number
front_of text v rest h = by (count text == 0) refl where
  by : (b : Bool) → (count text == 0) ≡ b → IsFront text v rest
  by true e = absurd (front_none (v, rest) (h ∙ short_number-no_digit text (grind (arith, nat_tests))))
  by false e = fits (nat_lt (value text) (2 ^ 64)) refl where
    fits : (b : Bool) → nat_lt (value text) (2 ^ 64) ≡ b → IsFront text v rest
    fits true k =
        let all : Some (v, rest) ≡ Some (value text, drop (count text) text) = h ∙ short_number-some text (grind (arith, nat_tests)) (grind (arith, nat_tests)) in
        record { some = grind (arith, nat_tests); is = ap front_value all; behind = ap front_rest all }
    fits false k = absurd (front_none (v, rest) (h ∙ short_number-long text (grind (arith, nat_tests))))

count-le : (text : List ℕ) → count text ≤ length text
count-le [] = omega arith
count-le (c ∷ cs) = by (is_ascii_digit c) (count-le cs) where
  by : (b : Bool) → count cs ≤ length cs → cond b (1 + count cs) 0 ≤ suc (length cs)
  by true h = omega (arith, h)
  by false h = omega arith

-- so many bytes were digits
pub count_is : (text : List ℕ) (v : ℕ) (rest : List ℕ) → IsFront text v rest → (length rest ≤ length text) × (length text - length rest ≡ count text)
count_is text v rest h =
    let left : length rest ≡ length text - count text = ap length h.behind ∙ length-drop (count text) text in
    (omega arith, omega (arith, count-le text))

pub front-below : (text : List ℕ) (v : ℕ) (rest : List ℕ) → IsFront text v rest → v < 10 ^ count text
front-below text v rest h =
    let below : value text < 10 ^ length (take (count text) text) = digits_value-lt 10 (take (count text) text) (front_digits text) in
    let same : 10 ^ length (take (count text) text) ≡ 10 ^ count text = ap (λ n. 10 ^ n) (length-prefix_len is_ascii_digit text) in
    omega (arith, h.is)

tens-positive : (n : ℕ) → 0 < 10 ^ n
tens-positive n = ten_pow-pos n

-- with the missing places the number stays below 10^9
pub placed-below : (v n : ℕ) → n ≤ 9 → v < 10 ^ n → v * 10 ^ (9 - n) < 10 ^ 9
placed-below v n small h =
    let less : v * 10 ^ (9 - n) < 10 ^ n * 10 ^ (9 - n) = mul-lt-mul_of_pos_right h (tens-positive (9 - n)) in
    let parts : n + (9 - n) ≡ 9 = omega arith in
    let whole : 10 ^ n * 10 ^ (9 - n) ≡ 10 ^ 9 = sym (pow-add 10 n (9 - n)) ∙ ap (λ k. 10 ^ k) parts in
    omega arith

pub billionths-some : (text : List ℕ) (v : ℕ) (rest : List ℕ) → IsFront text v rest → count text ≤ 9 → billionths text ≡ Some (v * 10 ^ (9 - count text), rest)
unfolding billionths
billionths-some text v rest h small =
    let tests : (count text == 0 || nat_lt 9 (count text)) ≡ false = grind (arith, nat_tests, h.some) in
    rw (tests, h.is, h.behind)

pub billionths-many : (text : List ℕ) → 9 < count text → billionths text ≡ None
unfolding billionths
billionths-many text many =
    let tests : (count text == 0 || nat_lt 9 (count text)) ≡ true = grind (arith, nat_tests) in
    rw tests

pub billionths-none : (text : List ℕ) → None ≡ short_number text → billionths text ≡ None
unfolding billionths
billionths-none text h = by (count text == 0) (nat_lt 9 (count text)) refl refl where
  by : (a b : Bool) → (count text == 0) ≡ a → nat_lt 9 (count text) ≡ b → billionths text ≡ None
  by true b e k = rw e
  by false true e k = rw (e, k)
  by false false e k =
      let some : 0 < count text = grind (arith, nat_tests) in
      let small : count text ≤ 9 = grind (arith, nat_tests) in
      let below : value text < 10 ^ count text = front-below text (value text) (drop (count text) text) (record { some = some; is = refl; behind = refl }) in
      let placed = placed-below (value text) (count text) small below in
      let left : value text * 1 ≤ value text * 10 ^ (9 - count text) = mul-le-mul_left (value text) (tens-positive (9 - count text)) in
      let found = short_number-some text some (omega arith) in
      absurd (front_none (value text, drop (count text) text) (sym (h ∙ found)))

-- ---- digits in front of a text that begins with none

pub count_all : (ds rest : List ℕ) → AllDigits 10 ds → count rest ≡ 0 → count (ds ++ rest) ≡ length ds
count_all [] rest d none = none
count_all (c ∷ cs) rest d none =
    let range = digit_from_value c d.0 in
    let test : is_ascii_digit c ≡ true = grind (arith, nat_tests, range.0, range.1) in
    rw test (omega (arith, count_all cs rest d.1 none))

pub number_front : (ds rest : List ℕ) → AllDigits 10 ds → 0 < length ds → count rest ≡ 0 → number (ds ++ rest) ≡ Some (digits_value 10 ds, rest)
unfolding number
number_front ds rest d some none =
    let all = count_all ds rest d none in
    let tests : (count (ds ++ rest) == 0) ≡ false = grind (arith, nat_tests, all) in
    let digits : take (count (ds ++ rest)) (ds ++ rest) ≡ ds = ap (λ n. take n (ds ++ rest)) all ∙ take-append_seam ds rest in
    let behind : drop (count (ds ++ rest)) (ds ++ rest) ≡ rest = ap (λ n. drop n (ds ++ rest)) all ∙ drop-append_seam ds rest in
    rw (tests, digits, behind)

-- ---- the places of a fraction

spread : (v d p f : ℕ) → (v * 10 + d) * p + f ≡ v * (p * 10) + (d * p + f)
spread v d p f = omega arith

-- digits as the first of nine, and as a number
places_value : (j v : ℕ) (ds : List ℕ) → AllDigits 10 ds → length ds ≤ j → digits_value_after 10 v ds * 10 ^ (j - length ds) ≡ v * 10 ^ j + fraction_value j ds
places_value j v [] d short =
    let all : 10 ^ (j - 0) ≡ 10 ^ j = ap (λ i. 10 ^ i) (omega arith) in
    let none = fraction_value-nil j in
    let step : v * 10 ^ (j - 0) ≡ v * 10 ^ j = ap (λ x. v * x) all in
    omega (arith, step, none)
places_value zero v (c ∷ cs) d short = absurd (omega arith)
places_value (suc k) v (c ∷ cs) d short =
    let below : length cs ≤ k = omega arith in
    let left : suc k - suc (length cs) ≡ k - length cs = omega arith in
    let range = digit_from_value c d.0 in
    let digit : digit_value c ≡ c - 48 = omega (arith, digit_value_digit c range) in
    let start = ap (λ x. digits_value_after 10 (v * 10 + x) cs * 10 ^ (suc k - suc (length cs))) digit in
    let shift = ap (λ i. digits_value_after 10 (v * 10 + (c - 48)) cs * 10 ^ i) left in
    let rest = places_value k (v * 10 + (c - 48)) cs d.1 below in
    let worth = spread v (c - 48) (10 ^ k) (fraction_value k cs) in
    let tens = ap (λ x. v * x + ((c - 48) * 10 ^ k + fraction_value k cs)) (sym (pow-suc 10 k)) in
    let whole = ap (λ x. v * 10 ^ suc k + x) (sym (fraction_value-cons k c cs)) in
    start ∙ shift ∙ rest ∙ worth ∙ tens ∙ whole

pub places_number : (ds : List ℕ) → AllDigits 10 ds → length ds ≤ 9 → digits_value 10 ds * 10 ^ (9 - length ds) ≡ fraction_value 9 ds
places_number ds d short = omega (arith, places_value 9 0 ds d short)

-- a fraction of so many digits that is exact is read as it was
pub fraction_places : (k n : ℕ) (rest : List ℕ) → 0 < k → k ≤ 9 → n < 10 ^ 9 → n % 10 ^ (9 - k) ≡ 0 → count rest ≡ 0
    → billionths (places k (10 ^ 9) n ++ rest) ≡ Some (n, rest)
fraction_places k n rest some small below exact none =
    let text = places k (10 ^ 9) n ++ rest in
    let told = places-read k 9 n rest small below in
    let counted : count text ≡ k = omega (arith, told.0) in
    let digits : take (count text) text ≡ places k (10 ^ 9) n = ap (λ i. take i text) (counted ∙ sym told.1) ∙ take-append_seam (places k (10 ^ 9) n) rest in
    let behind : rest ≡ drop (count text) text = sym (ap (λ i. drop i text) (counted ∙ sym told.1) ∙ drop-append_seam (places k (10 ^ 9) n) rest) in
    let all : AllDigits 10 (places k (10 ^ 9) n) = subst (AllDigits 10) digits (front_digits text) in
    let worth : digits_value 10 (places k (10 ^ 9) n) * 10 ^ (9 - length (places k (10 ^ 9) n)) ≡ fraction_value 9 (places k (10 ^ 9) n) = places_number (places k (10 ^ 9) n) all (omega (arith, told.1)) in
    let same : 10 ^ (9 - length (places k (10 ^ 9) n)) ≡ 10 ^ (9 - count text) = ap (λ i. 10 ^ (9 - i)) (told.1 ∙ sym counted) in
    let front : IsFront text (digits_value 10 (places k (10 ^ 9) n)) rest = record { some = omega arith; is = ap (digits_value 10) (sym digits); behind = behind } in
    let found = billionths-some text (digits_value 10 (places k (10 ^ 9) n)) rest front (omega arith) in
    let number : digits_value 10 (places k (10 ^ 9) n) * 10 ^ (9 - count text) ≡ n = ap (λ x. digits_value 10 (places k (10 ^ 9) n) * x) (sym same) ∙ worth ∙ omega (arith, told.2, exact) in
    found ∙ ap (λ v. Some (v, rest)) number

-- a fraction as it is written is read as it was
pub fraction-text : (n : ℕ) (b : ℕ) (rest : List ℕ) → n < 10 ^ 9 → is_ascii_digit b ≡ false → b ≢ 46 → fraction (fraction_text n ++ b ∷ rest) ≡ Some (n, b ∷ rest)
unfolding fraction
fraction-text n b rest below plain point = by (n == 0) (n % 1_000_000 == 0) (n % 1_000 == 0) refl refl refl where
  none : count (b ∷ rest) ≡ 0
  none = rw plain

  by : (p q r : Bool) → (n == 0) ≡ p → (n % 1_000_000 == 0) ≡ q → (n % 1_000 == 0) ≡ r → fraction (fraction_text n ++ b ∷ rest) ≡ Some (n, b ∷ rest)
  by true q r e f g =
      let zero_is : 0 ≡ n = grind (arith, nat_tests) in
      let not_point : (b == 46) ≡ false = grind (arith, nat_tests) in
      rw e (rw not_point (ap (λ v. Some (v, b ∷ rest)) zero_is))
  by false true r e f g = rw (e, f) (fraction_places 3 n (b ∷ rest) (omega arith) (omega arith) below (grind (arith, nat_tests)) none)
  by false false true e f g = rw (e, f, g) (fraction_places 6 n (b ∷ rest) (omega arith) (omega arith) below (grind (arith, nat_tests)) none)
  by false false false e f g = rw (e, f, g) (fraction_places 9 n (b ∷ rest) (omega arith) (omega arith) below (grind (arith, nat_tests)) none)

-- nine digits or fewer are below 10^9
pub below_nine : (text : List ℕ) (v : ℕ) (rest : List ℕ) → IsFront text v rest → count text ≤ 9 → v < 10 ^ 9
below_nine text v rest h small =
    let below = front-below text v rest h in
    let placed = placed-below v (count text) small below in
    let left : v * 1 ≤ v * 10 ^ (9 - count text) = mul-le-mul_left v (tens-positive (9 - count text)) in
    omega arith

-- ---- what begins a fraction is no digit

pub fraction_start : (n b : ℕ) (rest : List ℕ) → is_ascii_digit b ≡ false → count (fraction_text n ++ b ∷ rest) ≡ 0
fraction_start n b rest plain = by (n == 0) (n % 1_000_000 == 0) (n % 1_000 == 0) refl refl refl where
  by : (p q r : Bool) → (n == 0) ≡ p → (n % 1_000_000 == 0) ≡ q → (n % 1_000 == 0) ≡ r → count (fraction_text n ++ b ∷ rest) ≡ 0
  by true q r e f g = rw e (rw plain refl)
  by false true r e f g = rw (e, f) refl
  by false false true e f g = rw (e, f, g) refl
  by false false false e f g = rw (e, f, g) refl
