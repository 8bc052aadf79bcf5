-- Whole numbers as texts.
use Rattle.std.proofs.Common.{◌≡◌, ◌≢◌, ℕ, zero, suc, ◌+◌, ◌-◌, ◌*◌, ◌^◌, ◌<◌, ◌≤◌, ◌==◌, ◌&&◌, nat_lt, not, ℤ, pos, negsuc, neg_ℤ, int_lt, unsigned_abs, List, [], ◌∷◌, length, get_or, take, drop, true, false, Bool, cond, Option, Some, None, unwrap_or, Result, Ok, Err, FitsSigned, w64, refl, sym, ap, subst, ◌∙◌, arith, rules}
use Rattle.std.proofs.lemmas.Bool.Decides.{nat_tests}
use Rattle.std.proofs.lemmas.Bool.{false≢true}
use Rattle.std.proofs.lemmas.Fmt.{digits_decimal, decimal_nonempty, decimal_is_IsNumeral}
use Rattle.std.proofs.lemmas.Str.Parse.{IsNumeralModel, numerals_by_value, tells_all_ascii_digits, not_in_digits, without_leading_plus_none}
use Rattle.jiff_core.proofs.SignedLemmas.{signed_arith}
use Rattle.std.specs.Fmt.{decimal, signed_decimal}
use Rattle.std.specs.Int.{IsInRange}
use Rattle.std.specs.Result.{OkIff, result_ok}
use Rattle.std.specs.Str.{all_ascii_digits}
use Rattle.std.specs.Str.Parse.{AllDigits, IsNumeral, digits_value, starts_with_minus, without_leading_sign, without_leading_plus, signed_digits_value, ParsesSigned}
use Rattle.fly_scalars.specs.Digits.{◌>>=◌}
use Rattle.fly_scalars.specs.Whole.{without_minus, is_numeral, signed_value, integer_of, fits_i64, fits_u32, narrow, i64_of, u32_of}
use Rattle.fly_scalars.proofs.DigitLemmas.{own, no_plus}

tested : IsNumeralModel (λ ds. all_ascii_digits ds ≡ true) (digits_value 10)
tested = numerals_by_value (λ ds. all_ascii_digits ds ≡ true) tells_all_ascii_digits

-- ---- tests and facts

pub numeral-is : (ds : List ℕ) → is_numeral ds ≡ true → IsNumeral 10 ds
numeral-is ds h = by (nat_lt 0 (length ds)) (all_ascii_digits ds) refl refl h where
  by : (a b : Bool) → nat_lt 0 (length ds) ≡ a → all_ascii_digits ds ≡ b → (a && b) ≡ true → IsNumeral 10 ds
  by true true h k e = (grind (arith, nat_tests), tested.to ds k)
  by true false h k e = absurd (false≢true e)
  by false b h k e = absurd (false≢true e)

pub numeral-test : (ds : List ℕ) → IsNumeral 10 ds → is_numeral ds ≡ true
numeral-test ds h =
    let some : nat_lt 0 (length ds) ≡ true = grind (arith, nat_tests, h.0) in
    let digits : all_ascii_digits ds ≡ true = tested.from ds h.1 in
    rw (some, digits)

pub fits-is : (z : ℤ) → fits_i64 z ≡ true → FitsSigned w64 z
fits-is (pos n) h = record { sfits = grind (arith, nat_tests) }
fits-is (negsuc n) h = record { sfits = grind (arith, nat_tests) }

pub fits-test : (z : ℤ) → FitsSigned w64 z → fits_i64 z ≡ true
fits-test (pos n) h = grind (arith, nat_tests, h.sfits)
fits-test (negsuc n) h = grind (arith, nat_tests, h.sfits)

-- ---- reading

pub i64-some : (text : List ℕ) → is_numeral (without_minus text) ≡ true → fits_i64 (signed_value text) ≡ true → i64_of text ≡ Some (signed_value text)
unfolding i64_of
i64-some text h k = rw (h, k)

pub i64-none : (text : List ℕ) → (is_numeral (without_minus text) ≡ true → fits_i64 (signed_value text) ≡ true → ⊥) → i64_of text ≡ None
unfolding i64_of
i64-none text never = by (is_numeral (without_minus text)) (fits_i64 (signed_value text)) refl refl where
  by : (a b : Bool) → is_numeral (without_minus text) ≡ a → fits_i64 (signed_value text) ≡ b → i64_of text ≡ None
  by false b h k = rw h
  by true false h k = rw (h, k)
  by true true h k = absurd (never h k)

option_none : (z : ℤ) → Some z ≡ None → ⊥
option_none z e = cc

pub i64_fits : (text : List ℕ) (z : ℤ) → Some z ≡ i64_of text → FitsSigned w64 z
i64_fits text z h = by (is_numeral (without_minus text)) (fits_i64 (signed_value text)) refl refl where
  by : (a b : Bool) → is_numeral (without_minus text) ≡ a → fits_i64 (signed_value text) ≡ b → FitsSigned w64 z
  by false b e f = absurd (option_none z (h ∙ i64-none text (λ n k. false≢true (sym e ∙ n))))
  by true false e f = absurd (option_none z (h ∙ i64-none text (λ n k. false≢true (sym f ∙ k))))
  by true true e f =
      let same : Some z ≡ Some (signed_value text) = h ∙ i64-some text e f in
      subst (FitsSigned w64) (sym (ap (λ o. unwrap_or o (pos 0)) same)) (fits-is (signed_value text) f)

sign_apart : (text : List ℕ) → get_or text 0 0 ≢ 43 → without_leading_sign text ≡ without_minus text
sign_apart text plus = by (starts_with_minus text) where
  by : (b : Bool) → cond b (drop 1 text) (without_leading_plus text) ≡ drop (cond b 1 0) text
  by true = refl
  by false = without_leading_plus_none text plus

value_apart : (text : List ℕ) → get_or text 0 0 ≢ 43 → signed_digits_value 10 text ≡ signed_value text
value_apart text plus = ap (λ ds. cond (starts_with_minus text) (neg_ℤ (pos (digits_value 10 ds))) (pos (digits_value 10 ds))) (sign_apart text plus)

pub i64_parsed : {E : Type 0} (text : List ℕ) (r : Result ℤ E) → get_or text 0 0 ≢ 43 → ParsesSigned w64 10 text r → result_ok r ≡ i64_of text
i64_parsed text (Ok z) plus h =
    let numeral : IsNumeral 10 (without_minus text) = subst (IsNumeral 10) (sign_apart text plus) h.0.0 in
    let fits : FitsSigned w64 (signed_value text) = subst (FitsSigned w64) (value_apart text plus) h.0.1 in
    ap Some (h.1 ∙ value_apart text plus) ∙ sym (i64-some text (numeral-test (without_minus text) numeral) (fits-test (signed_value text) fits))
i64_parsed text (Err e) plus h =
    sym (i64-none text (λ n f. h (subst (IsNumeral 10) (sym (sign_apart text plus)) (numeral-is (without_minus text) n), subst (FitsSigned w64) (sym (value_apart text plus)) (fits-is (signed_value text) f))))

-- a `+` is no digit
pub i64-plus : (text : List ℕ) → get_or text 0 0 ≡ 43 → i64_of text ≡ None
i64-plus text plus = i64-none text bad where
  minus : starts_with_minus text ≡ false
  minus = grind (arith, nat_tests)

  same : without_minus text ≡ text
  same = rw minus

  bad : is_numeral (without_minus text) ≡ true → fits_i64 (signed_value text) ≡ true → ⊥
  bad h k = no_plus text (numeral-is text (subst (λ ds. is_numeral ds ≡ true) same h)).1 plus

-- ---- numbers of 32 bits

wider : (z : ℤ) → fits_i64 z ≡ false → fits_u32 z ≡ false
wider (pos n) e = grind (arith, nat_tests)
wider (negsuc n) e = refl

narrow-step : (z : ℤ) (b : Bool) → fits_i64 z ≡ b → narrow z ≡ (cond b (Some z) None >>= narrow)
narrow-step z true e = refl
narrow-step z false e = rw (wider z e)

pub u32-narrow : (text : List ℕ) → u32_of text ≡ (i64_of text >>= narrow)
unfolding i64_of u32_of
u32-narrow text = by (integer_of text) where
  by : (o : Option ℤ) → (o >>= narrow) ≡ ((o >>= (λ z. cond (fits_i64 z) (Some z) None)) >>= narrow)
  by None = refl
  by (Some z) = narrow-step z (fits_i64 z) refl

-- ---- writing

pub i64_reads_back : (z : ℤ) → FitsSigned w64 z → i64_of (signed_decimal z) ≡ Some z
i64_reads_back (pos n) h =
    let small : n < 2 ^ 64 = omega (arith, h.sfits) in
    let numeral = decimal_is_IsNumeral n small in
    let minus : starts_with_minus (decimal n) ≡ false = grind (arith, nat_tests, not_in_digits own (decimal n) 45 numeral.0.1 (λ within. omega arith) 0 numeral.0.0) in
    let same : without_minus (decimal n) ≡ decimal n = rw minus in
    let is : signed_value (decimal n) ≡ pos n = rw (minus, numeral.1) in
    i64-some (decimal n) (subst (λ ds. is_numeral ds ≡ true) (sym same) (numeral-test (decimal n) numeral.0)) (subst (λ z. fits_i64 z ≡ true) (sym is) (fits-test (pos n) h)) ∙ ap Some is
i64_reads_back (negsuc n) h =
    let small : suc n < 2 ^ 64 = omega (arith, h.sfits) in
    let numeral = decimal_is_IsNumeral (suc n) small in
    let is : signed_value (45 ∷ decimal (suc n)) ≡ negsuc n = rw numeral.1 in
    i64-some (45 ∷ decimal (suc n)) (numeral-test (decimal (suc n)) numeral.0) (subst (λ z. fits_i64 z ≡ true) (sym is) (fits-test (negsuc n) h)) ∙ ap Some is
