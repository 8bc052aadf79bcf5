-- Durations as they are written, read again.
use Rattle.std.proofs.Common.{◌≡◌, ℕ, zero, suc, ◌+◌, ◌*◌, ◌^◌, ◌<◌, ◌≤◌, ◌==◌, ◌||◌, nat_le, ℤ, pos, negsuc, neg_ℤ, int_lt, nat_abs, ◌≤ℤ◌, List, [], ◌∷◌, ◌++◌, length, true, false, Bool, Option, Some, None, option_map, inl, inr, refl, sym, ap, subst, ◌∙◌, append_assoc, arith, rules}
use Rattle.std.proofs.lemmas.Bool.Decides.{nat_tests}
use Rattle.std.proofs.lemmas.Fmt.{decimal_is_IsNumeral}
use Rattle.std.proofs.lemmas.Str.Parse.{digit_from_value}
use Rattle.std.specs.Fmt.{decimal}
use Rattle.std.specs.Str.Parse.{AllDigits}
use Rattle.fly_types.specs.Sound.{IsSpan}
use Rattle.jiff_core.proofs.SignedLemmas.{signed_arith}
use Rattle.fly_scalars.specs.declared.duration.Span.{Span}
use Rattle.fly_scalars.specs.Digits.{◌>>=◌, after}
use Rattle.fly_scalars.specs.Datetime.{fraction_text}
use Rattle.fly_scalars.specs.Duration.{longest, IsLength, forward_span, backward_span, unsigned_span, duration_of, is_negative, duration_text}
use Rattle.fly_scalars.proofs.DigitLemmas.{number_front, fraction-text, fraction_start}
use Rattle.fly_scalars.proofs.DatetimeLemmas.{is_lt, not_lt}

-- the text of a duration behind its sign
abbrev unsigned_text : ℕ → ℕ → List ℕ
unsigned_text seconds nanos = decimal seconds ++ (fraction_text nanos ++ 115 ∷ [])

unsigned_reads : (seconds nanos : ℕ) → nanos < 10 ^ 9 → IsLength seconds nanos → unsigned_span (unsigned_text seconds nanos) ≡ Some (seconds, nanos)
unfolding unsigned_span
unsigned_reads seconds nanos below within =
    let numeral = decimal_is_IsNumeral seconds (omega arith) in
    let whole = number_front (decimal seconds) (fraction_text nanos ++ 115 ∷ []) numeral.0.1 numeral.0.0 (fraction_start nanos 115 [] refl) in
    let part = fraction-text nanos 115 [] below refl (λ e. omega (arith, e)) in
    let test : nat_le (seconds * 10 ^ 9 + nanos) (longest * 10 ^ 9) ≡ true = grind (arith, nat_tests) in
    rw (whole, numeral.1, part, test) refl

no_minus : (ds rest : List ℕ) → AllDigits 10 ds → 0 < length ds → after 45 (ds ++ rest) ≡ None
no_minus [] rest d some = absurd (omega arith)
no_minus (c ∷ cs) rest d some =
    let range = digit_from_value c d.0 in
    let test : (c == 45) ≡ false = grind (arith, nat_tests, range.0) in
    rw test refl

forward_is : (z : ℤ) → pos 0 ≤ℤ z → pos (nat_abs z) ≡ z
forward_is (pos n) h = refl
forward_is (negsuc n) h = absurd (omega (arith, signed_arith, h))

backward_is : (z : ℤ) → z ≤ℤ pos 0 → neg_ℤ (pos (nat_abs z)) ≡ z
backward_is (pos zero) h = refl
backward_is (pos (suc n)) h = absurd (omega (arith, signed_arith, h))
backward_is (negsuc n) h = refl

forward_reads : (t : Span) → IsSpan t.seconds t.nanos → is_negative t ≡ false → pos 0 ≤ℤ t.seconds → pos 0 ≤ℤ t.nanos → duration_of (duration_text t) ≡ Some t
unfolding duration_of duration_text
forward_reads t h positive s n =
    let seconds = nat_abs t.seconds in
    let nanos = nat_abs t.nanos in
    let text : (decimal seconds ++ fraction_text nanos) ++ 115 ∷ [] ≡ unsigned_text seconds nanos = append_assoc (decimal seconds) (fraction_text nanos) (115 ∷ []) in
    let numeral = decimal_is_IsNumeral seconds (omega (arith, h.within)) in
    let plain = no_minus (decimal seconds) (fraction_text nanos ++ 115 ∷ []) numeral.0.1 numeral.0.0 in
    let read = unsigned_reads seconds nanos h.nanos_below h.within in
    rw (positive, text, plain, read, forward_is t.seconds s, forward_is t.nanos n) refl

backward_reads : (t : Span) → IsSpan t.seconds t.nanos → is_negative t ≡ true → t.seconds ≤ℤ pos 0 → t.nanos ≤ℤ pos 0 → duration_of (duration_text t) ≡ Some t
unfolding duration_of duration_text
backward_reads t h negative s n =
    let seconds = nat_abs t.seconds in
    let nanos = nat_abs t.nanos in
    let text : (decimal seconds ++ fraction_text nanos) ++ 115 ∷ [] ≡ unsigned_text seconds nanos = append_assoc (decimal seconds) (fraction_text nanos) (115 ∷ []) in
    let read = unsigned_reads seconds nanos h.nanos_below h.within in
    rw (negative, text, read, backward_is t.seconds s, backward_is t.nanos n) refl

pub duration_reads : (t : Span) → IsSpan t.seconds t.nanos → duration_of (duration_text t) ≡ Some t
duration_reads t h = by (int_lt t.seconds (pos 0)) (int_lt t.nanos (pos 0)) refl refl where
  by : (a b : Bool) → int_lt t.seconds (pos 0) ≡ a → int_lt t.nanos (pos 0) ≡ b → duration_of (duration_text t) ≡ Some t
  by false false e f = forward_reads t h (rw (e, f) refl) (omega (arith, signed_arith, e)) (omega (arith, signed_arith, f))
  by true b e f = backward_reads t h (rw e refl) (omega (arith, signed_arith, e)) (elim h.one_sign [ inl p ↦ absurd (omega (arith, signed_arith, e, p.0)) | inr p ↦ p.1 ])
  by false true e f = backward_reads t h (rw (e, f) refl) (elim h.one_sign [ inl p ↦ absurd (omega (arith, signed_arith, f, p.1)) | inr p ↦ p.0 ]) (omega (arith, signed_arith, f))
