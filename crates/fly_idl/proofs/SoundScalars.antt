-- The values of scalars that are read are in their ranges.
use Rattle.std.proofs.Common.{◌≡◌, inl, inr, ℕ, zero, suc, ◌+◌, ◌-◌, ◌*◌, ◌^◌, ◌<◌, ◌≤◌, ◌==◌, ◌||◌, nat_lt, nat_le, Bool, true, false, cond, List, [], ◌∷◌, length, take, drop, ℤ, pos, neg_ℤ, nat_abs, ◌≤ℤ◌, ◌-ℤ◌, ◌+ℤ◌, ◌*ℤ◌, FitsSigned, Option, Some, None, option_map, IfSome, refl, sym, subst, arith}
use Rattle.std.proofs.lemmas.Bool.{or_parts, ltb-false, leb-true}
use Rattle.std.proofs.lemmas.Bool.Decides.{nat_tests}
use Rattle.std.proofs.lemmas.Int.{ints}
use Rattle.std.proofs.lemmas.List.{length-append}
use Rattle.std.specs.Prelude.{unwrap_or}
use Rattle.std.specs.Int.{w64}
use Rattle.std.specs.Result.{result_ok}
use Rattle.std.specs.declared.result.Result.{Result}
use Rattle.std.specs.declared.result.Result.TheVariants.{Ok, Err}
use Rattle.base64.specs.declared.decode.DecodeError.{DecodeError}
use Rattle.base64.specs.declared.engine.general_purpose.GeneralPurpose.{GeneralPurpose}
use Rattle.base64.specs.Decode.{groups_bytes, group_bytes, groups_before_last, scan_bytes, leftover_bytes, decode_outcome, decoded_bytes, scan_last}
use Rattle.base64.specs.GeneralPurpose.{decoded_of}
use Rattle.base64.specs.Engines.{standard, standard_no_pad, url_safe, url_safe_no_pad}
use Rattle.serde_json.specs.Data.{Num, unsigned, negative, float, Data, null, boolean, number, string, array, object}
use Rattle.serde_json.specs.Find.{as_i64}
use Rattle.fly_types.specs.Sound.{IsInstant, IsSpan}
use Rattle.fly_scalars.specs.declared.datetime.Instant.{Instant}
use Rattle.fly_scalars.specs.declared.duration.Span.{Span}
use Rattle.fly_scalars.specs.Digits.{◌>>=◌, Front, after, billionths, fraction}
use Rattle.fly_scalars.specs.Digits as digits
use Rattle.fly_scalars.specs.Whole.{i64_of}
use Rattle.fly_scalars.specs.Binary.{bytes_of, or_next}
use Rattle.fly_scalars.specs.Datetime.{date_front, time_front, offset_of, datetime_of}
use Rattle.fly_scalars.specs.Duration.{longest, length_of, IsLength, forward_span, backward_span, unsigned_span, signed_span, duration_of}
use Rattle.fly_scalars.proofs.WholeLemmas.{i64_fits}
use Rattle.fly_scalars.proofs.DigitLemmas.{count, value, front-below, placed-below}
use Rattle.fly_scalars.proofs.DatetimeLemmas.{instant_range}
use Rattle.fly_values.specs.Scalars.{integer_value, bytes_value, datetime_value, duration_value, epoch, no_time}
use Rattle.fly_idl.proofs.Ordered.{WhereSome}
use Rattle.fly_idl.proofs.Bounded.{IsDataShort, IsNumberFit}

or_default : {A : Type 0} (P : A → Type 0) (o : Option A) (d : A) → WhereSome P o → P d → P (unwrap_or o d)
or_default P None d h p = p
or_default P (Some a) d h p = h

-- ---- whole numbers

nothing-fits : FitsSigned w64 (pos 0)
nothing-fits = record { sfits = omega (arith, ints) }

unsigned-fits : (n : ℕ) (b : Bool) → nat_lt n (2 ^ 63) ≡ b
    → WhereSome (FitsSigned w64) (cond b (Some (pos n)) None)
unsigned-fits n true e = record { sfits = grind (arith, ints, nat_tests) }
unsigned-fits n false e = tt

number-fits : (x : Num) → IsNumberFit x → WhereSome (FitsSigned w64) (as_i64 x)
number-fits (unsigned n) h = unsigned-fits n (nat_lt n (2 ^ 63)) refl
number-fits (negative z) h = h
number-fits (float x) h = tt

text-fits : (text : List ℕ) (o : Option ℤ) → o ≡ i64_of text → WhereSome (FitsSigned w64) o
text-fits text None e = tt
text-fits text (Some z) e = i64_fits text z e

pub integer-fits : (n : ℕ) (d : Data) → IsDataShort n d → FitsSigned w64 (integer_value d)
integer-fits n null h = nothing-fits
integer-fits n (boolean b) h = nothing-fits
integer-fits n (number x) h = or_default (FitsSigned w64) (as_i64 x) (pos 0) (number-fits x h) nothing-fits
integer-fits n (string s) h = or_default (FitsSigned w64) (i64_of s) (pos 0) (text-fits s (i64_of s) refl)
    nothing-fits
integer-fits n (array ds) h = nothing-fits
integer-fits n (object ms) h = nothing-fits

-- ---- fractions of a second

bind : {A B : Type 0} (Q : B → Type 0) (o : Option A) (f : A → Option B) → ((a : A) → o ≡ Some a → WhereSome Q (f a))
    → WhereSome Q (o >>= f)
bind Q None f h = tt
bind Q (Some a) f h = h a refl

abbrev IsBelow : ℕ × List ℕ → Type 0
IsBelow p = p.0 < 10 ^ 9

where-if : {A : Type 0} (Q : A → Type 0) (b : Bool) (x y : Option A) → (b ≡ true → WhereSome Q x) →
    (b ≡ false → WhereSome Q y)
    → WhereSome Q (cond b x y)
where-if Q true x y p q = p refl
where-if Q false x y p q = q refl

billionths-below : (text : List ℕ) → WhereSome IsBelow (billionths text)
unfolding billionths
billionths-below text =
    where-if IsBelow (count text == 0 || nat_lt 9 (count text)) None
    (Some (value text * 10 ^ (9 - count text), drop (count text) text)) (λ _. tt)
    (λ e. let parts = or_parts (count text == 0) (nat_lt 9 (count text)) e in
    let some : 0 < count text = grind (arith, nat_tests, parts.0) in
    placed-below (value text) (count text) (ltb-false 9 (count text) parts.1)
    (front-below text (value text) (drop (count text) text) (record { some = some; is = refl; behind = refl })))

fraction-below : (text : List ℕ) → WhereSome IsBelow (fraction text)
unfolding fraction
fraction-below [] = omega arith
fraction-below (b ∷ rest) =
    where-if IsBelow (b == 46) (billionths rest) (Some (0, b ∷ rest)) (λ _. billionths-below rest) (λ _. omega arith)

below-known : (o : Option (ℕ × List ℕ)) (p : ℕ × List ℕ) → WhereSome IsBelow o → o ≡ Some p → p.0 < 10 ^ 9
below-known o p h e = subst (WhereSome IsBelow) e h

-- ---- date-times

abbrev IsMoment : Instant → Type 0
IsMoment t = IsInstant t.seconds t.nanos

if_where : (o : Option Instant) → IfSome o IsMoment → WhereSome IsMoment o
if_where None h = tt
if_where (Some t) h = h

datetime-in : (text : List ℕ) → WhereSome IsMoment (datetime_of text)
unfolding datetime_of
datetime-in text =
    bind IsMoment (date_front text) _ (λ date _.
    bind IsMoment (after 84 date.1) _ (λ time_text _.
    bind IsMoment (time_front time_text) _ (λ time _.
    bind IsMoment (fraction time.1) _ (λ nanos e.
    bind IsMoment (offset_of nanos.1) _ (λ offset _.
    if_where _ (instant_range ((date.0 *ℤ pos 86_400 +ℤ pos time.0) -ℤ offset) nanos.0
    (below-known (fraction time.1) nanos (fraction-below time.1) e)))))))

epoch-in : IsMoment epoch
epoch-in = record { after_first = omega (arith, ints); before_last = omega (arith, ints); nanos_below = omega arith }

pub datetime-sound : (d : Data) → IsInstant (datetime_value d).seconds (datetime_value d).nanos
datetime-sound null = epoch-in
datetime-sound (boolean b) = epoch-in
datetime-sound (number x) = epoch-in
datetime-sound (string s) = or_default IsMoment (datetime_of s) epoch (datetime-in s) epoch-in
datetime-sound (array ds) = epoch-in
datetime-sound (object ms) = epoch-in

-- ---- durations

abbrev IsLasting : Span → Type 0
IsLasting t = IsSpan t.seconds t.nanos

abbrev IsCounted : ℕ × ℕ → Type 0
IsCounted p = IsLength p.0 p.1 × (p.1 < 10 ^ 9)

length-in : (seconds nanos : ℕ) → nanos < 10 ^ 9 → WhereSome IsCounted (length_of seconds nanos)
length-in seconds nanos below =
    where-if IsCounted (nat_le (seconds * 10 ^ 9 + nanos) (longest * 10 ^ 9)) (Some (seconds, nanos)) None
    (λ e. (leb-true (seconds * 10 ^ 9 + nanos) (longest * 10 ^ 9) e, below)) (λ _. tt)

unsigned-in : (text : List ℕ) → WhereSome IsCounted (unsigned_span text)
unfolding unsigned_span
unsigned-in text =
    bind IsCounted (digits.number text) _ (λ seconds _.
    bind IsCounted (fraction seconds.1) _ (λ nanos e.
    bind IsCounted (after 115 nanos.1) _ (λ rest _.
    where-if IsCounted (length rest == 0) (length_of seconds.0 nanos.0) None
    (λ _. length-in seconds.0 nanos.0 (below-known (fraction seconds.1) nanos (fraction-below seconds.1) e))
    (λ _. tt))))

size-negated : (n : ℕ) → nat_abs (neg_ℤ (pos n)) ≡ n
size-negated zero = refl
size-negated (suc n) = refl

forward-in : (p : ℕ × ℕ) → IsCounted p → IsLasting (forward_span p)
forward-in p h = record {
  within = h.0;
  nanos_below = h.1;
  one_sign = inl (omega (arith, ints), omega (arith, ints));
}

not_above : (n : ℕ) → neg_ℤ (pos n) ≤ℤ pos 0
not_above zero = omega (arith, ints)
not_above (suc n) = omega (arith, ints)

backward-in : (p : ℕ × ℕ) → IsCounted p → IsLasting (backward_span p)
backward-in p h =
    let seconds = size-negated p.0 in
    let nanos = size-negated p.1 in record {
      within = rw (seconds, nanos) h.0;
      nanos_below = rw nanos h.1;
      one_sign = inr (not_above p.0, not_above p.1);
    }

mapped-in : (f : ℕ × ℕ → Span) → ((p : ℕ × ℕ) → IsCounted p → IsLasting (f p)) → (o : Option (ℕ × ℕ))
    → WhereSome IsCounted o → WhereSome IsLasting (option_map f o)
mapped-in f h None p = tt
mapped-in f h (Some x) p = h x p

signed-in : (o : Option (List ℕ)) (text : List ℕ) → WhereSome IsLasting (signed_span o text)
signed-in (Some rest) text = mapped-in backward_span backward-in (unsigned_span rest) (unsigned-in rest)
signed-in None text = mapped-in forward_span forward-in (unsigned_span text) (unsigned-in text)

duration-in : (text : List ℕ) → WhereSome IsLasting (duration_of text)
unfolding duration_of
duration-in text = signed-in (after 45 text) text

no_time-in : IsLasting no_time
no_time-in = record {
  within = omega arith;
  nanos_below = omega arith;
  one_sign = inl (omega (arith, ints), omega (arith, ints));
}

pub duration-sound : (d : Data) → IsSpan (duration_value d).seconds (duration_value d).nanos
duration-sound null = no_time-in
duration-sound (boolean b) = no_time-in
duration-sound (number x) = no_time-in
duration-sound (string s) = or_default IsLasting (duration_of s) no_time (duration-in s) no_time-in
duration-sound (array ds) = no_time-in
duration-sound (object ms) = no_time-in

-- ---- bytes

groups-length : (dec s : List ℕ) (q : ℕ) → length (groups_bytes dec s q) ≡ 3 * q
unfolding groups_bytes
groups-length dec s zero = refl
groups-length dec s (suc q) = omega (
  arith,
  length-append (groups_bytes dec s q) (group_bytes dec s (4 * q)),
  groups-length dec s q,
)

taken-few : (k a b c : ℕ) → length (take k (a ∷ b ∷ c ∷ [])) ≤ 3
taken-few zero a b c = omega arith
taken-few (suc zero) a b c = omega arith
taken-few (suc (suc zero)) a b c = omega arith
taken-few (suc (suc (suc k))) a b c = last k
  where
    last : (k : ℕ) → length (take (suc (suc (suc k))) (a ∷ b ∷ c ∷ [])) ≤ 3
    last zero = omega arith
    last (suc k) = omega arith

few-either : {A E : Type 0} (f : A → List ℕ) (g : Result A E → List ℕ) → ((a : A) → g (Ok a) ≡ f a)
    → ((e : E) → g (Err e) ≡ []) → ((a : A) → length (f a) ≤ 3) → (r : Result A E) → length (g r) ≤ 3
few-either f g ok err few (Ok a) = subst (λ bytes. length bytes ≤ 3) (sym (ok a)) (few a)
few-either f g ok err few (Err e) = subst (λ bytes. length bytes ≤ 3) (sym (err e)) (omega arith)

outcome-short : (m : ℕ) (o : Option DecodeError) (b : List ℕ) → length b ≤ m
    → WhereSome (λ x. length x ≤ m) (result_ok (decode_outcome o b))
outcome-short m None b h = h
outcome-short m (Some e) b h = tt

decoded-short : (e : GeneralPurpose) (s : List ℕ) → WhereSome (λ x. length x ≤ length s + 3) (decoded_of e s)
unfolding decoded_of
decoded-short e s =
    let q = groups_before_last (length s) in
    let front = groups-length e.decode_table s q in
    let back = few-either leftover_bytes scan_bytes (λ st. refl) (λ x. refl) (λ st. taken-few _ _ _ _)
    (scan_last e.decode_table e.padding.value (4 * q) s) in
    let whole = length-append (groups_bytes e.decode_table s q) (scan_bytes
    (scan_last e.decode_table e.padding.value (4 * q) s)) in
    let few : 3 * q ≤ length s = omega arith in
    outcome-short (length s + 3) _ (decoded_bytes e.decode_table e.padding.value s)
    (omega (arith, front, back, whole, few))

next-short : (P : List ℕ → Type 0) (a b : Option (List ℕ)) → WhereSome P a → WhereSome P b → WhereSome P (or_next a b)
next-short P None b p q = q
next-short P (Some x) b p q = p

bytes-short : (s : List ℕ) → WhereSome (λ x. length x ≤ length s + 3) (bytes_of s)
unfolding bytes_of
bytes-short s =
    next-short _ (or_next (or_next (decoded_of standard s) (decoded_of standard_no_pad s)) (decoded_of url_safe s))
    (decoded_of url_safe_no_pad s)
    (next-short _ (or_next (decoded_of standard s) (decoded_of standard_no_pad s)) (decoded_of url_safe s)
    (next-short _ (decoded_of standard s) (decoded_of standard_no_pad s) (decoded-short standard s)
    (decoded-short standard_no_pad s)) (decoded-short url_safe s)) (decoded-short url_safe_no_pad s)

pub bytes-sound : (n : ℕ) (d : Data) → IsDataShort n d → length (bytes_value d) ≤ n + 3
bytes-sound n null h = omega arith
bytes-sound n (boolean b) h = omega arith
bytes-sound n (number x) h = omega arith
bytes-sound n (string s) h =
    or_default (λ x. length x ≤ n + 3) (bytes_of s) [] (more (bytes_of s) (bytes-short s)) (omega arith)
  where
    more : (o : Option (List ℕ)) → WhereSome (λ x. length x ≤ length s + 3) o → WhereSome (λ x. length x ≤ n + 3) o
    more None p = tt
    more (Some x) p = omega (arith, p, h)
bytes-sound n (array ds) h = omega arith
bytes-sound n (object ms) h = omega arith
