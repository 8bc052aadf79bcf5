-- Texts of JSON that are UTF-8, and how long they are at most.
use Rattle.std.proofs.Common.{ℕ, ◌+◌, ◌*◌, ◌/◌, ◌%◌, ◌^◌, ◌<◌, ◌≤◌, nat_lt, Bool, true, false, cond, List, [], ◌∷◌, ◌++◌, length, decimal, refl, arith}
use Rattle.std.specs.Char.{digit_char}
use Rattle.std.specs.Str.{IsUtf8}
use Rattle.std.proofs.lemmas.Fmt.{IsAscii-decimal, length-decimal-le}
use Rattle.std.proofs.lemmas.List.{length-append}
use Rattle.std.proofs.lemmas.Str.{IsUtf8-append, IsUtf8-from_ascii}
use Rattle.json.specs.Print.{escape_letter, escape_byte, escape, quoted}
use Rattle.json.proofs.Printed.Utf8.{IsUtf8-are_ascii, IsUtf8-quoted}
use Rattle.serde_json.specs.Data.{Data, object, no_members, member}
use Rattle.serde_json.specs.Written.{compact_text}

-- the text is UTF-8 of at most so many bytes
pub record IsText (most : ℕ) (text : List ℕ) : Type 0 where
  pub utf8 : IsUtf8 text
  pub short : length text ≤ most

pub joined : (m n : ℕ) (xs ys : List ℕ) → IsText m xs → IsText n ys → IsText (m + n) (xs ++ ys)
joined m n xs ys p q = record {
  utf8 = IsUtf8-append xs ys p.utf8 q.utf8;
  short = omega (arith, length-append xs ys, p.short, q.short);
}

chosen : (c : Bool) (xs ys : List ℕ) → length xs ≤ 6 → length ys ≤ 6 → length (cond c xs ys) ≤ 6
chosen true xs ys p q = p
chosen false xs ys p q = q

byte_escaped : (b : ℕ) → length (escape_byte b) ≤ 6
unfolding escape_byte
byte_escaped b =
    let short : List ℕ = 92 ∷ escape_letter b ∷ [] in
    let long : List ℕ = 92 ∷ 117 ∷ 48 ∷ 48 ∷ digit_char (b / 16) ∷ digit_char (b % 16) ∷ [] in
    chosen (nat_lt 0 (escape_letter b)) short (cond (nat_lt b 32) long (b ∷ [])) (omega arith)
    (chosen (nat_lt b 32) long (b ∷ []) (omega arith) (omega arith))

escaped : (xs : List ℕ) → length (escape xs) ≤ 6 * length xs
escaped [] = omega arith
escaped (x ∷ xs) = omega (arith, length-append (escape_byte x) (escape xs), byte_escaped x, escaped xs)

pub quoted_text : (n : ℕ) (xs : List ℕ) → IsText n xs → IsText (6 * n + 2) (quoted xs)
quoted_text n xs h = record {
  utf8 = IsUtf8-quoted xs h.utf8;
  short = omega (arith, length-append (escape xs) (34 ∷ []), escaped xs, h.short);
}

pub digits_text : (n : ℕ) → n < 2 ^ 64 → IsText 20 (decimal n)
digits_text n small = record {
  utf8 = IsUtf8-from_ascii (decimal n) (IsAscii-decimal n small);
  short = length-decimal-le 20 n (omega arith) (omega arith) small;
}

-- a member, with what stands behind it
member_text : (k m n : ℕ) (key value rest : List ℕ) → IsText k key → IsText m value → IsText n rest
    → IsText (6 * k + 3 + m + n) (quoted key ++ 58 ∷ (value ++ rest))
member_text k m n key value rest p q r =
    let colon : IsText 1 (58 ∷ []) = record { utf8 = IsUtf8-are_ascii (58 ∷ []) refl; short = omega arith } in
    let all = joined (6 * k + 2) (1 + (m + n)) (quoted key) (58 ∷ (value ++ rest)) (quoted_text k key p)
    (joined 1 (m + n) (58 ∷ []) (value ++ rest) colon (joined m n value rest q r)) in
    record { utf8 = all.utf8; short = omega (arith, all.short) }

brace : IsText 1 (125 ∷ [])
brace = record { utf8 = IsUtf8-are_ascii (125 ∷ []) refl; short = omega arith }

pub one_member : (k m : ℕ) (key : List ℕ) (d : Data) → IsText k key → IsText m (compact_text d)
    → IsText (6 * k + 5 + m) (compact_text (object (member key d no_members)))
one_member k m key d p q =
    let open_brace : IsText 1 (123 ∷ []) = record { utf8 = IsUtf8-are_ascii (123 ∷ []) refl; short = omega arith } in
    let all = joined 1 (6 * k + 3 + m + 1) (123 ∷ []) (quoted key ++ 58 ∷ (compact_text d ++ 125 ∷ [])) open_brace
    (member_text k m 1 key (compact_text d) (125 ∷ []) p q brace) in
    record { utf8 = all.utf8; short = omega (arith, all.short) }

pub two_members : (k m l n : ℕ) (key : List ℕ) (d : Data) (name : List ℕ) (e : Data)
    → IsText k key → IsText m (compact_text d) → IsText l name → IsText n (compact_text e)
    → IsText (6 * k + 6 * l + 9 + m + n) (compact_text (object (member key d (member name e no_members))))
two_members k m l n key d name e p q r s =
    let open_brace : IsText 1 (123 ∷ []) = record { utf8 = IsUtf8-are_ascii (123 ∷ []) refl; short = omega arith } in
    let comma : IsText 1 (44 ∷ []) = record { utf8 = IsUtf8-are_ascii (44 ∷ []) refl; short = omega arith } in
    let last = member_text l n 1 name (compact_text e) (125 ∷ []) r s brace in
    let behind = joined 1 (6 * l + 3 + n + 1) (44 ∷ []) (quoted name ++ 58 ∷ (compact_text e ++ 125 ∷ [])) comma last in
    let first = member_text k m (1 + (6 * l + 3 + n + 1)) key (compact_text d)
    (44 ∷ quoted name ++ 58 ∷ (compact_text e ++ 125 ∷ [])) p q behind in
    let all = joined 1 (6 * k + 3 + m + (1 + (6 * l + 3 + n + 1))) (123 ∷ [])
    (quoted key ++ 58 ∷ (compact_text d ++ (44 ∷ quoted name ++ 58 ∷ (compact_text e ++ 125 ∷ [])))) open_brace first in
    record { utf8 = all.utf8; short = omega (arith, all.short) }
