-- Two summands that 64 bits hold are read as they were written.
use Rattle.std.proofs.Common.{◌≡◌, ℕ, ◌^◌, ◌<◌, ◌≤◌, List, codes, length, true, Ok, decimal, pos, refl, sym, ◌∙◌, ap, ap₂, subst, arith}
use Rattle.std.specs.List.Sorted.{IsStrictlySortedBy}
use Rattle.json.proofs.Printed.Utf8.{are_ascii, IsUtf8-are_ascii}
use Rattle.serde_json.specs.Data.{Data, string, object, no_members, member}
use Rattle.serde_json.specs.Written.{compact_text}
use Rattle.fly_types.specs.declared.text.Text.{Text}
use Rattle.fly_types.specs.declared.literals.Literal.{Literal}
use Rattle.fly_types.specs.declared.literals.Literal.TheVariants as literal
use Rattle.fly_types.specs.declared.literals.Literal.TheOpen.{Literal-F}
use Rattle.fly_types.specs.declared.literals.Literal.TheViews as view
use Rattle.fly_types.specs.declared.literals.Literal.TheFolds.{map-Literal, fold_out-Literal, every_made-Literal}
use Rattle.fly_types.specs.Levels.{literal_levels, literal_levels_by}
use Rattle.fly_types.specs.Sound.{IsShort, IsLiteralLayerSound, HasSoundParts, IsSound, IsSoundMap}
use Rattle.fly_ports.specs.declared.spawner.Run.{Run}
use Rattle.fly_ports.specs.declared.spawner.TheConstants.{MAX_OUTPUT}
use Rattle.fly_writers.specs.Literals.{literal_json, literal_json_by, literal_map_json, literal_map_text}
use Rattle.fly_idl.specs.Reading.{ReadsLiteralMap}
use Rattle.fly_readback.specs.ReadBack.{IsLayerOfBytes, IsOfBytes, IsMapOfBytes, IsInLimits, LiteralMapsAreReadBack}
use Rattle.fly_generator.specs.Adder.{sum_limit, summands, output, IsAnswered, IsSum}
use Rattle.fly_generator.proofs.Lists.{all_of_two}
use Rattle.fly_generator.proofs.Texts.{IsText, digits_text, quoted_text, one_member, two_members}

-- ---- a whole number

abbrev whole : ℕ → Literal
whole n = literal.Integer (pos n)

whole_sound : (n : ℕ) → n < 2 ^ 63 → IsSound (whole n)
whole_sound n small = record {
  parts = subst HasSoundParts (view.rolls-Integer (pos n))
      (every_made-Literal IsLiteralLayerSound (Literal-F.Integer (pos n)) (Literal-F.Integer (pos n)) refl
      (record { sfits = small }));
  levels = omega (
    arith,
    fold_out-Literal ℕ literal_levels_by (whole n)
        ∙ ap (λ layer. literal_levels_by (map-Literal Literal ℕ literal_levels layer)) (view.outs-Integer (pos n)),
  );
}

whole_of_bytes : (n : ℕ) → IsOfBytes (whole n)
whole_of_bytes n =
    subst IsOfBytes (view.rolls-Integer (pos n))
    (every_made-Literal IsLayerOfBytes (Literal-F.Integer (pos n)) (Literal-F.Integer (pos n)) refl tt)

-- its JSON
abbrev member_of : List ℕ → Data → Data
member_of key d = object (member key d no_members)

abbrev number_json : ℕ → Data
number_json n =
    member_of (codes "scalar") (member_of (codes "primitive") (member_of (codes "integer") (string (decimal n))))

whole_json : (n : ℕ) → literal_json (whole n) ≡ number_json n
unfolding literal_json
whole_json n =
    fold_out-Literal Data literal_json_by (whole n)
    ∙ ap (λ layer. literal_json_by (map-Literal Literal Data literal_json layer)) (view.outs-Integer (pos n))

key_text : (key : List ℕ) → are_ascii key ≡ true → length key ≤ 9 → IsText 9 key
key_text key ascii short = record { utf8 = IsUtf8-are_ascii key ascii; short = short }

number_text : (n : ℕ) → n < 2 ^ 63 → IsText 299 (compact_text (number_json n))
number_text n small =
    one_member 9 240 (codes "scalar") (member_of (codes "primitive") (member_of (codes "integer") (string (decimal n))))
    (key_text (codes "scalar") refl (omega arith))
    (one_member 9 181 (codes "primitive") (member_of (codes "integer") (string (decimal n)))
    (key_text (codes "primitive") refl (omega arith))
    (one_member 9 122 (codes "integer") (string (decimal n)) (key_text (codes "integer") refl (omega arith))
    (quoted_text 20 (decimal n) (digits_text n (omega arith)))))

-- ---- the summands

abbrev both : Data → Data → Data
both d e = member_of (codes "literals") (object (member (codes "x") d (member (codes "y") e no_members)))

summands_json : (x y : ℕ) → literal_map_json (summands x y) ≡ both (number_json x) (number_json y)
summands_json x y = ap₂ both (whole_json x) (whole_json y)

both_text : (x y : ℕ) → x < 2 ^ 63 → y < 2 ^ 63 → IsText 774 (compact_text (both (number_json x) (number_json y)))
both_text x y sx sy =
    one_member 9 715 (codes "literals")
    (object (member (codes "x") (number_json x) (member (codes "y") (number_json y) no_members)))
    (key_text (codes "literals") refl (omega arith))
    (two_members 9 299 9 299 (codes "x") (number_json x) (codes "y") (number_json y)
    (key_text (codes "x") refl (omega arith)) (number_text x sx)
    (key_text (codes "y") refl (omega arith)) (number_text y sy))

in_limits : (x y : ℕ) → x < 2 ^ 63 → y < 2 ^ 63 → IsInLimits (literal_map_json (summands x y))
in_limits x y sx sy =
    let text = both_text x y sx sy in
    subst IsInLimits (sym (summands_json x y))
    (record { utf8 = text.utf8; within = omega (arith, text.short); levels = omega arith })

sound : (x y : ℕ) → x < 2 ^ 63 → y < 2 ^ 63 → IsSoundMap (summands x y)
unfolding IsStrictlySortedBy
sound x y sx sy = record {
  names = (
    omega arith,
    ((refl, tt), (tt, tt)),
    all_of_two (λ (e : Text × Literal). IsShort e.0) (codes "x", whole x) (codes "y", whole y)
        (omega arith) (omega arith),
  );
  literals = all_of_two (λ (e : Text × Literal). IsSound e.1) (codes "x", whole x) (codes "y", whole y)
      (whole_sound x sx) (whole_sound y sy);
}

of_bytes : (x y : ℕ) → IsMapOfBytes (summands x y)
of_bytes x y =
    all_of_two (λ (e : Text × Literal). IsOfBytes e.1) (codes "x", whole x) (codes "y", whole y)
    (whole_of_bytes x) (whole_of_bytes y)

summands-read : LiteralMapsAreReadBack → (x y : ℕ) → x < 2 ^ 63 → y < 2 ^ 63
    → ReadsLiteralMap (literal_map_text (summands x y)) (summands x y)
summands-read law x y sx sy = law (summands x y) (sound x y sx sy) (of_bytes x y) (in_limits x y sx sy)

-- ---- the answer

output_json : (z : ℕ)
    → literal_map_json (output z) ≡ member_of (codes "literals") (member_of (codes "z") (number_json z))
output_json z = ap (λ d. member_of (codes "literals") (member_of (codes "z") d)) (whole_json z)

pub output_short : (z : ℕ) → z < sum_limit → length (literal_map_text (output z)) ≤ MAX_OUTPUT
output_short z small =
    let text : IsText 417 (compact_text (member_of (codes "literals") (member_of (codes "z") (number_json z)))) =
    one_member 9 358 (codes "literals") (member_of (codes "z") (number_json z))
    (key_text (codes "literals") refl (omega arith))
    (one_member 9 299 (codes "z") (number_json z)
    (key_text (codes "z") refl (omega arith)) (number_text z (omega arith))) in
    omega (arith, text.short, ap (λ d. length (compact_text d)) (output_json z))

-- a child that answers its input answers written summands by their sum
pub sums_from : LiteralMapsAreReadBack → (r : Run) → IsAnswered r → IsSum r
sums_from law r answered x y sx sy is =
    let reads = subst (λ text. ReadsLiteralMap text (summands x y)) (sym is) (summands-read law x y sx sy) in
    answered.answer ∙ ap Ok (answered.is.sum x y reads)
