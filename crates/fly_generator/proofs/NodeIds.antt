-- The ids of generated nodes are ids that differ, and are those of no end of a workflow.
use Rattle.std.proofs.Common.{◌≡◌, ◌≢◌, ℕ, ◌^◌, ◌<◌, get_or, true, refl, ap, arith}
use Rattle.std.specs.Fmt.{decimal}
use Rattle.std.specs.Int.{IsInRange}
use Rattle.std.specs.List.{AllPass}
use Rattle.std.specs.Str.Parse.{AllDigits, digits_value}
use Rattle.std.proofs.lemmas.Bool.{le-leb, or_left, and_from}
use Rattle.std.proofs.lemmas.Fmt.{digits_decimal, decimal_injective, length-decimal-le}
use Rattle.std.proofs.lemmas.List.Elements.{All-cons, All-weaker, All-from_get_or}
use Rattle.std.proofs.lemmas.Str.Parse.{IsNumeralModel, numerals_by_value, tells_digits, digit_at}
use Rattle.fly_docs.specs.Names.{IsId, is_id_byte, start_node, end_node}
use Rattle.fly_generator.specs.Generated.{node_id}

own : IsNumeralModel (AllDigits 10) (digits_value 10)
own = numerals_by_value (AllDigits 10) tells_digits

digit_byte : (b : ℕ) → IsInRange 48 57 b → is_id_byte b ≡ true
digit_byte b within =
    or_left _ _ (or_left _ _ (or_left _ _ (or_left _ _ (and_from _ _ (le-leb 48 b within.0) (le-leb b 57 within.1)))))

digit_bytes : (i : ℕ) → i < 2 ^ 64 → AllPass is_id_byte (decimal i)
digit_bytes i small =
    All-weaker (IsInRange 48 57) (λ b. is_id_byte b ≡ true) digit_byte (decimal i)
    (All-from_get_or (IsInRange 48 57) (decimal i) 0
    (λ k within. digit_at (decimal i) k (digits_decimal own i small) within))

pub ids_are : (i : ℕ) → i < 2 ^ 64 → IsId (node_id i)
ids_are i small =
    let short = length-decimal-le 20 i (omega arith) (omega arith) small in
    record {
      some = omega arith;
      short = omega (arith, short);
      bytes = All-cons (λ b. is_id_byte b ≡ true) 110 (decimal i) refl (digit_bytes i small);
    }

pub ids_differ : (i j : ℕ) → i < 2 ^ 64 → j < 2 ^ 64 → node_id i ≡ node_id j → i ≡ j
ids_differ i j si sj same = let numbers : decimal i ≡ decimal j = cc in decimal_injective i j si sj numbers

pub not_start : (i : ℕ) → node_id i ≢ start_node
not_start i same = omega (arith, ap (λ id. get_or id 0 0) same)

pub not_end : (i : ℕ) → node_id i ≢ end_node
not_end i same = omega (arith, ap (λ id. get_or id 0 0) same)
