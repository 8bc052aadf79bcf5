-- Texts that have the form of ids are ids.
use Rattle.std.proofs.Common.{◌≡◌, ℕ, Bool, true, false, nat_le, ◌&&◌, ◌||◌, ◌==◌, List, length, refl, arith}
use Rattle.std.specs.List.{list_all}
use Rattle.std.proofs.lemmas.Bool.{and_parts, leb-true, eq-eqb}
use Rattle.std.proofs.lemmas.List.Elements.{All-weaker}
use Rattle.std.proofs.lemmas.List.Sums.{AllPass-from_list_all}
use Rattle.fly_docs.specs.Names.{is_id_byte, IsId}
use Rattle.fly_schema.specs.Scalars.{is_within, fits_texts}
use Rattle.fly_idl.specs.Rows.{id_bytes, id_form}

-- a byte of one of five ranges, two of which are one byte
one_of_five : (dash digit upper line lower : Bool) (is_dash is_line : Bool) → (dash ≡ true → is_dash ≡ true)
    → (line ≡ true → is_line ≡ true) → dash || (digit || (upper || (line || (lower || false)))) ≡ true
    → (((digit || upper) || lower) || is_dash) || is_line ≡ true
one_of_five dash true upper line lower is_dash is_line f g e = refl
one_of_five dash false true line lower is_dash is_line f g e = refl
one_of_five dash false false line true is_dash is_line f g e = refl
one_of_five dash false false line false true is_line f g e = refl
one_of_five dash false false line false false true f g e = refl
one_of_five true false false line false false false f g e = f refl
one_of_five false false false true false false false f g e = g refl
one_of_five false false false false false false false f g e = e

exactly : (c b : ℕ) → nat_le c b && nat_le b c ≡ true → b == c ≡ true
exactly c b e =
    let parts = and_parts (nat_le c b) (nat_le b c) e in
    let above = leb-true c b parts.0 in
    let below = leb-true b c parts.1 in
    eq-eqb b c (omega arith)

id_byte : (b : ℕ) → is_within id_bytes b ≡ true → is_id_byte b ≡ true
id_byte b e =
    one_of_five (nat_le 45 b && nat_le b 45) (nat_le 48 b && nat_le b 57) (nat_le 65 b && nat_le b 90)
    (nat_le 95 b && nat_le b 95) (nat_le 97 b && nat_le b 122) (b == 45) (b == 95) (exactly 45 b) (exactly 95 b) e

pub id-fits : (text : List ℕ) → fits_texts id_form text ≡ true → IsId text
id-fits text e =
    let outer = and_parts (nat_le 1 (length text) && nat_le (length text) 63)
    (list_all (is_within id_bytes) text) e in
    let inner = and_parts (nat_le 1 (length text)) (nat_le (length text) 63) outer.0 in record {
      some = leb-true 1 (length text) inner.0;
      short = leb-true (length text) 63 inner.1;
      bytes = All-weaker (λ b. is_within id_bytes b ≡ true) (λ b. is_id_byte b ≡ true) id_byte text
          (AllPass-from_list_all (is_within id_bytes) text outer.1);
    }
