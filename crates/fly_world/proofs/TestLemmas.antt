-- The tests of the steps decide what they test.
use Rattle.std.proofs.Common.{◌≡◌, ℕ, suc, ◌≤ℤ◌, ◌-ℤ◌, ℤ, Bool, true, false, not, ◌&&◌, List, [], ◌∷◌, length, refl, sym, ◌∙◌, subst, ap, eqb, leb, arith}
use Rattle.std.specs.Prelude.{pos, int_lt}
use Rattle.std.specs.Bool.{Decides}
use Rattle.std.specs.Int.Signed.{lt_z_yes, clash_ℤ}
use Rattle.std.specs.List.{AllZip, list_all}
use lib.Dec.{T}
use Rattle.std.proofs.lemmas.Bool.{and_from, ne_eqb, le-leb}
use Rattle.std.proofs.lemmas.List.Sums.{list_all-from_AllPass}
use Rattle.std.proofs.lemmas.Slice.Eq.{bytes_eq-Decides}
use Rattle.fly_types.specs.declared.text.Text.{Text}
use Rattle.fly_types.specs.declared.literals.Literal.{Literal}
use Rattle.fly_types.specs.declared.literals.LiteralMap.{LiteralMap}
use Rattle.fly_types.specs.declared.variable.Variable.{Variable}
use Rattle.fly_cast.proofs.Members.{is_of-Decides}
use Rattle.fly_docs.specs.Names.{IsId, is_id_byte}
use Rattle.fly_docs.specs.Templates.{is_id_text}
use Rattle.fly_policy.specs.Outcome.{AreOutputs, Gives}
use Rattle.fly_policy.specs.Timeouts.{IsExpired}
use Rattle.fly_world.specs.World.{Claim}
use Rattle.fly_world.specs.Spots.{is_given, are_given, gives_all, is_due, is_path_of_ids}
use Rattle.fly_world.proofs.NameLemmas.{id-from}
use Rattle.fly_world.proofs.TypeLemmas.{typed_map}
use Rattle.fly_world.proofs.TimeoutLemmas.{due-expired}

zip-given : (xs : List Variable) (entries : List (Text × Literal)) → AllZip Gives xs entries → are_given xs entries
    ≡ true
zip-given [] [] h = refl
zip-given [] (entry ∷ entries) h = absurd h
zip-given (x ∷ xs) [] h = absurd h
zip-given (x ∷ xs) (entry ∷ entries) h =
    and_from (is_given x entry) (are_given xs entries)
    (and_from _ _ ((bytes_eq-Decides entry.0 x.name).1 h.0.0) ((is_of-Decides x.kind entry.1).1 h.0.1))
    (zip-given xs entries h.1)

-- whether a map gives exactly these variables
pub gives_all-Decides : (variables : List Variable) (m : LiteralMap)
    → Decides (gives_all variables m) (AreOutputs variables m)
gives_all-Decides variables m = (typed_map variables m, zip-given variables m.entries)

not_before : (a b : ℤ) → b ≤ℤ a → int_lt a b ≡ false
not_before a b h = by (int_lt a b) refl
  where
    by : (r : Bool) → int_lt a b ≡ r → int_lt a b ≡ false
    by true e = clash_ℤ (lt_z_yes (subst T (sym e) tt)) h
    by false e = e

-- whether the time of a claim is over
pub is_due-Decides : (timeout : ℕ) (moment : ℤ) (c : Claim)
    → Decides (is_due timeout moment c) (IsExpired c.moment timeout moment)
is_due-Decides timeout moment c = (
  due-expired timeout moment c,
  λ h. and_from (not (eqb timeout 0)) (not (int_lt (moment -ℤ c.moment) (pos timeout)))
      (ap not (ne_eqb timeout 0 (λ e. absurd (omega (arith, h.0)))))
      (ap not (not_before (moment -ℤ c.moment) (pos timeout) h.1)),
)

-- whether a text is an id
pub is_id-Decides : (id : Text) → Decides (is_id_text id) (IsId id)
is_id-Decides id = (
  id-from id,
  λ h. and_from (leb 1 (length id) && leb (length id) 63) (list_all is_id_byte id)
      (and_from (leb 1 (length id)) (leb (length id) 63) (le-leb 1 (length id) h.some) (le-leb (length id) 63 h.short))
      (list_all-from_AllPass is_id_byte id h.bytes),
)

-- a path of ids is no empty list
pub path_of_ids : (path : List Text) → (path ≡ [] → ⊥) → list_all is_id_text path ≡ is_path_of_ids path
path_of_ids [] some = absurd (some refl)
path_of_ids (id ∷ ids) some = refl

-- lists of different lengths do not fit
pub uneven : (xs : List Variable) (entries : List (Text × Literal)) → (length xs ≡ length entries → ⊥)
    → are_given xs entries ≡ false
uneven [] [] apart = absurd (apart refl)
uneven [] (entry ∷ entries) apart = refl
uneven (x ∷ xs) [] apart = refl
uneven (x ∷ xs) (entry ∷ entries) apart =
    ap (λ b. is_given x entry && b) (uneven xs entries (λ h. apart (ap suc h))) ∙ and_false (is_given x entry)
  where
    and_false : (b : Bool) → (b && false) ≡ false
    and_false true = refl
    and_false false = refl
