-- A map after a change, at the key that was changed and at each other one.
use Rattle.std.proofs.Common.{◌≡◌, ◌⊎◌, Bool, true, false, inl, inr, ap, sym, ◌∙◌, subst}
use Rattle.std.specs.Prelude.{Option, None, refl}
use Rattle.std.specs.declared.cmp.Ordering.{Ordering}
use Rattle.std.specs.declared.cmp.Ordering.TheVariants.{Less, Equal, Greater}
use Rattle.std.specs.Ordering.{is_eq}
use Rattle.std.specs.BTreeMap.{BTreeMap, get, is_at, Updates}
use Rattle.std.proofs.lemmas.Map.Lookups.{CmpEqualImpliesEq}

at_or_apart_by : {K : Type 0} {R : K → K → Ordering} → CmpEqualImpliesEq R → (k q : K) (r : Ordering) → R k q ≡ r → (k ≡ q) ⊎ (is_at (R k) q ≡ false)
at_or_apart_by exact k q Less e = inr (ap is_eq e)
at_or_apart_by exact k q Equal e = inl (exact k q e)
at_or_apart_by exact k q Greater e = inr (ap is_eq e)

-- a key is the one that is looked for, or is not found
pub at_or_apart : {K : Type 0} {R : K → K → Ordering} → CmpEqualImpliesEq R → (k q : K) → (k ≡ q) ⊎ (is_at (R k) q ≡ false)
at_or_apart {R = R} exact k q = at_or_apart_by exact k q (R k q) refl

-- what the changed map has at a key: there what was written, and elsewhere what the map had
pub after_update : {K X : Type 0} {R : K → K → Ordering} → CmpEqualImpliesEq R → (m n : BTreeMap K X) (k : K) (w : Option X) → Updates R m n k w → (q : K) → ((k ≡ q) × (get R n q ≡ w)) ⊎ (get R n q ≡ get R m q)
after_update {K = K} {R = R} exact m n k w updated q =
    elim (at_or_apart exact k q) [
      | inl e ↦ inl (e, (let P : K → Type 0 = λ x. get R n x ≡ w in subst P e updated.1))
      | inr apart ↦ inr (updated.2 q apart)
    ]

-- a key that is taken away again leaves what was there
pub forgotten : {K X : Type 0} {R : K → K → Ordering} → CmpEqualImpliesEq R → (m n o : BTreeMap K X) (k : K) (w : Option X) → get R m k ≡ None
    → Updates R m n k w → Updates R n o k None → (q : K) → get R o q ≡ get R m q
forgotten {K} {X} {R = R} exact m n o k w absent put taken q =
    elim (after_update exact n o k None taken q) [
      | inl (e, now) ↦ (let P : K → Type 0 = λ x. get R m x ≡ None in now ∙ sym (subst P e absent))
      | inr same ↦ elim (after_update exact m n k w put q) [
        | inl (e, there) ↦ (let P : K → Type 0 = λ x. get R o x ≡ get R m x in subst P e (taken.1 ∙ sym absent))
        | inr before ↦ same ∙ before
      ]
    ]
