-- Numbers for texts after one more text got a number.
use Rattle.std.proofs.Common.{◌≡◌, ◌⊎◌, ℕ, ◌+◌, ◌<◌, inl, inr, sym, ◌∙◌, subst, arith}
use Rattle.std.specs.Prelude.{Some, None, Option, is_some, if◌then◌else◌}
use Rattle.std.specs.Ordering.{nat_cmp}
use Rattle.std.specs.Cmp.Lexicographic.{slice_cmp}
use Rattle.std.specs.BTreeMap.{Updates, btree_map_len}
use Rattle.std.proofs.lemmas.Map.Lookups.{exact_bytes}
use Rattle.fly_types.specs.declared.text.Text.{Text}
use Rattle.fly_catalog.specs.Names.{Numbers, number_of, IsNumbering, KeepsNumbers}
use Rattle.fly_catalog.proofs.MapLemmas.{after_update}

module _ (old new : Numbers) (t : Text) (numbering : IsNumbering old) (absent : number_of old t ≡ None)
    (updated : Updates (slice_cmp nat_cmp) old new t (Some (btree_map_len old))) (prev : Option ℕ) (was : prev ≡ number_of old t)
    (grown : btree_map_len new ≡ btree_map_len old + (if is_some prev then 0 else 1)) where
  longer : btree_map_len new ≡ btree_map_len old + 1
  longer = let none : prev ≡ None = cc in rw none at grown

  at_key : (q : Text) → ((t ≡ q) × (number_of new q ≡ Some (btree_map_len old))) ⊎ (number_of new q ≡ number_of old q)
  at_key = after_update exact_bytes old new t (Some (btree_map_len old)) updated

  below : (q : Text) (n : ℕ) → number_of new q ≡ Some n → n < btree_map_len new
  below q n h =
      elim (at_key q) [
        | inl (e, here) ↦ (let is : n ≡ btree_map_len old = cc in let l : btree_map_len new ≡ btree_map_len old + 1 = longer in omega arith)
        | inr same ↦ (let lt : n < btree_map_len old = numbering.below q n (sym same ∙ h) in let l : btree_map_len new ≡ btree_map_len old + 1 = longer in omega arith)
      ]

  -- no text had the new number
  fresh : (q : Text) (n : ℕ) → number_of old q ≡ Some n → n ≡ btree_map_len old → ⊥
  fresh q n h is = let lt : n < btree_map_len old = numbering.below q n h in absurd (omega arith)

  own : (q r : Text) (n : ℕ) → number_of new q ≡ Some n → number_of new r ≡ Some n → q ≡ r
  own q r n h k =
      elim (at_key q) [
        | inl (e, here) ↦ elim (at_key r) [
          | inl (e', here') ↦ sym e ∙ e'
          | inr same' ↦ absurd (fresh r n (sym same' ∙ k) (cc))
        ]
        | inr same ↦ elim (at_key r) [
          | inl (e', here') ↦ absurd (fresh q n (sym same ∙ h) (cc))
          | inr same' ↦ numbering.own q r n (sym same ∙ h) (sym same' ∙ k)
        ]
      ]

  pub is_numbering : IsNumbering new
  is_numbering = record { below = below; own = own }

  not_absent : (q : Text) (n : ℕ) → t ≡ q → number_of old q ≡ Some n → ⊥
  not_absent q n e h =
      let P : Text → Type 0 = λ x. number_of old x ≡ Some n in
      let there : number_of old t ≡ Some n = subst P (sym e) h in
      cc

  kept_at : (q : Text) (n : ℕ) → number_of old q ≡ Some n → number_of new q ≡ Some n
  kept_at q n h =
      elim (at_key q) [
        | inl (e, here) ↦ absurd (not_absent q n e h)
        | inr same ↦ same ∙ h
      ]

  pub keeps_numbers : KeepsNumbers old new
  keeps_numbers = record { kept = kept_at }
