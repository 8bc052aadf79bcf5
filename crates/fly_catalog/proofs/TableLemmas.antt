-- A table after an item was prepared for, and then put there or not.
use Rattle.std.proofs.Common.{◌≡◌, ℕ, List, [], ◌∷◌, ◌++◌, length, ap, sym, ◌∙◌, subst}
use Rattle.std.specs.Prelude.{Some, None}
use Rattle.std.specs.declared.cmp.Ordering.{Ordering}
use Rattle.std.specs.BTreeMap.{BTreeMap, get, Updates}
use Rattle.std.proofs.lemmas.Map.Lookups.{CmpEqualImpliesEq}
use Rattle.fly_catalog.specs.Table.{AddsItem, IsAlike}
use Rattle.fly_catalog.proofs.MapLemmas.{forgotten}

module _ {K T : Type 0} (R : K → K → Ordering) (old mid new : List T) (before between after : BTreeMap K ℕ) (key : K) (kept : mid ≡ old)
    (put : Updates R before between key (Some (length old))) where
  -- the item is put at the end
  pub filled : (item : T) → new ≡ mid ++ item ∷ [] → after ≡ between → AddsItem R old new before after key item
  filled item more same =
      let P : BTreeMap K ℕ → Type 0 = λ m. Updates R before m key (Some (length old)) in
      record { items = more ∙ ap (λ l. l ++ item ∷ []) kept; places = subst P (sym same) put }

  -- its place is taken away again
  pub forgotten_again : CmpEqualImpliesEq R → get R before key ≡ None → new ≡ mid → Updates R between after key None → IsAlike R old new before after
  forgotten_again exact absent same taken =
      record { items = same ∙ kept; places = forgotten exact before between after key (Some (length old)) absent put taken }
