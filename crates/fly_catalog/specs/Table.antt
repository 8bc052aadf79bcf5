-- A list that only grows, with the place of each item by its key.
use Rattle.std.specs.Prelude.{◌≡◌, ℕ, List, [], ◌∷◌, ◌++◌, length, Some}
use Rattle.std.specs.declared.cmp.Ordering.{Ordering}
use Rattle.std.specs.BTreeMap.{BTreeMap, get, Updates, IsUnchanged}

-- the item stands at the end, and that is the place of its key
pub record AddsItem {K T : Type 0} (cmp : K → K → Ordering) (old new : List T) (before after : BTreeMap K ℕ) (key : K) (item : T) : Type 0 where
  pub items : new ≡ old ++ item ∷ []
  pub places : Updates cmp before after key (Some (length old))

-- nothing has changed
pub record KeepsTable {K T : Type 0} (old new : List T) (before after : BTreeMap K ℕ) : Type 0 where
  pub items : new ≡ old
  pub places : IsUnchanged before after

-- the items are the same, and each key has the place that it had
pub record IsAlike {K T : Type 0} (cmp : K → K → Ordering) (old new : List T) (before after : BTreeMap K ℕ) : Type 0 where
  pub items : new ≡ old
  pub places : (k : K) → get cmp after k ≡ get cmp before k
