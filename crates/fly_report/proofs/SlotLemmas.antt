-- Slots by their numbers, and one launch more at one.
use Rattle.std.proofs.Common.{◌≡◌, ℕ, ◌+◌, Bool, true, false, ◌&&◌, cond, if◌then◌else◌, nat_eq, Option, Some, None, unwrap_or, refl, sym, ◌∙◌, ap, arith}
use Rattle.std.specs.Ordering.{is_eq, nat_cmp}
use Rattle.std.specs.Option.{option_eq, option_cmp}
use Rattle.std.specs.Cmp.{both_tied, unsigned_ties}
use Rattle.std.specs.BTreeMap.{BTreeMap, get, Updates}
use Rattle.std.proofs.lemmas.Bool.{eqb-true, and_parts, cond-true, cond-false, true≢false}
use Rattle.fly_report.specs.declared.launches.Slot.{Slot}
use Rattle.fly_report.specs.LaunchCounts.{same_slot, slot_cmp}

-- ---- slots

item-tied : (x y : Option ℕ) → option_eq nat_eq x y ≡ is_eq (option_cmp nat_cmp x y)
item-tied None None = refl
item-tied None (Some y) = refl
item-tied (Some x) None = refl
item-tied (Some x) (Some y) = unsigned_ties x y

same_slot-cmp : (a b : Slot) → same_slot a b ≡ is_eq (slot_cmp a b)
same_slot-cmp a b =
    both_tied _ _ _ _ (unsigned_ties a.execution b.execution)
    (both_tied _ _ _ _ (unsigned_ties a.node b.node) (item-tied a.item b.item))

item-is : (x y : Option ℕ) → option_eq nat_eq x y ≡ true → x ≡ y
item-is None None h = refl
item-is None (Some y) h = absurd (true≢false (sym h))
item-is (Some x) None h = absurd (true≢false (sym h))
item-is (Some x) (Some y) h = ap Some (eqb-true x y h)

pub same_slot-is : (a b : Slot) → same_slot a b ≡ true → a ≡ b
same_slot-is a b h =
    let first = and_parts (nat_eq a.execution b.execution) (nat_eq a.node b.node && option_eq nat_eq a.item b.item) h in
    let second = and_parts (nat_eq a.node b.node) (option_eq nat_eq a.item b.item) first.1 in
    let e : a.execution ≡ b.execution = eqb-true _ _ first.0 in
    let n : a.node ≡ b.node = eqb-true _ _ second.0 in
    let t : a.item ≡ b.item = item-is _ _ second.1 in
    λ i. record { execution = e i; node = n i; item = t i }

-- ---- counts

-- one more at a slot
pub counted-more : (old new : BTreeMap Slot ℕ) (slot q : Slot)
    → Updates slot_cmp old new slot (Some (unwrap_or (get slot_cmp old slot) 0 + 1))
    → unwrap_or (get slot_cmp new q) 0 ≡ unwrap_or (get slot_cmp old q) 0 + (if same_slot slot q then 1 else 0)
counted-more old new slot q h = by (same_slot slot q) refl
  where
    count : ℕ
    count = unwrap_or (get slot_cmp old slot) 0

    here : get slot_cmp new q ≡ cond (same_slot slot q) (Some (count + 1)) (get slot_cmp old q)
    here = h.0 q ∙ ap (λ b. cond b (Some (count + 1)) (get slot_cmp old q)) (sym (same_slot-cmp slot q))

    by : (b : Bool) → same_slot slot q ≡ b
        → unwrap_or (get slot_cmp new q) 0 ≡ unwrap_or (get slot_cmp old q) 0 + (if b then 1 else 0)
    by true same =
        ap (λ o. unwrap_or o 0) (here ∙ cond-true _ (Some (count + 1)) (get slot_cmp old q) same)
        ∙ ap (λ (s : Slot). unwrap_or (get slot_cmp old s) 0 + 1) (same_slot-is slot q same)
    by false other =
        ap (λ o. unwrap_or o 0) (here ∙ cond-false _ (Some (count + 1)) (get slot_cmp old q) other) ∙ omega arith
