-- The order of date-times, which are compared by their nanoseconds, is that of their seconds and then their nanos.
use Rattle.std.proofs.Common.{◌≡◌, ◌⊎◌, inl, inr, ℕ, ◌<◌, ◌^◌, ℤ, pos, Some, sym, ap, subst, arith}
use Rattle.std.specs.Prelude.{◌<ℤ◌}
use Rattle.std.specs.declared.cmp.Ordering.{Ordering}
use Rattle.std.specs.declared.cmp.Ordering.TheVariants.{Less, Equal, Greater}
use Rattle.std.specs.Ordering.{MatchOrdering, int_cmp}
use Rattle.std.specs.Cmp.{int_cmp_is, int_ranks}
use Rattle.std.proofs.lemmas.Int.{ints}
use Rattle.fly_exprs.specs.TruthValue.{nanoseconds}
use Rattle.fly_exprs.specs.Laws.{MomentsInOrder}

earlier : (s t : ℤ) (n m : ℕ) (r : Ordering) → MatchOrdering r (s <ℤ t) (s ≡ t) (t <ℤ s) → n < 10 ^ 9 → m < 10 ^ 9
    → nanoseconds s (pos n) <ℤ nanoseconds t (pos m) → (s <ℤ t) ⊎ ((s ≡ t) × (n < m))
earlier s t n m Less h f g lt = inl h
earlier s t n m Equal h f g lt = inr (h, omega (arith, ints))
earlier s t n m Greater h f g lt = absurd (omega (arith, ints))

fewer : (s t : ℤ) (n m : ℕ) → n < 10 ^ 9 → m < 10 ^ 9 → (s <ℤ t) ⊎ ((s ≡ t) × (n < m)) → nanoseconds s (pos n) <ℤ nanoseconds t (pos m)
fewer s t n m f g (inl h) = omega (arith, ints)
fewer s t n m f g (inr h) = omega (arith, ints)

below : (a b : ℤ) → int_cmp a b ≡ Less → a <ℤ b
below a b e = subst (λ (r : Ordering). MatchOrdering r (a <ℤ b) (a ≡ b) (b <ℤ a)) e (int_ranks a b)

pub moments_in_order : MomentsInOrder
moments_in_order s t n m h g = (
  λ e.
      let p : int_cmp (nanoseconds s (pos n)) (nanoseconds t (pos m)) ≡ Less = cc in
      earlier s t n m (int_cmp s t) (int_ranks s t) h.nanos_below g.nanos_below (below _ _ p),
  λ e. ap Some (sym (int_cmp_is _ _ Less (fewer s t n m h.nanos_below g.nanos_below e))),
)
