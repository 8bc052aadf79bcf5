-- Options that are there, and those that are not.
use Rattle.std.proofs.Common.{◌≡◌, ℕ, List, [], ◌∷◌, true, false, true≢false, Option, Some, None, is_some, IfSome, option_map, unwrap_or, refl, sym, ap}
use Rattle.fly_desk.specs.View.{slots_out}

module _ {A : Type 0} where
  pub some_of : (o : Option A) (d : A) → is_some o ≡ true → o ≡ Some (unwrap_or o d)
  some_of None d e = absurd (true≢false (sym e))
  some_of (Some x) d e = refl

  pub none_of : (o : Option A) → is_some o ≡ false → o ≡ None
  none_of None e = refl
  none_of (Some x) e = absurd (true≢false e)

  pub is_some_of : (o : Option A) (x : A) → o ≡ Some x → is_some o ≡ true
  is_some_of o x e = ap is_some e

  -- an option's value as a function has it, and back
  pub if_mapped : {B : Type 0} (f : A → B) (o : Option A) (b : B) → option_map f o ≡ Some b → IfSome o (λ x. b ≡ f x)
  if_mapped f None b e = tt
  if_mapped f (Some x) b e = cc e

  pub mapped : {B : Type 0} (f : A → B) (o : Option A) (b : B) → is_some o ≡ true → IfSome o (λ x. b ≡ f x) → option_map f o ≡ Some b
  mapped f None b there e = absurd (true≢false (sym there))
  mapped f (Some x) b there e = ap (λ y. Some y) (sym e)

module _ {O E : Type 0} where
  pub slots_when_out : (o : Option (List E × ℕ)) → is_some o ≡ true → slots_out {O = O} o ≡ (0, None) ∷ []
  slots_when_out None e = absurd (true≢false (sym e))
  slots_when_out (Some x) e = refl

  pub slots_when_in : (o : Option (List E × ℕ)) → is_some o ≡ false → slots_out {O = O} o ≡ []
  slots_when_in None e = refl
  slots_when_in (Some x) e = absurd (true≢false e)
