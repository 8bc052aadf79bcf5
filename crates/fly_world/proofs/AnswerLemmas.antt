-- What holds of each change that an answer makes: what is launched was not launched, and so on.
use Rattle.std.proofs.Common.{◌≡◌, Bool, true, false, cond, Option, Some, None, refl, subst}
use Rattle.std.specs.Option.{option_map_or}
use Rattle.std.proofs.lemmas.Option.{none-some, same_Some}
use Rattle.fly_state.specs.Moves.{where_true}
use Rattle.fly_world.specs.Steps.{Answer}

module _ (P : Answer → Type 0) where
  -- an answer behind a test
  pub tested : (b : Bool) (x y : Answer) → (b ≡ true → P x) → (b ≡ false → P y) → P (cond b x y)
  tested true x y f g = f refl
  tested false x y f g = g refl

  -- an answer on what may not be there
  pub on_option : {X : Type 0} (f : X → Answer) (o : Option X) (d : Answer) → ((x : X) → o ≡ Some x → P (f x)) → P d
      → P (option_map_or f o d)
  on_option f None d there rest = rest
  on_option f (Some x) d there rest = there x refl

  -- the answer of an entry that may stand in a journal
  pub allowed : (b : Bool) (x a : Answer) → where_true b (Some x) ≡ Some a → P x → P a
  allowed true x a h px = subst P (same_Some x a h) px
  allowed false x a h px = absurd (none-some a h)

  pub allowed_where : (b : Bool) (x a : Answer) → where_true b (Some x) ≡ Some a → (b ≡ true → P x) → P a
  allowed_where true x a h px = subst P (same_Some x a h) (px refl)
  allowed_where false x a h px = absurd (none-some a h)

  -- behind one test more
  pub allowed_behind : (b : Bool) (o : Option Answer) (a : Answer) → where_true b o ≡ Some a
      → (b ≡ true → o ≡ Some a → P a) → P a
  allowed_behind true o a h f = f refl h
  allowed_behind false o a h f = absurd (none-some a h)
