-- What a step says, at the ticket or the turn that the pass has.
use Rattle.std.proofs.Common.{◌≡◌, ◌≢◌, ℕ, List, [], ◌∷◌, ◌++◌, Bool, Option, Some, None, IfSome, MatchBool, ◌==◌, subst, eq-eqb, ne_eqb, is_some, true, refl, ap, ◌∙◌}
use Rattle.atomic_table.specs.Table.{Step, step, rest}
use mathlib.Core.Option.{none}
use Rattle.fly_desk.specs.declared.view.View.{View}
use Rattle.fly_desk.specs.View.{list_in, spare_in}
use Rattle.fly_desk.proofs.Options.{some_of}
use Rattle.fly_desk.specs.Plays.{Knower, view_with_call, TakesOut, Looks, PassesOn}

module _ {O E B : Type 0} (entries : O → List E) (spare : O → ℕ) (basis : O → B) where
  abbrev anywhere : Step (Option O)
  anywhere = step 0 0 0 0 none

  looked : (m m' : Knower O E B) (n k : ℕ) → m.0.ticket ≡ Some k → Looks entries spare basis anywhere m n m' → MatchBool (n == k) (TakesOut entries spare basis m m') (m' ≡ m)
  looked m m' n k is said = let P : Option ℕ → Type 0 = λ o. IfSome o (λ t. MatchBool (n == t) (TakesOut entries spare basis m m') (m' ≡ m)) in subst P is said

  -- the served ticket is the pass's
  pub served : (m m' : Knower O E B) (n k : ℕ) → m.0.ticket ≡ Some k → Looks entries spare basis anywhere m n m' → n ≡ k → TakesOut entries spare basis m m'
  served m m' n k is said here = let P : Bool → Type 0 = λ b. MatchBool b (TakesOut entries spare basis m m') (m' ≡ m) in subst P (eq-eqb n k here) (looked m m' n k is said)

  pub not_served : (m m' : Knower O E B) (n k : ℕ) → m.0.ticket ≡ Some k → Looks entries spare basis anywhere m n m' → n ≢ k → m' ≡ m
  not_served m m' n k is said other = let P : Bool → Type 0 = λ b. MatchBool b (TakesOut entries spare basis m m') (m' ≡ m) in subst P (ne_eqb n k other) (looked m m' n k is said)

  pub passed : (m m' : Knower O E B) (room : ℕ) (list : List E) → m.0.turn ≡ Some (list, room) → PassesOn entries spare basis anywhere m 0 m'
      → (object : O) (entry : E) → m.1 ≡ (0, Some object) ∷ [] → entries object ≡ list ++ entry ∷ [] → m' ≡ (view_with_call m.0 list entry, [])
  passed m m' room list is said object entry hand adds =
      let P : Option (List E × ℕ) → Type 0 = λ o. IfSome o (λ h. (x : O) (e : E) → m.1 ≡ (0, Some x) ∷ [] → entries x ≡ h.0 ++ e ∷ [] → Goes m m' h.0 e) in
      subst P is said object entry hand adds
    where
      Goes : Knower O E B → Knower O E B → List E → E → Type 0
      Goes a b l e = b ≡ (view_with_call a.0 l e, [])

  pub passed_home : (m : Knower O E B) (v : View E B) (m' : Knower O E B) (slots : List (ℕ × Option O)) (object : O) → m ≡ (v, (0, Some object) ∷ rest slots) → slots ≡ (0, None) ∷ [] → is_some v.turn ≡ true
      → PassesOn entries spare basis anywhere m 0 m' → (entry : E) → entries object ≡ list_in v ++ entry ∷ [] → m' ≡ (view_with_call v (list_in v) entry, [])
  passed_home m v m' slots object is empty out said entry adds =
      let P : Knower O E B → Type 0 = λ k. PassesOn entries spare basis anywhere k 0 m' in
      let hand : m ≡ (v, (0, Some object) ∷ []) = is ∙ ap (λ (l : List (ℕ × Option O)). (v, (0, Some object) ∷ rest l)) empty in
      passed (v, (0, Some object) ∷ []) m' (spare_in v) (list_in v) (some_of v.turn ([], 0) out) (subst P hand said) object entry refl adds
