-- A rule has one solution along an order in which each number comes after those that it looks at.
use Rattle.std.proofs.Common.{◌≡◌, ℕ, zero, suc, ◌<◌, ◌≤◌, List, [], ◌∷◌, length, get_or, Contains, refl, sym, ◌∙◌, ap, subst, arith, take}
use Rattle.std.proofs.lemmas.List.{get_or_default}
use Rattle.std.proofs.lemmas.List.Elements.{Contains-get_or, Contains-append_right}
use Rattle.fly_graph.proofs.Members.{Contains-take_at}
use Rattle.fly_rules.specs.Rules.{Rule, values_at, value_by, value_within}

-- each number of the list comes after those that it looks at
abbrev pub LooksBack : (ℕ → List ℕ) → List ℕ → Type 0
LooksBack looks order = (i u : ℕ) → i < length order → Contains (looks (get_or order i 0)) u → Contains (take i order) u

-- two ways to give values see the same where they agree
pub values_at_agreeing : {V : Type 0} (f g : ℕ → V) (numbers : List ℕ)
    → ((u : ℕ) → Contains numbers u → f u ≡ g u) → values_at f numbers ≡ values_at g numbers
values_at_agreeing f g [] same = refl
values_at_agreeing f g (u ∷ numbers) same =
    let first : f u ≡ g u = same u (0, omega arith, refl) in
    let rest = values_at_agreeing f g numbers (λ w has. same w (Contains-append_right (u ∷ []) numbers w has)) in
    ap (λ value. (u, value) ∷ values_at f numbers) first ∙ ap (λ values. (u, g u) ∷ values) rest

module _ (looks : ℕ → List ℕ) (order : List ℕ) (back : LooksBack looks order) where
  -- up to a place of the order
  along_below : (P : ℕ → Type 0)
      → ((v : ℕ) → Contains order v → ((u : ℕ) → Contains (looks v) u → P u) → P v)
      → (n i : ℕ) → i < n → i < length order → P (get_or order i 0)
  along_below P step zero i small within = absurd (omega arith)
  along_below P step (suc n) i small within =
      step (get_or order i 0) (Contains-get_or order i 0 within) (λ u looked.
      let there = Contains-take_at order i u (back i u within looked) in
      let before : there.0 < n = omega (arith, there.1) in
      subst P there.3 (along_below P step n there.0 before there.2))

  -- what passes from the numbers that are looked at to the one that looks holds of all numbers of the order
  pub holds_along_order : (P : ℕ → Type 0)
      → ((v : ℕ) → Contains order v → ((u : ℕ) → Contains (looks v) u → P u) → P v)
      → (v : ℕ) → Contains order v → P v
  holds_along_order P step v has =
      let at : get_or order has.0 0 ≡ v = get_or_default order has.0 0 v has.1 ∙ has.2 in
      subst P at (along_below P step (length order) has.0 has.1 has.1)

module _ {V : Type 0} (rule : Rule V) (order : List ℕ) (back : LooksBack rule.looks order) where
  -- further steps change no value that is settled
  settled_below : (n m i : ℕ) → i < n → i < m → i < length order
      → value_within rule n (get_or order i 0) ≡ value_within rule m (get_or order i 0)
  unfolding value_within
  settled_below zero m i first second within = absurd (omega arith)
  settled_below (suc n) zero i first second within = absurd (omega arith)
  settled_below (suc n) (suc m) i first second within =
      ap (rule.value (get_or order i 0))
      (values_at_agreeing (value_within rule n) (value_within rule m) (rule.looks (get_or order i 0)) (λ u looked.
      let there = Contains-take_at order i u (back i u within looked) in
      let before : there.0 < i = there.1 in
      subst (λ w. value_within rule n w ≡ value_within rule m w) there.3
      (settled_below n m there.0 (omega arith) (omega arith) there.2)))

  -- as many steps as the order has numbers settle each of them
  pub value_within-settled : (n m : ℕ) → length order ≤ n → length order ≤ m → (v : ℕ) → Contains order v
      → value_within rule n v ≡ value_within rule m v
  value_within-settled n m first second v has =
      let place : has.0 < length order = has.1 in
      let at : get_or order has.0 0 ≡ v = get_or_default order has.0 0 v has.1 ∙ has.2 in
      subst (λ w. value_within rule n w ≡ value_within rule m w) at
      (settled_below n m has.0 (omega arith) (omega arith) has.1)

  -- there is a solution
  pub solves : (n : ℕ) → length order ≤ n → (v : ℕ) → Contains order v
      → value_within rule n v ≡ value_by rule (value_within rule n) v
  unfolding value_within
  solves n long v has = value_within-settled n (suc n) long (omega arith) v has

-- Two rules that look at the same: what passes from the values that are seen to those that the rules give holds of two solutions.
pub related_along : {V W : Type 0} (R : ℕ → V → W → Type 0) (rule : Rule V) (other : Rule W) (order : List ℕ)
    → LooksBack rule.looks order
    → ((v : ℕ) → Contains order v → rule.looks v ≡ other.looks v)
    → (f : ℕ → V) (g : ℕ → W)
    → ((v : ℕ) → Contains order v → ((u : ℕ) → Contains (rule.looks v) u → R u (f u) (g u))
    → R v (value_by rule f v) (value_by other g v))
    → ((v : ℕ) → Contains order v → f v ≡ value_by rule f v)
    → ((v : ℕ) → Contains order v → g v ≡ value_by other g v)
    → (v : ℕ) → Contains order v → R v (f v) (g v)
related_along R rule other order back same f g step first second =
    holds_along_order rule.looks order back (λ v. R v (f v) (g v)) (λ v has seen.
    subst (λ x. R v x (g v)) (sym (first v has)) (subst (R v (value_by rule f v)) (sym (second v has)) (step v has seen)))

-- two solutions of one rule agree
pub one_solution_along : {V : Type 0} (rule : Rule V) (order : List ℕ) → LooksBack rule.looks order → (f g : ℕ → V)
    → ((v : ℕ) → Contains order v → f v ≡ value_by rule f v)
    → ((v : ℕ) → Contains order v → g v ≡ value_by rule g v)
    → (v : ℕ) → Contains order v → f v ≡ g v
one_solution_along rule order back f g =
    related_along (λ v x y. x ≡ y) rule rule order back (λ v has. refl) f g (λ v has seen.
    ap (rule.value v) (values_at_agreeing f g (rule.looks v) seen))
