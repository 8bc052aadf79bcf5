-- Lists of one and of two elements.
use Rattle.std.proofs.Common.{◌≡◌, ◌⊎◌, [], ◌∷◌, All, Contains, inl, inr, sym, ⊎_elim}
use Rattle.std.proofs.lemmas.List.Elements.{All-nil, All-cons}
use Rattle.fly_graph.proofs.Members.{Contains-nil, Contains-cons_cases}

module _ {X : Type 0} where
  pub all_of_one : (P : X → Type 0) (x : X) → P x → All P (x ∷ [])
  all_of_one P x p = All-cons P x [] p (All-nil P)

  pub all_of_two : (P : X → Type 0) (x y : X) → P x → P y → All P (x ∷ y ∷ [])
  all_of_two P x y p q = All-cons P x (y ∷ []) p (all_of_one P y q)

  pub in_one : (x v : X) → Contains (x ∷ []) v → v ≡ x
  in_one x v has = ⊎_elim (λ same. sym same) (λ none. absurd (Contains-nil v none)) (Contains-cons_cases x [] v has)

  pub in_two : (x y v : X) → Contains (x ∷ y ∷ []) v → (v ≡ x) ⊎ (v ≡ y)
  in_two x y v has =
      ⊎_elim (λ same. inl (sym same)) (λ more. inr (in_one y v more)) (Contains-cons_cases x (y ∷ []) v has)
