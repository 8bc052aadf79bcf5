-- What is in a list, and at which place.
use Rattle.std.proofs.Common.{◌≡◌, ◌⊎◌, ℕ, zero, suc, ◌+◌, ◌<◌, arith, Bool, true, false, List, [], ◌∷◌, ◌++◌, map, flat_map, filter_map, length, Contains, Option, Some, None, option_map, option_to_list, refl, sym, ap, ◌∙◌, subst, ⊎_elim, inl, inr}
use Rattle.std.specs.List.{enumerate_from, range_with_len, cons_option, slice_get}
use Rattle.std.proofs.lemmas.List.Elements.{Contains-append_left, Contains-append_right, Contains-append_cases}
use Rattle.fly_graph.proofs.Members.{Contains-nil, Contains-cons_cases}

pub first_in : {X : Type 0} (x : X) (xs : List X) → Contains (x ∷ xs) x
first_in x xs = (0, omega arith, refl)

pub later_in : {X : Type 0} (y : X) (xs : List X) (x : X) → Contains xs x → Contains (y ∷ xs) x
later_in y xs x has = Contains-append_right (y ∷ []) xs x has

pub in_one : {X : Type 0} (y x : X) → Contains (y ∷ []) x → y ≡ x
in_one y x has = ⊎_elim (λ same. same) (λ more. absurd (Contains-nil x more)) (Contains-cons_cases y [] x has)

pub of_map : {X Y : Type 0} (f : X → Y) (xs : List X) (z : Y) → Contains (map f xs) z
    → (x : X) × Contains xs x × (f x ≡ z)
of_map f [] z has = absurd (Contains-nil z has)
of_map f (y ∷ ys) z has =
    ⊎_elim (λ same. (y, first_in y ys, same))
    (λ more. let found = of_map f ys z more in (found.0, later_in y ys found.0 found.1, found.2))
    (Contains-cons_cases (f y) (map f ys) z has)

pub of_flat_map : {X Y : Type 0} (f : X → List Y) (xs : List X) (z : Y) → Contains (flat_map f xs) z
    → (x : X) × Contains xs x × Contains (f x) z
of_flat_map f [] z has = absurd (Contains-nil z has)
of_flat_map f (y ∷ ys) z has =
    ⊎_elim (λ here. (y, first_in y ys, here))
    (λ more. let found = of_flat_map f ys z more in (found.0, later_in y ys found.0 found.1, found.2))
    (Contains-append_cases (f y) (flat_map f ys) z has)

in_cons_option : {Y : Type 0} (o : Option Y) (ys : List Y) (z : Y) → Contains ys z → Contains (cons_option o ys) z
in_cons_option None ys z has = has
in_cons_option (Some y) ys z has = later_in y ys z has

of_cons_option : {Y : Type 0} (o : Option Y) (ys : List Y) (z : Y) → Contains (cons_option o ys) z
    → (o ≡ Some z) ⊎ Contains ys z
of_cons_option None ys z has = inr has
of_cons_option (Some y) ys z has = ⊎_elim (λ same. inl (ap Some same)) (λ more. inr more)
    (Contains-cons_cases y ys z has)

pub in_filter_map : {X Y : Type 0} (f : X → Option Y) (xs : List X) (x : X) (z : Y) → Contains xs x → f x ≡ Some z
    → Contains (filter_map f xs) z
in_filter_map f [] x z has is = absurd (Contains-nil x has)
in_filter_map f (y ∷ ys) x z has is =
    ⊎_elim (λ same. subst (λ o. Contains (cons_option o (filter_map f ys)) z) (sym (ap f same ∙ is))
    (first_in z (filter_map f ys)))
    (λ more. in_cons_option (f y) (filter_map f ys) z (in_filter_map f ys x z more is))
    (Contains-cons_cases y ys x has)

pub of_filter_map : {X Y : Type 0} (f : X → Option Y) (xs : List X) (z : Y) → Contains (filter_map f xs) z
    → (x : X) × Contains xs x × (f x ≡ Some z)
of_filter_map f [] z has = absurd (Contains-nil z has)
of_filter_map f (y ∷ ys) z has =
    ⊎_elim (λ here. (y, first_in y ys, here))
    (λ more. let found = of_filter_map f ys z more in (found.0, later_in y ys found.0 found.1, found.2))
    (of_cons_option (f y) (filter_map f ys) z has)

pub of_option : {X : Type 0} (o : Option X) (x : X) → Contains (option_to_list o) x → o ≡ Some x
of_option None x has = absurd (Contains-nil x has)
of_option (Some y) x has = ap Some (in_one y x has)

pub in_option : {X : Type 0} (o : Option X) (x : X) → o ≡ Some x → Contains (option_to_list o) x
in_option o x is = subst (λ p. Contains (option_to_list p) x) (sym is) (first_in x [])

-- ---- numbered

pub range-more : (a n : ℕ) → range_with_len a (suc n) ≡ range_with_len a n ++ (a + n) ∷ []
range-more a zero = let e : a ≡ a + zero = omega arith in ap (λ k. k ∷ []) e
range-more a (suc n) =
    let e : (a + 1) + n ≡ a + suc n = omega arith in
    ap (λ r. a ∷ r) (range-more (a + 1) n) ∙ ap (λ k. a ∷ (range_with_len (a + 1) n ++ k ∷ [])) e

pub enumerated-at : {X : Type 0} (n : ℕ) (xs : List X) (i : ℕ) → slice_get (enumerate_from n xs) i ≡ option_map (λ x. (n + i, x)) (slice_get xs i)
enumerated-at n [] i = refl
enumerated-at n (x ∷ xs) zero = let e : n ≡ n + zero = omega arith in ap (λ k. Some (k, x)) e
enumerated-at n (x ∷ xs) (suc i) =
    let e : (n + 1) + i ≡ n + suc i = omega arith in
    enumerated-at (n + 1) xs i ∙ ap (λ k. option_map (λ y. (k, y)) (slice_get xs i)) e
