-- What holds of each or of some element, as far as a loop has come.
use Rattle.std.proofs.Common.{◌≡◌, ℕ, zero, suc, ◌+◌, ◌<◌, ◌≤◌, List, [], ◌∷◌, ◌++◌, map, length, take, get_or, sym, ◌∙◌, ap, subst, inl, inr, arith, add-one, append_assoc, append-nil, refl, max}
use Rattle.std.specs.List.{All, concat}
use Rattle.std.proofs.lemmas.List.Elements.{All-more, All-same}
use Rattle.std.proofs.lemmas.List.{take_all, take_more}
use Rattle.std.proofs.lemmas.List.Recursion.{max_bounds, max_push}
use Rattle.fly_types.specs.Levels.{largest}
use Rattle.fly_types.specs.Membership.{Some_of}

pub all_more : {X : Type 0} (P : X → Type 0) (xs : List X) (i : ℕ) (x : X) → i < length xs → x ≡ get_or xs i x → All P (take i xs) → P x → All P (take (i + 1) xs)
all_more P xs i x lt is before here = All-more P xs i x lt before (subst P is here)

pub all_done : {X : Type 0} (P : X → Type 0) (xs : List X) (i : ℕ) → length xs ≤ i → All P (take i xs) → All P xs
all_done P xs i le all = All-same P xs (take i xs) (sym (take_all i xs le)) all

pub some_at : {X : Type 0} (P : X → Type 0) (xs : List X) (i : ℕ) (x : X) → i < length xs → x ≡ get_or xs i x → P x → Some_of P xs
some_at P [] i x lt is here = absurd (omega arith)
some_at P (y ∷ ys) zero x lt is here = inl (subst P is here)
some_at P (y ∷ ys) (suc i) x lt is here = inr (some_at P ys i x (omega arith) is here)

none_upto : {X : Type 0} (P : X → Type 0) (xs : List X) (i : ℕ) (x : X) → i < length xs → x ≡ get_or xs i x → (Some_of P (take i xs) → ⊥) → (P x → ⊥) → Some_of P (take (suc i) xs) → ⊥
none_upto P [] i x lt is before here found = found
none_upto P (y ∷ ys) zero x lt is before here (inl p) = here (subst P (sym is) p)
none_upto P (y ∷ ys) zero x lt is before here (inr p) = p
none_upto P (y ∷ ys) (suc i) x lt is before here (inl p) = before (inl p)
none_upto P (y ∷ ys) (suc i) x lt is before here (inr p) = none_upto P ys i x (omega arith) is (λ q. before (inr q)) here p

pub none_more : {X : Type 0} (P : X → Type 0) (xs : List X) (i : ℕ) (x : X) → i < length xs → x ≡ get_or xs i x → (Some_of P (take i xs) → ⊥) → (P x → ⊥) → Some_of P (take (i + 1) xs) → ⊥
none_more P xs i x lt is before here = rw (add-one i) (none_upto P xs i x lt is before here)

concat_map-push : {X : Type 0} (f : X → List ℕ) (xs : List X) (x : X) → concat (map f (xs ++ x ∷ [])) ≡ concat (map f xs) ++ f x
concat_map-push f [] x = append-nil (f x)
concat_map-push f (y ∷ ys) x = ap (λ r. f y ++ r) (concat_map-push f ys x) ∙ sym (append_assoc (f y) (concat (map f ys)) (f x))

-- what has been written after the first i parts, and then one more
pub written_more : {X : Type 0} (f : X → List ℕ) (xs : List X) (i : ℕ) (x : X) (old now next : List ℕ) → i < length xs → x ≡ get_or xs i x
    → now ≡ old ++ concat (map f (take i xs)) → next ≡ now ++ f x → next ≡ old ++ concat (map f (take (i + 1) xs))
written_more f xs i x old now next lt is before step =
    let more : take (i + 1) xs ≡ take i xs ++ x ∷ [] = take_more xs i x lt ∙ ap (λ y. take i xs ++ y ∷ []) (sym is) in
    let whole : concat (map f (take (i + 1) xs)) ≡ concat (map f (take i xs)) ++ f x = ap (λ ys. concat (map f ys)) more ∙ concat_map-push f (take i xs) x in
    step ∙ ap (λ r. r ++ f x) before ∙ append_assoc old (concat (map f (take i xs))) (f x) ∙ ap (λ r. old ++ r) (sym whole)

pub written_both : (old mid next first second : List ℕ) → mid ≡ old ++ first → next ≡ mid ++ second → next ≡ old ++ (first ++ second)
written_both old mid next first second p q = q ∙ ap (λ r. r ++ second) p ∙ append_assoc old first second

pub largest_at : {X : Type 0} (f : X → ℕ) (xs : List X) (i : ℕ) (x : X) → i < length xs → x ≡ get_or xs i x → f x ≤ largest (map f xs)
largest_at f xs i x lt is = subst (λ y. f y ≤ largest (map f xs)) (sym is) (max_bounds (λ ys. largest (map f ys)) f refl (λ _ _. refl) xs i x lt)

pub largest_more : {X : Type 0} (f : X → ℕ) (xs : List X) (i : ℕ) (x : X) (n : ℕ) → i < length xs → x ≡ get_or xs i x → largest (map f (take i xs)) ≤ n → f x ≤ n
    → largest (map f (take (i + 1) xs)) ≤ n
largest_more f xs i x n lt is before here =
    let more : take (i + 1) xs ≡ take i xs ++ x ∷ [] = take_more xs i x lt ∙ ap (λ y. take i xs ++ y ∷ []) (sym is) in
    let step : largest (map f (take i xs ++ x ∷ [])) ≡ max (largest (map f (take i xs))) (f x) =
    max_push (λ ys. largest (map f ys)) f refl (λ _ _. refl) (take i xs) x in
    omega (arith, ap (λ ys. largest (map f ys)) more, step, before, here)
