-- A list whose elements stand beside a fact, and the same fact of each element.
use Rattle.std.proofs.Common.{◌≡◌, List, [], ◌∷◌, map, refl}
use Rattle.std.specs.List.{AllByRecursion, All}
use Rattle.std.proofs.lemmas.List.Elements.{All-from_recursion, recursion_from_All}

by_recursion : {A B : Type 0} (P : B → Type 0) (f : A → B) (xs : List A) → ((a : A) → P (f a))
    → AllByRecursion P (map f xs)
by_recursion P f [] h = tt
by_recursion P f (x ∷ xs) h = (h x, by_recursion P f xs h)

pub all-map : {A B : Type 0} (P : B → Type 0) (f : A → B) (xs : List A) → ((a : A) → P (f a)) → All P (map f xs)
all-map P f xs h = All-from_recursion P (map f xs) (by_recursion P f xs h)

-- a list that the map gives
abbrev pub Mapped : {A B : Type 0} (f : A → B) (xs : List B) → Type 0
Mapped {A} f xs = (ys : List A) × (map f ys ≡ xs)

mapped : {A B : Type 0} (P : B → Type 0) (f : A → B) (g : (b : B) → P b → A) → ((b : B) (p : P b) → f (g b p) ≡ b)
    → (xs : List B)
    → AllByRecursion P xs → Mapped f xs
mapped P f g back [] h = ([], refl)
mapped P f g back (x ∷ xs) h =
    let rest = mapped P f g back xs h.1 in
    (g x h.0 ∷ rest.0, λ i. back x h.0 i ∷ rest.1 i)

-- where each element can stand beside the fact
pub beside : {A B : Type 0} (P : B → Type 0) (f : A → B) (g : (b : B) → P b → A) → ((b : B) (p : P b) → f (g b p) ≡ b)
    → (xs : List B)
    → All P xs → Mapped f xs
beside P f g back xs h = mapped P f g back xs (recursion_from_All P xs h)
