-- Bytes that are read one way: where a value's bytes and then something stand in front, the value and the rest are determined.
use Rattle.std.proofs.Common.{◌≡◌, ℕ, ◌<◌, ◌^◌, List, [], ◌∷◌, ◌++◌, length, map, Bool, true, false, refl, sym, ◌∙◌, ap, arith, append_assoc}
use Rattle.std.specs.Prelude.{ℤ, FitsSigned, ⊤}
use Rattle.std.specs.Int.{Width, w32, w64, to_be_bytes, from_be_bytes, cast_unsigned, cast_signed}
use Rattle.std.specs.List.{concat, All, AllByRecursion}
use Rattle.std.proofs.lemmas.List.Elements.{recursion_from_All}
use Rattle.std.proofs.lemmas.Nat.{from_be_bytes-to_be_bytes_4, from_be_bytes-to_be_bytes_8}
use Rattle.std.proofs.lemmas.Int.{to_z-of_z}
use Rattle.std.proofs.Math.Facts.{Fits-of_z}
use Rattle.fly_types.specs.Sound.{IsShort}
use Rattle.fly_types.specs.Canonical.{number_bytes, count_bytes, signed_bytes, flag_bytes, text_bytes, pair_bytes}
use Rattle.fly_types.proofs.Layers.{all_bytes}

abbrev pub Tells : {X : Type 0} → (X → Type 0) → (X → List ℕ) → X → Type 0
Tells {X} P f x = (y : X) (r s : List ℕ) → P x → P y → f x ++ r ≡ f y ++ s → (x ≡ y) × (r ≡ s)

head_or : ℕ → List ℕ → ℕ
head_or n [] = n
head_or n (x ∷ xs) = x

tail_of : List ℕ → List ℕ
tail_of [] = []
tail_of (x ∷ xs) = xs

pub heads : (x y : ℕ) (r s : List ℕ) → x ∷ r ≡ y ∷ s → x ≡ y
unfolding head_or
heads x y r s e = ap (head_or 0) e

pub tails : (x y : ℕ) (r s : List ℕ) → x ∷ r ≡ y ∷ s → r ≡ s
unfolding tail_of
tails x y r s e = ap tail_of e

-- two lists of one length in front
fronts : (xs ys r s : List ℕ) → length xs ≡ length ys → xs ++ r ≡ ys ++ s → (xs ≡ ys) × (r ≡ s)
fronts [] [] r s n e = (refl, e)
fronts [] (y ∷ ys) r s n e = absurd (omega (arith, n))
fronts (x ∷ xs) [] r s n e = absurd (omega (arith, n))
fronts (x ∷ xs) (y ∷ ys) r s n e =
    let rest : (xs ≡ ys) × (r ≡ s) = fronts xs ys r s (omega (arith, n)) (tails x y (xs ++ r) (ys ++ s) e) in
    let first : x ≡ y = heads x y (xs ++ r) (ys ++ s) e in
    (cc (first, rest.0), rest.1)

pub number_bytes-tells_8 : (n : ℕ) → Tells (λ m. m < 2 ^ 64) (number_bytes w64) n
unfolding number_bytes
number_bytes-tells_8 n m r s p q e =
    let same : (to_be_bytes w64 n ≡ to_be_bytes w64 m) × (r ≡ s) = fronts (to_be_bytes w64 n) (to_be_bytes w64 m) r s refl e in
    (sym (from_be_bytes-to_be_bytes_8 n p) ∙ ap (from_be_bytes w64) same.0 ∙ from_be_bytes-to_be_bytes_8 m q, same.1)

pub number_bytes-tells_4 : (n : ℕ) → Tells (λ m. m < 2 ^ 32) (number_bytes w32) n
unfolding number_bytes
number_bytes-tells_4 n m r s p q e =
    let same : (to_be_bytes w32 n ≡ to_be_bytes w32 m) × (r ≡ s) = fronts (to_be_bytes w32 n) (to_be_bytes w32 m) r s refl e in
    (sym (from_be_bytes-to_be_bytes_4 n p) ∙ ap (from_be_bytes w32) same.0 ∙ from_be_bytes-to_be_bytes_4 m q, same.1)

one_signed : (w : Width) (y z : ℤ) → FitsSigned w y → FitsSigned w z → cast_unsigned w y ≡ cast_unsigned w z → y ≡ z
one_signed w y z p q e = sym (to_z-of_z w y p) ∙ ap (cast_signed w) e ∙ to_z-of_z w z q

pub signed_bytes-tells_8 : (z : ℤ) → Tells (FitsSigned w64) (signed_bytes w64) z
signed_bytes-tells_8 z y r s p q e =
    let h = number_bytes-tells_8 (cast_unsigned w64 z) (cast_unsigned w64 y) r s (Fits-of_z p).fits (Fits-of_z q).fits e in
    (one_signed w64 z y p q h.0, h.1)

pub signed_bytes-tells_4 : (z : ℤ) → Tells (FitsSigned w32) (signed_bytes w32) z
signed_bytes-tells_4 z y r s p q e =
    let h = number_bytes-tells_4 (cast_unsigned w32 z) (cast_unsigned w32 y) r s (Fits-of_z p).fits (Fits-of_z q).fits e in
    (one_signed w32 z y p q h.0, h.1)

pub flag_bytes-tells : (b : Bool) → Tells (λ _. ⊤) flag_bytes b
flag_bytes-tells true true r s p q e = (refl, tails _ _ r s e)
flag_bytes-tells true false r s p q e = let h = heads _ _ r s e in absurd (omega (arith, h))
flag_bytes-tells false true r s p q e = let h = heads _ _ r s e in absurd (omega (arith, h))
flag_bytes-tells false false r s p q e = (refl, tails _ _ r s e)

-- one after another
pub both-tell : {X Y : Type 0} (P : X → Type 0) (Q : Y → Type 0) (f : X → List ℕ) (g : Y → List ℕ) (x : X) (y : Y) → Tells P f x → Tells Q g y
    → (x' : X) (y' : Y) (r s : List ℕ) → P x → Q y → P x' → Q y' → (f x ++ g y) ++ r ≡ (f x' ++ g y') ++ s → (x ≡ x') × (y ≡ y') × (r ≡ s)
both-tell P Q f g x y h k x' y' r s p q p' q' e =
    let first : (x ≡ x') × (g y ++ r ≡ g y' ++ s) = h x' (g y ++ r) (g y' ++ s) p p' (sym (append_assoc (f x) (g y) r) ∙ e ∙ append_assoc (f x') (g y') s) in
    let second : (y ≡ y') × (r ≡ s) = k y' r s q q' first.1 in
    (first.0, second.0, second.1)

pub text_bytes-tells : (text : List ℕ) → Tells IsShort text_bytes text
text_bytes-tells xs ys r s p q e =
    let n : (length xs ≡ length ys) × (xs ++ r ≡ ys ++ s) =
    number_bytes-tells_8 (length xs) (length ys) (xs ++ r) (ys ++ s) p q
    (sym (append_assoc (count_bytes (length xs)) xs r) ∙ e ∙ append_assoc (count_bytes (length ys)) ys s) in
    fronts xs ys r s n.0 n.1

-- as many values on both sides, one after another
parts-tell : {X : Type 0} (P : X → Type 0) (f : X → List ℕ) (xs ys : List X) (r s : List ℕ) → AllByRecursion (Tells P f) xs → AllByRecursion P xs → AllByRecursion P ys
    → length xs ≡ length ys → concat (map f xs) ++ r ≡ concat (map f ys) ++ s → (xs ≡ ys) × (r ≡ s)
parts-tell P f [] [] r s t p q n e = (refl, e)
parts-tell P f [] (y ∷ ys) r s t p q n e = absurd (omega (arith, n))
parts-tell P f (x ∷ xs) [] r s t p q n e = absurd (omega (arith, n))
parts-tell P f (x ∷ xs) (y ∷ ys) r s t p q n e =
    let first : (x ≡ y) × (concat (map f xs) ++ r ≡ concat (map f ys) ++ s) =
    t.0 y (concat (map f xs) ++ r) (concat (map f ys) ++ s) p.0 q.0
    (sym (append_assoc (f x) (concat (map f xs)) r) ∙ e ∙ append_assoc (f y) (concat (map f ys)) s) in
    let rest : (xs ≡ ys) × (r ≡ s) = parts-tell P f xs ys r s t.1 p.1 q.1 (omega (arith, n)) first.1 in
    (λ i. first.0 i ∷ rest.0 i, rest.1)

abbrev pub AreAll : {X : Type 0} → (X → Type 0) → List X → Type 0
AreAll P xs = IsShort xs × AllByRecursion P xs

pub all-tell : {X : Type 0} (P : X → Type 0) (f : X → List ℕ) (xs : List X) → AllByRecursion (Tells P f) xs → Tells (AreAll P) (all_bytes f) xs
all-tell P f xs t ys r s p q e =
    let n : (length xs ≡ length ys) × (concat (map f xs) ++ r ≡ concat (map f ys) ++ s) =
    number_bytes-tells_8 (length xs) (length ys) (concat (map f xs) ++ r) (concat (map f ys) ++ s) p.0 q.0
    (sym (append_assoc (count_bytes (length xs)) (concat (map f xs)) r) ∙ e ∙ append_assoc (count_bytes (length ys)) (concat (map f ys)) s) in
    parts-tell P f xs ys r s t p.1 q.1 n.0 n.1

-- entries: a name, and the bytes of what has it
abbrev pub entry_of : {X : Type 0} → (X → List ℕ) → List ℕ × X → List ℕ
entry_of f entry = pair_bytes (entry.0, f entry.1)

abbrev pub IsEntry : {X : Type 0} → (X → Type 0) → List ℕ × X → Type 0
IsEntry P entry = IsShort entry.0 × P entry.1

pub entry-tells : {X : Type 0} (P : X → Type 0) (f : X → List ℕ) (entry : List ℕ × X) → Tells P f entry.1 → Tells (IsEntry P) (entry_of f) entry
entry-tells P f entry t other r s p q e =
    let h = both-tell IsShort P text_bytes f entry.0 entry.1 (text_bytes-tells entry.0) t other.0 other.1 r s p.0 p.1 q.0 q.1 e in
    (λ i. (h.0 i, h.1 i), h.2)

pub entries-tell : {X : Type 0} (P : X → Type 0) (f : X → List ℕ) (entries : List (List ℕ × X)) → AllByRecursion (λ e. Tells P f e.1) entries
    → AllByRecursion (Tells (IsEntry P) (entry_of f)) entries
entries-tell P f [] t = tt
entries-tell P f (entry ∷ entries) t = (entry-tells P f entry t.0, entries-tell P f entries t.1)

pub are_entries : {X : Type 0} (P : X → Type 0) (entries : List (List ℕ × X)) → All (λ e. IsShort e.0) entries → AllByRecursion (λ e. P e.1) entries
    → AllByRecursion (IsEntry P) entries
are_entries {X} P entries names values = pairs entries (recursion_from_All (λ e. IsShort e.0) entries names) values
  where
    pairs : (es : List (List ℕ × X)) → AllByRecursion (λ e. IsShort e.0) es → AllByRecursion (λ e. P e.1) es → AllByRecursion (IsEntry P) es
    pairs [] a b = tt
    pairs (e ∷ es) a b = ((a.0, b.0), pairs es a.1 b.1)
