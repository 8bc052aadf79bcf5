-- Elements of lists, by their places and by their own keys.
use Rattle.std.proofs.Common.{◌≡◌, ◌≢◌, ℕ, suc, ◌+◌, ◌<◌, ◌==◌, Bool, true, false, cond, List, [], ◌∷◌, ◌++◌, length, drop, get_or, flat_map, append_assoc, Option, Some, None, AllPairs, refl, sym, ap, ◌∙◌, arith, ⊎_elim, add-one}
use Rattle.std.specs.Prelude.{Decides}
use Rattle.std.specs.Option.{option_map_or}
use Rattle.std.specs.List.{slice_get, position, position_or_len, enumerate_from, count_by}
use Rattle.std.proofs.Math.Seq.{drop-cons}
use Rattle.std.proofs.lemmas.Bool.{cases_Bool, eq-eqb, eqb-true, true≢false, lt-ltb, cond-true}
use Rattle.std.proofs.lemmas.List.Quantifiers.{position-Some}
use Rattle.std.proofs.lemmas.List.Sums.{position_or_len_is, sum_by-cons}
use Rattle.std.proofs.lemmas.Option.{get_or_from_slice_get, slice_get_within, slice_get_cases}

-- ---- one element after another

pub drop-next : {X : Type 0} (xs : List X) (place : ℕ) (x : X) → slice_get xs place ≡ Some x
    → drop place xs ≡ x ∷ drop (place + 1) xs
drop-next {X} xs place x there =
    rw (add-one place)
    (drop-cons xs place x (slice_get_within xs place x there)
    ∙ ap (λ (y : X). y ∷ drop (suc place) xs) (get_or_from_slice_get xs place x x there))

-- ---- places

module _ {X K : Type 0} (eq : K → K → Bool) (decides : (a b : K) → Decides (eq a b) (a ≡ b)) (key : X → K)
    (xs : List X) where
  abbrev place_of : K → Option ℕ
  place_of k = position (λ y. eq k (key y)) xs

  -- the place of a key is that of an element where the key is the element's
  pub own-place : (i : ℕ) (x : X) → slice_get xs i ≡ Some x → place_of (key x) ≡ Some i → (k : K)
      → option_map_or (λ j. j == i) (place_of k) false ≡ eq k (key x)
  own-place i x there own k = by (eq k (key x)) refl
    where
      other : (o : Option ℕ) → place_of k ≡ o → eq k (key x) ≡ false → option_map_or (λ j. j == i) o false ≡ false
      other None is apart = refl
      other (Some j) is apart =
          ⊎_elim (λ same.
          let found = position-Some (λ y. eq k (key y)) xs j x is in
          let here : get_or xs j x ≡ x =
          ap (λ n. get_or xs n x) (eqb-true j i same) ∙ get_or_from_slice_get xs i x x there in
          absurd (true≢false (sym found.1 ∙ ap (λ y. eq k (key y)) here ∙ apart)))
          (λ apart. apart)
          (cases_Bool (j == i))

      by : (b : Bool) → eq k (key x) ≡ b → option_map_or (λ j. j == i) (place_of k) false ≡ b
      by true same =
          ap (λ (h : K). option_map_or (λ j. j == i) (place_of h) false) ((decides k (key x)).0 same)
          ∙ ap (λ o. option_map_or (λ j. j == i) o false) own
          ∙ eq-eqb i i refl
      by false apart = other (place_of k) refl apart

-- where no two are the same, each stands at its own place
pub distinct-place : {K : Type 0} (eq : K → K → Bool) (decides : (a b : K) → Decides (eq a b) (a ≡ b)) (ks : List K)
    → AllPairs (λ a b. a ≢ b) ks → (i : ℕ) (k : K) → slice_get ks i ≡ Some k → position (eq k) ks ≡ Some i
distinct-place {K} eq decides ks distinct i k there =
    cond-true _ (Some (position_or_len (eq k) ks)) None (lt-ltb _ _ (omega (arith, first, within))) ∙ ap Some first
  where
    own : get_or ks i k ≡ k
    own = get_or_from_slice_get ks i k k there

    within : i < length ks
    within = slice_get_within ks i k there

    before : (j : ℕ) → j < i → eq k (get_or ks j k) ≡ false
    before j earlier =
        ⊎_elim (λ same. absurd (distinct j i k earlier within (sym ((decides k (get_or ks j k)).0 same) ∙ sym own)))
        (λ apart. apart)
        (cases_Bool (eq k (get_or ks j k)))

    first : position_or_len (eq k) ks ≡ i
    first = position_or_len_is (eq k) ks i k (omega (arith, within)) before
        (λ _. (decides k (get_or ks i k)).1 (sym own))

-- ---- counts

pub count_by-alike : {X : Type 0} (p q : X → Bool) (xs : List X) → ((x : X) → p x ≡ q x) → count_by p xs ≡ count_by q xs
count_by-alike p q xs same = ap (λ r. count_by r xs) (λ i x. same x i)

-- ---- numbered elements

pub flat_map-alike : {X Y : Type 0} (f g : ℕ × X → List Y) (k : ℕ) (xs : List X)
    → ((i j : ℕ) (x : X) → slice_get xs i ≡ Some x → j ≡ k + i → f (j, x) ≡ g (j, x))
    → flat_map f (enumerate_from k xs) ≡ flat_map g (enumerate_from k xs)
flat_map-alike f g k [] same = refl
flat_map-alike {X} f g k (x ∷ xs) same = λ t.
    same 0 k x refl (omega arith) t
    ++ flat_map-alike f g (k + 1) xs (λ i j y there is. same (i + 1) j y (rw (add-one i) there) (omega (arith, is))) t

-- numbered from a place on
pub flat_map-next : {X Y : Type 0} (f : ℕ × X → List Y) (xs : List X) (i : ℕ) (x : X) → slice_get xs i ≡ Some x
    → flat_map f (enumerate_from i (drop i xs)) ≡ f (i, x) ++ flat_map f (enumerate_from (i + 1) (drop (i + 1) xs))
flat_map-next {X} f xs i x there =
    ap (λ (ys : List X). flat_map f (enumerate_from i ys)) (drop-next xs i x there)

-- ---- texts, one element after another

-- what is told so far, and what is left to tell, is all
pub texts-next : {X : Type 0} (text : X → List ℕ) (xs : List X) (i : ℕ) (x : X) (told new all : List ℕ)
    → slice_get xs i ≡ Some x → new ≡ told ++ text x → told ++ flat_map text (drop i xs) ≡ all
    → new ++ flat_map text (drop (i + 1) xs) ≡ all
texts-next {X} text xs i x told new all there added before =
    let rest : List ℕ = flat_map text (drop (i + 1) xs) in
    ap (λ (l : List ℕ). l ++ rest) added
    ∙ append_assoc told (text x) rest
    ∙ sym (ap (λ (ys : List X). told ++ flat_map text ys) (drop-next xs i x there))
    ∙ before

-- the same of numbered elements, where the text of one is told in parts
pub parts-next : (told new part left rest all : List ℕ) → new ≡ told ++ part → left ≡ part ++ rest → told ++ left ≡ all
    → new ++ rest ≡ all
parts-next told new part left rest all added parts before =
    ap (λ (l : List ℕ). l ++ rest) added
    ∙ append_assoc told part rest
    ∙ sym (ap (λ (l : List ℕ). told ++ l) parts)
    ∙ before

pub count-next : {X : Type 0} (p : X → Bool) (xs : List X) (i : ℕ) (x : X) → slice_get xs i ≡ Some x
    → count_by p (drop i xs) ≡ cond (p x) 1 0 + count_by p (drop (i + 1) xs)
count-next {X} p xs i x there =
    ap (λ (ys : List X). count_by p ys) (drop-next xs i x there)
    ∙ sum_by-cons (λ (y : X). cond (p y) 1 0) x (drop (i + 1) xs)

pub there-at : {X : Type 0} (xs : List X) (i : ℕ) → i < length xs → (x : X) × (slice_get xs i ≡ Some x)
there-at xs i within =
    ⊎_elim (λ found. (found.0, found.2)) (λ past. absurd (omega (arith, past.0, within))) (slice_get_cases xs i).1

-- three parts that were told
pub told-three : (old a b c one two three : List ℕ) → one ≡ old ++ a → two ≡ one ++ b → three ≡ two ++ c
    → three ≡ old ++ ((a ++ b) ++ c)
told-three old a b c one two three first second third =
    third ∙ ap (λ (l : List ℕ). l ++ c) (second ∙ ap (λ (l : List ℕ). l ++ b) first)
    ∙ ap (λ (l : List ℕ). l ++ c) (append_assoc old a b) ∙ append_assoc old (a ++ b) c
