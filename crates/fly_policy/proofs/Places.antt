-- Two lists whose elements stand in a relation place by place.
use Rattle.std.proofs.Common.{◌≡◌, ℕ, zero, suc, ◌+◌, ◌<◌, List, [], ◌∷◌, ◌++◌, length, get_or, take, sym, ◌∙◌, ap, subst, arith}
use Rattle.std.specs.List.{AllZip}
use Rattle.std.proofs.lemmas.List.{take_more}
use Rattle.std.proofs.lemmas.Slice.Zip.{all_zipped_more}

module _ {A B : Type 0} (R : A → B → Type 0) where
  pub at_place : (xs : List A) (ys : List B) (i : ℕ) (d : A) (e : B) → i < length xs → AllZip R xs ys
      → R (get_or xs i d) (get_or ys i e)
  at_place [] [] i d e within zips = absurd (omega arith)
  at_place [] (y ∷ ys) i d e within zips = absurd (omega arith)
  at_place (x ∷ xs) [] i d e within zips = absurd zips
  at_place (x ∷ xs) (y ∷ ys) zero d e within zips = zips.0
  at_place (x ∷ xs) (y ∷ ys) (suc i) d e within zips = at_place xs ys i d e (omega arith) zips.1

  -- the elements that were read at a place
  pub at_read : (xs : List A) (ys : List B) (i : ℕ) (x : A) (y : B) → i < length xs → x ≡ get_or xs i x
      → y ≡ get_or ys i y → AllZip R xs ys → R x y
  at_read xs ys i x y within first second zips =
      subst (λ a. R a y) (sym first) (subst (R (get_or xs i x)) (sym second) (at_place xs ys i x y within zips))

  -- one place more
  pub front_more : (xs : List A) (ys : List B) (i : ℕ) (x : A) (y : B) → i < length xs → i < length ys
      → x ≡ get_or xs i x → y ≡ get_or ys i y → AllZip R (take i xs) (take i ys) → R x y
      → AllZip R (take (i + 1) xs) (take (i + 1) ys)
  front_more xs ys i x y within also first second zips r =
      let left : take (i + 1) xs ≡ take i xs ++ x ∷ [] =
      take_more xs i x within ∙ ap (λ z. take i xs ++ z ∷ []) (sym first) in
      let right : take (i + 1) ys ≡ take i ys ++ y ∷ [] =
      take_more ys i y also ∙ ap (λ z. take i ys ++ z ∷ []) (sym second) in
      subst (λ zs. AllZip R zs (take (i + 1) ys)) (sym left)
      (subst (AllZip R (take i xs ++ x ∷ [])) (sym right) (all_zipped_more R (take i xs) (take i ys) x y zips r))
