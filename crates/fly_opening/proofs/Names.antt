-- Lists whose names rise: two with the same names, and the element of a name.
use Rattle.std.proofs.Common.{◌≡◌, ℕ, Bool, true, false, ◌||◌, cond, List, [], ◌∷◌, map, All, Some, Less, Greater, find, nat_cmp, is_eq, refl, sym, ◌∙◌, ap, subst}
use Rattle.std.specs.List.{list_any, AllByRecursion as Each}
use Rattle.std.specs.List.Sorted.{IsStrictlySortedBy}
use Rattle.std.specs.Ordering.{ordering_reverse}
use Rattle.std.specs.Str.{bytes_eq}
use Rattle.std.specs.Cmp.Lexicographic.{slice_cmp}
use Rattle.std.proofs.lemmas.Bool.{false≢true}
use Rattle.std.proofs.lemmas.Cmp.{nat_list_cmp_total}
use Rattle.std.proofs.lemmas.List.Elements.{All-nil, All-cons, All-head, All-tail}
use Rattle.std.proofs.lemmas.Map.Text.{is_eq-slice_cmp}
use Rattle.std.proofs.lemmas.Slice.Eq.{bytes_eq-Decides}

abbrev Name : Type 0
Name = List ℕ

-- the name is below the other
abbrev IsBelow : Name → Name → Type 0
IsBelow a b = slice_cmp nat_cmp a b ≡ Less

abbrev has : List Name → Name → Bool
has names name = list_any (λ n. bytes_eq n name) names

pub same-name : (a b : Name) → bytes_eq a b ≡ true → a ≡ b
same-name a b h = (bytes_eq-Decides a b).0 h

pub itself : (a : Name) → bytes_eq a a ≡ true
itself a = (bytes_eq-Decides a a).1 refl

-- a lower name is another
pub below-differs : (a b : Name) → IsBelow a b → bytes_eq a b ≡ false
below-differs a b h = sym (is_eq-slice_cmp a b) ∙ ap is_eq h

above-differs : (a b : Name) → IsBelow a b → bytes_eq b a ≡ false
above-differs a b h =
    sym (is_eq-slice_cmp b a) ∙ ap is_eq (nat_list_cmp_total.antisymm b a ∙ ap ordering_reverse h)

-- a name is below the names that are behind it
behind : (a : Name) (names : List Name) (b : Name) → Each (IsBelow a) names → has names b ≡ true → IsBelow a b
behind a [] b h there = absurd (false≢true there)
behind a (n ∷ names) b h there =
    elim (bytes_eq n b) as (λ t. bytes_eq n b ≡ t → t || has names b ≡ true → IsBelow a b) [
      | true ↦ λ same _. subst (IsBelow a) (same-name n b same) h.0
      | false ↦ λ _ rest. behind a names b h.1 rest
    ] refl there

-- of two that have each other's names the first are the same
first-same : (a b : Name) (ns ms : List Name) → Each (IsBelow a) ns → Each (IsBelow b) ms → has (b ∷ ms) a ≡ true
    → has (a ∷ ns) b ≡ true → a ≡ b
first-same a b ns ms up-a up-b there here =
    elim (bytes_eq b a) as (λ t. bytes_eq b a ≡ t → t || has ms a ≡ true → a ≡ b) [
      | true ↦ λ same _. sym (same-name b a same)
      | false ↦ λ _ rest. other (behind b ms a up-b rest)
    ] refl there
  where
    other : IsBelow b a → a ≡ b
    other low = elim (bytes_eq a b) as (λ t. bytes_eq a b ≡ t → t || has ns b ≡ true → a ≡ b) [
      | true ↦ λ same _. same-name a b same
      | false ↦ λ _ rest.
          let low-too : IsBelow a b = behind a ns b up-a rest in
          let back : slice_cmp nat_cmp b a ≡ Greater = nat_list_cmp_total.antisymm b a ∙ ap ordering_reverse low-too in
          let both : Less ≡ Greater = sym low ∙ back in absurd (cc)
    ] refl here

-- names behind a first one are found behind it
found-behind : (a : Name) (ns ms : List Name) → Each (IsBelow a) ns → Each (λ n. has (a ∷ ms) n ≡ true) ns
    → Each (λ n. has ms n ≡ true) ns
found-behind a [] ms up there = tt
found-behind a (n ∷ ns) ms up there =
    (ap (λ t. t || has ms n) (sym (below-differs a n up.0)) ∙ there.0, found-behind a ns ms up.1 there.1)

-- two lists that have each other's names
pub same-names : (ns ms : List Name) → IsStrictlySortedBy (slice_cmp nat_cmp) ns
    → IsStrictlySortedBy (slice_cmp nat_cmp) ms → Each (λ n. has ms n ≡ true) ns → Each (λ n. has ns n ≡ true) ms
    → ns ≡ ms
unfolding IsStrictlySortedBy
same-names [] [] up-a up-b there here = refl
same-names [] (b ∷ ms) up-a up-b there here = absurd (false≢true here.0)
same-names (a ∷ ns) [] up-a up-b there here = absurd (false≢true there.0)
same-names (a ∷ ns) (b ∷ ms) up-a up-b there here =
    let same : a ≡ b = first-same a b ns ms up-a.0 up-b.0 there.0 here.0 in
    let there-rest : Each (λ n. has (a ∷ ms) n ≡ true) ns =
    subst (λ c. Each (λ n. has (c ∷ ms) n ≡ true) ns) (sym same) there.1 in
    let here-rest : Each (λ n. has (b ∷ ns) n ≡ true) ms =
    subst (λ c. Each (λ n. has (c ∷ ns) n ≡ true) ms) same here.1 in
    let rest : ns ≡ ms = same-names ns ms up-a.1 up-b.1 (found-behind a ns ms up-a.0 there-rest)
    (found-behind b ms ns up-b.0 here-rest) in
    λ i. same i ∷ rest i

-- ---- the element of a name

module _ {X : Type 0} (name_of : X → Name) where
  -- the first that has the name of x is x
  abbrev pub FindsItself : List X → X → Type 0
  FindsItself xs x = find (λ y. bytes_eq (name_of y) (name_of x)) xs ≡ Some x

  later : (x : X) (xs ys : List X) → Each (IsBelow (name_of x)) (map name_of ys) → Each (FindsItself xs) ys
      → Each (FindsItself (x ∷ xs)) ys
  later x xs [] up each = tt
  later x xs (y ∷ ys) up each = (
    ap (λ t. cond t (Some x) (find (λ z. bytes_eq (name_of z) (name_of y)) xs))
        (below-differs (name_of x) (name_of y) up.0) ∙ each.0,
    later x xs ys up.1 each.1,
  )

  pub finds-itself : (xs : List X) → IsStrictlySortedBy (slice_cmp nat_cmp) (map name_of xs)
      → Each (FindsItself xs) xs
  unfolding IsStrictlySortedBy
  finds-itself [] up = tt
  finds-itself (x ∷ xs) up = (
    ap (λ t. cond t (Some x) (find (λ y. bytes_eq (name_of y) (name_of x)) xs)) (itself (name_of x)),
    later x xs xs up.0 (finds-itself xs up.1),
  )
