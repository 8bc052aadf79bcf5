-- Lists that a search writes.
use Rattle.std.proofs.Common.{◌≡◌, ◌↔◌, ℕ, ◌+◌, ◌<◌, ◌≤◌, Bool, true, false, cond, ◌-◌, List, [], ◌∷◌, ◌++◌, replicate, length, get_or, take, eqb, ⊎_elim, sym, ◌∙◌, ap, subst, arith}
use Rattle.std.specs.List.{Contains, All, AllPairs, list_any, slice_get}
use Rattle.std.specs.Prelude.{Option, Some, None}
use Rattle.std.proofs.lemmas.Option.{slice_get_within, get_or_from_slice_get, slice_get-get_or}
use Rattle.std.specs.List.Sorted.{IsNonDecreasingBy}
use Rattle.std.proofs.lemmas.Bool.{cases_lt, cases_eq, false≢true}
use Rattle.std.proofs.lemmas.List.{get_or_past, get_or_default, get_or-replicate, length-replicate, length_push, length-take, get_or_append_left, get_or_push, get_or-take, take_all, take_more}
use Rattle.std.proofs.lemmas.List.Elements.{All-contains, Contains-get_or, Contains-push, Contains-push_cases, Contains-append_left}
use Rattle.fly_graph.proofs.Members.{not_any, Contains-take_at}

-- a value written where a test passes, and the test fails past the list's end
pub written_everywhere : {X : Type 0} (old new : List X) (d x : X) (test : ℕ → Bool) → length new ≡ length old
    → ((v : ℕ) → v < length old → get_or new v d ≡ cond (test v) x (get_or old v d)) → ((v : ℕ) → length old ≤ v → test v ≡ false)
    → (v : ℕ) → get_or new v d ≡ cond (test v) x (get_or old v d)
written_everywhere old new d x test len within past v =
    ⊎_elim (λ small. within v small)
    (λ large. get_or_past new v d (omega arith) ∙ sym (get_or_past old v d large) ∙ ap (λ b. cond b x (get_or old v d)) (sym (past v large)))
    (cases_lt v (length old))

pub none_past : (members : List ℕ) (n : ℕ) → All (λ member. member < n) members → (v : ℕ) → n ≤ v → list_any (eqb v) members ≡ false
none_past members n below v large = not_any members v (λ has. let small : v < n = All-contains (λ member. member < n) members v below has in absurd (omega arith))

pub non_decreasing_from_rising : (xs : List ℕ) → AllPairs (λ x y. x < y) xs → IsNonDecreasingBy (λ x. x) xs
non_decreasing_from_rising xs rising i j d order within =
    ⊎_elim (λ e. let same : get_or xs i d ≡ get_or xs j d = ap (λ k. get_or xs k d) e in omega arith)
    (λ apart. let up : get_or xs i d < get_or xs j d = rising i j d (omega arith) within in omega arith)
    (cases_eq i j)

pub AllPairs_push : (xs : List ℕ) (y : ℕ) → AllPairs (λ a b. a < b) xs → ((x : ℕ) → Contains xs x → x < y) → AllPairs (λ a b. a < b) (xs ++ y ∷ [])
AllPairs_push xs y rising low i j d order within =
    let first : i < length xs = omega (arith, length_push xs y) in
    let before : get_or (xs ++ y ∷ []) i d ≡ get_or xs i d = get_or_append_left xs (y ∷ []) d i first in
    ⊎_elim (λ e.
    let last : get_or (xs ++ y ∷ []) j d ≡ y = get_or_push xs y d j (sym e) in
    let under : get_or xs i d < y = low _ (Contains-get_or xs i d first) in
    omega arith)
    (λ apart.
    let second : j < length xs = omega (arith, length_push xs y) in
    let later : get_or (xs ++ y ∷ []) j d ≡ get_or xs j d = get_or_append_left xs (y ∷ []) d j second in
    let up : get_or xs i d < get_or xs j d = rising i j d order second in
    omega arith)
    (cases_eq j (length xs))

pub AllPairs_take : (xs : List ℕ) (n : ℕ) → AllPairs (λ a b. a < b) xs → AllPairs (λ a b. a < b) (take n xs)
AllPairs_take xs n rising i j d order within =
    let second : j < n = omega (arith, length-take n xs) in
    let first : i < n = omega arith in
    let up : get_or xs i d < get_or xs j d = rising i j d order (omega (arith, length-take n xs)) in
    omega (arith, get_or-take n xs i d first, get_or-take n xs j d second)

-- a list that isn't empty, without its last element and with it
pub front_and_last : (xs : List ℕ) (y : ℕ) → 0 < length xs → get_or xs (length xs - 1) 0 ≡ y → xs ≡ take (length xs - 1) xs ++ y ∷ []
front_and_last xs y some last =
    let all : take (length xs - 1 + 1) xs ≡ xs = take_all (length xs - 1 + 1) xs (omega arith) in
    let more : take (length xs - 1 + 1) xs ≡ take (length xs - 1) xs ++ get_or xs (length xs - 1) 0 ∷ [] = take_more xs (length xs - 1) 0 (omega arith) in
    sym all ∙ more ∙ ap (λ z. take (length xs - 1) xs ++ z ∷ []) last

pub Contains_front : (xs : List ℕ) (n x : ℕ) → Contains (take n xs) x → Contains xs x
Contains_front xs n x has = let place = Contains-take_at xs n x has in subst (Contains xs) place.3 (Contains-get_or xs place.0 0 place.2)

-- in a rising list no element is above the last
pub below_last : (xs : List ℕ) → AllPairs (λ a b. a < b) xs → (x : ℕ) → Contains xs x → x ≤ get_or xs (length xs - 1) 0
below_last xs rising x has =
    let value : get_or xs has.0 0 ≡ x = get_or_default xs has.0 0 x has.1 ∙ has.2 in
    ⊎_elim (λ e. let same : get_or xs has.0 0 ≡ get_or xs (length xs - 1) 0 = ap (λ k. get_or xs k 0) e in omega arith)
    (λ apart. let up : get_or xs has.0 0 < get_or xs (length xs - 1) 0 = rising has.0 (length xs - 1) 0 (let low : has.0 < length xs = has.1 in omega arith) (let low : has.0 < length xs = has.1 in omega arith) in omega arith)
    (cases_eq has.0 (length xs - 1))

-- the elements before the last are below it
pub front_below_last : (xs : List ℕ) → AllPairs (λ a b. a < b) xs → (x : ℕ) → Contains (take (length xs - 1) xs) x → x < get_or xs (length xs - 1) 0
front_below_last xs rising x has =
    let place = Contains-take_at xs (length xs - 1) x has in
    let before : place.0 < length xs - 1 = place.1 in
    let up : get_or xs place.0 0 < get_or xs (length xs - 1) 0 = rising place.0 (length xs - 1) 0 before (omega arith) in
    omega (arith, place.3)

-- a list of one value holds it everywhere, and past its end by default
pub replicated : {X : Type 0} (n v : ℕ) (d : X) → get_or (replicate n d) v d ≡ d
replicated n v d =
    ⊎_elim (λ small. get_or-replicate n v d d small)
    (λ large. get_or_past (replicate n d) v d (omega (arith, length-replicate n d)))
    (cases_lt v n)

-- what `last` reads
pub last_known : (xs ys : List ℕ) (x : ℕ) → ys ≡ xs → slice_get ys (length ys - 1) ≡ Some x → (0 < length xs) × (get_or xs (length xs - 1) 0 ≡ x)
last_known xs ys x same read =
    let P : List ℕ → Type 0 = λ zs. slice_get zs (length zs - 1) ≡ Some x in
    let found : slice_get xs (length xs - 1) ≡ Some x = subst P same read in
    let within : length xs - 1 < length xs = slice_get_within xs (length xs - 1) x found in
    (omega arith, get_or_from_slice_get xs (length xs - 1) x 0 found)

pub all_below_last : (xs ys : List ℕ) (x bound : ℕ) → ys ≡ xs → AllPairs (λ a b. a < b) xs → slice_get ys (length ys - 1) ≡ Some x → x < bound → (place : ℕ) → Contains xs place → place < bound
all_below_last xs ys x bound same rising read low place has =
    let last = last_known xs ys x same read in
    omega (arith, below_last xs rising place has, last.1)

pub none_without_last : (xs ys : List ℕ) (bound : ℕ) → ys ≡ xs → slice_get ys (length ys - 1) ≡ None → (place : ℕ) → Contains xs place → place < bound
none_without_last xs ys bound same read place has =
    let P : List ℕ → Type 0 = λ zs. slice_get zs (length zs - 1) ≡ None in
    let none : slice_get xs (length xs - 1) ≡ None = subst P same read in
    let some : slice_get xs (length xs - 1) ≡ Some (get_or xs (length xs - 1) 0) = slice_get-get_or xs (length xs - 1) 0 (let low : has.0 < length xs = has.1 in omega arith) in
    absurd (some_not_none _ _ some none)
  where
    some_not_none : (o : Option ℕ) (x : ℕ) → o ≡ Some x → o ≡ None → ⊥
    some_not_none o x e f = cc

-- the numbers below n at which a flag is set, with n and without it
pub flagged_more : (numbers : List ℕ) (flags : List Bool) (n : ℕ) → ((v : ℕ) → Contains numbers v ↔ ((v < n) × (get_or flags v false ≡ true))) → get_or flags n false ≡ true
    → (v : ℕ) → Contains (numbers ++ n ∷ []) v ↔ ((v < n + 1) × (get_or flags v false ≡ true))
flagged_more numbers flags n kept set v = (
  λ has. ⊎_elim (λ was. let both = (kept v).0 was in let low : v < n = both.0 in (omega arith, both.1))
      (λ e. (omega arith, ap (λ k. get_or flags k false) (sym e) ∙ set)) (Contains-push_cases numbers n v has),
  λ both. ⊎_elim (λ e. subst (Contains (numbers ++ n ∷ [])) (sym e) (Contains-push numbers n))
      (λ apart. Contains-append_left numbers (n ∷ []) v ((kept v).1 (let low : v < n + 1 = both.0 in omega arith, both.1))) (cases_eq v n),
)

pub flagged_same : (numbers : List ℕ) (flags : List Bool) (n : ℕ) → ((v : ℕ) → Contains numbers v ↔ ((v < n) × (get_or flags v false ≡ true))) → get_or flags n false ≡ false
    → (v : ℕ) → Contains numbers v ↔ ((v < n + 1) × (get_or flags v false ≡ true))
flagged_same numbers flags n kept clear v = (
  λ has. let both = (kept v).0 has in let low : v < n = both.0 in (omega arith, both.1),
  λ both. ⊎_elim (λ e. absurd (false≢true (sym clear ∙ ap (λ k. get_or flags k false) (sym e) ∙ both.1)))
      (λ apart. (kept v).1 (let low : v < n + 1 = both.0 in omega arith, both.1)) (cases_eq v n),
)
