-- Rows of places: filters of ranges, what a row has, and one place more.
use Rattle.std.proofs.Common.{◌≡◌, ℕ, zero, suc, ◌+◌, ◌-◌, ◌<◌, ◌≤◌, Bool, true, false, cond, not, ◌||◌, eqb, List, [], ◌∷◌, ◌++◌, map, filter, length, take, drop, get_or, set, All, refl, sym, ◌∙◌, ap, ap₂, subst, ⊎_elim, zero-add, arith}
use Rattle.std.specs.List.{range_with_len, list_any}
use Rattle.std.proofs.lemmas.Bool.{cases_eq, eq-eqb, ne_eqb, or_right}
use Rattle.std.proofs.lemmas.List.{append-nil, length-take-le, get_or-take, get_or_default, get_or-drop, length-drop, drop_at, length_push, get_or-set_same, get_or-set_other}
use Rattle.std.proofs.lemmas.List.Elements.{filter-append, All-filter}
use Rattle.std.proofs.lemmas.List.Folds.{list_any_none, list_any_more}
use Rattle.std.proofs.lemmas.List.FromFn.{length-range_with_len, get_or-range_with_len}
use Rattle.fly_links.specs.Rows.{has_place, row_at, rows_with, with_place, ends_in, AreBefore}

-- ---- filters of ranges

pub range_more : (a n : ℕ) → range_with_len a (suc n) ≡ range_with_len a n ++ (a + n) ∷ []
range_more a zero = ap (λ k. k ∷ []) (omega arith)
range_more a (suc n) = ap (λ ks. a ∷ ks) (range_more (a + 1) n
    ∙ ap (λ k. range_with_len (a + 1) n ++ k ∷ []) (omega arith))

pub filter_range_more : (p : ℕ → Bool) (n : ℕ) → filter p (range_with_len 0 (n + 1)) ≡ filter p
    (range_with_len 0 n) ++ cond (p n) (n ∷ []) []
filter_range_more p n =
    let one : n + 1 ≡ suc n = omega arith in
    ap (λ m. filter p (range_with_len 0 m)) one ∙ ap (filter p) (range_more 0 n)
    ∙ filter-append p (range_with_len 0 n) ((0 + n) ∷ [])
    ∙ ap (λ k. filter p (range_with_len 0 n) ++ cond (p k) (k ∷ []) []) (zero-add n)

pub filter_alike : (p q : ℕ → Bool) (a n : ℕ) → ((v : ℕ) → a ≤ v → v < a + n → p v ≡ q v)
    → filter p (range_with_len a n) ≡ filter q (range_with_len a n)
filter_alike p q a zero same = refl
filter_alike p q a (suc n) same =
    ap₂ (λ b ks. cond b (a ∷ ks) ks) (same a (omega arith) (omega arith))
    (filter_alike p q (a + 1) n (λ v from to. same v (omega arith) (omega arith)))

pub map_alike : {X : Type 0} (f g : ℕ → X) (a n : ℕ) → ((v : ℕ) → a ≤ v → v < a + n → f v ≡ g v)
    → map f (range_with_len a n) ≡ map g (range_with_len a n)
map_alike f g a zero same = refl
map_alike f g a (suc n) same = ap₂ (λ x xs. x ∷ xs) (same a (omega arith) (omega arith))
    (map_alike f g (a + 1) n (λ v from to. same v (omega arith) (omega arith)))

-- ---- what a row has

passed : (b : Bool) (x : ℕ) (ys : List ℕ) (v : ℕ) → eqb x v ≡ false → has_place (cond b (x ∷ ys) ys) v ≡ has_place ys v
passed true x ys v e = ap (λ t. t || has_place ys v) e
passed false x ys v e = refl

at_front : (b : Bool) (x : ℕ) (ys : List ℕ) (v : ℕ) → x ≡ v → has_place ys v ≡ false
    → has_place (cond b (x ∷ ys) ys) v ≡ b
at_front true x ys v e none = ap (λ t. t || has_place ys v) (eq-eqb x v e)
at_front false x ys v e none = none

has_below : (p : ℕ → Bool) (a n v : ℕ) → v < a → has_place (filter p (range_with_len a n)) v ≡ false
has_below p a zero v lt = refl
has_below p a (suc n) v lt =
    passed (p a) a (filter p (range_with_len (a + 1) n)) v (ne_eqb a v (λ e. omega (arith, e, lt)))
    ∙ has_below p (a + 1) n v (omega arith)

-- what passes the test, in the range
pub has_filter : (p : ℕ → Bool) (a n v : ℕ) → a ≤ v → v < a + n → has_place (filter p (range_with_len a n)) v ≡ p v
has_filter p a zero v from to = absurd (omega arith)
has_filter p a (suc n) v from to =
    let rest = filter p (range_with_len (a + 1) n) in
    ⊎_elim (λ here. at_front (p a) a rest v here (has_below p (a + 1) n v (omega (arith, here))) ∙ ap p here)
    (λ apart. passed (p a) a rest v (ne_eqb a v apart) ∙ has_filter p (a + 1) n v (omega arith) (omega arith))
    (cases_eq a v)

-- ---- rows by the rows before a place

abbrev test_in : List (List ℕ) → ℕ → ℕ → Bool
test_in rows u v = has_place (row_at rows v) u

pub rows_more : (rows : List (List ℕ)) (i u : ℕ) (row : List ℕ) → i < length rows → row ≡ get_or rows i row
    → rows_with (take (i + 1) rows) u ≡ with_place (has_place row u) (rows_with (take i rows) u) i
rows_more rows i u row below is =
    let longer = take (i + 1) rows in
    let long : length longer ≡ i + 1 = length-take-le (i + 1) rows (omega arith) in
    let short : length (take i rows) ≡ i = length-take-le i rows (omega arith) in
    ap (λ m. filter (test_in longer u) (range_with_len 0 m)) long
    ∙ filter_range_more (test_in longer u) i
    ∙ ap₂ (λ ks b. ks ++ cond b (i ∷ []) [])
    (filter_alike (test_in longer u) (test_in (take i rows) u) 0 i
    (λ v from to. ap (λ r. has_place r u) (get_or-take (i + 1) rows v [] (omega arith)
    ∙ sym (get_or-take i rows v [] (omega arith))))
    ∙ ap (λ m. filter (test_in (take i rows) u) (range_with_len 0 m)) (sym short))
    (ap (λ r. has_place r u) (get_or-take (i + 1) rows i [] (omega arith) ∙ get_or_default rows i [] row below
    ∙ sym is))

pub range_below : (p : ℕ → Bool) (n : ℕ) → All (λ v. v < n) (filter p (range_with_len 0 n))
range_below p n =
    All-filter p (λ v. v < n) (range_with_len 0 n)
    (λ k d lt.
    let within : k < n = omega (arith, lt, length-range_with_len 0 n) in
    subst (λ v. v < n) (sym (get_or-range_with_len 0 n k d within)) (omega (arith, within)))

pub rows_before : (rows : List (List ℕ)) (n u : ℕ) → length rows ≡ n → All (λ v. v < n) (rows_with rows u)
rows_before rows n u long = subst (λ m. All (λ v. v < m) (rows_with rows u)) long
    (range_below (test_in rows u) (length rows))

-- ---- one place more

ends_below : (row : List ℕ) (v : ℕ) → All (λ x. x < v) row → ends_in row v ≡ false
ends_below row v below =
    let n = length row - 1 in
    list_any_none (λ x. eqb x v) (drop n row)
    (λ k d lt. ne_eqb (get_or (drop n row) k d) v
    (λ e. let there : get_or row (n + k) d < v = below (n + k) d (omega (arith, lt, length-drop n row)) in
    omega (arith, there, sym (get_or-drop n row k d) ∙ e)))

ends_pushed : (row : List ℕ) (v : ℕ) → ends_in (row ++ v ∷ []) v ≡ true
ends_pushed row v =
    ap (list_any (λ x. eqb x v)) (drop_at row (v ∷ []) (length (row ++ v ∷ []) - 1) (omega (arith, length_push row v)))
    ∙ ap (λ b. b || false) (eq-eqb v v refl)

-- a place that comes again is kept once
once : (b : Bool) (row : List ℕ) (v : ℕ) → All (λ x. x < v) row
    → with_place (not (ends_in (with_place b row v) v)) (with_place b row v) v ≡ with_place true row v
once true row v below = ap (λ t. with_place (not t) (row ++ v ∷ []) v) (ends_pushed row v) ∙ append-nil (row ++ v ∷ [])
once false row v below =
    ap (λ r. with_place (not (ends_in r v)) r v) (append-nil row)
    ∙ ap (λ t. with_place (not t) row v) (ends_below row v below)

pub or_false : (b : Bool) → (b || false) ≡ b
or_false true = refl
or_false false = refl

-- one target more
module _ (place : ℕ) (ts : List ℕ) (i : ℕ) (old : List (List ℕ)) (lt : i < length ts) where
  abbrev pub IsPushed : ℕ → List (List ℕ) → Type 0
  IsPushed n now = (u : ℕ) → u < length old → row_at now u ≡ with_place (has_place (take n ts) u) (row_at old u) place

  asked : (u : ℕ) (b : Bool) → eqb (get_or ts i 0) u ≡ b → has_place (take (i + 1) ts) u ≡
      (has_place (take i ts) u || b)
  asked u b e = list_any_more (λ x. eqb x u) ts i 0 lt ∙ ap (λ c. has_place (take i ts) u || c) e

  other : (u : ℕ) → ¬ (get_or ts i 0 ≡ u) → has_place (take (i + 1) ts) u ≡ has_place (take i ts) u
  other u apart = asked u false (ne_eqb (get_or ts i 0) u apart) ∙ or_false (has_place (take i ts) u)

  -- behind the last row
  pub pushed_past : (now : List (List ℕ)) → IsPushed i now → length old ≤ get_or ts i 0 → IsPushed (i + 1) now
  pushed_past now before past = λ u below.
      before u below ∙ ap (λ b. with_place b (row_at old u) place) (sym (other u (λ e. omega (arith, e, past, below))))

  pub pushed_at : (now : List (List ℕ)) (row : List ℕ) (t : ℕ) → get_or ts i 0 ≡ t → AreBefore place old
      → length now ≡ length old → t < length old
      → row ≡ with_place (not (ends_in (row_at now t) place)) (row_at now t) place → IsPushed i now
      → IsPushed (i + 1) (set now t row)
  pushed_at now row t here below long within is before = λ u lt_u.
      ⊎_elim
      (λ same. subst (λ v. row_at (set now t row) v ≡ with_place (has_place (take (i + 1) ts) v)
      (row_at old v) place) same
      (get_or-set_same now t row [] (omega (arith, long, within)) ∙ is
      ∙ ap (λ r. with_place (not (ends_in r place)) r place) (before t within)
      ∙ once (has_place (take i ts) t) (row_at old t) place (below t within)
      ∙ ap (λ b. with_place b (row_at old t) place) (sym (asked t true (eq-eqb (get_or ts i 0) t here)
      ∙ or_right (has_place (take i ts) t) true refl))))
      (λ apart. get_or-set_other now t u row [] (λ e. apart (sym e)) ∙ before u lt_u
      ∙ ap (λ b. with_place b (row_at old u) place) (sym (other u (λ e. apart (sym here ∙ e)))))
      (cases_eq t u)
