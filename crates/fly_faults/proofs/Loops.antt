-- What a loop has pushed after the first elements of a list, and then one more; and the first element by name.
use Rattle.std.proofs.Common.{◌≡◌, ℕ, zero, suc, ◌+◌, ◌<◌, Bool, true, false, cond, ◌||◌, ◌&&◌, List, [], ◌∷◌, ◌++◌, map, filter, length, get_or, take, refl, sym, ◌∙◌, ap, arith, append_assoc, append-nil, codes}
use Rattle.std.specs.Prelude.{not, Result, Ok, Err, OnOk, IfOk, Option, Some, None}
use Rattle.std.specs.List.{flat_map, join_by, list_any, list_all, enumerate_from, filter_map}
use Rattle.std.specs.Option.{option_to_list}
use Rattle.std.proofs.lemmas.List.{take_more, flat_map_more, map-append}
use Rattle.std.proofs.lemmas.Grind.{flat_map-append}
use Rattle.std.proofs.lemmas.List.Folds.{list_any-append}
use Rattle.std.proofs.Math.ListN.{length-take}
use Rattle.fly_faults.specs.TypeText.{separator}
use Rattle.std.proofs.lemmas.List.Elements.{filter-append, filter_map-append}

pub more : {X : Type 0} (xs : List X) (i : ℕ) (x : X) → i < length xs → x ≡ get_or xs i x → take (i + 1) xs ≡ take i xs ++ x ∷ []
more xs i x lt is = take_more xs i x lt ∙ ap (λ y. take i xs ++ y ∷ []) (sym is)

pub pushed_more : {X A : Type 0} (f : X → List A) (xs : List X) (i : ℕ) (x : X) (old now next : List A) → i < length xs → x ≡ get_or xs i x
    → now ≡ old ++ flat_map f (take i xs) → next ≡ now ++ f x → next ≡ old ++ flat_map f (take (i + 1) xs)
pushed_more f xs i x old now next lt is before step =
    step ∙ ap (λ r. r ++ f x) before ∙ flat_map_more f old (take i xs) x ∙ ap (λ ys. old ++ flat_map f ys) (sym (more xs i x lt is))

pub filtered_more : {X A : Type 0} (p : X → Bool) (f : X → A) (xs : List X) (i : ℕ) (x : X) (old now next : List A) → i < length xs → x ≡ get_or xs i x
    → now ≡ old ++ map f (filter p (take i xs)) → next ≡ now ++ cond (p x) (f x ∷ []) [] → next ≡ old ++ map f (filter p (take (i + 1) xs))
filtered_more p f xs i x old now next lt is before step =
    let one : map f (filter p (x ∷ [])) ≡ cond (p x) (f x ∷ []) [] =
    elim (p x) as (λ b. map f (cond b (x ∷ []) []) ≡ cond b (f x ∷ []) []) [ true ↦ refl | false ↦ refl ] in
    step ∙ ap (λ r. r ++ cond (p x) (f x ∷ []) []) before
    ∙ append_assoc old (map f (filter p (take i xs))) (cond (p x) (f x ∷ []) [])
    ∙ ap (λ r. old ++ (map f (filter p (take i xs)) ++ r)) (sym one)
    ∙ ap (λ r. old ++ r) (sym (map-append f (filter p (take i xs)) (filter p (x ∷ []))))
    ∙ ap (λ r. old ++ map f r) (sym (filter-append p (take i xs) (x ∷ [])))
    ∙ ap (λ ys. old ++ map f (filter p ys)) (sym (more xs i x lt is))

pub joined : {A : Type 0} (old mid next first second : List A) → mid ≡ old ++ first → next ≡ mid ++ second → next ≡ old ++ (first ++ second)
joined old mid next first second p q = q ∙ ap (λ r. r ++ second) p ∙ append_assoc old first second

-- ---- with commas between them

abbrev before : {X : Type 0} → (X → List ℕ) → X → List ℕ
before f y = codes "," ++ f y

join-push : {X : Type 0} (f : X → List ℕ) (ys : List X) (x : X) → join_by f (codes ",") (ys ++ x ∷ []) ≡ join_by f (codes ",") ys ++ (separator (length ys) ++ f x)
join-push f [] x = append-nil (f x)
join-push f (y ∷ ys) x =
    ap (λ r. f y ++ r) (flat_map-append (before f) ys (x ∷ []))
    ∙ ap (λ r. f y ++ (flat_map (before f) ys ++ r)) (append-nil (before f x))
    ∙ sym (append_assoc (f y) (flat_map (before f) ys) (before f x))

pub listed_more : {X : Type 0} (f : X → List ℕ) (xs : List X) (i : ℕ) (x : X) (old now mid next : List ℕ) → i < length xs → x ≡ get_or xs i x
    → now ≡ old ++ join_by f (codes ",") (take i xs) → mid ≡ now ++ separator i → next ≡ mid ++ f x → next ≡ old ++ join_by f (codes ",") (take (i + 1) xs)
listed_more f xs i x old now mid next lt is done parted step =
    let long : length (take i xs) ≡ i = omega (arith, length-take i xs) in
    step ∙ ap (λ r. r ++ f x) parted ∙ append_assoc now (separator i) (f x)
    ∙ ap (λ r. r ++ (separator i ++ f x)) done
    ∙ append_assoc old (join_by f (codes ",") (take i xs)) (separator i ++ f x)
    ∙ ap (λ n. old ++ (join_by f (codes ",") (take i xs) ++ (separator n ++ f x))) (sym long)
    ∙ ap (λ r. old ++ r) (sym (join-push f (take i xs) x))
    ∙ ap (λ ys. old ++ join_by f (codes ",") ys) (sym (more xs i x lt is))

-- a list of two elements
pub two_elements : {X : Type 0} (xs : List X) (a b : X) → length xs ≡ 2 → a ≡ get_or xs 0 a → b ≡ get_or xs 1 b → xs ≡ a ∷ b ∷ []
two_elements [] a b long first second = absurd (omega arith)
two_elements (x ∷ []) a b long first second = absurd (omega arith)
two_elements (x ∷ y ∷ []) a b long first second = λ i. sym first i ∷ sym second i ∷ []
two_elements (x ∷ y ∷ z ∷ xs) a b long first second = absurd (omega arith)

-- a test the other way round
pub else_first : {A : Type 0} (b : Bool) (next now xs : List A) → next ≡ now ++ cond b [] xs → next ≡ now ++ cond (not b) xs []
else_first true next now xs e = e
else_first false next now xs e = e

-- ---- the elements of a list by what each is

pull : {A K C : Type 0} (g : A → K) (p : K → Bool) (f : K → C) (xs : List A) → map f (filter p (map g xs)) ≡ map (λ a. f (g a)) (filter (λ a. p (g a)) xs)
pull g p f [] = refl
pull g p f (x ∷ xs) =
    elim (p (g x)) as (λ b. map f (cond b (g x ∷ filter p (map g xs)) (filter p (map g xs))) ≡ map (λ a. f (g a)) (cond b (x ∷ filter (λ a. p (g a)) xs) (filter (λ a. p (g a)) xs)))
    [ true ↦ ap (λ r. f (g x) ∷ r) (pull g p f xs) | false ↦ pull g p f xs ]

-- two lists whose elements are the same
pub through : {A B K C : Type 0} (g : A → K) (h : B → K) (p : K → Bool) (f : K → C) (xs : List A) (ys : List B) → map g xs ≡ map h ys
    → map (λ a. f (g a)) (filter (λ a. p (g a)) xs) ≡ map (λ b. f (h b)) (filter (λ b. p (h b)) ys)
through g h p f xs ys e = sym (pull g p f xs) ∙ ap (λ ks. map f (filter p ks)) e ∙ pull h p f ys

any-map : {A K : Type 0} (g : A → K) (p : K → Bool) (xs : List A) → list_any p (map g xs) ≡ list_any (λ a. p (g a)) xs
any-map g p [] = refl
any-map g p (x ∷ xs) = ap (λ b. p (g x) || b) (any-map g p xs)

pub any-through : {A B K : Type 0} (g : A → K) (h : B → K) (p : K → Bool) (xs : List A) (ys : List B) → map g xs ≡ map h ys
    → list_any (λ a. p (g a)) xs ≡ list_any (λ b. p (h b)) ys
any-through g h p xs ys e = sym (any-map g p xs) ∙ ap (list_any p) e ∙ any-map h p ys

-- ---- results

pub on_ok : {T E : Type 0} {A B : Type 0} (r : Result T E) → (A → B) → OnOk r A → OnOk r B
on_ok (Ok x) f h = f h
on_ok (Err e) f h = h

-- ---- with their places

enumerate-push : {X : Type 0} (n : ℕ) (xs : List X) (x : X) → enumerate_from n (xs ++ x ∷ []) ≡ enumerate_from n xs ++ (n + length xs, x) ∷ []
enumerate-push n [] x = let e : n ≡ n + 0 = omega arith in ap (λ k. (k, x) ∷ []) e
enumerate-push n (y ∷ ys) x =
    let e : (n + 1) + length ys ≡ n + length (y ∷ ys) = omega arith in
    ap (λ r. (n, y) ∷ r) (enumerate-push (n + 1) ys x) ∙ ap (λ k. (n, y) ∷ (enumerate_from (n + 1) ys ++ (k, x) ∷ [])) e

-- the elements up to a place, and then one more
pub enumerated : {X : Type 0} (xs : List X) (i : ℕ) (x : X) → i < length xs → x ≡ get_or xs i x
    → enumerate_from 0 (take (i + 1) xs) ≡ enumerate_from 0 (take i xs) ++ (i, x) ∷ []
enumerated xs i x lt is =
    let long : 0 + length (take i xs) ≡ i = omega (arith, length-take i xs) in
    ap (enumerate_from 0) (more xs i x lt is) ∙ enumerate-push 0 (take i xs) x ∙ ap (λ k. enumerate_from 0 (take i xs) ++ (k, x) ∷ []) long

pub numbered_more : {X A : Type 0} (f : ℕ × X → List A) (xs : List X) (i : ℕ) (x : X) (old now next : List A) → i < length xs → x ≡ get_or xs i x
    → now ≡ old ++ flat_map f (enumerate_from 0 (take i xs)) → next ≡ now ++ f (i, x) → next ≡ old ++ flat_map f (enumerate_from 0 (take (i + 1) xs))
numbered_more f xs i x old now next lt is before step =
    step ∙ ap (λ r. r ++ f (i, x)) before ∙ flat_map_more f old (enumerate_from 0 (take i xs)) (i, x)
    ∙ ap (λ ys. old ++ flat_map f ys) (sym (enumerated xs i x lt is))

-- ---- five parts in a row
pub five : {A : Type 0} (old m1 m2 m3 m4 m5 a b c d e : List A) → m1 ≡ old ++ a → m2 ≡ m1 ++ b → m3 ≡ m2 ++ c → m4 ≡ m3 ++ d → m5 ≡ m4 ++ e
    → m5 ≡ old ++ (a ++ b ++ c ++ d ++ e)
five old m1 m2 m3 m4 m5 a b c d e p q r s t =
    joined old m4 m5 (a ++ b ++ c ++ d) e (joined old m3 m4 (a ++ b ++ c) d (joined old m2 m3 (a ++ b) c (joined old m1 m2 a b p q) r) s) t

pub if_ok : {T E : Type 0} {P Q : T → Type 0} (r : Result T E) → ((x : T) → P x → Q x) → IfOk r P → IfOk r Q
if_ok (Ok x) f h = f x h
if_ok (Err e) f h = h

-- what some elements give
chosen_one : {X Y : Type 0} (h : X → Option Y) (x : X) → filter_map h (x ∷ []) ≡ option_to_list (h x)
chosen_one h x = elim (h x) as (λ o. filter_map (λ (u : Unit {0}). o) (tt ∷ []) ≡ option_to_list o) [ None ↦ refl | Some y ↦ refl ]

pub chosen_more : {X Y : Type 0} (h : X → Option Y) (xs : List X) (i : ℕ) (x : X) (now next : List Y) → i < length xs → x ≡ get_or xs i x
    → now ≡ filter_map h (take i xs) → next ≡ now ++ option_to_list (h x) → next ≡ filter_map h (take (i + 1) xs)
chosen_more h xs i x now next lt is before step =
    step ∙ ap (λ r. r ++ option_to_list (h x)) before ∙ ap (λ r. filter_map h (take i xs) ++ r) (sym (chosen_one h x))
    ∙ sym (filter_map-append h (take i xs) (x ∷ [])) ∙ ap (filter_map h) (sym (more xs i x lt is))

-- ---- an element that passes a test

pub any_at : {X : Type 0} (p : X → Bool) (xs : List X) (i : ℕ) (x : X) → i < length xs → x ≡ get_or xs i x → p x ≡ true → list_any p xs ≡ true
any_at p [] i x lt is passes = absurd (omega arith)
any_at p (y ∷ ys) zero x lt is passes = ap (λ b. b || list_any p ys) (sym (ap p is) ∙ passes)
any_at p (y ∷ ys) (suc i) x lt is passes = ap (λ b. p y || b) (any_at p ys i x (omega arith) is passes) ∙ or_true (p y)
  where
    or_true : (b : Bool) → (b || true) ≡ true
    or_true true = refl
    or_true false = refl

pub none_more : {X : Type 0} (p : X → Bool) (xs : List X) (i : ℕ) (x : X) → i < length xs → x ≡ get_or xs i x → list_any p (take i xs) ≡ false → p x ≡ false
    → list_any p (take (i + 1) xs) ≡ false
none_more p xs i x lt is before fails =
    ap (list_any p) (more xs i x lt is) ∙ list_any-append p (take i xs) (x ∷ []) ∙ (λ j. before j || (fails j || false))

-- ---- tests of pairs

pub all-and : {X : Type 0} (p q : X → Bool) (xs : List X) → list_all (λ x. p x && q x) xs ≡ (list_all p xs && list_all q xs)
all-and p q [] = refl
all-and p q (x ∷ xs) = ap (λ b. (p x && q x) && b) (all-and p q xs) ∙ four (p x) (q x) (list_all p xs) (list_all q xs)
  where
    four : (a b c d : Bool) → ((a && b) && (c && d)) ≡ ((a && c) && (b && d))
    four false b c d = refl
    four true true c d = refl
    four true false true d = refl
    four true false false d = refl

pub not-any : {X : Type 0} (p : X → Bool) (xs : List X) → not (list_any p xs) ≡ list_all (λ x. not (p x)) xs
not-any p [] = refl
not-any p (x ∷ xs) = apart (p x) (list_any p xs) ∙ ap (λ b. not (p x) && b) (not-any p xs)
  where
    apart : (a b : Bool) → not (a || b) ≡ (not a && not b)
    apart true b = refl
    apart false b = refl

-- ---- four parts in a row, and four behind them

pub four : {A : Type 0} (old m1 m2 m3 m4 a b c d : List A) → m1 ≡ old ++ a → m2 ≡ m1 ++ b → m3 ≡ m2 ++ c → m4 ≡ m3 ++ d → m4 ≡ old ++ (a ++ b ++ c ++ d)
four old m1 m2 m3 m4 a b c d p q r s = joined old m3 m4 (a ++ b ++ c) d (joined old m2 m3 (a ++ b) c (joined old m1 m2 a b p q) r) s

spread_four : {A : Type 0} (m a b c d : List A) → m ++ (a ++ b ++ c ++ d) ≡ (((m ++ a) ++ b) ++ c) ++ d
spread_four m a b c d =
    sym (append_assoc m (a ++ b ++ c) d) ∙ ap (λ r. r ++ d) (sym (append_assoc m (a ++ b) c)) ∙ ap (λ r. (r ++ c) ++ d) (sym (append_assoc m a b))

pub four_behind : {A : Type 0} (old m1 m2 x a b c d : List A) → m1 ≡ old ++ x → m2 ≡ m1 ++ (a ++ b ++ c ++ d) → m2 ≡ old ++ (x ++ a ++ b ++ c ++ d)
four_behind old m1 m2 x a b c d p q = five old m1 (m1 ++ a) ((m1 ++ a) ++ b) (((m1 ++ a) ++ b) ++ c) m2 x a b c d p refl refl refl (q ∙ spread_four m1 a b c d)
