-- Variables whose names rise.
use Rattle.std.proofs.Common.{◌≡◌, ℕ, Bool, true, false, cond, ◌&&◌, ◌||◌, List, [], ◌∷◌, map, filter, Option, Some, None, Less, nat_cmp, refl, sym, ◌∙◌, ap, find, is_eq}
use Rattle.std.specs.Option.{option_map}
use Rattle.std.specs.List.{AllByRecursion as Each}
use Rattle.std.specs.List.Sorted.{IsStrictlySortedBy}
use Rattle.std.specs.Str.{bytes_eq}
use Rattle.std.specs.Cmp.Lexicographic.{slice_cmp}
use Rattle.std.proofs.lemmas.Map.Text.{is_eq-slice_cmp}
use Rattle.std.proofs.lemmas.Slice.Eq.{bytes_eq-Decides}
use Rattle.fly_links.proofs.RepeatLemmas.{bytes_eq_back}
use Rattle.fly_types.specs.declared.text.Text.{Text}
use Rattle.fly_types.specs.declared.kinds.LiteralType.{LiteralType}
use Rattle.fly_types.specs.declared.variable.Variable.{Variable}
use Rattle.fly_types.specs.Lookup.{AreVariablesSorted}
use Rattle.fly_types.specs.Same.{same_type}
use Rattle.fly_docs.specs.Interfaces.{type_of, has_variable}

abbrev pub name_of : Variable → List ℕ
name_of v = v.name

-- names behind the first are other names
pub others_differ : (name : List ℕ) (vs : List Variable) → Each (λ y. slice_cmp nat_cmp name y ≡ Less) (map name_of vs) → Each (λ (v : Variable). bytes_eq name v.name ≡ false) vs
others_differ name [] h = tt
others_differ name (v ∷ vs) h = (sym (is_eq-slice_cmp name v.name) ∙ ap is_eq h.0, others_differ name vs h.1)

-- ---- the one of a name

abbrev pub same_kind : LiteralType → Option LiteralType → Bool
same_kind t None = false
same_kind t (Some s) = same_type s t

none_any : (v : Variable) (name : Text) (vs : List Variable) → bytes_eq name v.name ≡ true → Each (λ (w : Variable). bytes_eq name w.name ≡ false) vs → has_variable vs v ≡ false
none_any v name [] same h = refl
none_any v name (w ∷ vs) same h =
    let e : v.name ≡ name = sym ((bytes_eq-Decides name v.name).0 same) in
    let other : bytes_eq w.name v.name ≡ false = bytes_eq_back w.name v.name ∙ ap (λ n. bytes_eq n w.name) e ∙ h.0 in
    (λ i. (other i && same_type w.kind v.kind) || has_variable vs v) ∙ none_any v name vs same h.1

or_false : (b : Bool) → (b || false) ≡ b
or_false true = refl
or_false false = refl

pub has_variable-by : (vs : List Variable) (v : Variable) → AreVariablesSorted vs → has_variable vs v ≡ same_kind v.kind (type_of v.name vs)
unfolding IsStrictlySortedBy
has_variable-by [] v sorted = refl
has_variable-by (w ∷ vs) v sorted =
    elim (bytes_eq w.name v.name) as (λ b. bytes_eq w.name v.name ≡ b
    → ((b && same_type w.kind v.kind) || has_variable vs v) ≡ same_kind v.kind (option_map (λ (x : Variable). x.kind) (cond b (Some w) (find (λ (x : Variable). bytes_eq x.name v.name) vs)))) [
      | true ↦ λ same. ap (λ r. same_type w.kind v.kind || r) (none_any v w.name vs same (others_differ w.name vs sorted.0)) ∙ or_false (same_type w.kind v.kind)
      | false ↦ λ differs. has_variable-by vs v sorted.1
    ] refl

-- ---- lists with the same names

pub find-map : {X Y : Type 0} (p : Y → Bool) (g : X → Y) (xs : List X) → find p (map g xs) ≡ option_map g (find (λ x. p (g x)) xs)
find-map p g [] = refl
find-map p g (x ∷ xs) =
    elim (p (g x)) as (λ b. cond b (Some (g x)) (find p (map g xs)) ≡ option_map g (cond b (Some x) (find (λ x. p (g x)) xs))) [
      | true ↦ refl
      | false ↦ find-map p g xs
    ]

pub map-names : {X : Type 0} (f : X → List ℕ) (g : X → Variable) → ((x : X) → (g x).name ≡ f x) → (xs : List X) → map name_of (map g xs) ≡ map f xs
map-names f g same [] = refl
map-names f g same (x ∷ xs) = λ i. same x i ∷ map-names f g same xs i

-- ---- those that pass a test

less_filter : (name : List ℕ) (p : Variable → Bool) (vs : List Variable) → Each (λ y. slice_cmp nat_cmp name y ≡ Less) (map name_of vs)
    → Each (λ y. slice_cmp nat_cmp name y ≡ Less) (map name_of (filter p vs))
less_filter name p [] h = tt
less_filter name p (v ∷ vs) h =
    elim (p v) as (λ b. Each (λ y. slice_cmp nat_cmp name y ≡ Less) (map name_of (cond b (v ∷ filter p vs) (filter p vs)))) [
      | true ↦ (h.0, less_filter name p vs h.1)
      | false ↦ less_filter name p vs h.1
    ]

pub sorted_filter : (p : Variable → Bool) (vs : List Variable) → AreVariablesSorted vs → AreVariablesSorted (filter p vs)
unfolding IsStrictlySortedBy
sorted_filter p [] h = h
sorted_filter p (v ∷ vs) h =
    elim (p v) as (λ b. IsStrictlySortedBy (slice_cmp nat_cmp) (map name_of (cond b (v ∷ filter p vs) (filter p vs)))) [
      | true ↦ (less_filter v.name p vs h.0, sorted_filter p vs h.1)
      | false ↦ sorted_filter p vs h.1
    ]

pub sorted_nothing : AreVariablesSorted []
unfolding IsStrictlySortedBy
sorted_nothing = tt
