-- The inputs of an array: a test of each variable's bindings is one of each binding's variable.
use Rattle.std.proofs.Common.{◌≡◌, ℕ, Bool, true, false, cond, ◌&&◌, List, [], ◌∷◌, filter, Some, is_some, refl, sym, ◌∙◌, ap, find}
use Rattle.std.specs.Prelude.{not}
use Rattle.std.specs.Option.{option_map}
use Rattle.std.specs.List.{list_all, list_any, AllByRecursion as Each}
use Rattle.std.specs.List.Sorted.{IsStrictlySortedBy}
use Rattle.std.specs.Str.{bytes_eq}
use Rattle.std.proofs.lemmas.Slice.Eq.{bytes_eq-Decides}
use Rattle.fly_links.proofs.RepeatLemmas.{bytes_eq_back}
use Rattle.fly_types.specs.declared.kinds.LiteralType.{LiteralType}
use Rattle.fly_types.specs.declared.variable.Variable.{Variable}
use Rattle.fly_types.specs.Lookup.{AreVariablesSorted}
use Rattle.fly_docs.specs.declared.binding.Binding.{Binding}
use Rattle.fly_docs.specs.declared.binding.Bound.{Bound}
use Rattle.fly_docs.specs.Bindings.{binding_of}
use Rattle.fly_docs.specs.Fitting.{is_mapped, array_input_fits}
use Rattle.fly_faults.specs.declared.fault.Code.TheVariants as code
use Rattle.fly_compile.specs.Arrays.{holds_of, holds_of_variable, is_unmapped}
use Rattle.fly_faults.specs.BindingFaults.{Site}
use Rattle.fly_faults.specs.NodeFaults.{bindings_of, is_bound_and_fits, is_mapped_by, unmapped_faults}
use Rattle.fly_faults.specs.Places.{fault_at}
use Rattle.fly_faults.proofs.Loops.{all-and, not-any}
use Rattle.fly_compile.proofs.SortedNames.{others_differ}

and_true : (b : Bool) → (b && true) ≡ b
and_true true = refl
and_true false = refl

all_true : {X : Type 0} (xs : List X) → list_all (λ x. true) xs ≡ true
all_true [] = refl
all_true (x ∷ xs) = all_true xs

module _ (test : Bound → LiteralType → Bool) where
  none_named : (x : Binding) (name : List ℕ) (vs : List Variable) → name ≡ x.var → Each (λ (v : Variable). bytes_eq name v.name ≡ false) vs
      → list_all (λ (v : Variable). cond (bytes_eq x.var v.name) (test x.bound v.kind) true) vs ≡ true
  none_named x name [] same h = refl
  none_named x name (v ∷ vs) same h =
      (λ i. cond ((ap (λ n. bytes_eq n v.name) (sym same) ∙ h.0) i) (test x.bound v.kind) true
      && list_all (λ (v : Variable). cond (bytes_eq x.var v.name) (test x.bound v.kind) true) vs)
      ∙ none_named x name vs same h.1

  one : (x : Binding) (vs : List Variable) → AreVariablesSorted vs
      → list_all (λ (v : Variable). cond (bytes_eq x.var v.name) (test x.bound v.kind) true) vs ≡ holds_of_variable test vs x
  unfolding IsStrictlySortedBy
  one x [] sorted = refl
  one x (v ∷ vs) sorted =
      (λ i. cond (bytes_eq_back x.var v.name i) (test x.bound v.kind) true
      && list_all (λ (v : Variable). cond (bytes_eq x.var v.name) (test x.bound v.kind) true) vs)
      ∙ (elim (bytes_eq v.name x.var) as (λ b. bytes_eq v.name x.var ≡ b
      → (cond b (test x.bound v.kind) true && list_all (λ (v : Variable). cond (bytes_eq x.var v.name) (test x.bound v.kind) true) vs)
      ≡ holds_of test x.bound (option_map (λ (w : Variable). w.kind) (cond b (Some v) (find (λ (w : Variable). bytes_eq w.name x.var) vs)))) [
        | true ↦ λ same. ap (λ r. test x.bound v.kind && r)
            (none_named x v.name vs ((bytes_eq-Decides v.name x.var).0 same) (others_differ v.name vs sorted.0)) ∙ and_true (test x.bound v.kind)
        | false ↦ λ differs. one x vs sorted.1
      ]) refl

  kept : {X : Type 0} (p : X → Bool) (b : Bool) (x : X) (xs : List X) → list_all p (cond b (x ∷ xs) xs) ≡ (cond b (p x) true && list_all p xs)
  kept p true x xs = refl
  kept p false x xs = refl

  pub spread : (vs : List Variable) (bs : List Binding) → AreVariablesSorted vs
      → list_all (λ (v : Variable). list_all (λ (x : Binding). test x.bound v.kind) (filter (λ (x : Binding). bytes_eq x.var v.name) bs)) vs
      ≡ list_all (holds_of_variable test vs) bs
  spread vs [] sorted = all_true vs
  spread vs (x ∷ bs) sorted =
      (λ i. list_all (λ (v : Variable). kept (λ (y : Binding). test y.bound v.kind) (bytes_eq x.var v.name) x (filter (λ (y : Binding). bytes_eq y.var v.name) bs) i) vs)
      ∙ all-and (λ (v : Variable). cond (bytes_eq x.var v.name) (test x.bound v.kind) true)
      (λ (v : Variable). list_all (λ (y : Binding). test y.bound v.kind) (filter (λ (y : Binding). bytes_eq y.var v.name) bs)) vs
      ∙ (λ i. one x vs sorted i && spread vs bs sorted i)

-- ArrayNoMapped by the three tests
pub unmapped-by : (site : Site) (vs : List Variable) (bs : List Binding) (bound fits unmapped : Bool) → AreVariablesSorted vs
    → list_all (λ (v : Variable). is_some (binding_of v.name bs)) vs ≡ bound
    → list_all (holds_of_variable (array_input_fits site.source) vs) bs ≡ fits
    → list_all (holds_of_variable (is_unmapped site.source) vs) bs ≡ unmapped
    → unmapped_faults site vs bs ≡ cond ((bound && fits) && unmapped) (fault_at code.ArrayNoMapped site.place ∷ []) []
unmapped-by site vs bs bound fits unmapped sorted b f u =
    let first : list_all (is_bound_and_fits site bs) vs ≡ (bound && fits) =
    all-and (λ (v : Variable). is_some (binding_of v.name bs))
    (λ (v : Variable). list_all (λ (x : Binding). array_input_fits site.source x.bound v.kind) (bindings_of v bs)) vs
    ∙ (λ i. b i && (spread (array_input_fits site.source) vs bs sorted ∙ f) i) in
    let second : not (list_any (is_mapped_by site bs) vs) ≡ unmapped =
    not-any (is_mapped_by site bs) vs
    ∙ (λ i. list_all (λ (v : Variable). not-any (λ (x : Binding). is_mapped site.source x.bound v.kind) (bindings_of v bs) i) vs)
    ∙ spread (is_unmapped site.source) vs bs sorted ∙ u in
    λ i. cond (first i && second i) (fault_at code.ArrayNoMapped site.place ∷ []) []
