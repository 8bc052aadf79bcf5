-- What is taken by bindings that fit is of its declared type.
use Rattle.std.proofs.Common.{◌≡◌, ℕ, zero, suc, ◌+◌, ◌≤◌, Bool, true, List, [], ◌∷◌, filter, Contains, All, Option, Some, None, Ok, Err, refl, sym, ◌∙◌, ap, subst, arith}
use Rattle.std.specs.List.{list_all, AllZip, AllByRecursion as Each}
use Rattle.std.proofs.lemmas.Bool.{false≢true}
use Rattle.std.proofs.lemmas.List.Elements.{recursion_from_All, All-from_recursion}
use Rattle.fly_types.specs.declared.text.Text.{Text}
use Rattle.fly_types.specs.declared.kinds.LiteralType.{LiteralType, out-LiteralType}
use Rattle.fly_types.specs.declared.kinds.LiteralType.TheOpen.{LiteralType-F}
use Rattle.fly_types.specs.declared.literals.Literal.{Literal, out-Literal}
use Rattle.fly_types.specs.declared.literals.Literal.TheOpen.{Literal-F}
use Rattle.fly_types.specs.declared.literals.Literal.TheVariants as literal
use Rattle.fly_types.specs.declared.literals.Literal.TheViews as view
use Rattle.fly_types.specs.declared.literals.LiteralMap.{LiteralMap}
use Rattle.fly_types.specs.declared.variable.Variable.{Variable}
use Rattle.fly_types.specs.Layer.{TypeLayer}
use Rattle.fly_types.specs.Levels.{type_levels}
use Rattle.fly_types.specs.Membership.{IsMember, IsCollectionOf, IsMapOf, IsUnionWhere, IsVariant}
use Rattle.fly_types.proofs.Member.{IsMemberAt, IsMember-out}
use Rattle.fly_cast.specs.Castable.{sole_element}
use Rattle.fly_cast.specs.Conversion.{Conversion, each_result, entry_result, conversion_of}
use Rattle.fly_cast.specs.Fitting.{fitting_of}
use Rattle.fly_cast.proofs.Fits.{fitted-member}
use Rattle.fly_cast.proofs.Levels.{layer_levels, type_levels-out, type_levels-positive, sole_element-levels}
use Rattle.fly_cast.proofs.Lists.{sole_element-has, sole_element-passes, some_each, result_ahead_of-ok}
use Rattle.fly_cast.proofs.Targets.{map-ok, each-ok, conversion_of-member}
use Rattle.fly_policy.specs.Outcome.{Gives, AreOutputs}
use Rattle.fly_docs.specs.declared.binding.Binding.{Binding}
use Rattle.fly_docs.specs.declared.binding.Bound.{Bound, out-Bound}
use Rattle.fly_docs.specs.declared.binding.Bound.TheOpen.{Bound-F}
use Rattle.fly_docs.specs.Layer.{BoundLayer}
use Rattle.fly_docs.specs.Bindings.{Promised, source_node, binding_of}
use Rattle.fly_docs.specs.Fitting.{source_fits, bound_form_fits, bound_fits}
use Rattle.fly_docs.specs.NodeInterfaces.{Source, of_type, of_anything, no_node, no_variable}
use Rattle.fly_docs.specs.SlotInputs.{Known, known_literal, or_unknown, of_conversion, promise_value, variant_value, bound_form_value, bound_value, variable_value, values_of}
use Rattle.fly_state.specs.Values.{FitVariables}
use Rattle.fly_state.proofs.BindingFits.{bound_fits-step}
use Rattle.fly_state.proofs.BindingValues.{bound_value-step}
use Rattle.fly_state.proofs.Lists.{first_in, later_in, in_one}
use Rattle.fly_state.proofs.TakenLemmas.{all-test, variable-bound, variable-unbound}

taken-conversion : (c : Conversion) (l : Literal) → of_conversion c ≡ Ok l → c ≡ Ok l
taken-conversion (Ok k) l e = let same : k ≡ l = cc in ap Ok same
taken-conversion (Err text) l e = cc

taken-option : {X : Type 0} (o : Option X) (x : X) → or_unknown o ≡ Ok x → o ≡ Some x
taken-option (Some y) x e = let same : y ≡ x = cc in ap Some same
taken-option None x e = cc

each-test : {X : Type 0} (p : X → Bool) (xs : List X) → list_all p xs ≡ true → Each (λ x. p x ≡ true) xs
each-test p xs e = recursion_from_All (λ x. p x ≡ true) xs (all-test p xs e)

back : (t : LiteralType) (q : TypeLayer) (l : Literal) → IsMember t ≡ IsMemberAt q → IsMemberAt q l → IsMember t l
back t q l e h = subst (λ (P : Literal → Type 0). P l) (sym e) h

module _ (source : Promised → Source) (known : Known)
    (typed : (promise : Promised) (t : LiteralType) (l : Literal) → source promise ≡ of_type t → known_literal known
    promise ≡ Some l → IsMember t l) where
  typed-promise : (t : LiteralType) (promise : Promised) (s : Source) (o : Option Literal) (l : Literal)
      → source promise ≡ s
      → known_literal known promise ≡ o → source_fits t s ≡ true → promise_value t s o ≡ Ok l → IsMember t l
  typed-promise t promise (of_type u) (Some k) l is there fits e =
      conversion_of-member k l u t (typed promise u k is there) fits (taken-conversion (conversion_of k u t) l e)
  typed-promise t promise (of_type u) None l is there fits e = cc
  typed-promise t promise of_anything o l is there fits e = cc
  typed-promise t promise no_node o l is there fits e = cc
  typed-promise t promise no_variable o l is there fits e = cc

  abbrev TypedBelow : ℕ → Type 0
  TypedBelow n =
      (x : Bound) (t : LiteralType) (l : Literal) → type_levels t ≤ n → bound_fits source x t ≡ true
      → bound_value source known x t ≡ Ok l → IsMember t l

  typed-variant : (n : ℕ) (x : Bound) (ts : List LiteralType) (o : Option LiteralType) (l : Literal) → TypedBelow n
      → layer_levels (LiteralType-F.Union ts) ≤ n + 1 → sole_element (filter (bound_fits source x) ts) ≡ o
      → variant_value (bound_value source known x) o ≡ Ok l
      → IsUnionWhere (λ variant value. IsVariant ts variant value) (out-Literal l)
  typed-variant n x ts None l before le which e = cc
  typed-variant n x ts (Some t) l before le which e =
      let parts = map-ok (λ k. literal.Union k t) (bound_value source known x t) l e in
      let low : type_levels t ≤ n = omega (arith, le, sole_element-levels (bound_fits source x) ts t which) in
      let of : IsMember t parts.0 = before x t parts.0 low (sole_element-passes (bound_fits source x) ts t which)
      parts.1 in
      let there : IsVariant ts t parts.0 =
      sole_element-has (λ s. (t ≡ s) × IsMember s parts.0 → IsVariant ts t parts.0) (bound_fits source x) ts t which
      (some_each (λ s. (t ≡ s) × IsMember s parts.0) ts) (refl, of) in
      let out : out-Literal l ≡ Literal-F.Union parts.0 t = ap out-Literal parts.2 ∙ view.outs-Union _ _ in
      subst (λ m. IsUnionWhere (λ variant value. IsVariant ts variant value) m) (sym out) there

  typed-form : (n : ℕ) (x : Bound) (t : LiteralType) (l : Literal) (p : BoundLayer) (q : TypeLayer) → TypedBelow n
      → IsMember t ≡ IsMemberAt q
      → layer_levels q ≤ n + 1 → bound_form_fits source (bound_fits source) x t p q ≡ true
      → bound_form_value source known (bound_value source known) x t p q ≡ Ok l → IsMember t l
  typed-form n x t l (Bound-F.Promise node var) q before is le fits e =
      let promise : Promised = (source_node node, var) in
      typed-promise t promise (source promise) (known_literal known promise) l refl refl fits e
  typed-form n x t l (Bound-F.Scalar k) q before is le fits e = fitted-member k l t
      (taken-option (fitting_of k t) l e)
  typed-form n x t l (Bound-F.Collection es) (LiteralType-F.Collection y) before is le fits e =
      let parts = map-ok literal.Collection (each_result (λ v. bound_value source known v y) es) l e in
      let all : All (IsMember y) parts.0 = All-from_recursion (IsMember y) parts.0
      (each-ok (λ v. bound_fits source v y ≡ true) (IsMember y) (λ v. bound_value source known v y)
      (λ v k fit is_k. before v y k (omega arith) fit is_k) es parts.0
      (each-test (λ v. bound_fits source v y) es fits) parts.1) in
      let out : out-Literal l ≡ Literal-F.Collection parts.0 = ap out-Literal parts.2 ∙ view.outs-Collection _ in
      back t (LiteralType-F.Collection y) l is (subst (λ m. IsCollectionOf (IsMember y) m) (sym out) all)
  typed-form n x t l (Bound-F.Map es) (LiteralType-F.Map y) before is le fits e =
      let value = entry_result (λ v. bound_value source known v y) in
      let parts = map-ok literal.Map (each_result value es) l e in
      let step : (z : Text × Bound) (k : Text × Literal) → bound_fits source z.1 y ≡ true → value z ≡ Ok k
      → IsMember y k.1 =
      λ z k fit is_k. let one = map-ok (λ r. (z.0, r)) (bound_value source known z.1 y) k is_k in
      subst (λ (u : Text × Literal). IsMember y u.1) (sym one.2) (before z.1 y one.0 (omega arith) fit one.1) in
      let all : All (λ u. IsMember y u.1) parts.0 = All-from_recursion (λ u. IsMember y u.1) parts.0
      (each-ok (λ u. bound_fits source u.1 y ≡ true) (λ u. IsMember y u.1) value step es parts.0
      (each-test (λ (u : Text × Bound). bound_fits source u.1 y) es fits) parts.1) in
      let out : out-Literal l ≡ Literal-F.Map parts.0 = ap out-Literal parts.2 ∙ view.outs-Map _ in
      back t (LiteralType-F.Map y) l is (subst (λ m. IsMapOf (IsMember y) m) (sym out) all)
  typed-form n x t l (Bound-F.Collection es) (LiteralType-F.Union ts) before is le fits e =
      back t (LiteralType-F.Union ts) l is (typed-variant n x ts _ l before le refl e)
  typed-form n x t l (Bound-F.Map es) (LiteralType-F.Union ts) before is le fits e =
      back t (LiteralType-F.Union ts) l is (typed-variant n x ts _ l before le refl e)
  typed-form n x t l (Bound-F.Collection es) q before is le fits e = absurd (false≢true fits)
  typed-form n x t l (Bound-F.Map es) q before is le fits e = absurd (false≢true fits)

  typed-below : (n : ℕ) → TypedBelow n
  typed-below zero x t l le fits e = absurd (omega (arith, le, type_levels-positive t))
  typed-below (suc n) x t l le fits e =
      typed-form n x t l (out-Bound x) (out-LiteralType t) (typed-below n) (IsMember-out t)
      (omega (arith, le, type_levels-out t))
      (sym (bound_fits-step source x t) ∙ fits) (sym (bound_value-step source known x t) ∙ e)

  -- what is bound is of the type that it fits
  pub typed-value : (x : Bound) (t : LiteralType) (l : Literal) → bound_fits source x t ≡ true
      → bound_value source known x t ≡ Ok l → IsMember t l
  typed-value x t l fits e = typed-below (type_levels t) x t l (omega arith) fits e

  typed-variable : (bindings : List Binding) (v : Variable) (o : Option Binding) (entry : Text × Literal)
      → FitVariables source bindings (v ∷ [])
      → binding_of v.name bindings ≡ o → variable_value (bound_value source known) bindings v ≡ Ok entry
      → Gives v entry
  typed-variable bindings v None entry fit bound e =
      let none = variable-unbound (bound_value source known) bindings v bound in cc
  typed-variable bindings v (Some x) entry fit bound e =
      let parts = map-ok (λ l. (v.name, l)) (bound_value source known x.bound v.kind) entry
      (sym (variable-bound (bound_value source known) bindings v x bound) ∙ e) in (
        ap (λ (u : Text × Literal). u.0) parts.2,
        subst (λ (u : Text × Literal). IsMember v.kind u.1) (sym parts.2)
            (typed-value x.bound v.kind parts.0 (fit v (first_in v []) x bound) parts.1),
      )

  typed-each : (bindings : List Binding) (variables : List Variable) (entries : List (Text × Literal))
      → FitVariables source bindings variables
      → each_result (variable_value (bound_value source known) bindings) variables ≡ Ok entries
      → AllZip Gives variables entries
  typed-each bindings [] entries fit e = let none : [] ≡ entries = cc in subst (AllZip Gives []) none tt
  typed-each bindings (v ∷ variables) entries fit e =
      let value = variable_value (bound_value source known) bindings in
      let parts = result_ahead_of-ok (each_result value variables) (value v) entries e in
      subst (AllZip Gives (v ∷ variables)) (sym parts.4) (
        typed-variable bindings v (binding_of v.name bindings) parts.0
            (λ u has. fit u (subst (Contains (v ∷ variables)) (in_one v u has) (first_in v variables))) refl parts.2,
        typed-each bindings variables parts.1 (λ u has. fit u (later_in v variables u has)) parts.3,
      )

  -- the values of variables are of their types
  pub values-typed : (bindings : List Binding) (variables : List Variable) (m : LiteralMap)
      → FitVariables source bindings variables
      → values_of (bound_value source known) variables bindings ≡ Ok m → AreOutputs variables m
  values-typed bindings variables m fit e =
      let parts = map-ok (λ entries. record { entries = entries })
      (each_result (variable_value (bound_value source known) bindings) variables) m e in
      subst (AreOutputs variables) (sym parts.2) (typed-each bindings variables parts.0 fit parts.1)
