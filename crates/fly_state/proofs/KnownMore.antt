-- A value that is taken stays the same where more is known.
use Rattle.std.proofs.Common.{◌≡◌, ℕ, zero, suc, ◌+◌, ◌≤◌, List, [], ◌∷◌, filter, Option, Some, None, Ok, refl, sym, ◌∙◌, ap, arith}
use Rattle.fly_types.specs.declared.text.Text.{Text}
use Rattle.fly_types.specs.declared.kinds.LiteralType.{LiteralType, out-LiteralType}
use Rattle.fly_types.specs.declared.kinds.LiteralType.TheOpen.{LiteralType-F}
use Rattle.fly_types.specs.declared.literals.Literal.{Literal}
use Rattle.fly_types.specs.declared.literals.Literal.TheVariants as literal
use Rattle.fly_types.specs.declared.literals.LiteralMap.{LiteralMap}
use Rattle.fly_types.specs.declared.variable.Variable.{Variable}
use Rattle.fly_types.specs.Layer.{TypeLayer}
use Rattle.fly_types.specs.Levels.{type_levels}
use Rattle.fly_cast.specs.Castable.{sole_element}
use Rattle.fly_cast.specs.Conversion.{result_map, result_ahead_of, each_result, entry_result}
use Rattle.fly_cast.proofs.Levels.{layer_levels, type_levels-out, type_levels-positive, sole_element-levels}
use Rattle.fly_cast.proofs.Lists.{result_ahead_of-ok}
use Rattle.fly_cast.proofs.Targets.{map-ok}
use Rattle.fly_docs.specs.declared.binding.Binding.{Binding}
use Rattle.fly_docs.specs.declared.binding.Bound.{Bound, out-Bound}
use Rattle.fly_docs.specs.declared.binding.Bound.TheOpen.{Bound-F}
use Rattle.fly_docs.specs.Layer.{BoundLayer}
use Rattle.fly_docs.specs.Bindings.{Promised, source_node, binding_of}
use Rattle.fly_docs.specs.Fitting.{bound_fits}
use Rattle.fly_docs.specs.NodeInterfaces.{Source, of_type, of_anything, no_node, no_variable}
use Rattle.fly_docs.specs.SlotInputs.{Known, Taken, literal_named, known_literal, promise_value, variant_value, bound_form_value, bound_value, variable_value, values_of}
use Rattle.fly_state.proofs.BindingValues.{bound_value-step}
use Rattle.fly_state.proofs.FinalLemmas.{option_and_then-there}
use Rattle.fly_state.proofs.TakenLemmas.{variable-bound, variable-unbound}

-- each answer of the one is one of the other
abbrev pub Extends : {X : Type 0} → Taken X → Taken X → Type 0
Extends {X} r s = (x : X) → r ≡ Ok x → s ≡ Ok x

pub extends-map : {X Y : Type 0} (g : X → Y) (r s : Taken X) → Extends r s → Extends (result_map g r) (result_map g s)
extends-map g r s more y e =
    let parts = map-ok g r y e in
    ap (result_map g) (more parts.0 parts.1) ∙ ap Ok (sym parts.2)

pub extends-each : {X Y : Type 0} (f g : X → Taken Y) (xs : List X) → ((x : X) → Extends (f x) (g x))
    → Extends (each_result f xs) (each_result g xs)
extends-each f g [] more ys e = e
extends-each f g (x ∷ xs) more ys e =
    let parts = result_ahead_of-ok (each_result f xs) (f x) ys e in
    ap (result_ahead_of (each_result g xs)) (more x parts.0 parts.2)
    ∙ ap (λ r. result_ahead_of r (Ok parts.0)) (extends-each f g xs more parts.1 parts.3)
    ∙ ap Ok (sym parts.4)

module _ (source : Promised → Source) (known more : Known) (grows : (id : Text) (m : LiteralMap) → known id ≡ Some m →
    more id ≡ Some m) where
  literal-stays : (promise : Promised) (l : Literal) → known_literal known promise ≡ Some l
      → known_literal more promise ≡ Some l
  literal-stays promise l e =
      let there = option_and_then-there (literal_named promise.1) (known promise.0) l e in
      rw (grows promise.0 there.0 there.1) there.2

  promise-extends : (t : LiteralType) (promise : Promised) (s : Source) (o : Option Literal)
      → known_literal known promise ≡ o
      → Extends (promise_value t s o) (promise_value t s (known_literal more promise))
  promise-extends t promise (of_type u) (Some k) is l e = ap (promise_value t (of_type u))
      (literal-stays promise k is) ∙ e
  promise-extends t promise (of_type u) None is l e = cc
  promise-extends t promise of_anything o is l e = cc
  promise-extends t promise no_node o is l e = cc
  promise-extends t promise no_variable o is l e = cc

  abbrev ExtendsBelow : ℕ → Type 0
  ExtendsBelow n = (x : Bound) (t : LiteralType) → type_levels t ≤ n
      → Extends (bound_value source known x t) (bound_value source more x t)

  variant-extends : (value other : LiteralType → Taken Literal) (o : Option LiteralType)
      → ((t : LiteralType) → o ≡ Some t → Extends (value t) (other t))
      → Extends (variant_value value o) (variant_value other o)
  variant-extends value other (Some t) each = extends-map (λ l. literal.Union l t) (value t) (other t) (each t refl)
  variant-extends value other None each = λ l e. e

  union-extends : (n : ℕ) (x : Bound) (ts : List LiteralType) → ExtendsBelow n
      → layer_levels (LiteralType-F.Union ts) ≤ n + 1
      → Extends (variant_value (bound_value source known x) (sole_element (filter (bound_fits source x) ts)))
      (variant_value (bound_value source more x) (sole_element (filter (bound_fits source x) ts)))
  union-extends n x ts before le =
      variant-extends (bound_value source known x) (bound_value source more x)
      (sole_element (filter (bound_fits source x) ts)) (λ t is.
      before x t (omega (arith, le, sole_element-levels (bound_fits source x) ts t is)))

  form-extends : (n : ℕ) (x : Bound) (t : LiteralType) (p : BoundLayer) (q : TypeLayer) → ExtendsBelow n
      → layer_levels q ≤ n + 1
      → Extends (bound_form_value source known (bound_value source known) x t p q)
      (bound_form_value source more (bound_value source more) x t p q)
  form-extends n x t (Bound-F.Promise node var) q before le =
      let promise : Promised = (source_node node, var) in
      promise-extends t promise (source promise) (known_literal known promise) refl
  form-extends n x t (Bound-F.Scalar l) q before le = λ k e. e
  form-extends n x t (Bound-F.Collection es) (LiteralType-F.Collection y) before le =
      extends-map literal.Collection (each_result (λ v. bound_value source known v y) es)
      (each_result (λ v. bound_value source more v y) es)
      (extends-each (λ v. bound_value source known v y) (λ v. bound_value source more v y) es
      (λ v. before v y (omega arith)))
  form-extends n x t (Bound-F.Map es) (LiteralType-F.Map y) before le =
      let now = entry_result (λ v. bound_value source known v y) in
      let then = entry_result (λ v. bound_value source more v y) in
      extends-map literal.Map (each_result now es) (each_result then es) (extends-each now then es (λ entry.
      extends-map (λ l. (entry.0, l)) (bound_value source known entry.1 y) (bound_value source more entry.1 y)
      (before entry.1 y (omega arith))))
  form-extends n x t (Bound-F.Collection es) (LiteralType-F.Union ts) before le = union-extends n x ts before le
  form-extends n x t (Bound-F.Map es) (LiteralType-F.Union ts) before le = union-extends n x ts before le
  form-extends n x t (Bound-F.Collection es) q before le = λ l e. e
  form-extends n x t (Bound-F.Map es) q before le = λ l e. e

  extends-below : (n : ℕ) → ExtendsBelow n
  extends-below zero x t le l e = absurd (omega (arith, le, type_levels-positive t))
  extends-below (suc n) x t le l e =
      bound_value-step source more x t
      ∙ form-extends n x t (out-Bound x) (out-LiteralType t) (extends-below n) (omega (arith, le, type_levels-out t))
      l
      (sym (bound_value-step source known x t) ∙ e)

  value-extends : (x : Bound) (t : LiteralType) → Extends (bound_value source known x t) (bound_value source more x t)
  value-extends x t = extends-below (type_levels t) x t (omega arith)

  variable-extends : (bindings : List Binding) (v : Variable) (o : Option Binding) → binding_of v.name bindings ≡ o
      → Extends (variable_value (bound_value source known) bindings v)
      (variable_value (bound_value source more) bindings v)
  variable-extends bindings v None bound l e = let none = variable-unbound (bound_value source known) bindings v
      bound in cc
  variable-extends bindings v (Some x) bound l e =
      variable-bound (bound_value source more) bindings v x bound
      ∙ extends-map (λ k. (v.name, k)) (bound_value source known x.bound v.kind)
      (bound_value source more x.bound v.kind)
      (value-extends x.bound v.kind) l (sym (variable-bound (bound_value source known) bindings v x bound) ∙ e)

  -- the values of variables stay
  pub values-extend : (bindings : List Binding) (variables : List Variable)
      → Extends (values_of (bound_value source known) variables bindings)
      (values_of (bound_value source more) variables bindings)
  values-extend bindings variables =
      let now = variable_value (bound_value source known) bindings in
      let then = variable_value (bound_value source more) bindings in
      extends-map (λ entries. record { entries = entries }) (each_result now variables) (each_result then variables)
      (extends-each now then variables (λ v. variable-extends bindings v (binding_of v.name bindings) refl))
