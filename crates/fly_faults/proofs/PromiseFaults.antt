-- Bundles of promises that fit or do not, and of templates, and their faults, computed on the definitions.
use Rattle.std.proofs.Common.{◌≡◌, ◌≤◌, ℕ, zero, suc, Bool, true, false, ◌||◌, List, [], ◌∷◌, ◌++◌, Contains, Option, Some, codes, refl, sym, ap, ◌∙◌, subst, arith}
use Rattle.std.proofs.lemmas.Bool.{cond-false}
use Rattle.fly_types.specs.declared.text.Text.{Text}
use Rattle.fly_types.specs.declared.kinds.Simple.{Simple}
use Rattle.fly_types.specs.declared.kinds.LiteralType.{LiteralType, out-LiteralType}
use Rattle.fly_types.specs.declared.kinds.LiteralType.TheFolds.{fold_out-LiteralType, map-LiteralType}
use Rattle.fly_types.specs.declared.kinds.LiteralType.TheVariants as type
use Rattle.fly_types.specs.declared.kinds.LiteralType.TheViews as type_view
use Rattle.fly_types.specs.Layer.{TypeLayer}
use Rattle.fly_types.specs.Levels.{type_levels}
use Rattle.fly_types.specs.Same.{same_type}
use Rattle.fly_types.proofs.SameLemmas.{same_type-Decides}
use Rattle.fly_cast.specs.Castable.{is_castable_by_form, is_castable}
use Rattle.fly_cast.proofs.Casts.{is_castable-step}
use Rattle.fly_cast.proofs.Levels.{type_levels-positive}
use Rattle.fly_docs.specs.declared.binding.Binding.{Binding}
use Rattle.fly_docs.specs.declared.binding.Bound.{Bound}
use Rattle.fly_docs.specs.declared.binding.Bound.TheFolds.{fold_out-Bound, map-Bound}
use Rattle.fly_docs.specs.declared.binding.Bound.TheVariants as bound
use Rattle.fly_docs.specs.declared.binding.Bound.TheViews as bound_view
use Rattle.fly_docs.specs.Bindings.{Promised, source_node, promises_of, promises_by}
use Rattle.fly_docs.specs.Fitting.{source_fits, bound_form_fits, bound_fits_within, bound_fits}
use Rattle.fly_docs.specs.NodeInterfaces.{Source, of_type, Wanted, value}
use Rattle.fly_graph.proofs.Members.{Contains-nil}
use Rattle.fly_faults.specs.declared.fault.Code.TheVariants as code
use Rattle.fly_faults.specs.Places.{variable_place, fault_with}
use Rattle.fly_faults.specs.TypeText.{type_text_by, text_of_type, simple_text}
use Rattle.fly_faults.specs.BindingFaults.{Site, is_no_node, is_no_variable, fits_wanted, has_source, text_for_enum, bound_text, misfit, misfit_with, bindings_faults}
use Rattle.fly_faults.proofs.Lists.{in_one}
use Rattle.fly_faults.proofs.BoundFits.{IsThere}
use Rattle.fly_faults.proofs.BindingLemmas.{IsNew, PromisesThere, binding_is_value, binding_nothing, has_none}
use Rattle.fly_faults.proofs.Rows.{integer, promise, text}

-- ---- types that cast or do not

differ : (a b : LiteralType) (p q : TypeLayer) → out-LiteralType a ≡ p → out-LiteralType b ≡ q → (p ≡ q → ⊥)
    → same_type a b ≡ false
differ a b p q ea eb apart = at (same_type a b) refl
  where
    at : (s : Bool) → same_type a b ≡ s → s ≡ false
    at true same = absurd (apart (sym ea ∙ ap out-LiteralType ((same_type-Decides a b).0 same) ∙ eb))
    at false same = refl

pub by_form : (a b : LiteralType) (p q : TypeLayer) → out-LiteralType a ≡ p → out-LiteralType b ≡ q → (p ≡ q → ⊥)
    → is_castable a b ≡ is_castable_by_form is_castable a b p q
by_form a b p q ea eb apart =
    is_castable-step a b ∙ (λ i. differ a b p q ea eb apart i || is_castable_by_form is_castable a b (ea i) (eb i))

red : LiteralType
red = type.Enum (codes "red" ∷ [])

pub integer_to_text : is_castable integer text ≡ false
integer_to_text = by_form integer text _ _ (type_view.outs-Simple _) (type_view.outs-Simple _) (λ e. cc)

-- ---- the texts of types

pub text_by_layer : (t : LiteralType) (layer : TypeLayer) → out-LiteralType t ≡ layer
    → text_of_type t ≡ type_text_by (map-LiteralType LiteralType Text text_of_type layer)
text_by_layer t layer is =
    fold_out-LiteralType Text type_text_by t
    ∙ ap (λ l. type_text_by (map-LiteralType LiteralType Text text_of_type l)) is

pub text_of_simple : (s : Simple) → text_of_type (type.Simple s) ≡ simple_text s
text_of_simple s = text_by_layer (type.Simple s) _ (type_view.outs-Simple s)

-- ---- a promise of a known type

pub promised : (source output : Text) → promises_of (bound.Promise source output) ≡ (source_node source, output) ∷ []
promised source output =
    fold_out-Bound (List Promised) promises_by (bound.Promise source output)
    ∙ ap (λ layer. promises_by (map-Bound Bound (List Promised) promises_of layer))
    (bound_view.outs-Promise source output)

promise_fits : (sources : Promised → Source) (source output : Text) (s t : LiteralType)
    → sources (source_node source, output) ≡ of_type s
    → bound_fits sources (bound.Promise source output) t ≡ is_castable s t
unfolding bound_fits bound_fits_within
promise_fits sources source output s t from = at (type_levels t) (type_levels-positive t)
  where
    at : (n : ℕ) → 1 ≤ n → bound_fits_within sources n (bound.Promise source output) t ≡ is_castable s t
    at zero some = absurd (omega (arith, some))
    at (suc n) some =
        ap (λ layer. bound_form_fits sources (bound_fits_within sources n) (bound.Promise source output) t layer
        (out-LiteralType t)) (bound_view.outs-Promise source output)
        ∙ ap (source_fits t) from

module _ (site : Site) (wanted : Text → Option Wanted) (is : site.wanted ≡ Some wanted) (name source output : Text)
    (s t : LiteralType)
    (from : site.source (source_node source, output) ≡ of_type s) (wants : wanted name ≡ Some (value t)) where
  abbrev bindings : List Binding
  bindings = promise name source output ∷ []

  there : PromisesThere site (bound.Promise source output)
  there p has =
      subst (λ (q : Promised). IsThere (site.source q))
      (in_one (source_node source, output) p (subst (λ ps. Contains ps p) (promised source output) has))
      (subst IsThere (sym from) (refl, refl))

  no_earlier : IsNew site [] (promise name source output)
  no_earlier y has = absurd (Contains-nil y has)

  pub fitting_promise : is_castable s t ≡ true → bindings_faults site bindings ≡ []
  fitting_promise casts =
      ap (λ fs. fs ++ []) (binding_nothing site wanted is [] (promise name source output) no_earlier
      (value t, wants, promise_fits site.source source output s t from ∙ casts, there))

  misfit_is : misfit site (promise name source output) (value t)
      ≡ fault_with code.MismatchedTypes (variable_place site.place name)
      (text_of_type s ++ codes " to " ++ text_of_type t)
  misfit_is =
      ap (λ layer. misfit_with site (promise name source output) (value t) (text_for_enum layer (out-LiteralType t)))
      (bound_view.outs-Promise source output)
      ∙ ap (λ (words : Text). fault_with code.MismatchedTypes (variable_place site.place name)
      (words ++ codes " to " ++ text_of_type t))
      (ap (bound_text site) (bound_view.outs-Promise source output) ∙ rw from refl)

  pub misfitting_promise : is_castable s t ≡ false
      → bindings_faults site bindings
      ≡ fault_with code.MismatchedTypes (variable_place site.place name)
      (text_of_type s ++ codes " to " ++ text_of_type t) ∷ []
  misfitting_promise fails =
      let x = promise name source output in
      let none = has_none site x.bound there in
      let fits : fits_wanted site x.bound (value t) ≡ false = promise_fits site.source source output s t from
      ∙ fails in
      ap (λ fs. fs ++ []) (binding_is_value site wanted is [] x (value t) no_earlier wants there
      ∙ cond-false
      (fits_wanted site x.bound
      (value t) || has_source is_no_node site x.bound || has_source is_no_variable site x.bound) [] _
      (λ i. fits i || none.0 i || none.1 i) ∙ ap (λ fault. fault ∷ []) misfit_is)
