-- What is bound and fits promises only what is there.
use Rattle.std.proofs.Common.{◌≡◌, ℕ, zero, suc, Bool, true, false, List, map, Contains, is_some, filter, refl, sym, ap, ◌∙◌, subst, ⊎_elim}
use Rattle.std.proofs.lemmas.Bool.{or_cases}
use Rattle.fly_types.specs.declared.text.Text.{Text}
use Rattle.fly_types.specs.declared.kinds.LiteralType.{LiteralType, out-LiteralType}
use Rattle.fly_types.specs.declared.kinds.LiteralType.TheOpen.{LiteralType-F}
use Rattle.fly_types.specs.declared.kinds.LiteralType.TheVariants as type
use Rattle.fly_types.specs.Layer.{TypeLayer}
use Rattle.fly_types.specs.Levels.{type_levels}
use Rattle.fly_cast.specs.Castable.{sole_element}
use Rattle.fly_cast.proofs.Lists.{sole_element-passes}
use Rattle.fly_docs.specs.declared.binding.Bound.{Bound, out-Bound}
use Rattle.fly_docs.specs.declared.binding.Bound.TheOpen.{Bound-F}
use Rattle.fly_docs.specs.declared.binding.Bound.TheFolds.{fold_out-Bound, map-Bound}
use Rattle.fly_docs.specs.Layer.{BoundLayer}
use Rattle.fly_docs.specs.Bindings.{Promised, source_node, promises_of, promises_by}
use Rattle.fly_docs.specs.NodeInterfaces.{Source, of_type, of_anything, no_node, no_variable}
use Rattle.fly_docs.specs.Fitting.{source_fits, bound_form_fits, bound_fits_within, bound_fits, array_input_fits}
use Rattle.fly_docs.specs.Conditions.{source_primitive, bound_primitive_in, bound_primitive}
use Rattle.fly_graph.proofs.Members.{Contains-nil}
use Rattle.fly_faults.specs.BindingFaults.{is_no_node, is_no_variable, is_anything}
use Rattle.fly_faults.proofs.Lists.{all_at, in_one, of_flat_map, of_map, some_get}

-- the promise is of a node and a variable that are there
abbrev pub IsThere : Source → Type 0
IsThere s = (is_no_node s ≡ false) × (is_no_variable s ≡ false)

-- it is of a value of a known type
abbrev pub IsKnown : Source → Type 0
IsKnown s = IsThere s × (is_anything s ≡ false)

there_if_fits : (t : LiteralType) (s : Source) → source_fits t s ≡ true → IsThere s
there_if_fits t (of_type kind) e = (refl, refl)
there_if_fits t of_anything e = (refl, refl)
there_if_fits t no_node e = cc
there_if_fits t no_variable e = cc

known_if_primitive : (s : Source) → is_some (source_primitive s) ≡ true → IsKnown s
known_if_primitive (of_type kind) e = ((refl, refl), refl)
known_if_primitive of_anything e = cc
known_if_primitive no_node e = cc
known_if_primitive no_variable e = cc

abbrev layer_promises : BoundLayer → List Promised
layer_promises layer = promises_by (map-Bound Bound (List Promised) promises_of layer)

promises-layer : (x : Bound) (layer : BoundLayer) → out-Bound x ≡ layer → promises_of x ≡ layer_promises layer
promises-layer x layer e = fold_out-Bound (List Promised) promises_by x ∙ ap layer_promises e

-- all promises in what is bound are such
abbrev pub AllPromises : (Promised → Type 0) → Bound → Type 0
AllPromises Q x = (promise : Promised) → Contains (promises_of x) promise → Q promise

abbrev AllIn : (Promised → Type 0) → BoundLayer → Type 0
AllIn Q layer = (promise : Promised) → Contains (layer_promises layer) promise → Q promise

from_layer : (Q : Promised → Type 0) (x : Bound) (layer : BoundLayer) → out-Bound x ≡ layer → AllIn Q layer
    → AllPromises Q x
from_layer Q x layer is all promise has =
    all promise (subst (λ ps. Contains ps promise) (promises-layer x layer is) has)

module _ (source : Promised → Source) where
  abbrev There : Promised → Type 0
  There promise = IsThere (source promise)

  union_there : (fit : Bound → LiteralType → Bool) (x : Bound) (variants : List LiteralType)
      → ((u : LiteralType) → fit x u ≡ true → AllPromises There x) → is_some (sole_element (filter (fit x) variants))
      ≡ true → AllPromises There x
  union_there fit x variants before e =
      let one = some_get (sole_element (filter (fit x) variants)) e in
      before one.0 (sole_element-passes (fit x) variants one.0 one.1)

  form_there : (fit : Bound → LiteralType → Bool) (x : Bound) (t : LiteralType) (layer : BoundLayer)
      (type_layer : TypeLayer)
      → ((y : Bound) (u : LiteralType) → fit y u ≡ true → AllPromises There y) → out-Bound x ≡ layer
      → bound_form_fits source fit x t layer type_layer ≡ true → AllPromises There x
  form_there fit x t (Bound-F.Promise node var) type_layer before is e =
      from_layer There x (Bound-F.Promise node var) is
      (λ promise has. subst There (in_one (source_node node, var) promise has)
      (there_if_fits t (source (source_node node, var)) e))
  form_there fit x t (Bound-F.Scalar literal) type_layer before is e =
      from_layer There x (Bound-F.Scalar literal) is (λ promise has. absurd (Contains-nil promise has))
  form_there fit x t (Bound-F.Collection elements) (LiteralType-F.Collection element) before is e =
      from_layer There x (Bound-F.Collection elements) is
      (λ promise has.
      let part = of_flat_map (λ (ps : List Promised). ps) (map promises_of elements) promise has in
      let from = of_map promises_of elements part.0 part.1 in
      before from.0 element (all_at (λ y. fit y element) elements e from.0 from.1) promise
      (subst (λ ps. Contains ps promise) (sym from.2) part.2))
  form_there fit x t (Bound-F.Map entries) (LiteralType-F.Map value) before is e =
      from_layer There x (Bound-F.Map entries) is
      (λ promise has.
      let part = of_flat_map (λ (entry : Text × List Promised). entry.1)
      (map (λ (e : Text × Bound). (e.0, promises_of e.1)) entries) promise has in
      let from = of_map (λ (e : Text × Bound). (e.0, promises_of e.1)) entries part.0 part.1 in
      before from.0.1 value (all_at (λ (entry : Text × Bound). fit entry.1 value) entries e from.0 from.1) promise
      (subst (λ (p : Text × List Promised). Contains p.1 promise) (sym from.2) part.2))
  form_there fit x t (Bound-F.Collection elements) (LiteralType-F.Union variants) before is e =
      union_there fit x variants (before x) e
  form_there fit x t (Bound-F.Map entries) (LiteralType-F.Union variants) before is e =
      union_there fit x variants (before x) e
  form_there fit x t (Bound-F.Collection elements) _ before is e = cc
  form_there fit x t (Bound-F.Map entries) _ before is e = cc

  within_there : (n : ℕ) (x : Bound) (t : LiteralType) → bound_fits_within source n x t ≡ true → AllPromises There x
  unfolding bound_fits_within
  within_there zero x t e = cc
  within_there (suc n) x t e = form_there (bound_fits_within source n) x t (out-Bound x) (out-LiteralType t)
      (within_there n) refl e

  pub fits_there : (x : Bound) (t : LiteralType) → bound_fits source x t ≡ true → AllPromises There x
  unfolding bound_fits
  fits_there x t e = within_there (type_levels t) x t e

  pub array_fits_there : (x : Bound) (t : LiteralType) → array_input_fits source x t ≡ true → AllPromises There x
  array_fits_there x t e =
      ⊎_elim (fits_there x (type.Collection t)) (fits_there x t)
      (or_cases (bound_fits source x (type.Collection t)) (bound_fits source x t) e)

  primitive_in : (x : Bound) (layer : BoundLayer) → out-Bound x ≡ layer → is_some (bound_primitive_in source layer)
      ≡ true
      → AllPromises (λ promise. IsKnown (source promise)) x
  primitive_in x (Bound-F.Promise node var) is e =
      from_layer (λ promise. IsKnown (source promise)) x (Bound-F.Promise node var) is
      (λ promise has. subst (λ p. IsKnown (source p)) (in_one (source_node node, var) promise has)
      (known_if_primitive (source (source_node node, var)) e))
  primitive_in x (Bound-F.Scalar literal) is e =
      from_layer (λ promise. IsKnown (source promise)) x (Bound-F.Scalar literal) is
      (λ promise has. absurd (Contains-nil promise has))
  primitive_in x (Bound-F.Collection elements) is e = cc
  primitive_in x (Bound-F.Map entries) is e = cc

  -- what is a primitive promises only values of known types
  pub primitive_known : (x : Bound) → is_some (bound_primitive source x) ≡ true
      → AllPromises (λ promise. IsKnown (source promise)) x
  primitive_known x e = primitive_in x (out-Bound x) refl e
