-- The values of bindings, by the rules: what they are at a type, from what they are at its parts.
use Rattle.std.proofs.Common.{◌≡◌, ℕ, zero, suc, ◌+◌, ◌-◌, ◌≤◌, Bool, true, false, List, [], ◌∷◌, ◌++◌, Option, Some, None, Result, Ok, Err, is_ok, refl, sym, ◌∙◌, ap, arith, filter}
use Rattle.std.specs.List.{list_all}
use Rattle.fly_types.specs.declared.kinds.LiteralType.{LiteralType, out-LiteralType, roll-LiteralType}
use Rattle.fly_types.specs.declared.kinds.LiteralType.TheOpen.{LiteralType-F}
use Rattle.fly_types.specs.declared.kinds.LiteralType.TheVariants as type
use Rattle.fly_types.specs.declared.kinds.LiteralType.TheViews as view
use Rattle.fly_types.specs.declared.literals.Literal.{Literal}
use Rattle.fly_types.specs.declared.literals.Literal.TheVariants as literal
use Rattle.fly_types.specs.declared.text.Text.{Text}
use Rattle.fly_types.specs.Layer.{TypeLayer}
use Rattle.fly_types.specs.Levels.{type_levels}
use Rattle.fly_cast.specs.Castable.{sole_element}
use Rattle.fly_cast.specs.Conversion.{result_map, each_result, entry_result}
use Rattle.fly_cast.proofs.Levels.{layer_levels, type_levels-out, type_levels-positive, sole_element-levels}
use Rattle.fly_docs.specs.declared.binding.Bound.{Bound, out-Bound}
use Rattle.fly_docs.specs.declared.binding.Bound.TheOpen.{Bound-F}
use Rattle.fly_docs.specs.Layer.{BoundLayer}
use Rattle.fly_docs.specs.Bindings.{Promised}
use Rattle.fly_docs.specs.Fitting.{bound_fits}
use Rattle.fly_docs.specs.NodeInterfaces.{Source}
use Rattle.fly_docs.specs.SlotInputs.{Known, Taken, unknown, variant_value, bound_form_value, bound_value_within, bound_value}

abbrev pub Values : Type 0
Values = Bound → LiteralType → Taken Literal

-- two that agree at types of so many levels
abbrev AgreeWithin : ℕ → Values → Values → Type 0
AgreeWithin k c d = (x : Bound) (t : LiteralType) → type_levels t ≤ k → c x t ≡ d x t

variant-same : (c d : LiteralType → Taken Literal) (o : Option LiteralType) → ((t : LiteralType) → o ≡ Some t → c t ≡ d t) → variant_value c o ≡ variant_value d o
variant-same c d None agree = refl
variant-same c d (Some t) agree = ap (result_map (λ l. literal.Union l t)) (agree t refl)

module _ (source : Promised → Source) (known : Known) where
  union-same : (c d : Values) (k : ℕ) (x : Bound) (ts : List LiteralType) → AgreeWithin k c d
      → layer_levels (LiteralType-F.Union ts) ≤ k + 1
      → variant_value (c x) (sole_element (filter (bound_fits source x) ts)) ≡ variant_value (d x) (sole_element (filter (bound_fits source x) ts))
  union-same c d k x ts agree le =
      variant-same (c x) (d x) (sole_element (filter (bound_fits source x) ts)) (λ t is.
      agree x t (omega (arith, le, sole_element-levels (bound_fits source x) ts t is)))

  form-same : (c d : Values) (k : ℕ) (x : Bound) (t : LiteralType) (p : BoundLayer) (q : TypeLayer)
      → AgreeWithin k c d → layer_levels q ≤ k + 1
      → bound_form_value source known c x t p q ≡ bound_form_value source known d x t p q
  form-same c d k x t (Bound-F.Promise node var) q agree le = refl
  form-same c d k x t (Bound-F.Scalar l) q agree le = refl
  form-same c d k x t (Bound-F.Collection es) (LiteralType-F.Collection y) agree le =
      let low : type_levels y ≤ k = omega arith in λ i. result_map literal.Collection (each_result (λ e. agree e y low i) es)
  form-same c d k x t (Bound-F.Map es) (LiteralType-F.Map y) agree le =
      let low : type_levels y ≤ k = omega arith in λ i. result_map literal.Map (each_result (entry_result (λ e. agree e y low i)) es)
  form-same c d k x t (Bound-F.Collection es) (LiteralType-F.Union ts) agree le = union-same c d k x ts agree le
  form-same c d k x t (Bound-F.Map es) (LiteralType-F.Union ts) agree le = union-same c d k x ts agree le
  form-same c d k x t p q agree le = refl

  within-same : (n m : ℕ) (x : Bound) (t : LiteralType) → type_levels t ≤ n → type_levels t ≤ m
      → bound_value_within source known n x t ≡ bound_value_within source known m x t
  unfolding bound_value_within
  within-same zero m x t h g = absurd (omega (arith, type_levels-positive t))
  within-same (suc n) zero x t h g = absurd (omega (arith, type_levels-positive t))
  within-same (suc n) (suc m) x t h g =
      form-same (bound_value_within source known n) (bound_value_within source known m) (type_levels t - 1) x t (out-Bound x) (out-LiteralType t)
      (λ y s le. within-same n m y s (omega arith) (omega arith))
      (omega (arith, type_levels-out t, type_levels-positive t))

  -- what is bound as a value of a type, by the rules
  pub bound_value-step : (x : Bound) (t : LiteralType)
      → bound_value source known x t ≡ bound_form_value source known (bound_value source known) x t (out-Bound x) (out-LiteralType t)
  unfolding bound_value bound_value_within
  bound_value-step x t =
      let n : ℕ = type_levels t in
      let further : bound_value_within source known n x t ≡ bound_value_within source known (suc n) x t =
      within-same n (suc n) x t (omega arith) (omega arith) in
      further
      ∙ form-same (bound_value_within source known n) (bound_value source known) (n - 1) x t (out-Bound x) (out-LiteralType t)
      (λ y s le. within-same n (type_levels s) y s (omega arith) (omega arith))
      (omega (arith, type_levels-out t, type_levels-positive t))

  -- the same with the layers as they are
  pub bound_value-at : (x : Bound) (t : LiteralType) (p : BoundLayer) (q : TypeLayer) → out-Bound x ≡ p → out-LiteralType t ≡ q
      → bound_value source known x t ≡ bound_form_value source known (bound_value source known) x t p q
  bound_value-at x t p q e f =
      bound_value-step x t ∙ (λ i. bound_form_value source known (bound_value source known) x t (e i) (f i))

  -- ---- what fits no rule

  collection-unknown-by : (x : Bound) (t : LiteralType) (es : List Bound) (q : TypeLayer) → out-Bound x ≡ Bound-F.Collection es
      → out-LiteralType t ≡ q → ((y : LiteralType) → q ≡ LiteralType-F.Collection y → ⊥) → ((ts : List LiteralType) → q ≡ LiteralType-F.Union ts → ⊥)
      → bound_value source known x t ≡ Err unknown
  collection-unknown-by x t es (LiteralType-F.Collection y) e f not_list not_union = absurd (not_list y refl)
  collection-unknown-by x t es (LiteralType-F.Union ts) e f not_list not_union = absurd (not_union ts refl)
  collection-unknown-by x t es q e f not_list not_union = bound_value-at x t (Bound-F.Collection es) q e f

  map-unknown-by : (x : Bound) (t : LiteralType) (es : List (Text × Bound)) (q : TypeLayer) → out-Bound x ≡ Bound-F.Map es
      → out-LiteralType t ≡ q → ((y : LiteralType) → q ≡ LiteralType-F.Map y → ⊥) → ((ts : List LiteralType) → q ≡ LiteralType-F.Union ts → ⊥)
      → bound_value source known x t ≡ Err unknown
  map-unknown-by x t es (LiteralType-F.Map y) e f not_map not_union = absurd (not_map y refl)
  map-unknown-by x t es (LiteralType-F.Union ts) e f not_map not_union = absurd (not_union ts refl)
  map-unknown-by x t es q e f not_map not_union = bound_value-at x t (Bound-F.Map es) q e f

  pub collection-unknown : (x : Bound) (t : LiteralType) (es : List Bound) → out-Bound x ≡ Bound-F.Collection es
      → ((y : LiteralType) → t ≡ type.Collection y → ⊥) → ((ts : List LiteralType) → t ≡ type.Union ts → ⊥) → bound_value source known x t ≡ Err unknown
  collection-unknown x t es e not_list not_union =
      collection-unknown-by x t es (out-LiteralType t) e refl
      (λ y is. not_list y (rolled t _ is ∙ view.rolls-Collection y)) (λ ts is. not_union ts (rolled t _ is ∙ view.rolls-Union ts))
    where
      rolled : (u : LiteralType) (q : TypeLayer) → out-LiteralType u ≡ q → u ≡ roll-LiteralType q
      rolled u q f = sym (view.roll-out-LiteralType u) ∙ ap roll-LiteralType f

  pub map-unknown : (x : Bound) (t : LiteralType) (es : List (Text × Bound)) → out-Bound x ≡ Bound-F.Map es
      → ((y : LiteralType) → t ≡ type.Map y → ⊥) → ((ts : List LiteralType) → t ≡ type.Union ts → ⊥) → bound_value source known x t ≡ Err unknown
  map-unknown x t es e not_map not_union =
      map-unknown-by x t es (out-LiteralType t) e refl
      (λ y is. not_map y (rolled t _ is ∙ view.rolls-Map y)) (λ ts is. not_union ts (rolled t _ is ∙ view.rolls-Union ts))
    where
      rolled : (u : LiteralType) (q : TypeLayer) → out-LiteralType u ≡ q → u ≡ roll-LiteralType q
      rolled u q f = sym (view.roll-out-LiteralType u) ∙ ap roll-LiteralType f
