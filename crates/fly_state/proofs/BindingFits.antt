-- Which bindings fit, by the rules: what they give at a type, from what they give at its parts.
use Rattle.std.proofs.Common.{◌≡◌, ℕ, zero, suc, ◌+◌, ◌-◌, ◌≤◌, Bool, false, List, refl, sym, ◌∙◌, ap, arith, is_some, filter}
use Rattle.std.specs.List.{list_all}
use Rattle.fly_types.specs.declared.kinds.LiteralType.{LiteralType, out-LiteralType, roll-LiteralType}
use Rattle.fly_types.specs.declared.kinds.LiteralType.TheOpen.{LiteralType-F}
use Rattle.fly_types.specs.declared.text.Text.{Text}
use Rattle.fly_types.specs.declared.kinds.LiteralType.TheVariants as type
use Rattle.fly_types.specs.declared.kinds.LiteralType.TheViews as view
use Rattle.fly_types.specs.Layer.{TypeLayer}
use Rattle.fly_types.specs.Levels.{type_levels}
use Rattle.fly_cast.specs.Castable.{sole_element}
use Rattle.fly_cast.proofs.Levels.{layer_levels, type_levels-out, type_levels-positive, variants-below}
use Rattle.fly_cast.proofs.Lists.{filter-same, each-map}
use Rattle.fly_docs.specs.declared.binding.Bound.{Bound, out-Bound}
use Rattle.fly_docs.specs.declared.binding.Bound.TheOpen.{Bound-F}
use Rattle.fly_docs.specs.Layer.{BoundLayer}
use Rattle.fly_docs.specs.Bindings.{Promised}
use Rattle.fly_docs.specs.NodeInterfaces.{Source}
use Rattle.fly_docs.specs.Fitting.{bound_form_fits, bound_fits_within, bound_fits}

-- two tests that agree at types of so many levels
abbrev AgreeWithin : ℕ → (c d : Bound → LiteralType → Bool) → Type 0
AgreeWithin k c d = (x : Bound) (t : LiteralType) → type_levels t ≤ k → c x t ≡ d x t

union-same : (c d : Bound → LiteralType → Bool) (k : ℕ) (x : Bound) (ts : List LiteralType) → AgreeWithin k c d
    → layer_levels (LiteralType-F.Union ts) ≤ k + 1
    → is_some (sole_element (filter (c x) ts)) ≡ is_some (sole_element (filter (d x) ts))
union-same c d k x ts agree le =
    ap (λ xs. is_some (sole_element xs)) (filter-same (c x) (d x) ts
    (each-map (λ t. type_levels t ≤ k) (λ t. c x t ≡ d x t) (λ t low. agree x t low) ts (variants-below k ts (omega arith))))

form-same : (source : Promised → Source) (c d : Bound → LiteralType → Bool) (k : ℕ) (x : Bound) (t : LiteralType) (p : BoundLayer) (q : TypeLayer)
    → AgreeWithin k c d → layer_levels q ≤ k + 1
    → bound_form_fits source c x t p q ≡ bound_form_fits source d x t p q
form-same source c d k x t (Bound-F.Promise node var) q agree le = refl
form-same source c d k x t (Bound-F.Scalar l) q agree le = refl
form-same source c d k x t (Bound-F.Collection es) (LiteralType-F.Collection y) agree le =
    let low : type_levels y ≤ k = omega arith in λ i. list_all (λ e. agree e y low i) es
form-same source c d k x t (Bound-F.Map es) (LiteralType-F.Map y) agree le =
    let low : type_levels y ≤ k = omega arith in λ i. list_all (λ e. agree e.1 y low i) es
form-same source c d k x t (Bound-F.Collection es) (LiteralType-F.Union ts) agree le = union-same c d k x ts agree le
form-same source c d k x t (Bound-F.Map es) (LiteralType-F.Union ts) agree le = union-same c d k x ts agree le
form-same source c d k x t p q agree le = refl

within-same : (source : Promised → Source) (n m : ℕ) (x : Bound) (t : LiteralType) → type_levels t ≤ n → type_levels t ≤ m
    → bound_fits_within source n x t ≡ bound_fits_within source m x t
unfolding bound_fits_within
within-same source zero m x t h g = absurd (omega (arith, type_levels-positive t))
within-same source (suc n) zero x t h g = absurd (omega (arith, type_levels-positive t))
within-same source (suc n) (suc m) x t h g =
    form-same source (bound_fits_within source n) (bound_fits_within source m) (type_levels t - 1) x t (out-Bound x) (out-LiteralType t)
    (λ y s le. within-same source n m y s (omega arith) (omega arith))
    (omega (arith, type_levels-out t, type_levels-positive t))

-- what is bound fits a type, by the rules
pub bound_fits-step : (source : Promised → Source) (x : Bound) (t : LiteralType)
    → bound_fits source x t ≡ bound_form_fits source (bound_fits source) x t (out-Bound x) (out-LiteralType t)
unfolding bound_fits bound_fits_within
bound_fits-step source x t =
    let n : ℕ = type_levels t in
    let further : bound_fits_within source n x t ≡ bound_fits_within source (suc n) x t =
    within-same source n (suc n) x t (omega arith) (omega arith) in
    further
    ∙ form-same source (bound_fits_within source n) (bound_fits source) (n - 1) x t (out-Bound x) (out-LiteralType t)
    (λ y s le. within-same source n (type_levels s) y s (omega arith) (omega arith))
    (omega (arith, type_levels-out t, type_levels-positive t))

-- the same with the layers as they are
pub bound_fits-at : (source : Promised → Source) (x : Bound) (t : LiteralType) (p : BoundLayer) (q : TypeLayer) → out-Bound x ≡ p → out-LiteralType t ≡ q
    → bound_fits source x t ≡ bound_form_fits source (bound_fits source) x t p q
bound_fits-at source x t p q e f =
    bound_fits-step source x t ∙ (λ i. bound_form_fits source (bound_fits source) x t (e i) (f i))

-- ---- what fits no rule

collection-misfit-by : (source : Promised → Source) (x : Bound) (t : LiteralType) (es : List Bound) (q : TypeLayer) → out-Bound x ≡ Bound-F.Collection es
    → out-LiteralType t ≡ q → ((y : LiteralType) → q ≡ LiteralType-F.Collection y → ⊥) → ((ts : List LiteralType) → q ≡ LiteralType-F.Union ts → ⊥)
    → bound_fits source x t ≡ false
collection-misfit-by source x t es (LiteralType-F.Collection y) e f not_list not_union = absurd (not_list y refl)
collection-misfit-by source x t es (LiteralType-F.Union ts) e f not_list not_union = absurd (not_union ts refl)
collection-misfit-by source x t es q e f not_list not_union = bound_fits-at source x t (Bound-F.Collection es) q e f

map-misfit-by : (source : Promised → Source) (x : Bound) (t : LiteralType) (es : List (Text × Bound)) (q : TypeLayer) → out-Bound x ≡ Bound-F.Map es
    → out-LiteralType t ≡ q → ((y : LiteralType) → q ≡ LiteralType-F.Map y → ⊥) → ((ts : List LiteralType) → q ≡ LiteralType-F.Union ts → ⊥)
    → bound_fits source x t ≡ false
map-misfit-by source x t es (LiteralType-F.Map y) e f not_map not_union = absurd (not_map y refl)
map-misfit-by source x t es (LiteralType-F.Union ts) e f not_map not_union = absurd (not_union ts refl)
map-misfit-by source x t es q e f not_map not_union = bound_fits-at source x t (Bound-F.Map es) q e f

-- a layer of a type, as a type
rolled : (t : LiteralType) (q : TypeLayer) → out-LiteralType t ≡ q → t ≡ roll-LiteralType q
rolled t q e = sym (view.roll-out-LiteralType t) ∙ ap roll-LiteralType e

pub collection-misfit : (source : Promised → Source) (x : Bound) (t : LiteralType) (es : List Bound) → out-Bound x ≡ Bound-F.Collection es
    → ((y : LiteralType) → t ≡ type.Collection y → ⊥) → ((ts : List LiteralType) → t ≡ type.Union ts → ⊥) → bound_fits source x t ≡ false
collection-misfit source x t es e not_list not_union =
    collection-misfit-by source x t es (out-LiteralType t) e refl
    (λ y is. not_list y (rolled t _ is ∙ view.rolls-Collection y)) (λ ts is. not_union ts (rolled t _ is ∙ view.rolls-Union ts))

pub map-misfit : (source : Promised → Source) (x : Bound) (t : LiteralType) (es : List (Text × Bound)) → out-Bound x ≡ Bound-F.Map es
    → ((y : LiteralType) → t ≡ type.Map y → ⊥) → ((ts : List LiteralType) → t ≡ type.Union ts → ⊥) → bound_fits source x t ≡ false
map-misfit source x t es e not_map not_union =
    map-misfit-by source x t es (out-LiteralType t) e refl
    (λ y is. not_map y (rolled t _ is ∙ view.rolls-Map y)) (λ ts is. not_union ts (rolled t _ is ∙ view.rolls-Union ts))
