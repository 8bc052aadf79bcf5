-- What is bound is in form exactly where its layer is, and each part.
use Rattle.std.proofs.Common.{◌≡◌, ◌↔◌, refl, sym, ◌∙◌, ap, subst}
use Rattle.std.specs.Prelude.{⊤}
use Rattle.std.specs.List.{All}
use Rattle.fly_types.specs.declared.text.Text.{Text}
use Rattle.fly_docs.specs.declared.binding.Bound.{Bound, roll-Bound, out-Bound}
use Rattle.fly_docs.specs.declared.binding.Bound.TheOpen.{Bound-F}
use Rattle.fly_docs.specs.declared.binding.Bound.TheViews.{roll-out-Bound}
use Rattle.fly_docs.specs.declared.binding.Bound.TheFolds.{map-Bound, every_here-Bound, every_held-Bound}
use Rattle.fly_docs.specs.declared.binding.Bound.TheFolds.{every_made-Bound}
use Rattle.fly_docs.specs.Layer.{BoundLayer}
use Rattle.fly_docs.specs.Form.{IsBoundLayerInForm, IsBoundInForm}
use Rattle.fly_forms.proofs.Lists.{all-map, beside}

abbrev WithForm : Type 0
WithForm = (x : Bound) × IsBoundInForm x

-- the parts of a layer are in form
abbrev pub HasPartsInForm : BoundLayer → Type 0
HasPartsInForm (Bound-F.Collection elements) = All IsBoundInForm elements
HasPartsInForm (Bound-F.Map entries) = All (λ (e : Text × Bound). IsBoundInForm e.1) entries
HasPartsInForm _ = ⊤

abbrev pub IsWholeLayerInForm : BoundLayer → Type 0
IsWholeLayerInForm z = IsBoundLayerInForm z × HasPartsInForm z

parts : (y : Bound-F WithForm) → HasPartsInForm (map-Bound WithForm Bound (λ x. x.0) y)
parts (Bound-F.Scalar literal) = tt
parts (Bound-F.Collection xs) = all-map IsBoundInForm (λ (x : WithForm). x.0) xs (λ x. x.1)
parts (Bound-F.Map xs) =
    all-map (λ (e : Text × Bound). IsBoundInForm e.1) (λ (x : Text × WithForm). (x.0, x.1.0)) xs (λ x. x.1.1)
parts (Bound-F.Promise node var) = tt

layer : (x : Bound) → IsBoundInForm x → IsWholeLayerInForm (out-Bound x)
layer x h =
    let held = every_held-Bound IsBoundLayerInForm x h in
    (every_here-Bound IsBoundLayerInForm x h, subst HasPartsInForm held.1 (parts held.0))

rolled : (z : BoundLayer) → IsWholeLayerInForm z → IsBoundInForm (roll-Bound z)
rolled (Bound-F.Scalar literal) h =
    every_made-Bound IsBoundLayerInForm (Bound-F.Scalar literal) (Bound-F.Scalar literal) refl h.0
rolled (Bound-F.Collection xs) h =
    let ys = beside IsBoundInForm (λ (x : WithForm). x.0) (λ x p. (x, p)) (λ x p. refl) xs h.1 in
    every_made-Bound IsBoundLayerInForm (Bound-F.Collection xs) (Bound-F.Collection ys.0) (ap Bound-F.Collection ys.1)
    tt
rolled (Bound-F.Map xs) h =
    let ys = beside (λ (e : Text × Bound). IsBoundInForm e.1) (λ (x : Text × WithForm). (x.0, x.1.0))
    (λ e p. (e.0, (e.1, p))) (λ e p. refl) xs h.1 in
    every_made-Bound IsBoundLayerInForm (Bound-F.Map xs) (Bound-F.Map ys.0) (ap Bound-F.Map ys.1) h.0
rolled (Bound-F.Promise node var) h =
    every_made-Bound IsBoundLayerInForm (Bound-F.Promise node var) (Bound-F.Promise node var) refl tt

-- what an answer says of the layer it says of what is bound
pub answers_bound : {R : Type 0} (x : Bound) (z : BoundLayer) → out-Bound x ≡ z → (R ↔ IsWholeLayerInForm z)
    → (R ↔ IsBoundInForm x)
answers_bound {R} x z is h = (
  λ r. subst IsBoundInForm (ap roll-Bound (sym is) ∙ roll-out-Bound x) (rolled z (h.0 r)),
  λ form. h.1 (subst IsWholeLayerInForm is (layer x form)),
)
