-- What steps make of a literal, from what they make of its parts.
use Rattle.std.proofs.Common.{◌≡◌, ◌+◌, ◌*◌, ◌≤◌, List, ◌∷◌, Result, Ok, Option, Some, None, Bor, sym, ◌∙◌, ap, subst, arith}
use Rattle.fly_types.specs.declared.text.Text.{Text}
use Rattle.fly_types.specs.declared.kinds.LiteralType.{LiteralType}
use Rattle.fly_types.specs.declared.literals.Literal.{Literal, out-Literal, roll-Literal}
use Rattle.fly_types.specs.declared.literals.Literal.TheOpen.{Literal-F}
use Rattle.fly_types.specs.declared.literals.Literal.TheVariants as literal
use Rattle.fly_types.specs.declared.literals.Literal.TheViews as view
use Rattle.fly_types.specs.Layer.{LiteralLayer}
use Rattle.fly_types.specs.Membership.{IsMember, IsUnionWhere, IsVariant}
use Rattle.fly_types.specs.Levels.{type_levels}
use Rattle.fly_cast.specs.declared.conversion.ConvertFault.{ConvertFault}
use Rattle.fly_cast.specs.declared.plan.Step.{Step}
use Rattle.fly_cast.specs.declared.plan.Step.TheVariants as step
use Rattle.fly_cast.specs.Conversion.{Conversion, IsAnswer, result_map, each_result, entry_result, conversion_of_elements, conversion_of_entries}
use Rattle.fly_cast.specs.Plan.{conversion_by, IsForeign, Suits, depth_of}
use Rattle.fly_cast.proofs.Levels.{variant-of}

-- ---- foreign texts

pub foreign-elements : (f : Literal → Conversion) (l : Literal) (xs xs' : List Literal) (o : Option (Bor Text))
    → out-Literal l ≡ Literal-F.Collection xs
    → xs' ≡ xs → IsForeign (each_result f xs') xs' o → IsForeign (conversion_of_elements f l (out-Literal l)) l o
foreign-elements f l xs xs' None e same h =
    ap (conversion_of_elements f l) e ∙ ap (λ ys. result_map literal.Collection (each_result f ys)) (sym same)
    ∙ ap (result_map literal.Collection) h
    ∙ ap (λ ys. Ok (literal.Collection ys)) same
    ∙ ap Ok (sym (sym (view.roll-out-Literal l) ∙ ap roll-Literal e ∙ view.rolls-Collection xs))
foreign-elements f l xs xs' (Some text) e same h =
    ap (conversion_of_elements f l) e ∙ ap (λ ys. result_map literal.Collection (each_result f ys)) (sym same)
    ∙ ap (result_map literal.Collection) h

pub foreign-values : (f : Literal → Conversion) (l : Literal) (xs xs' : List (Text × Literal))
    (o : Option (Bor Text)) → out-Literal l ≡ Literal-F.Map xs
    → xs' ≡ xs → IsForeign (each_result (entry_result f) xs') xs' o
    → IsForeign (conversion_of_entries f l (out-Literal l)) l o
foreign-values f l xs xs' None e same h =
    ap (conversion_of_entries f l) e ∙ ap (λ ys. result_map literal.Map (each_result (entry_result f) ys)) (sym same)
    ∙ ap (result_map literal.Map) h
    ∙ ap (λ ys. Ok (literal.Map ys)) same
    ∙ ap Ok (sym (sym (view.roll-out-Literal l) ∙ ap roll-Literal e ∙ view.rolls-Map xs))
foreign-values f l xs xs' (Some text) e same h =
    ap (conversion_of_entries f l) e ∙ ap (λ ys. result_map literal.Map (each_result (entry_result f) ys)) (sym same)
    ∙ ap (result_map literal.Map) h

pub foreign-by : (s t : List Step) (l : Literal) (o : Option (Bor Text)) → s ≡ t → IsForeign (conversion_by t l) l o
    → IsForeign (conversion_by s l) l o
foreign-by s t l o e h = subst (λ r. IsForeign (conversion_by r l) l o) (sym e) h

-- ---- answers

pub answers-by : (s t : List Step) (l : Literal) (r : Result Literal ConvertFault) → s ≡ t
    → IsAnswer (conversion_by t l) r → IsAnswer (conversion_by s l) r
answers-by s t l r e h = subst (λ u. IsAnswer (conversion_by u l) r) (sym e) h

-- the variant and the value of a union scalar that suits the steps
pub from-union : (s rest : List Step) (vs : Bor (List LiteralType)) (to : Bor LiteralType) (l value : Literal)
    (variant : LiteralType)
    → s ≡ step.FromUnion vs to ∷ rest → Suits s l → out-Literal l ≡ Literal-F.Union value variant
    → (4 * (type_levels variant + type_levels to.now) + 4 ≤ depth_of s) × IsMember variant value
from-union s rest vs to l value variant e suits el =
    let suits' : Suits (step.FromUnion vs to ∷ rest) l = subst (λ r. Suits r l) e suits in
    let there : IsVariant vs.now variant value =
    subst (λ (m : LiteralLayer). IsUnionWhere (λ s x. IsVariant vs.now s x) m) el suits' in
    let of = variant-of vs.now variant value there in
    (omega (arith, of.0, ap depth_of e), of.1)
