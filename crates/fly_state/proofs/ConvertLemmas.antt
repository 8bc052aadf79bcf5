-- Whether a literal converts, part by part.
use Rattle.std.proofs.Common.{◌≡◌, ◌+◌, ◌≤◌, ◌&&◌, List, [], ◌∷◌, Result, Ok, Err, is_ok}
use Rattle.std.proofs.Common.{refl, sym, ◌∙◌, ap, subst, arith}
use Rattle.std.specs.List.{list_all}
use Rattle.fly_types.specs.declared.text.Text.{Text}
use Rattle.fly_types.specs.declared.kinds.LiteralType.{LiteralType, out-LiteralType}
use Rattle.fly_types.specs.declared.kinds.LiteralType.TheOpen.{LiteralType-F}
use Rattle.fly_types.specs.declared.literals.Literal.{Literal, out-Literal}
use Rattle.fly_types.specs.declared.literals.Literal.TheOpen.{Literal-F}
use Rattle.fly_types.specs.declared.literals.Literal.TheVariants as literal
use Rattle.fly_types.specs.Layer.{TypeLayer}
use Rattle.fly_types.specs.Levels.{type_levels}
use Rattle.fly_types.specs.Membership.{IsMember, IsUnionWhere, IsVariant}
use Rattle.fly_cast.specs.Conversion.{Conversion, result_map, result_ahead_of, each_result, entry_result}
use Rattle.fly_cast.specs.Conversion.{conversion_of_elements, conversion_of_entries}
use Rattle.fly_cast.proofs.Converts.{levels-at, member-as}
use Rattle.fly_cast.proofs.Levels.{variant-of}
use Rattle.fly_state.specs.Converts.{IsUnionType}

ok-map : {X Y E : Type 0} (g : X → Y) (r : Result X E) → is_ok (result_map g r) ≡ is_ok r
ok-map g (Ok x) = refl
ok-map g (Err e) = refl

ok-ahead : {Y E : Type 0} (rest : Result (List Y) E) (one : Result Y E)
    → is_ok (result_ahead_of rest one) ≡ (is_ok one && is_ok rest)
ok-ahead rest (Ok y) = ok-map (λ ys. y ∷ ys) rest
ok-ahead rest (Err e) = refl

ok-each : {X Y E : Type 0} (f : X → Result Y E) (xs : List X)
    → is_ok (each_result f xs) ≡ list_all (λ x. is_ok (f x)) xs
ok-each f [] = refl
ok-each f (x ∷ xs) = ok-ahead (each_result f xs) (f x) ∙ ap (λ b. is_ok (f x) && b) (ok-each f xs)

-- a collection converts where each element does
pub ok-elements : (f : Literal → Conversion) (l : Literal) (xs xs' : List Literal)
    → out-Literal l ≡ Literal-F.Collection xs → xs' ≡ xs
    → list_all (λ e. is_ok (f e)) xs' ≡ is_ok (conversion_of_elements f l (out-Literal l))
ok-elements f l xs xs' is same =
    ap (list_all (λ e. is_ok (f e))) same ∙ sym (ok-each f xs) ∙ sym (ok-map literal.Collection (each_result f xs))
    ∙ sym (ap (λ d. is_ok (conversion_of_elements f l d)) is)

ok-entry : (f : Literal → Conversion) (xs : List (Text × Literal))
    → list_all (λ e. is_ok (f e.1)) xs ≡ list_all (λ e. is_ok (entry_result f e)) xs
ok-entry f [] = refl
ok-entry f (x ∷ xs) = λ i. sym (ok-map {Y = Text × Literal} (λ value. (x.0, value)) (f x.1)) i && ok-entry f xs i

-- a map converts where each value does
pub ok-entries : (f : Literal → Conversion) (l : Literal) (xs xs' : List (Text × Literal))
    → out-Literal l ≡ Literal-F.Map xs → xs' ≡ xs
    → list_all (λ e. is_ok (f e.1)) xs' ≡ is_ok (conversion_of_entries f l (out-Literal l))
ok-entries f l xs xs' is same =
    ap (list_all (λ (e : Text × Literal). is_ok (f e.1))) same ∙ ok-entry f xs ∙ sym (ok-each (entry_result f) xs)
    ∙ sym (ok-map literal.Map (each_result (entry_result f) xs))
    ∙ sym (ap (λ d. is_ok (conversion_of_entries f l d)) is)

-- the variant and the value of a scalar of a union type
pub union-part : (a : LiteralType) (l value : Literal) (variant : LiteralType) (p : TypeLayer)
    → out-LiteralType a ≡ p → IsUnionType p → out-Literal l ≡ Literal-F.Union value variant → IsMember a l
    → (type_levels variant + 1 ≤ type_levels a) × IsMember variant value
union-part a l value variant (LiteralType-F.Union ts) is union form member =
    let at : IsUnionWhere (IsVariant ts) (out-Literal l) = member-as a l (LiteralType-F.Union ts) is member in
    let of : IsVariant ts variant value = subst (IsUnionWhere (IsVariant ts)) form at in
    let part = variant-of ts variant value of in
    (omega (arith, part.0, levels-at a (LiteralType-F.Union ts) is), part.1)
union-part a l value variant (LiteralType-F.Simple s) is union form member = absurd union
union-part a l value variant (LiteralType-F.Collection x) is union form member = absurd union
union-part a l value variant (LiteralType-F.Map x) is union form member = absurd union
union-part a l value variant (LiteralType-F.Blob x) is union form member = absurd union
union-part a l value variant (LiteralType-F.Enum x) is union form member = absurd union
