-- What is bound is in form where the keys of each object are in order.
use Rattle.std.proofs.Common.{◌≡◌, ℕ, zero, suc, List, [], ◌∷◌, map, Option, Some, None, option_map, nat_cmp, refl, sym, ap, subst, codes}
use Rattle.std.specs.Prelude.{unwrap_or}
use Rattle.std.specs.List.{AllByRecursion}
use Rattle.std.specs.List.Sorted.{IsStrictlySortedBy}
use Rattle.std.specs.Cmp.Lexicographic.{slice_cmp}
use Rattle.std.proofs.lemmas.List.Elements.{All-from_recursion}
use Rattle.serde_json.specs.Data.{Data, Members}
use Rattle.fly_types.specs.declared.text.Text.{Text}
use Rattle.fly_types.specs.declared.literals.Literal.{Literal, roll-Literal, out-Literal}
use Rattle.fly_types.specs.declared.literals.Literal.TheVariants as literals
use Rattle.fly_types.specs.declared.literals.Literal.TheOpen.{Literal-F}
use Rattle.fly_types.specs.declared.literals.Literal.TheViews as literal_views
use Rattle.fly_types.specs.Layer.{LiteralLayer}
use Rattle.fly_types.specs.Sound.{AreNamesSorted}
use Rattle.fly_docs.specs.declared.binding.Binding.{Binding}
use Rattle.fly_docs.specs.declared.binding.Bound.{Bound}
use Rattle.fly_docs.specs.declared.binding.Bound.TheVariants as bounds
use Rattle.fly_docs.specs.declared.binding.Bound.TheOpen.{Bound-F}
use Rattle.fly_docs.specs.declared.binding.Bound.TheViews as bound_views
use Rattle.fly_docs.specs.declared.binding.Bound.TheFolds.{every_made-Bound}
use Rattle.fly_docs.specs.Bindings.{source_node}
use Rattle.fly_docs.specs.Form.{IsNoContainer, IsBoundLayerInForm, IsBoundInForm, AreBindingsInForm}
use Rattle.fly_values.specs.Fields.{members_in, field, member_at, items_in, entries_of, list_value, text_value, truth_value}
use Rattle.fly_values.specs.Scalars.{integer_value, datetime_value, duration_value}
use Rattle.fly_values.specs.Trees.{struct_value}
use Rattle.fly_values.specs.Literals.{primitive_by, blob_value, binary_value, error_value, plain_scalar, union_by, scalar_by, literal_at, union_depth, datetime_literal, duration_literal}
use Rattle.fly_values.specs.Bindings.{promise_value, plain_bound, bound_elements_by, bound_entries_by, bound_by, bound_at, bound_depth, binding_value}
use Rattle.fly_idl.proofs.Ordered.{IsOrdered, AreMembersOrdered, WhereSome, members_ordered, keys_ordered, field_ordered, there_ordered, items_ordered, entries_ordered, all-map, fronts-map}

-- ---- the first of several that is there

pub either : {A B : Type 0} (P : B → Type 0) (f : A → B) (o : Option A) (rest : B) → WhereSome (λ a. P (f a)) o
    → P rest
    → P (unwrap_or (option_map f o) rest)
either P f None rest h r = r
either P f (Some a) rest h r = h

always : {A : Type 0} (P : A → Type 0) (o : Option A) → ((a : A) → P a) → WhereSome P o
always P None h = tt
always P (Some a) h = h a

weaker : {A : Type 0} (P Q : A → Type 0) (o : Option A) → ((a : A) → P a → Q a) → WhereSome P o → WhereSome Q o
weaker P Q None h p = tt
weaker P Q (Some a) h p = h a p

-- ---- a scalar is no collection and no map

abbrev IsPlain : Literal → Type 0
IsPlain l = IsNoContainer (out-Literal l)

rolled : (z : LiteralLayer) → IsNoContainer z → IsPlain (roll-Literal z)
rolled z p = subst IsNoContainer (sym (literal_views.out-roll-Literal z)) p

plain-none : IsPlain literals.None
plain-none = subst IsPlain literal_views.rolls-None (rolled Literal-F.None tt)

plain-primitive : (ms : Members) → IsPlain (primitive_by ms)
unfolding primitive_by
plain-primitive ms =
    either IsPlain (λ d. literals.Integer (integer_value d)) (member_at (codes "integer") ms) _
    (always _ _ (λ d. subst IsPlain (literal_views.rolls-Integer (integer_value d))
    (rolled (Literal-F.Integer (integer_value d)) tt)))
    (either IsPlain (λ d. literals.Text (text_value d)) (member_at (codes "stringValue") ms) _
    (always _ _ (λ d. subst IsPlain (literal_views.rolls-Text (text_value d))
    (rolled (Literal-F.Text (text_value d)) tt)))
    (either IsPlain (λ d. literals.Boolean (truth_value d)) (member_at (codes "boolean") ms) _
    (always _ _ (λ d. subst IsPlain (literal_views.rolls-Boolean (truth_value d))
    (rolled (Literal-F.Boolean (truth_value d)) tt)))
    (either IsPlain datetime_literal (member_at (codes "datetime") ms) _
    (always _ _ (λ d. subst IsPlain (literal_views.rolls-Datetime (datetime_value d).seconds (datetime_value d).nanos)
    (rolled (Literal-F.Datetime (datetime_value d).seconds (datetime_value d).nanos) tt)))
    (either IsPlain duration_literal (member_at (codes "duration") ms) literals.None
    (always _ _ (λ d. subst IsPlain (literal_views.rolls-Duration (duration_value d).seconds (duration_value d).nanos)
    (rolled (Literal-F.Duration (duration_value d).seconds (duration_value d).nanos) tt)))
    plain-none))))

plain-blob : (d : Data) → IsPlain (blob_value d)
unfolding blob_value
plain-blob d = subst IsPlain (literal_views.rolls-Blob _ _) (rolled (Literal-F.Blob _ _) tt)

plain-binary : (d : Data) → IsPlain (binary_value d)
unfolding binary_value
plain-binary d = subst IsPlain (literal_views.rolls-Binary _ _) (rolled (Literal-F.Binary _ _) tt)

plain-error : (d : Data) → IsPlain (error_value d)
unfolding error_value
plain-error d = subst IsPlain (literal_views.rolls-Error _ _) (rolled (Literal-F.Error _ _) tt)

plain-union : (of : Data → Literal) (d : Data) → IsPlain (union_by of d)
unfolding union_by
plain-union of d = subst IsPlain (literal_views.rolls-Union _ _) (rolled (Literal-F.Union _ _) tt)

plain-scalar : (ms : Members) → IsPlain (plain_scalar ms)
unfolding plain_scalar
plain-scalar ms =
    either IsPlain (λ d. primitive_by (members_in d)) (member_at (codes "primitive") ms) _
    (always _ _ (λ d. plain-primitive (members_in d)))
    (either IsPlain blob_value (member_at (codes "blob") ms) _ (always _ _ plain-blob)
    (either IsPlain binary_value (member_at (codes "binary") ms) _ (always _ _ plain-binary)
    (either IsPlain error_value (member_at (codes "error") ms) _ (always _ _ plain-error)
    (either IsPlain (λ d. literals.Generic (struct_value d)) (member_at (codes "generic") ms) literals.None
    (always _ _ (λ d. subst IsPlain (literal_views.rolls-Generic (struct_value d))
    (rolled (Literal-F.Generic (struct_value d)) tt)))
    plain-none))))

pub scalar-plain : (of : Data → Literal) (ms : Members) → IsNoContainer (out-Literal (scalar_by of ms))
unfolding scalar_by
scalar-plain of ms =
    either IsPlain (union_by of) (member_at (codes "union") ms) (plain_scalar ms) (always _ _ (plain-union of))
    (plain-scalar ms)

-- ---- what is bound

pub with : {X : Type 0} (P : X → Type 0) (xs : List X) → AllByRecursion P xs → (ys : List ((x : X) × P x)) ×
    (map (λ y. y.0) ys ≡ xs)
with P [] h = ([], refl)
with P (x ∷ xs) h = let rest = with P xs h.1 in ((x, h.0) ∷ rest.0, ap (λ ys. x ∷ ys) rest.1)

pub with_names : {X : Type 0} (P : X → Type 0) (xs : List (Text × X)) → AllByRecursion (λ (x : Text × X). P x.1) xs
    → (ys : List (Text × ((x : X) × P x))) × (map (λ y. (y.0, y.1.0)) ys ≡ xs)
with_names P [] h = ([], refl)
with_names P (x ∷ xs) h = let rest = with_names P xs h.1 in ((x.0, (x.1, h.0)) ∷ rest.0, ap (λ ys. x ∷ ys) rest.1)

form-collection : (xs : List Bound) → AllByRecursion IsBoundInForm xs → IsBoundInForm (bounds.Collection xs)
form-collection xs h =
    let ys = with IsBoundInForm xs h in
    subst IsBoundInForm (bound_views.rolls-Collection xs)
    (every_made-Bound IsBoundLayerInForm (Bound-F.Collection xs) (Bound-F.Collection ys.0)
    (ap Bound-F.Collection ys.1) tt)

form-map : (xs : List (Text × Bound)) → AllByRecursion (λ (x : Text × Bound). IsBoundInForm x.1) xs →
    AreNamesSorted xs
    → IsBoundInForm (bounds.Map xs)
form-map xs h sorted =
    let ys = with_names IsBoundInForm xs h in
    subst IsBoundInForm (bound_views.rolls-Map xs)
    (every_made-Bound IsBoundLayerInForm (Bound-F.Map xs) (Bound-F.Map ys.0) (ap Bound-F.Map ys.1) sorted)

form-scalar : (l : Literal) → IsNoContainer (out-Literal l) → IsBoundInForm (bounds.Scalar l)
form-scalar l p =
    subst IsBoundInForm (bound_views.rolls-Scalar l)
    (every_made-Bound IsBoundLayerInForm (Bound-F.Scalar l) (Bound-F.Scalar l) refl p)

form-promise : (d : Data) → IsBoundInForm (promise_value d)
unfolding promise_value
form-promise d =
    let node = source_node (text_value (field (codes "nodeId") (members_in d))) in
    let var = text_value (field (codes "var") (members_in d)) in
    subst IsBoundInForm (bound_views.rolls-Promise node var)
    (every_made-Bound IsBoundLayerInForm (Bound-F.Promise node var) (Bound-F.Promise node var) refl tt)

form-plain : (ms : Members) → IsBoundInForm (plain_bound ms)
unfolding plain_bound
form-plain ms =
    either IsBoundInForm promise_value (member_at (codes "promise") ms) _ (always _ _ form-promise)
    (form-scalar _ (scalar-plain (literal_at union_depth) (members_in (field (codes "scalar") ms))))

pub member-there : (name : List ℕ) (ms : Members) → AreMembersOrdered ms → WhereSome IsOrdered (member_at name ms)
unfolding member_at
member-there name ms h = there_ordered (field name ms) (field_ordered name ms h)

module _ (of : Data → Bound) (each : (d : Data) → IsOrdered d → IsBoundInForm (of d)) where
  form-elements : (d : Data) → IsOrdered d → IsBoundInForm (bounds.Collection (bound_elements_by of d))
  unfolding bound_elements_by
  form-elements d h =
      let inside = field (codes "bindings") (members_in d) in
      form-collection (map of (items_in inside))
      (all-map IsOrdered IsBoundInForm of each (items_in inside)
      (items_ordered inside (field_ordered (codes "bindings") (members_in d) (members_ordered d h))))

  form-entries : (d : Data) → IsOrdered d → IsBoundInForm (bounds.Map (bound_entries_by of d))
  unfolding bound_entries_by
  form-entries d h =
      let inside = field (codes "bindings") (members_in d) in
      let ordered = field_ordered (codes "bindings") (members_in d) (members_ordered d h) in
      let es = entries_of (members_in inside) in
      form-map (map (λ e. (e.0, of e.1)) es)
      (all-map (λ e. IsOrdered e.1) (λ e. IsBoundInForm e.1) (λ e. (e.0, of e.1)) (λ e. each e.1) es
      (entries_ordered (members_in inside) (members_ordered inside ordered)))
      (subst (IsStrictlySortedBy (slice_cmp nat_cmp)) (sym (fronts-map of es)) (keys_ordered inside ordered))

  form-by : (ms : Members) → AreMembersOrdered ms → IsBoundInForm (bound_by of ms)
  unfolding bound_by
  form-by ms h =
      either IsBoundInForm (λ d. bounds.Collection (bound_elements_by of d)) (member_at (codes "collection") ms) _
      (weaker IsOrdered _ _ form-elements (member-there (codes "collection") ms h))
      (either IsBoundInForm (λ d. bounds.Map (bound_entries_by of d)) (member_at (codes "map") ms) (plain_bound ms)
      (weaker IsOrdered _ _ form-entries (member-there (codes "map") ms h)) (form-plain ms))

bound-form : (n : ℕ) (d : Data) → IsOrdered d → IsBoundInForm (bound_at n d)
unfolding bound_at
bound-form zero d h = form-plain (members_in d)
bound-form (suc n) d h = form-by (bound_at n) (bound-form n) (members_in d) (members_ordered d h)

binding-form : (d : Data) → IsOrdered d → IsBoundInForm (binding_value d).bound
unfolding binding_value
binding-form d h =
    bound-form bound_depth (field (codes "binding") (members_in d)) (field_ordered (codes "binding")
    (members_in d) (members_ordered d h))

-- a list of bindings
pub bindings-form : (d : Data) → IsOrdered d → AreBindingsInForm (list_value binding_value d)
bindings-form d h =
    All-from_recursion (λ (b : Binding). IsBoundInForm b.bound) (list_value binding_value d)
    (all-map IsOrdered (λ (b : Binding). IsBoundInForm b.bound) binding_value binding-form (items_in d)
    (items_ordered d h))
