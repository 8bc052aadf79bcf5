-- The test of membership decides membership.
use Rattle.std.proofs.Common.{◌≡◌, ℕ, zero, suc, ◌+◌, ◌≤◌, Bool, false, ◌&&◌, List, [], ◌∷◌, Some, map, refl, sym, subst, arith}
use Rattle.std.specs.Bool.{Decides}
use Rattle.std.specs.Str.{bytes_eq}
use Rattle.std.specs.Coded.{coded_option}
use Rattle.std.specs.List.{Contains, list_all, list_any}
use Rattle.std.proofs.lemmas.Bool.Decides.{Decides-and, Decides-or, Decides-by_and, Decides-by_or, Decides-like}
use Rattle.std.proofs.lemmas.List.Elements.{Decides-contains}
use Rattle.std.proofs.lemmas.Slice.Eq.{bytes_eq-Decides}
use Rattle.fly_types.specs.declared.text.Text.{Text}
use Rattle.fly_types.specs.declared.kinds.BlobType.{BlobType}
use Rattle.fly_types.specs.declared.kinds.LiteralType.{LiteralType, out-LiteralType}
use Rattle.fly_types.specs.declared.kinds.LiteralType.TheOpen.{LiteralType-F}
use Rattle.fly_types.specs.declared.literals.Literal.{Literal, out-Literal}
use Rattle.fly_types.specs.declared.literals.Literal.TheOpen.{Literal-F}
use Rattle.fly_types.specs.contracts.kinds.Simple as simple
use Rattle.fly_types.specs.contracts.kinds.BlobType as blob
use Rattle.fly_types.specs.Layer.{TypeLayer, LiteralLayer}
use Rattle.fly_types.proofs.SameLemmas.{equal-Decides}
use Rattle.fly_types.specs.Same.{same_type}
use Rattle.fly_types.proofs.SameLemmas.{same_type-Decides}
use Rattle.fly_types.specs.Levels.{type_levels, largest}
use Rattle.fly_types.specs.Membership.{IsMember, IsCollectionOf, IsMapOf, IsBlobOf, IsTextAmong, IsUnionWhere, IsVariant, simple_type}
use Rattle.fly_types.proofs.Member.{IsMemberAt, IsMember-out}
use Rattle.fly_cast.specs.Castable.{is_among}
use Rattle.fly_cast.specs.Fitting.{is_collection_of, is_map_of, is_blob_of, is_text_among, is_union_where, is_of_layer, is_of_within, is_of}
use Rattle.fly_cast.proofs.Levels.{layer_levels, type_levels-out, type_levels-positive}

pub is_among-Decides : (values : List Text) (text : Text) → Decides (is_among values text) (Contains values text)
is_among-Decides values text =
    Decides-contains values text (is_among values text)
    (Decides-by_or (bytes_eq text) (λ v. v ≡ text) (list_any (bytes_eq text))
    (λ v. Decides-like (bytes_eq text v) sym sym (bytes_eq-Decides text v)) refl (λ _ _. refl) values)

pub never : {P : Type 0} → (P → ⊥) → Decides false P
never n = (λ e. cc, λ p. absurd (n p))

collection : (test : Literal → Bool) (P : Literal → Type 0) → ((l : Literal) → Decides (test l) (P l))
    → (m : LiteralLayer)
    → Decides (is_collection_of test m) (IsCollectionOf P m)
collection test P each (Literal-F.Collection elements) =
    Decides-by_and test P (list_all test) each refl (λ _ _. refl) elements
collection test P each _ = never (λ h. h)

entries : (test : Literal → Bool) (P : Literal → Type 0) → ((l : Literal) → Decides (test l) (P l)) → (m : LiteralLayer)
    → Decides (is_map_of test m) (IsMapOf P m)
entries test P each (Literal-F.Map es) =
    Decides-by_and (λ e. test e.1) (λ e. P e.1) (list_all (λ e. test e.1)) (λ e. each e.1) refl (λ _ _. refl) es
entries test P each _ = never (λ h. h)

blob_of : (form : BlobType) (m : LiteralLayer) → Decides (is_blob_of form m) (IsBlobOf form m)
blob_of form (Literal-F.Blob uri its_form) = equal-Decides blob.the_row.coded its_form form
blob_of form _ = never (λ h. h)

text_among : (values : List Text) (m : LiteralLayer) → Decides (is_text_among values m) (IsTextAmong values m)
text_among values (Literal-F.Text text) = is_among-Decides values text
text_among values _ = never (λ h. h)

-- ---- at types of so many levels

abbrev DecidesWithin : ℕ → (LiteralType → Literal → Bool) → Type 0
DecidesWithin n test = (t : LiteralType) (l : Literal) → type_levels t ≤ n → Decides (test t l) (IsMember t l)

variant : (n : ℕ) (test : LiteralType → Literal → Bool) → DecidesWithin n test
    → (its : LiteralType) (value : Literal) (ts : List LiteralType)
    → largest (map type_levels ts) ≤ n
    → Decides (list_any (λ t. same_type its t && test t value) ts) (IsVariant ts its value)
variant n test d its value [] le = never (λ h. h)
variant n test d its value (t ∷ ts) le =
    Decides-or (same_type its t && test t value) (list_any (λ t. same_type its t && test t value) ts)
    (Decides-and (same_type its t) (test t value) (same_type-Decides its t) (d t value (omega arith)))
    (variant n test d its value ts (omega arith))

union : (n : ℕ) (test : LiteralType → Literal → Bool) → DecidesWithin n test
    → (ts : List LiteralType) (m : LiteralLayer)
    → largest (map type_levels ts) ≤ n
    → Decides (is_union_where (λ its value. list_any (λ t. same_type its t && test t value) ts) m)
    (IsUnionWhere (λ its value. IsVariant ts its value) m)
union n test d ts (Literal-F.Union value its) le = variant n test d its value ts le
union n test d ts _ le = never (λ h. h)

layer : (n : ℕ) (test : LiteralType → Literal → Bool) → DecidesWithin n test → (p : TypeLayer) (l : Literal)
    → layer_levels p ≤ n + 1
    → Decides (is_of_layer test p (out-Literal l)) (IsMemberAt p l)
layer n test d (LiteralType-F.Simple s) l le =
    equal-Decides (coded_option simple.the_row.coded) (simple_type (out-Literal l)) (Some s)
layer n test d (LiteralType-F.Collection t) l le =
    let low : type_levels t ≤ n = omega arith in collection (test t) (IsMember t) (λ e. d t e low) (out-Literal l)
layer n test d (LiteralType-F.Map t) l le =
    let low : type_levels t ≤ n = omega arith in entries (test t) (IsMember t) (λ e. d t e low) (out-Literal l)
layer n test d (LiteralType-F.Blob form) l le = blob_of form (out-Literal l)
layer n test d (LiteralType-F.Enum values) l le = text_among values (out-Literal l)
layer n test d (LiteralType-F.Union ts) l le = union n test d ts (out-Literal l) (omega arith)

within : (n : ℕ) → DecidesWithin n (is_of_within n)
unfolding is_of_within
within zero t l le = absurd (omega (arith, type_levels-positive t))
within (suc n) t l le =
    subst (λ (P : Literal → Type 0). Decides (is_of_within (suc n) t l) (P l)) (sym (IsMember-out t))
    (layer n (is_of_within n) (within n) (out-LiteralType t) l (omega (arith, type_levels-out t)))

-- the test is true exactly of the members
pub is_of-Decides : (t : LiteralType) (l : Literal) → Decides (is_of t l) (IsMember t l)
unfolding is_of
is_of-Decides t l = within (type_levels t) t l (omega arith)
