-- The JSON of a type stands for that type.
use Rattle.std.proofs.Common.{◌≡◌, ℕ, zero, suc, ◌≤◌, Bool, true, false, List, [], ◌∷◌, map, Some, None, refl, sym, ap, ap₂, subst, ◌∙◌, arith, codes}
use Rattle.serde_json.specs.Data.{Data, string}
use Rattle.fly_types.specs.declared.kinds.Simple.{Simple}
use Rattle.fly_types.specs.declared.kinds.Simple.TheVariants as simples
use Rattle.fly_types.specs.declared.kinds.BlobType.{BlobType}
use Rattle.fly_types.specs.declared.kinds.LiteralType.{LiteralType, roll-LiteralType, out-LiteralType}
use Rattle.fly_types.specs.declared.kinds.LiteralType.TheVariants as types
use Rattle.fly_types.specs.declared.kinds.LiteralType.TheOpen.{LiteralType-F}
use Rattle.fly_types.specs.declared.kinds.LiteralType.TheViews as views
use Rattle.fly_types.specs.declared.kinds.LiteralType.TheFolds.{fold_out-LiteralType, map-LiteralType}
use Rattle.fly_types.specs.Layer.{TypeLayer}
use Rattle.fly_types.specs.Levels.{largest, type_levels}
use Rattle.fly_cast.proofs.Levels.{layer_levels, type_levels-out, type_levels-positive}
use Rattle.fly_values.specs.Fields.{members_in, unless_null, member_at, text_value, is_called, list_value, texts_value}
use Rattle.fly_values.specs.Types.{simple_value, blob_type_value, enum_values, plain_type, variant_values, last_type, type_by, type_at, type_depth, type_value}
use Rattle.fly_writers.specs.Json.{Fields, message}
use Rattle.fly_writers.specs.Types.{simple_name, dimensionality, blob_type_fields, blob_type_json, enum_type_fields, union_type_fields, type_fields_by, type_json_by, type_json}
use Rattle.fly_readback.proofs.Messages.{message-field, message-member, skip, take, text-twice, list-twice, first_both}

-- ---- parts

simple-read : (s : Simple) → simple_value (string (simple_name s)) ≡ s
unfolding simple_value
simple-read simples.None = refl
simple-read simples.Integer = refl
simple-read simples.Text = refl
simple-read simples.Boolean = refl
simple-read simples.Datetime = refl
simple-read simples.Duration = refl
simple-read simples.Binary = refl
simple-read simples.Error = refl
simple-read simples.Struct = refl

multipart-read : (m : Bool) → is_called (codes "MULTIPART") 1 (first_both (dimensionality m)) ≡ m
multipart-read true = refl
multipart-read false = refl

pub blob_type-read : (form : BlobType) → blob_type_value (blob_type_json form) ≡ form
unfolding blob_type_value
blob_type-read form =
    let fs = blob_type_fields form in
    let format = ap text_value (message-field (codes "format") fs refl) ∙ text-twice form.format in
    let multipart = ap (is_called (codes "MULTIPART") 1) (message-field (codes "dimensionality") fs refl)
    ∙ multipart-read form.multipart in
    λ i. record { format = format i; multipart = multipart i }

pub texts-read : (ts : List (List ℕ)) → map text_value (map string ts) ≡ ts
texts-read [] = refl
texts-read (t ∷ ts) = ap (λ rest. t ∷ rest) (texts-read ts)

enum-read : (values : List (List ℕ)) → enum_values (message (enum_type_fields values)) ≡ values
unfolding enum_values
enum-read values =
    ap texts_value (message-field (codes "values") (enum_type_fields values) refl)
    ∙ ap (map text_value) (list-twice (map string values)) ∙ texts-read values

-- ---- one layer

-- the JSON of a type, by the JSON of its parts
abbrev pub of_layer : TypeLayer → Data
of_layer z = type_json_by (map-LiteralType LiteralType Data type_json z)

abbrev fields_of : TypeLayer → Fields
fields_of z = type_fields_by (map-LiteralType LiteralType Data type_json z)

pub type_json-out : (t : LiteralType) → type_json t ≡ of_layer (out-LiteralType t)
unfolding type_json
type_json-out t = fold_out-LiteralType Data type_json_by t

there : (z : TypeLayer) → unless_null (of_layer z) ≡ Some (of_layer z)
there z = refl

pub type-there : (t : LiteralType) → unless_null (type_json t) ≡ Some (type_json t)
type-there t = subst (λ d. unless_null d ≡ Some d) (sym (type_json-out t)) (there (out-LiteralType t))

plain-simple : (s : Simple) → plain_type (members_in (of_layer (LiteralType-F.Simple s))) ≡ types.Simple s
unfolding plain_type
plain-simple s =
    let fs = fields_of (LiteralType-F.Simple s) in
    skip _ _ _ (message-member (codes "blob") fs refl) ∙ skip _ _ _ (message-member (codes "enumType") fs refl)
    ∙ ap types.Simple (ap simple_value (message-field (codes "simple") fs refl) ∙ simple-read s)

plain-blob : (form : BlobType) → plain_type (members_in (of_layer (LiteralType-F.Blob form))) ≡ types.Blob form
unfolding plain_type
plain-blob form =
    let fs = fields_of (LiteralType-F.Blob form) in
    take (λ d. types.Blob (blob_type_value d)) _ (blob_type_json form) _ (message-member (codes "blob") fs refl)
    ∙ ap types.Blob (blob_type-read form)

plain-enum : (values : List (List ℕ)) → plain_type (members_in (of_layer (LiteralType-F.Enum values)))
    ≡ types.Enum values
unfolding plain_type
plain-enum values =
    let fs = fields_of (LiteralType-F.Enum values) in
    skip _ _ _ (message-member (codes "blob") fs refl)
    ∙ take (λ d. types.Enum (enum_values d)) _ (message (enum_type_fields values)) _
    (message-member (codes "enumType") fs refl)
    ∙ ap types.Enum (enum-read values)

-- ---- a type by its parts

module _ (of : Data → LiteralType) where
  no_parts : (fs : Fields) (t : LiteralType) → member_at (codes "collectionType") (members_in (message fs)) ≡ None
      → member_at (codes "mapValueType") (members_in (message fs)) ≡ None
      → member_at (codes "unionType") (members_in (message fs)) ≡ None → plain_type (members_in (message fs)) ≡ t
      → type_by of (members_in (message fs)) ≡ t
  unfolding type_by
  no_parts fs t collection mapped united e = skip _ _ _ collection ∙ skip _ _ _ mapped ∙ skip _ _ _ united ∙ e

  module _ (n : ℕ) (each : (t : LiteralType) → type_levels t ≤ n → of (type_json t) ≡ t) where
    all-read : (ts : List LiteralType) → largest (map type_levels ts) ≤ n → map of (map type_json ts) ≡ ts
    all-read [] h = refl
    all-read (t ∷ ts) h = ap₂ (λ x xs. x ∷ xs) (each t (omega (arith, h))) (all-read ts (omega (arith, h)))

    variants-read : (ts : List LiteralType) → largest (map type_levels ts) ≤ n
        → variant_values of (message (union_type_fields (map type_json ts))) ≡ ts
    unfolding variant_values
    variants-read ts h =
        ap (list_value of) (message-field (codes "variants") (union_type_fields (map type_json ts)) refl)
        ∙ ap (map of) (list-twice (map type_json ts)) ∙ all-read ts h

    pub layer-read : (z : TypeLayer) → layer_levels z ≤ suc n
        → type_by of (members_in (of_layer z)) ≡ roll-LiteralType z
    unfolding type_by
    layer-read (LiteralType-F.Simple s) h =
        let fs = fields_of (LiteralType-F.Simple s) in
        no_parts fs (types.Simple s) (message-member (codes "collectionType") fs refl)
        (message-member (codes "mapValueType") fs refl) (message-member (codes "unionType") fs refl) (plain-simple s)
        ∙ sym (views.rolls-Simple s)
    layer-read (LiteralType-F.Blob form) h =
        let fs = fields_of (LiteralType-F.Blob form) in
        no_parts fs (types.Blob form) (message-member (codes "collectionType") fs refl)
        (message-member (codes "mapValueType") fs refl) (message-member (codes "unionType") fs refl) (plain-blob form)
        ∙ sym (views.rolls-Blob form)
    layer-read (LiteralType-F.Enum values) h =
        let fs = fields_of (LiteralType-F.Enum values) in
        no_parts fs (types.Enum values) (message-member (codes "collectionType") fs refl)
        (message-member (codes "mapValueType") fs refl) (message-member (codes "unionType") fs refl)
        (plain-enum values)
        ∙ sym (views.rolls-Enum values)
    layer-read (LiteralType-F.Collection t) h =
        let fs = fields_of (LiteralType-F.Collection t) in
        take (λ d. types.Collection (of d)) _ (type_json t) _
        (message-member (codes "collectionType") fs refl ∙ type-there t)
        ∙ ap types.Collection (each t (omega (arith, h))) ∙ sym (views.rolls-Collection t)
    layer-read (LiteralType-F.Map t) h =
        let fs = fields_of (LiteralType-F.Map t) in
        skip _ _ _ (message-member (codes "collectionType") fs refl)
        ∙ take (λ d. types.Map (of d)) _ (type_json t) _ (message-member (codes "mapValueType") fs refl ∙ type-there t)
        ∙ ap types.Map (each t (omega (arith, h))) ∙ sym (views.rolls-Map t)
    layer-read (LiteralType-F.Union ts) h =
        let fs = fields_of (LiteralType-F.Union ts) in
        skip _ _ _ (message-member (codes "collectionType") fs refl)
        ∙ skip _ _ _ (message-member (codes "mapValueType") fs refl)
        ∙ take (λ d. types.Union (variant_values of d)) _ (message (union_type_fields (map type_json ts))) _
        (message-member (codes "unionType") fs refl)
        ∙ ap types.Union (variants-read ts (omega (arith, h))) ∙ sym (views.rolls-Union ts)

-- ---- a type without parts

no_variants : (ts : List LiteralType) → largest (map type_levels ts) ≤ 0 → ts ≡ []
no_variants [] h = refl
no_variants (t ∷ ts) h = absurd (omega (arith, h, type_levels-positive t))

last-plain : (fs : Fields) (t : LiteralType) → member_at (codes "unionType") (members_in (message fs)) ≡ None
    → plain_type (members_in (message fs)) ≡ t → last_type (members_in (message fs)) ≡ t
unfolding last_type
last-plain fs t united e = skip _ _ _ united ∙ e

last-read : (z : TypeLayer) → layer_levels z ≤ 1 → last_type (members_in (of_layer z)) ≡ roll-LiteralType z
unfolding last_type
last-read (LiteralType-F.Simple s) h =
    let fs = fields_of (LiteralType-F.Simple s) in
    last-plain fs (types.Simple s) (message-member (codes "unionType") fs refl) (plain-simple s)
    ∙ sym (views.rolls-Simple s)
last-read (LiteralType-F.Blob form) h =
    let fs = fields_of (LiteralType-F.Blob form) in
    last-plain fs (types.Blob form) (message-member (codes "unionType") fs refl) (plain-blob form)
    ∙ sym (views.rolls-Blob form)
last-read (LiteralType-F.Enum values) h =
    let fs = fields_of (LiteralType-F.Enum values) in
    last-plain fs (types.Enum values) (message-member (codes "unionType") fs refl) (plain-enum values)
    ∙ sym (views.rolls-Enum values)
last-read (LiteralType-F.Collection t) h = absurd (omega (arith, h, type_levels-positive t))
last-read (LiteralType-F.Map t) h = absurd (omega (arith, h, type_levels-positive t))
last-read (LiteralType-F.Union ts) h =
    let fs = fields_of (LiteralType-F.Union ts) in
    take (λ d. types.Union []) _ (message (union_type_fields (map type_json ts))) _
    (message-member (codes "unionType") fs refl)
    ∙ ap types.Union (sym (no_variants ts (omega (arith, h)))) ∙ sym (views.rolls-Union ts)

-- ---- any type

read_at : (k : ℕ) (t : LiteralType) → type_levels t ≤ suc k → type_at k (type_json t) ≡ t
unfolding type_at
read_at zero t h =
    ap (λ d. last_type (members_in d)) (type_json-out t)
    ∙ last-read (out-LiteralType t) (omega (arith, h, type_levels-out t)) ∙ views.roll-out-LiteralType t
read_at (suc k) t h =
    ap (λ d. type_by (type_at k) (members_in d)) (type_json-out t)
    ∙ layer-read (type_at k) (suc k) (read_at k) (out-LiteralType t) (omega (arith, h, type_levels-out t))
    ∙ views.roll-out-LiteralType t

-- the JSON of a type of no more levels than a type may have stands for it
pub type-read : (t : LiteralType) → type_levels t ≤ 16 → type_value (type_json t) ≡ t
type-read t h = read_at type_depth t h
