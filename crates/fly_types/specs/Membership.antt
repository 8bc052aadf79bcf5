-- Which literals are of a type, by cases on the type: flyteidl's `LiteralType` (core/types.proto) and `Literal` (core/literals.proto).
use Rattle.std.specs.Prelude.{◌≡◌, ◌⊎◌, List, [], ◌∷◌, Option, Some, None}
use Rattle.std.specs.List.{All, Contains}
use Rattle.fly_types.specs.declared.kinds.Simple.{Simple}
use Rattle.fly_types.specs.declared.kinds.Simple.TheVariants as simple
use Rattle.fly_types.specs.declared.kinds.BlobType.{BlobType}
use Rattle.fly_types.specs.declared.kinds.LiteralType.{LiteralType}
use Rattle.fly_types.specs.declared.kinds.LiteralType.TheOpen.{LiteralType-F}
use Rattle.fly_types.specs.declared.kinds.LiteralType.TheFolds.{rec-LiteralType}
use Rattle.fly_types.specs.declared.literals.Literal.{Literal, out-Literal}
use Rattle.fly_types.specs.declared.literals.Literal.TheOpen.{Literal-F}
use Rattle.fly_types.specs.declared.text.Text.{Text}
use Rattle.fly_types.specs.Layer.{LiteralLayer}

-- the simple type of a scalar that has one
abbrev pub simple_type : LiteralLayer → Option Simple
simple_type Literal-F.None = Some simple.None
simple_type (Literal-F.Integer value) = Some simple.Integer
simple_type (Literal-F.Text text) = Some simple.Text
simple_type (Literal-F.Boolean value) = Some simple.Boolean
simple_type (Literal-F.Datetime seconds nanos) = Some simple.Datetime
simple_type (Literal-F.Duration seconds nanos) = Some simple.Duration
simple_type (Literal-F.Binary value tag) = Some simple.Binary
simple_type (Literal-F.Error node message) = Some simple.Error
simple_type (Literal-F.Generic tree) = Some simple.Struct
simple_type _ = None

-- a collection whose elements all have the property
abbrev pub IsCollectionOf : (Literal → Type 0) → LiteralLayer → Type 0
IsCollectionOf P (Literal-F.Collection elements) = All P elements
IsCollectionOf P _ = ⊥

-- a map whose values all have the property
abbrev pub IsMapOf : (Literal → Type 0) → LiteralLayer → Type 0
IsMapOf P (Literal-F.Map entries) = All (λ entry. P entry.1) entries
IsMapOf P _ = ⊥

-- a blob of exactly this form
abbrev pub IsBlobOf : BlobType → LiteralLayer → Type 0
IsBlobOf form (Literal-F.Blob uri its_form) = its_form ≡ form
IsBlobOf form _ = ⊥

-- a text among the values of an enum
abbrev pub IsTextAmong : List Text → LiteralLayer → Type 0
IsTextAmong values (Literal-F.Text text) = Contains values text
IsTextAmong values _ = ⊥

-- a union scalar whose variant and value stand in the relation
abbrev pub IsUnionWhere : (LiteralType → Literal → Type 0) → LiteralLayer → Type 0
IsUnionWhere R (Literal-F.Union value variant) = R variant value
IsUnionWhere R _ = ⊥

-- the property holds of some element
abbrev pub Some_of : {X : Type 0} → (X → Type 0) → List X → Type 0
Some_of P [] = ⊥
Some_of P (x ∷ xs) = P x ⊎ Some_of P xs

-- One layer of a type. X stands for the parts of the type, `type` gives each part as a type, and `IsOf` says which literals are of it.
abbrev pub IsMemberBy : (X : Type 0) → (X → LiteralType) → (X → Literal → Type 0) → LiteralType-F X → Literal → Type 0
IsMemberBy X type IsOf (LiteralType-F.Simple s) l = simple_type (out-Literal l) ≡ Some s
IsMemberBy X type IsOf (LiteralType-F.Collection element) l = IsCollectionOf (IsOf element) (out-Literal l)
IsMemberBy X type IsOf (LiteralType-F.Map value) l = IsMapOf (IsOf value) (out-Literal l)
IsMemberBy X type IsOf (LiteralType-F.Blob form) l = IsBlobOf form (out-Literal l)
IsMemberBy X type IsOf (LiteralType-F.Enum values) l = IsTextAmong values (out-Literal l)
IsMemberBy X type IsOf (LiteralType-F.Union variants) l =
    IsUnionWhere (λ variant value. Some_of (λ v. (variant ≡ type v) × IsOf v value) variants) (out-Literal l)

-- the literal is of the type
abbrev pub IsMember : LiteralType → Literal → Type 0
IsMember = rec-LiteralType (Literal → Type 0) IsMemberBy

-- the variant is one of these types, and the value is of it
abbrev pub IsVariant : List LiteralType → LiteralType → Literal → Type 0
IsVariant types variant value = Some_of (λ t. (variant ≡ t) × IsMember t value) types
