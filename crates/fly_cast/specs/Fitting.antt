-- How a plain value, which carries no variants, goes where a type is wanted.
use Rattle.std.specs.Prelude.{Bool, false, ◌&&◌, ◌≡◌, ℕ, zero, suc, if◌then◌else◌, List, [], ◌∷◌, filter, Option, Some, None, is_some, option_map, option_and_then, Result, Ok, Err, ⊤}
use Rattle.std.specs.Coded.{coded_option}
use Rattle.std.specs.List.{list_all, list_any}
use Rattle.fly_types.specs.declared.text.Text.{Text}
use Rattle.fly_types.specs.declared.kinds.Simple.{Simple}
use Rattle.fly_types.specs.declared.kinds.BlobType.{BlobType}
use Rattle.fly_types.specs.contracts.kinds.Simple as simple
use Rattle.fly_types.specs.contracts.kinds.BlobType as blob
use Rattle.fly_types.specs.declared.kinds.LiteralType.{LiteralType, out-LiteralType}
use Rattle.fly_types.specs.declared.kinds.LiteralType.TheOpen.{LiteralType-F}
use Rattle.fly_types.specs.declared.literals.Literal.{Literal, out-Literal}
use Rattle.fly_types.specs.declared.literals.Literal.TheOpen.{Literal-F}
use Rattle.fly_types.specs.declared.literals.Literal.TheVariants as literal
use Rattle.fly_types.specs.Layer.{TypeLayer, LiteralLayer}
use Rattle.fly_types.specs.Levels.{type_levels}
use Rattle.fly_types.specs.Same.{equal}
use Rattle.fly_types.specs.Same.{same_type}
use Rattle.fly_types.specs.Membership.{simple_type}
use Rattle.fly_cast.specs.declared.fitting.FitFault.{FitFault}
use Rattle.fly_cast.specs.declared.fitting.FitFault.TheVariants as fault
use Rattle.fly_cast.specs.Castable.{is_among, sole_element}

-- ---- whether a literal is of a type, as a test

-- a scalar of this simple type
abbrev pub is_scalar_of : Simple → LiteralLayer → Bool
is_scalar_of s m = equal (coded_option simple.the_row.coded) (simple_type m) (Some s)

-- a collection whose elements all pass
abbrev pub is_collection_of : (Literal → Bool) → LiteralLayer → Bool
is_collection_of test (Literal-F.Collection elements) = list_all test elements
is_collection_of test _ = false

-- a map whose values all pass
abbrev pub is_map_of : (Literal → Bool) → LiteralLayer → Bool
is_map_of test (Literal-F.Map entries) = list_all (λ entry. test entry.1) entries
is_map_of test _ = false

-- a blob of exactly this form
abbrev pub is_blob_of : BlobType → LiteralLayer → Bool
is_blob_of form (Literal-F.Blob uri its_form) = equal blob.the_row.coded its_form form
is_blob_of form _ = false

-- a text among the values of an enum
abbrev pub is_text_among : List Text → LiteralLayer → Bool
is_text_among values (Literal-F.Text text) = is_among values text
is_text_among values _ = false

-- a union scalar whose variant and value pass
abbrev pub is_union_where : (LiteralType → Literal → Bool) → LiteralLayer → Bool
is_union_where test (Literal-F.Union value variant) = test variant value
is_union_where test _ = false

-- one layer of a type; `test` tells whether a literal is of a part
abbrev pub is_of_layer : (LiteralType → Literal → Bool) → TypeLayer → LiteralLayer → Bool
is_of_layer test (LiteralType-F.Simple s) m = is_scalar_of s m
is_of_layer test (LiteralType-F.Collection element) m = is_collection_of (test element) m
is_of_layer test (LiteralType-F.Map value) m = is_map_of (test value) m
is_of_layer test (LiteralType-F.Blob form) m = is_blob_of form m
is_of_layer test (LiteralType-F.Enum values) m = is_text_among values m
is_of_layer test (LiteralType-F.Union variants) m =
    is_union_where (λ variant value. list_any (λ t. same_type variant t && test t value) variants) m

-- with so many levels of the type to go
unfoldable pub is_of_within : ℕ → LiteralType → Literal → Bool
is_of_within zero t l = false
is_of_within (suc n) t l = is_of_layer (is_of_within n) (out-LiteralType t) (out-Literal l)

-- the literal is of the type
unfoldable pub is_of : LiteralType → Literal → Bool
is_of t l = is_of_within (type_levels t) t l

-- ---- fitting

-- the value of each element, where each has one
abbrev pub each_value : {X Y : Type 0} → (X → Option Y) → List X → Option (List Y)
each_value f [] = Some []
each_value f (x ∷ xs) = option_and_then (λ y. option_map (λ ys. y ∷ ys) (each_value f xs)) (f x)

-- an entry under its name, with the value of its value
abbrev pub entry_value : {X Y : Type 0} → (X → Option Y) → Text × X → Option (Text × Y)
entry_value f entry = option_map (λ value. (entry.0, value)) (f entry.1)

-- a collection, each element fitted
abbrev pub fitting_of_elements : (Literal → Option Literal) → LiteralLayer → Option Literal
fitting_of_elements fit (Literal-F.Collection elements) = option_map literal.Collection (each_value fit elements)
fitting_of_elements fit _ = None

-- a map, each value fitted under its name
abbrev pub fitting_of_entries : (Literal → Option Literal) → LiteralLayer → Option Literal
fitting_of_entries fit (Literal-F.Map entries) = option_map literal.Map (each_value (entry_value fit) entries)
fitting_of_entries fit _ = None

-- as a scalar of the one variant that it fits
abbrev pub fitting_into_one : (LiteralType → Option Literal) → List LiteralType → Option Literal
fitting_into_one fit variants =
    option_and_then (λ variant. option_map (λ value. literal.Union value variant) (fit variant))
    (sole_element (filter (λ variant. is_some (fit variant)) variants))

-- a union scalar says its variant, so that it goes into no other
abbrev pub fitting_into_union : (LiteralType → Option Literal) → List LiteralType → LiteralLayer → Option Literal
fitting_into_union fit variants (Literal-F.Union value variant) = None
fitting_into_union fit variants _ = fitting_into_one fit variants

-- the rules for a literal that is not of the type; `fit` fits the parts
abbrev pub fitting_by_form : (Literal → LiteralType → Option Literal) → Literal → TypeLayer → Option Literal
fitting_by_form fit l (LiteralType-F.Union variants) = fitting_into_union (fit l) variants (out-Literal l)
fitting_by_form fit l (LiteralType-F.Collection element) = fitting_of_elements (λ e. fit e element) (out-Literal l)
fitting_by_form fit l (LiteralType-F.Map value) = fitting_of_entries (λ e. fit e value) (out-Literal l)
fitting_by_form fit l _ = None

-- with so many levels of the type to go
unfoldable pub fitting_within : ℕ → Literal → LiteralType → Option Literal
fitting_within zero l t = None
fitting_within (suc n) l t = if is_of t l then Some l else fitting_by_form (fitting_within n) l (out-LiteralType t)

-- the literal as one of the type; None where it does not fit
unfoldable pub fitting_of : Literal → LiteralType → Option Literal
fitting_of l t = fitting_within (type_levels t) l t

-- an answer that is this one, or want of memory
abbrev pub IsFitted : {X : Type 0} → Option X → Result X FitFault → Type 0
IsFitted wanted (Ok value) = wanted ≡ Some value
IsFitted wanted (Err fault.DoesNotFit) = wanted ≡ None
IsFitted wanted (Err fault.NoMemory) = ⊤
