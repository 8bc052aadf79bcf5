-- What a literal becomes where its type is cast to another.
use Rattle.std.specs.Prelude.{◌≡◌, ℕ, zero, suc, ◌+◌, if◌then◌else◌, List, [], ◌∷◌, filter, Option, Some, None, Result, Ok, Err, ⊤}
use Rattle.fly_types.specs.declared.text.Text.{Text}
use Rattle.fly_types.specs.declared.kinds.Simple.TheVariants as simple
use Rattle.fly_types.specs.declared.kinds.LiteralType.{LiteralType, out-LiteralType}
use Rattle.fly_types.specs.declared.kinds.LiteralType.TheOpen.{LiteralType-F}
use Rattle.fly_types.specs.declared.literals.Literal.{Literal, out-Literal}
use Rattle.fly_types.specs.declared.literals.Literal.TheOpen.{Literal-F}
use Rattle.fly_types.specs.declared.literals.Literal.TheVariants as literal
use Rattle.fly_types.specs.Layer.{TypeLayer, LiteralLayer}
use Rattle.fly_types.specs.Same.{same_type}
use Rattle.fly_types.specs.Levels.{type_levels}
use Rattle.fly_cast.specs.declared.conversion.ConvertFault.{ConvertFault}
use Rattle.fly_cast.specs.declared.conversion.ConvertFault.TheVariants as fault
use Rattle.fly_cast.specs.Castable.{is_among, sole_element, is_castable}

-- the converted literal, or the first text in element order that no value of its enum is
abbrev pub Conversion : Type 0
Conversion = Result Literal Text

-- a result, with its value changed
abbrev pub result_map : {X Y E : Type 0} → (X → Y) → Result X E → Result Y E
result_map f (Ok x) = Ok (f x)
result_map f (Err e) = Err e

-- an element's answer before those of the elements behind it
abbrev pub result_ahead_of : {Y E : Type 0} → Result (List Y) E → Result Y E → Result (List Y) E
result_ahead_of rest (Ok y) = result_map (λ ys. y ∷ ys) rest
result_ahead_of rest (Err e) = Err e

-- what each element gives, or the first failure
abbrev pub each_result : {X Y E : Type 0} → (X → Result Y E) → List X → Result (List Y) E
each_result f [] = Ok []
each_result f (x ∷ xs) = result_ahead_of (each_result f xs) (f x)

-- an entry under its name, with what its value gives
abbrev pub entry_result : {X Y E : Type 0} → (X → Result Y E) → Text × X → Result (Text × Y) E
entry_result f entry = result_map (λ value. (entry.0, value)) (f entry.1)

-- the value of a union scalar, from its own variant
abbrev pub conversion_of_value : (Literal → LiteralType → Conversion) → Literal → LiteralLayer → Conversion
conversion_of_value conv l (Literal-F.Union value variant) = conv value variant
conversion_of_value conv l _ = Ok l

-- as a scalar of the variant that takes the literal
abbrev pub conversion_into : (LiteralType → Conversion) → Literal → Option LiteralType → Conversion
conversion_into conv l (Some variant) = result_map (λ value. literal.Union value variant) (conv variant)
conversion_into conv l None = Ok l

-- a collection, each element converted
abbrev pub conversion_of_elements : (Literal → Conversion) → Literal → LiteralLayer → Conversion
conversion_of_elements conv l (Literal-F.Collection elements) =
    result_map literal.Collection (each_result conv elements)
conversion_of_elements conv l _ = Ok l

-- a map, each value converted under its name
abbrev pub conversion_of_entries : (Literal → Conversion) → Literal → LiteralLayer → Conversion
conversion_of_entries conv l (Literal-F.Map entries) = result_map literal.Map (each_result (entry_result conv) entries)
conversion_of_entries conv l _ = Ok l

-- a text stays, where it is a value of the enum
abbrev pub conversion_of_text : List Text → Literal → LiteralLayer → Conversion
conversion_of_text values l (Literal-F.Text text) = if is_among values text then Ok l else Err text
conversion_of_text values l _ = Ok l

-- a literal without parts stays, but that an enum refuses other texts
abbrev pub conversion_of_plain : Literal → TypeLayer → TypeLayer → Conversion
conversion_of_plain l (LiteralType-F.Simple simple.Text) (LiteralType-F.Enum values) =
    conversion_of_text values l (out-Literal l)
conversion_of_plain l _ _ = Ok l

-- the rules for two types that differ, as those of castability; `conv` converts the parts
abbrev pub conversion_by_form : (Literal → LiteralType → LiteralType → Conversion) → Literal → LiteralType
    → LiteralType → TypeLayer → TypeLayer → Conversion
conversion_by_form conv l a b (LiteralType-F.Union variants) _ =
    conversion_of_value (λ value variant. conv value variant b) l (out-Literal l)
conversion_by_form conv l a b _ (LiteralType-F.Union variants) =
    conversion_into (conv l a) l (sole_element (filter (is_castable a) variants))
conversion_by_form conv l a b (LiteralType-F.Collection from) (LiteralType-F.Collection to) =
    conversion_of_elements (λ element. conv element from to) l (out-Literal l)
conversion_by_form conv l a b (LiteralType-F.Map from) (LiteralType-F.Map to) =
    conversion_of_entries (λ value. conv value from to) l (out-Literal l)
conversion_by_form conv l a b from to = conversion_of_plain l from to

-- with so many levels of the two types to go
unfoldable pub conversion_within : ℕ → Literal → LiteralType → LiteralType → Conversion
conversion_within zero l a b = Ok l
conversion_within (suc n) l a b =
    if same_type a b then Ok l else conversion_by_form (conversion_within n) l a b (out-LiteralType a)
    (out-LiteralType b)

-- a literal of type `a` as one of type `b`, to which `a` is castable
unfoldable pub conversion_of : Literal → LiteralType → LiteralType → Conversion
conversion_of l a b = conversion_within (type_levels a + type_levels b) l a b

-- an answer that is this one, or want of memory
abbrev pub IsAnswer : {X : Type 0} → Result X Text → Result X ConvertFault → Type 0
IsAnswer wanted (Ok value) = wanted ≡ Ok value
IsAnswer wanted (Err (fault.EnumOutside text)) = wanted ≡ Err text
IsAnswer wanted (Err fault.NoMemory) = ⊤
