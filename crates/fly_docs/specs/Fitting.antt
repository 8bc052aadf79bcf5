-- Which bindings fit a type. A promise fitting_of where its type casts, and a written value by the rules for plain values.
use Rattle.std.specs.Prelude.{ℕ, zero, suc, Bool, true, false, ◌||◌, filter, is_some}
use Rattle.std.specs.List.{list_all}
use Rattle.fly_types.specs.declared.kinds.LiteralType.{LiteralType, out-LiteralType}
use Rattle.fly_types.specs.declared.kinds.LiteralType.TheOpen.{LiteralType-F}
use Rattle.fly_types.specs.declared.kinds.LiteralType.TheVariants as type
use Rattle.fly_types.specs.Layer.{TypeLayer}
use Rattle.fly_types.specs.Levels.{type_levels}
use Rattle.fly_cast.specs.Castable.{sole_element, is_castable}
use Rattle.fly_cast.specs.Fitting.{fitting_of}
use Rattle.fly_docs.specs.declared.binding.Bound.{Bound, out-Bound}
use Rattle.fly_docs.specs.declared.binding.Bound.TheOpen.{Bound-F}
use Rattle.fly_docs.specs.Layer.{BoundLayer}
use Rattle.fly_docs.specs.Bindings.{Promised, source_node}
use Rattle.fly_docs.specs.NodeInterfaces.{Source, of_type, of_anything}

abbrev pub source_fits : LiteralType → Source → Bool
source_fits t (of_type s) = is_castable s t
source_fits t of_anything = true
source_fits t _ = false

-- The rules: a list of bindings fitting_of a collection type, and a map of bindings a map type, where each part fits; either fitting_of a union of
-- which just one variant takes it. `fit` tells which parts fit, and `source` what promises are of.
abbrev pub bound_form_fits : (Promised → Source) → (Bound → LiteralType → Bool) → Bound → LiteralType → BoundLayer → TypeLayer → Bool
bound_form_fits source fit x t (Bound-F.Promise node var) _ = source_fits t (source (source_node node, var))
bound_form_fits source fit x t (Bound-F.Scalar literal) _ = is_some (fitting_of literal t)
bound_form_fits source fit x t (Bound-F.Collection elements) (LiteralType-F.Collection element) = list_all (λ e. fit e element) elements
bound_form_fits source fit x t (Bound-F.Map entries) (LiteralType-F.Map value) = list_all (λ entry. fit entry.1 value) entries
bound_form_fits source fit x t _ (LiteralType-F.Union variants) = is_some (sole_element (filter (fit x) variants))
bound_form_fits source fit x t _ _ = false

-- with so many levels of the type to go
unfoldable pub bound_fits_within : (Promised → Source) → ℕ → Bound → LiteralType → Bool
bound_fits_within source zero x t = false
bound_fits_within source (suc n) x t = bound_form_fits source (bound_fits_within source n) x t (out-Bound x) (out-LiteralType t)

-- what is bound may go where a value of the type is wanted: each rule goes down a level of the type
unfoldable pub bound_fits : (Promised → Source) → Bound → LiteralType → Bool
bound_fits source x t = bound_fits_within source (type_levels t) x t

-- ---- arrays

-- The input of an array is mapped, one element to each item, where what is bound to it fitting_of a list of its type.
abbrev pub is_mapped : (Promised → Source) → Bound → LiteralType → Bool
is_mapped source x t = bound_fits source x (type.Collection t)

-- mapped, or else repeated for each item
abbrev pub array_input_fits : (Promised → Source) → Bound → LiteralType → Bool
array_input_fits source x t = is_mapped source x t || bound_fits source x t
