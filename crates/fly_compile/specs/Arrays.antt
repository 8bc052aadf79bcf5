-- The inputs of an array by its bindings.
use Rattle.std.specs.Prelude.{Bool, true, not, List, Option, Some, None}
use Rattle.fly_types.specs.declared.kinds.LiteralType.{LiteralType}
use Rattle.fly_types.specs.declared.variable.Variable.{Variable}
use Rattle.fly_docs.specs.declared.binding.Binding.{Binding}
use Rattle.fly_docs.specs.declared.binding.Bound.{Bound}
use Rattle.fly_docs.specs.Bindings.{Promised}
use Rattle.fly_docs.specs.Fitting.{is_mapped}
use Rattle.fly_docs.specs.Interfaces.{type_of}
use Rattle.fly_docs.specs.NodeInterfaces.{Source}

-- the test of what is bound to a variable, which holds where there is none
abbrev pub holds_of : (Bound → LiteralType → Bool) → Bound → Option LiteralType → Bool
holds_of test x None = true
holds_of test x (Some t) = test x t

abbrev pub holds_of_variable : (Bound → LiteralType → Bool) → List Variable → Binding → Bool
holds_of_variable test variables x = holds_of test x.bound (type_of x.var variables)

-- the input is repeated for each item
abbrev pub is_unmapped : (Promised → Source) → Bound → LiteralType → Bool
is_unmapped source x t = not (is_mapped source x t)
