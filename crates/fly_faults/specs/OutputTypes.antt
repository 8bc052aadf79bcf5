-- Types of outputs as they are kept: those of an array are not built.
use Rattle.std.specs.Prelude.{Bool, if◌then◌else◌, [], ◌∷◌}
use Rattle.fly_types.specs.declared.kinds.LiteralType.{LiteralType}
use Rattle.fly_types.specs.declared.kinds.LiteralType.TheVariants as type
use Rattle.fly_types.specs.declared.kinds.Simple.TheVariants as simple
use Rattle.fly_docs.specs.NodeInterfaces.{Source, of_type, of_anything, no_node, no_variable}
use Rattle.fly_faults.specs.declared.output_type.OutputType.{OutputType}
use Rattle.fly_faults.specs.declared.output_type.OutputType.TheVariants as output
use Rattle.fly_faults.specs.declared.output_type.Origin.{Origin}
use Rattle.fly_faults.specs.declared.output_type.Origin.TheVariants as origin

-- a value of the type, or of NONE
abbrev pub optional : LiteralType → LiteralType
optional t = type.Union (t ∷ type.Simple simple.None ∷ [])

-- an item's output of the type, which an item may lack
abbrev pub item_type : Bool → LiteralType → LiteralType
item_type may_lack t = if may_lack then optional t else t

-- the type
abbrev pub type_of_output : OutputType → LiteralType
type_of_output (output.Plain t) = t.now
type_of_output (output.Items t may_lack) = type.Collection (item_type may_lack t.now)

-- what a promise is of
abbrev pub source_of_origin : Origin → Source
source_of_origin (origin.Output t) = of_type (type_of_output t)
source_of_origin origin.Anything = of_anything
source_of_origin origin.NoNode = no_node
source_of_origin origin.NoVariable = no_variable

-- the list of the items' outputs
abbrev pub list_of_items : Bool → LiteralType → LiteralType
list_of_items may_lack t = type.Collection (item_type may_lack t)
