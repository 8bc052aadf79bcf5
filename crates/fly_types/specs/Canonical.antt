-- The canonical bytes of a value, on which cache keys rest: its tag, then its parts.
use Rattle.std.specs.Prelude.{ℕ, ℤ, Bool, if◌then◌else◌, List, [], ◌∷◌, ◌++◌, map, length}
use Rattle.std.specs.Int.{Width, w32, w64, to_be_bytes, cast_unsigned}
use Rattle.std.specs.List.{concat}
use Rattle.fly_types.specs.declared.kinds.Simple.{Simple}
use Rattle.fly_types.specs.declared.kinds.Simple.TheVariants.{None, Integer, Text, Boolean, Datetime, Duration, Binary, Error, Struct}
use Rattle.fly_types.specs.declared.kinds.BlobType.{BlobType}
use Rattle.fly_types.specs.declared.kinds.LiteralType.{LiteralType}
use Rattle.fly_types.specs.declared.kinds.LiteralType.TheOpen.{LiteralType-F}
use Rattle.fly_types.specs.declared.kinds.LiteralType.TheFolds.{fold-LiteralType}
use Rattle.fly_types.specs.declared.literals.Literal.{Literal}
use Rattle.fly_types.specs.declared.literals.Literal.TheVariants.{Map}
use Rattle.fly_types.specs.declared.literals.Literal.TheOpen.{Literal-F}
use Rattle.fly_types.specs.declared.literals.Literal.TheFolds.{fold-Literal}
use Rattle.fly_types.specs.declared.literals.LiteralMap.{LiteralMap}
use Rattle.fly_types.specs.declared.literals.Tree.{Tree}
use Rattle.fly_types.specs.declared.literals.Tree.TheOpen.{Tree-F}
use Rattle.fly_types.specs.declared.literals.Tree.TheFolds.{fold-Tree}

-- the bytes of a number at a width, the highest first
unfoldable pub number_bytes : Width → ℕ → List ℕ
number_bytes w n = to_be_bytes w n

-- a length or a count in 8 bytes
abbrev pub count_bytes : ℕ → List ℕ
count_bytes n = number_bytes w64 n

-- the bytes of a signed number in two's complement at a width
abbrev pub signed_bytes : Width → ℤ → List ℕ
signed_bytes w value = number_bytes w (cast_unsigned w value)

-- one byte: 1 for true, 0 for false
abbrev pub flag_bytes : Bool → List ℕ
flag_bytes b = (if b then 1 else 0) ∷ []

-- a text or a byte string: its length and its bytes
abbrev pub text_bytes : List ℕ → List ℕ
text_bytes bytes = count_bytes (length bytes) ++ bytes

-- how many parts there are, and their bytes
abbrev pub list_bytes : List (List ℕ) → List ℕ
list_bytes parts = count_bytes (length parts) ++ concat parts

-- a name as a text, and the bytes of what has it
abbrev pub pair_bytes : List ℕ × List ℕ → List ℕ
pair_bytes entry = text_bytes entry.0 ++ entry.1

-- the format as a text, and 1 for several parts
abbrev pub form_bytes : BlobType → List ℕ
form_bytes form = text_bytes form.format ++ flag_bytes form.multipart

-- the numbers of flyteidl's enum `SimpleType`
abbrev pub simple_number : Simple → ℕ
simple_number None = 0
simple_number Integer = 1
simple_number Text = 3
simple_number Boolean = 4
simple_number Datetime = 5
simple_number Duration = 6
simple_number Binary = 7
simple_number Error = 8
simple_number Struct = 9

-- one layer of a type, with the bytes of each part in its place
abbrev pub type_bytes_by : LiteralType-F (List ℕ) → List ℕ
type_bytes_by (LiteralType-F.Simple s) = 0x10 ∷ simple_number s ∷ []
type_bytes_by (LiteralType-F.Collection element) = 0x11 ∷ element
type_bytes_by (LiteralType-F.Map value) = 0x12 ∷ value
type_bytes_by (LiteralType-F.Blob form) = 0x13 ∷ form_bytes form
type_bytes_by (LiteralType-F.Enum values) = 0x14 ∷ list_bytes (map text_bytes values)
type_bytes_by (LiteralType-F.Union variants) = 0x15 ∷ list_bytes variants

-- the bytes of a type
unfoldable pub type_bytes : LiteralType → List ℕ
type_bytes = fold-LiteralType (List ℕ) type_bytes_by

-- one layer of the content of a STRUCT, with the bytes of each part in its place
abbrev pub tree_bytes_by : Tree-F (List ℕ) → List ℕ
tree_bytes_by Tree-F.Null = 0x00 ∷ []
tree_bytes_by (Tree-F.Bool value) = 0x01 ∷ flag_bytes value
tree_bytes_by (Tree-F.Whole value) = 0x02 ∷ signed_bytes w64 value
tree_bytes_by (Tree-F.Text text) = 0x03 ∷ text_bytes text
tree_bytes_by (Tree-F.List trees) = 0x04 ∷ list_bytes trees
tree_bytes_by (Tree-F.Object members) = 0x05 ∷ list_bytes (map pair_bytes members)

-- the bytes of the content of a STRUCT
unfoldable pub tree_bytes : Tree → List ℕ
tree_bytes = fold-Tree (List ℕ) tree_bytes_by

-- one layer of a literal, with the bytes of each literal that it holds in its place
abbrev pub literal_bytes_by : Literal-F (List ℕ) → List ℕ
literal_bytes_by Literal-F.None = 0x01 ∷ []
literal_bytes_by (Literal-F.Integer value) = 0x02 ∷ signed_bytes w64 value
literal_bytes_by (Literal-F.Text text) = 0x03 ∷ text_bytes text
literal_bytes_by (Literal-F.Boolean value) = 0x04 ∷ flag_bytes value
literal_bytes_by (Literal-F.Datetime seconds nanos) = 0x05 ∷ (signed_bytes w64 seconds ++ number_bytes w32 nanos)
literal_bytes_by (Literal-F.Duration seconds nanos) = 0x06 ∷ (signed_bytes w64 seconds ++ signed_bytes w32 nanos)
literal_bytes_by (Literal-F.Blob uri form) = 0x07 ∷ (text_bytes uri ++ form_bytes form)
literal_bytes_by (Literal-F.Binary value tag) = 0x08 ∷ (text_bytes value ++ text_bytes tag)
literal_bytes_by (Literal-F.Error node message) = 0x09 ∷ (text_bytes node ++ text_bytes message)
literal_bytes_by (Literal-F.Generic tree) = 0x0a ∷ tree_bytes tree
literal_bytes_by (Literal-F.Union value variant) = 0x0b ∷ (type_bytes variant ++ value)
literal_bytes_by (Literal-F.Map entries) = 0x0c ∷ list_bytes (map pair_bytes entries)
literal_bytes_by (Literal-F.Collection elements) = 0x0d ∷ list_bytes elements

-- the bytes of a literal
unfoldable pub literal_bytes : Literal → List ℕ
literal_bytes = fold-Literal (List ℕ) literal_bytes_by

-- a member of an object
abbrev pub member_bytes : List ℕ × Tree → List ℕ
member_bytes member = pair_bytes (member.0, tree_bytes member.1)

-- an entry of a map
abbrev pub entry_bytes : List ℕ × Literal → List ℕ
entry_bytes entry = pair_bytes (entry.0, literal_bytes entry.1)

-- those of the map literal with the same entries
abbrev pub map_bytes : LiteralMap → List ℕ
map_bytes m = literal_bytes (Map m.entries)
