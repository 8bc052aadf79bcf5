-- The text of a type in a line of the compiler's report. It is this project's own.
use Rattle.std.specs.Prelude.{ℕ, zero, suc, if◌then◌else◌, List, [], ◌++◌, codes}
use Rattle.std.specs.List.{join_by}
use Rattle.serde_json.specs.Data.{string}
use Rattle.serde_json.specs.Written.{compact_text}
use Rattle.fly_types.specs.declared.text.Text.{Text}
use Rattle.fly_types.specs.declared.kinds.Simple.{Simple}
use Rattle.fly_types.specs.declared.kinds.Simple.TheVariants as simple
use Rattle.fly_types.specs.declared.kinds.BlobType.{BlobType}
use Rattle.fly_types.specs.declared.kinds.LiteralType.{LiteralType}
use Rattle.fly_types.specs.declared.kinds.LiteralType.TheOpen.{LiteralType-F}
use Rattle.fly_types.specs.declared.kinds.LiteralType.TheFolds.{fold-LiteralType}

-- a text as a JSON text
abbrev pub quoted : Text → Text
quoted text = compact_text (string text)

-- ---- types

abbrev pub simple_text : Simple → Text
simple_text simple.None = codes "NONE"
simple_text simple.Integer = codes "INTEGER"
simple_text simple.Text = codes "STRING"
simple_text simple.Boolean = codes "BOOLEAN"
simple_text simple.Datetime = codes "DATETIME"
simple_text simple.Duration = codes "DURATION"
simple_text simple.Binary = codes "BINARY"
simple_text simple.Error = codes "ERROR"
simple_text simple.Struct = codes "STRUCT"

abbrev pub blob_text : BlobType → Text
blob_text form = codes "blob(" ++ quoted form.format ++ codes "," ++ (if form.multipart then codes "MULTIPART" else codes "SINGLE") ++ codes ")"

-- what stands before the part at a place of a list
abbrev pub separator : ℕ → Text
separator zero = []
separator (suc place) = codes ","

-- the texts of the parts, with commas between them
abbrev pub listed : {X : Type 0} → (X → Text) → List X → Text
listed text parts = join_by text (codes ",") parts

abbrev pub type_text_by : LiteralType-F Text → Text
type_text_by (LiteralType-F.Simple s) = simple_text s
type_text_by (LiteralType-F.Collection element) = codes "[" ++ element ++ codes "]"
type_text_by (LiteralType-F.Map value) = codes "{" ++ value ++ codes "}"
type_text_by (LiteralType-F.Blob form) = blob_text form
type_text_by (LiteralType-F.Enum values) = codes "enum(" ++ listed quoted values ++ codes ")"
type_text_by (LiteralType-F.Union variants) = codes "union(" ++ listed (λ variant. variant) variants ++ codes ")"

abbrev pub text_of_type : LiteralType → Text
text_of_type = fold-LiteralType Text type_text_by
