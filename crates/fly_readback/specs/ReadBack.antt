-- What was written of a value is read as that value.
use Rattle.std.specs.Prelude.{◌<◌, ◌≤◌, length, ⊤}
use Rattle.std.specs.List.{All}
use Rattle.std.specs.Str.{IsUtf8}
use Rattle.serde_json.specs.Data.{Data, depth}
use Rattle.serde_json.specs.Read.{max_depth}
use Rattle.serde_json.specs.Written.{compact_text}
use Rattle.fly_types.specs.declared.text.Text.{Text}
use Rattle.fly_types.specs.declared.literals.Literal.{Literal}
use Rattle.fly_types.specs.declared.literals.Literal.TheOpen.{Literal-F}
use Rattle.fly_types.specs.declared.literals.Literal.TheFolds.{every-Literal}
use Rattle.fly_types.specs.declared.literals.LiteralMap.{LiteralMap}
use Rattle.fly_types.specs.Layer.{LiteralLayer}
use Rattle.fly_types.specs.Sound.{IsSound, IsSoundMap}
use Rattle.fly_schema.specs.declared.table.Level.TheVariants.{Same}
use Rattle.fly_schema.specs.Table.{message, one, Forms}
use Rattle.fly_values.specs.Literals.{literal_value}
use Rattle.fly_writers.specs.Literals.{literal_json, literal_text, literal_map_json, literal_map_text}
use Rattle.fly_idl.specs.Rows.{literal_number}
use Rattle.fly_idl.specs.Reading.{document_limit, Reads, ReadsLiteralMap}

-- the content of a binary is bytes
abbrev pub IsLayerOfBytes : LiteralLayer → Type 0
IsLayerOfBytes (Literal-F.Binary value tag) = All (λ b. b < 256) value
IsLayerOfBytes _ = ⊤

-- the content of each binary within is bytes
abbrev pub IsOfBytes : Literal → Type 0
IsOfBytes = every-Literal IsLayerOfBytes

abbrev pub IsMapOfBytes : LiteralMap → Type 0
IsMapOfBytes m = All (λ (e : Text × Literal). IsOfBytes e.1) m.entries

-- the text of the value is one of a document: UTF-8, within the limit, and of at most 127 levels
pub record IsInLimits (d : Data) : Type 0 where
  pub utf8 : IsUtf8 (compact_text d)
  pub within : length (compact_text d) ≤ document_limit
  pub levels : depth d ≤ max_depth

-- the form of a literal that is a document
abbrev pub literal_form : Forms
literal_form = record { shape = one; kind = message literal_number; level = Same }

-- the text of a sound literal is a document of it, where it is within the limits of documents
abbrev pub LiteralsAreReadBack : Type 0
LiteralsAreReadBack =
    (l : Literal) → IsSound l → IsOfBytes l → IsInLimits (literal_json l)
    → Reads literal_form literal_value (literal_text l) l

-- the same of literals by name
abbrev pub LiteralMapsAreReadBack : Type 0
LiteralMapsAreReadBack =
    (m : LiteralMap) → IsSoundMap m → IsMapOfBytes m → IsInLimits (literal_map_json m)
    → ReadsLiteralMap (literal_map_text m) m
