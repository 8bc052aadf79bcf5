-- Literals are read back as they were written.
use Rattle.std.proofs.Common.{◌≡◌, ℕ, ◌+◌, ◌≤◌, None, sym, ap, arith}
use Rattle.std.specs.Option.{option_map}
use Rattle.std.proofs.lemmas.List.Elements.{recursion_from_All}
use Rattle.serde_json.specs.Data.{Data}
use Rattle.serde_json.specs.Written.{compact_text}
use Rattle.fly_types.specs.declared.text.Text.{Text}
use Rattle.fly_types.specs.declared.kinds.BlobType.{BlobType}
use Rattle.fly_types.specs.declared.kinds.LiteralType.{LiteralType}
use Rattle.fly_types.specs.declared.literals.Literal.{Literal}
use Rattle.fly_types.specs.declared.literals.LiteralMap.{LiteralMap}
use Rattle.fly_types.specs.Levels.{type_levels, literal_levels}
use Rattle.fly_types.specs.Sound.{IsSound, HasSoundParts, IsSoundMap}
use Rattle.fly_schema.specs.declared.table.Level.TheVariants.{Same, First}
use Rattle.fly_schema.specs.Table.{message, one, Forms}
use Rattle.fly_schema.specs.Reports.{report_of}
use Rattle.fly_schema.specs.Faults.{fault_of, first_fault}
use Rattle.fly_values.specs.Literals.{literal_depth, literal_value, literal_map_value}
use Rattle.fly_writers.specs.Types.{blob_type_json, type_json}
use Rattle.fly_writers.specs.Literals.{literal_json, literal_map_json}
use Rattle.fly_idl.specs.Rows.{blob_type_number, literal_type_number, message_table, literal_map_form}
use Rattle.fly_idl.specs.Reading.{IsFaultless, Reads}
use Rattle.fly_idl.proofs.TableRows.{has-literal_type, has-union_type, has-enum_type, has-blob_type, has-literal, has-literal_list, has-literal_map, has-scalar, has-primitive, has-blob, has-blob_metadata, has-binary, has-error, has-union}
use Rattle.fly_readback.specs.ReadBack.{IsOfBytes, IsMapOfBytes, IsInLimits, literal_form, LiteralsAreReadBack, LiteralMapsAreReadBack}
use Rattle.fly_readback.proofs.Texts.{text-read}
use Rattle.fly_readback.proofs.Plain.{IsPlain, literal-plain, literal_map-plain}
use Rattle.fly_readback.proofs.ReadLiterals.{literal-read, literal_map-read, all-parts}
use Rattle.fly_readback.proofs.ClearTypes as types
use Rattle.fly_readback.proofs.ClearLiterals as literals

-- a text whose value has no fault is a document of what the value stands for
document-read : {A : Type 0} (form : Forms) (of : Data → A) (d : Data) (value : A) → IsPlain d → IsInLimits d
    → first_fault message_table form d ≡ None → of d ≡ value → Reads form of (compact_text d) value
document-read form of d value plain limits clear is =
    let faultless : IsFaultless form (compact_text d) d = record {
      within = limits.within;
      json = record { utf8 = limits.utf8; value = text-read d plain.0 plain.1 limits.levels };
      faultless = ap (option_map report_of) clear;
    } in
    (d, faultless, sym is)

-- ---- nothing is found

kinds-clear : (form : BlobType) (level : ℕ) → level ≤ 16
    → fault_of message_table (blob_type_json form) (record {
      shape = one;
      kind = message blob_type_number;
      level = Same;
    }) level ≡ None
kinds-clear form level h = types.blob-clear message_table has-blob_type form level h

types-clear : (t : LiteralType) (level : ℕ) → type_levels t ≤ 16
    → fault_of message_table (type_json t) (record {
      shape = one;
      kind = message literal_type_number;
      level = First;
    }) level ≡ None
types-clear t level h =
    types.type-clear message_table has-blob_type has-literal_type has-union_type has-enum_type 16 t First level h
    (omega (arith, h))

literals-clear : (k : ℕ) (l : Literal) (level : ℕ) → HasSoundParts l → IsOfBytes l → literal_levels l ≤ k
    → literal_levels l + level ≤ 16 → fault_of message_table (literal_json l) literal_form level ≡ None
literals-clear =
    literals.literal-clear message_table has-scalar has-primitive has-blob has-blob_metadata has-binary has-error
    kinds-clear has-union has-literal has-literal_list has-literal_map types-clear

literal_map-clear : (m : LiteralMap) → IsSoundMap m → IsMapOfBytes m
    → first_fault message_table literal_map_form (literal_map_json m) ≡ None
literal_map-clear m s b =
    let parts = all-parts m.entries (recursion_from_All (λ (e : Text × Literal). IsSound e.1) m.entries s.literals) in
    literals.map-clear message_table has-scalar has-primitive has-blob has-blob_metadata has-binary has-error
    kinds-clear has-union has-literal has-literal_list has-literal_map types-clear 16 (literals-clear 16) m.entries
    Same 0 s.names.1 parts.0 (recursion_from_All (λ (e : Text × Literal). IsOfBytes e.1) m.entries b) parts.1
    (omega (arith, parts.1))

-- ---- the laws

pub literals_are_read_back : LiteralsAreReadBack
literals_are_read_back l s b limits =
    document-read literal_form literal_value (literal_json l) l (literal-plain l s.parts) limits
    (literals-clear 16 l 0 s.parts b s.levels (omega (arith, s.levels)))
    (literal-read literal_depth l s.parts b s.levels)

pub literal_maps_are_read_back : LiteralMapsAreReadBack
literal_maps_are_read_back m s b limits =
    document-read literal_map_form literal_map_value (literal_map_json m) m (literal_map-plain m s) limits
    (literal_map-clear m s b) (literal_map-read m s b)
