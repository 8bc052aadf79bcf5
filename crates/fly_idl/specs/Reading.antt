-- Which bytes are a document of which value, and which rule the others break first.
use Rattle.std.specs.Prelude.{◌≡◌, ℕ, ◌^◌, ◌<◌, ◌≤◌, List, [], length, codes, Some, None}
use Rattle.std.specs.List.{All}
use Rattle.std.specs.Str.{IsUtf8}
use Rattle.serde_json.specs.Data.{Data}
use Rattle.serde_json.specs.Read.{read}
pub use Rattle.fly_types.specs.declared.literals.LiteralMap.{LiteralMap}
pub use Rattle.fly_types.specs.declared.said.Said.{Said}
pub use Rattle.fly_docs.specs.declared.workflow.Bundle.{Bundle}
pub use Rattle.fly_docs.specs.declared.submission.Submission.{Submission}
use Rattle.fly_docs.specs.Names.{IsId}
use Rattle.fly_docs.specs.SoundDocuments.{IsSoundSubmission}
use Rattle.fly_schema.specs.declared.fault.DocFault.{DocFault}
use Rattle.fly_schema.specs.declared.fault.DocKind.TheVariants as kinds
use Rattle.fly_schema.specs.Table.{Forms}
use Rattle.fly_schema.specs.Reports.{report_in, first_report}
use Rattle.fly_values.specs.Literals.{literal_map_value}
use Rattle.fly_values.specs.Documents.{bundle_value, submissions_value, error_document_value}
use Rattle.fly_idl.specs.Rows.{message_table, bundle_form, submissions_form, literal_map_form, error_document_form}

-- the most bytes that a document has, 16 MiB
abbrev pub document_limit : ℕ
document_limit = 2 ^ 24

-- the bytes are a JSON text of this value, of at most 127 levels
pub record IsJson (bytes : List ℕ) (d : Data) : Type 0 where
  pub utf8 : IsUtf8 bytes
  pub value : read bytes ≡ Some d

-- ---- what is read

-- the bytes are within the limit, and a JSON text of this value, which breaks no rule of the form
pub record IsFaultless (form : Forms) (bytes : List ℕ) (d : Data) : Type 0 where
  pub within : length bytes ≤ document_limit
  pub json : IsJson bytes d
  pub faultless : first_report message_table form d ≡ None

-- the bytes are a document of this form, and the value is what its JSON value stands for
abbrev pub Reads : {A : Type 0} → Forms → (Data → A) → List ℕ → A → Type 0
Reads form of bytes value = (d : Data) × IsFaultless form bytes d × (value ≡ of d)

abbrev pub ReadsBundle : List ℕ → Bundle → Type 0
ReadsBundle = Reads bundle_form bundle_value

abbrev pub ReadsSubmissions : List ℕ → List Submission → Type 0
ReadsSubmissions = Reads submissions_form submissions_value

-- each has an id as its name
abbrev pub HaveIds : List Submission → Type 0
HaveIds submissions = All (λ (s : Submission). IsId s.name) submissions

-- the inputs of each are sound
abbrev pub HaveSoundInputs : List Submission → Type 0
HaveSoundInputs submissions = All IsSoundSubmission submissions

abbrev pub ReadsLiteralMap : List ℕ → LiteralMap → Type 0
ReadsLiteralMap = Reads literal_map_form literal_map_value

abbrev pub ReadsErrorDocument : List ℕ → Said → Type 0
ReadsErrorDocument = Reads error_document_form error_document_value

-- ---- what is refused

-- the first rule that the bytes break, or want of memory, which has no place
pub data IsFirstFault (form : Forms) (bytes : List ℕ) (f : DocFault) : Type 0 where
  too_large : document_limit < length bytes → report_in f ≡ (kinds.TooLarge, codes "/") → IsFirstFault form bytes f
  not_json : length bytes ≤ document_limit → ((d : Data) → IsJson bytes d → ⊥) → report_in f ≡ (kinds.NotJson, codes "/")
      → IsFirstFault form bytes f
  broken : length bytes ≤ document_limit → (d : Data) → IsJson bytes d → first_report message_table form d ≡ Some (report_in f)
      → IsFirstFault form bytes f
  no_memory : report_in f ≡ (kinds.NoMemory, []) → IsFirstFault form bytes f
