-- Maps of literals and submissions that are read, and in which nothing is found, are sound.
use Rattle.std.proofs.Common.{◌≡◌, inr, ℕ, ◌+◌, ◌<◌, ◌≤◌, ◌^◌, List, [], ◌∷◌, length, Some, None, refl, arith, codes}
use Rattle.std.specs.List.{AllByRecursion, All}
use Rattle.std.proofs.lemmas.List.Elements.{All-from_recursion}
use Rattle.serde_json.specs.Data.{Data}
use Rattle.serde_json.specs.Read.{read}
use Rattle.fly_types.specs.Sound.{IsSoundMap}
use Rattle.fly_docs.specs.declared.submission.Submission.{Submission}
use Rattle.fly_docs.specs.Names.{IsId}
use Rattle.fly_docs.specs.SoundDocuments.{IsSoundSubmission}
use Rattle.fly_schema.specs.declared.table.Level.TheVariants.{Same}
use Rattle.fly_schema.specs.Table.{message, one, optional}
use Rattle.fly_schema.specs.Faults.{fault_of}
use Rattle.fly_schema.specs.Reports.{first_report}
use Rattle.fly_values.specs.Fields.{members_in, field, text_value, items_in}
use Rattle.fly_values.specs.Literals.{literal_map_value}
use Rattle.fly_values.specs.Documents.{submission_value, submissions_value}
use Rattle.fly_idl.specs.Rows.{plain, field_with, id, id_form, submission_number, submission_row, literal_map_number, message_table, literal_map_form, submissions_form}
use Rattle.fly_idl.specs.Reading.{document_limit}
use Rattle.fly_idl.proofs.Ordered.{IsOrdered, members_ordered, field_ordered, items_ordered, ordered-read, all-map}
use Rattle.fly_idl.proofs.Clear.{IsClear, field-clear, required-clear, message-clear, items-clear, text-clear}
use Rattle.fly_idl.proofs.Ids.{id-fits}
use Rattle.fly_idl.proofs.TableRows.{has-submission, has-literal_type, has-union_type, has-literal, has-literal_list, has-literal_map, has-scalar, has-union}
use Rattle.fly_idl.proofs.Form.{unreported}
use Rattle.fly_idl.proofs.Bounded.{IsDataShort, members_short, field_short, items_short, data-short}
use Rattle.fly_idl.proofs.SoundTrees.{both-all}
use Rattle.fly_idl.proofs.SoundLiterals.{map-sound}

-- more than the bytes of any document
abbrev room : ℕ
room = 2 ^ 24 + 1

room-small : room < 2 ^ 63
room-small = omega arith

abbrev IsKept : Data → Type 0
IsKept d = IsDataShort room d × IsOrdered d

kept-read : (bytes : List ℕ) (d : Data) → length bytes ≤ document_limit → read bytes ≡ Some d → IsKept d
kept-read bytes d within e = (data-short room bytes d (omega (arith, within)) e, ordered-read bytes d e)

-- a message of a map, which may be absent, in the table of documents
map-kept : (d : Data) → IsKept d
    → IsClear message_table (record { shape = one; kind = message literal_map_number; level = Same }) 0 d
    → IsSoundMap (literal_map_value d)
map-kept d h e =
    map-sound room room-small message_table has-literal_type has-union_type has-literal has-literal_list
    has-literal_map has-scalar has-union 0 d h e

pub literal_map-sound : (bytes : List ℕ) (d : Data) → length bytes ≤ document_limit → read bytes ≡ Some d
    → first_report message_table literal_map_form d ≡ None → IsSoundMap (literal_map_value d)
literal_map-sound bytes d within was_read e =
    map-kept d (kept-read bytes d within was_read) (inr (unreported (fault_of message_table d literal_map_form 0) e))

-- ---- submissions

abbrev IsNamedAndSound : Submission → Type 0
IsNamedAndSound s = IsId s.name × IsSoundSubmission s

abbrev IsSubmissionRead : Data → Type 0
IsSubmissionRead d =
    IsKept d
    × (fault_of message_table d (record { shape = one; kind = message submission_number; level = Same }) 0 ≡ None)

submission-sound : (d : Data) → IsSubmissionRead d → IsNamedAndSound (submission_value d)
unfolding submission_value
submission-sound d h =
    let ms = members_in d in
    let m = message-clear message_table submission_row submission_number Same 0 d has-submission refl h.1 in
    let name = required-clear message_table ms 0 (plain (codes "name"))
    (record { shape = one; kind = id; level = Same }) refl
    m.parts.0 in
    let inputs = field-clear message_table ms 0 (field_with optional (plain (codes "inputs")) one
    (message literal_map_number) Same)
    refl m.parts.1.0 in (
      id-fits (text_value (field (codes "name") ms)) (text-clear message_table id_form Same 0
          (field (codes "name") ms) name),
      map-kept (field (codes "inputs") ms) (
        field_short room (codes "inputs") ms (members_short room d h.0.0),
        field_ordered (codes "inputs") ms (members_ordered d h.0.1),
      ) inputs,
    )

submissions-kept : (bytes : List ℕ) (d : Data) → length bytes ≤ document_limit → read bytes ≡ Some d
    → first_report message_table submissions_form d ≡ None → AllByRecursion IsNamedAndSound (submissions_value d)
submissions-kept bytes d within was_read e =
    let kept = kept-read bytes d within was_read in
    let items = items_short room d kept.0 in
    all-map IsSubmissionRead IsNamedAndSound submission_value submission-sound (items_in d)
    (both-all IsKept _ (items_in d) (both-all (IsDataShort room) IsOrdered (items_in d) items.1
    (items_ordered d kept.1))
    (items-clear message_table (message submission_number) Same 0 d (inr
    (unreported (fault_of message_table d submissions_form 0) e))))

halves : (ss : List Submission) → AllByRecursion IsNamedAndSound ss
    → AllByRecursion (λ (s : Submission). IsId s.name) ss × AllByRecursion IsSoundSubmission ss
halves [] h = (tt, tt)
halves (s ∷ ss) h = let rest = halves ss h.1 in ((h.0.0, rest.0), (h.0.1, rest.1))

pub submissions-named : (bytes : List ℕ) (d : Data) → length bytes ≤ document_limit → read bytes ≡ Some d
    → first_report message_table submissions_form d ≡ None → All (λ (s : Submission). IsId s.name)
    (submissions_value d)
submissions-named bytes d within was_read e =
    All-from_recursion (λ (s : Submission). IsId s.name) (submissions_value d)
    (halves (submissions_value d) (submissions-kept bytes d within was_read e)).0

pub submissions-sound : (bytes : List ℕ) (d : Data) → length bytes ≤ document_limit → read bytes ≡ Some d
    → first_report message_table submissions_form d ≡ None → All IsSoundSubmission (submissions_value d)
submissions-sound bytes d within was_read e =
    All-from_recursion IsSoundSubmission (submissions_value d)
    (halves (submissions_value d) (submissions-kept bytes d within was_read e)).1
