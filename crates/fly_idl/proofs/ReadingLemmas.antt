-- What a fault says of the bytes, and that a document is read as one value alone.
use Rattle.std.proofs.Common.{◌≡◌, ◌⊎◌, ℕ, ◌<◌, ◌≤◌, List, [], length, codes, Option, Some, None, sym, ap, subst, ◌∙◌, inl, inr, arith}
use Rattle.std.specs.Option.{option_map}
use Rattle.std.specs.Str.{IsUtf8}
use Rattle.serde_json.specs.Data.{Data}
use Rattle.serde_json.specs.Read.{read}
use Rattle.fly_schema.specs.declared.fault.DocFault.{DocFault}
use Rattle.fly_schema.specs.declared.fault.DocKind.TheVariants as kinds
use Rattle.fly_schema.specs.Table.{Forms}
use Rattle.fly_schema.specs.Reports.{report_in, first_report}
use Rattle.fly_idl.specs.Rows.{message_table}
use Rattle.fly_idl.specs.Reading.{document_limit, IsJson, Reads, IsFirstFault, too_large, not_json, broken, no_memory}

pub too_large-fault : (form : Forms) (bytes : List ℕ) (f : DocFault) → document_limit < length bytes
    → (report_in f ≡ (kinds.TooLarge, codes "/")) ⊎ (report_in f ≡ (kinds.NoMemory, [])) → IsFirstFault form bytes f
too_large-fault form bytes f h (inl e) = too_large h e
too_large-fault form bytes f h (inr e) = no_memory e

no_json : (bytes : List ℕ) → (IsUtf8 bytes → read bytes ≡ None) → (d : Data) → IsJson bytes d → ⊥
no_json bytes h d j = let e : None ≡ Some d = sym (h j.utf8) ∙ j.value in cc

pub not_json-fault : (form : Forms) (bytes : List ℕ) (f : DocFault) → length bytes ≤ document_limit
    → (IsUtf8 bytes → read bytes ≡ None)
    → (report_in f ≡ (kinds.NotJson, codes "/")) ⊎ (report_in f ≡ (kinds.NoMemory, [])) → IsFirstFault form bytes f
not_json-fault form bytes f w h (inl e) = not_json w (no_json bytes h) e
not_json-fault form bytes f w h (inr e) = no_memory e

pub one_tree : (bytes : List ℕ) (d e : Data) → read bytes ≡ Some d → read bytes ≡ Some e → d ≡ e
one_tree bytes d e p q = let same : Some d ≡ Some e = sym p ∙ q in cc

-- bytes that break a rule are no document
pub no_document : {A : Type 0} (form : Forms) (of : Data → A) (bytes : List ℕ) (f : DocFault) (value : A)
    → IsFirstFault form bytes f → (f.kind ≡ kinds.NoMemory → ⊥) → Reads form of bytes value → ⊥
no_document form of bytes f value (too_large h e) k r = let w = r.1.within in omega arith
no_document form of bytes f value (not_json w n e) k r = n r.0 r.1.json
no_document form of bytes f value (broken w d j e) k r =
    let same : d ≡ r.0 = one_tree bytes d r.0 j.value r.1.json.value in
    let none : first_report message_table form d ≡ None =
    subst (λ x. first_report message_table form x ≡ None) (sym same) r.1.faultless in
    let clash : Some (report_in f) ≡ None = sym e ∙ none in
    cc
no_document form of bytes f value (no_memory e) k r = k (ap (λ p. p.0) e)

-- a fault that the walk finds
pub found-fault : (form : Forms) (bytes : List ℕ) (f : DocFault) (o : Option DocFault) (d : Data) → length bytes ≤ document_limit
    → IsJson bytes d → o ≡ Some f → option_map report_in o ≡ first_report message_table form d → IsFirstFault form bytes f
found-fault form bytes f o d w j e h = broken w d j (sym h ∙ ap (option_map report_in) e)

-- the bytes are a document of one value
pub one_document : {A : Type 0} (form : Forms) (of : Data → A) (bytes : List ℕ) (a b : A)
    → Reads form of bytes a → Reads form of bytes b → a ≡ b
one_document form of bytes a b r s =
    r.2 ∙ ap of (one_tree bytes r.0 s.0 r.1.json.value s.1.json.value) ∙ sym s.2
