-- What files that are told hold is one thing, and so is what is read in it.
use Rattle.std.proofs.Common.{◌≡◌, ◌≢◌, ◌⊎◌, ℕ, List, [], Option, Some, None, subst, refl, sym, ap, ◌∙◌, inl, inr, arith}
use Rattle.fly_ports.specs.Files.{Contents, Lacks}
use Rattle.fly_docs.specs.declared.closure.Closure.{Closure}
use Rattle.fly_docs.specs.declared.submission.Submission.{Submission}
use Rattle.fly_docs.specs.Closures.{closure_of}
use Rattle.serde_json.specs.Data.{Data}
use Rattle.fly_schema.specs.declared.fault.DocKind.{DocKind}
use Rattle.fly_schema.specs.declared.fault.DocKind.TheVariants as kinds
use Rattle.fly_schema.specs.declared.fault.DocFault.{DocFault}
use Rattle.fly_schema.specs.Reports.{first_report}
use Rattle.fly_schema.specs.Table.{Forms}
use Rattle.fly_values.specs.Documents.{bundle_value, submissions_value}
use Rattle.fly_idl.specs.Rows.{message_table, bundle_form, submissions_form}
use Rattle.fly_idl.specs.Reading.{IsJson, Reads, IsFirstFault, too_large, not_json, broken, no_memory}
use Rattle.fly_faults.specs.FaultList.{faults_of}
use Rattle.fly_app.specs.Outside.{IsContent, IsTold, IsAbsent}
use Rattle.fly_app.specs.Documents.{bundle_word, IsClosureAt, AreSubmissionsAt, HasDocumentFault, HasBundleFaults}

-- ---- files

-- of files that are told, one is there or none
pub one_content : (contents : Option Contents) (path f g : List ℕ) → IsTold contents → IsContent contents path f
    → IsContent contents path g → f ≡ g
one_content contents path f g told a b =
    let first : told.0 path ≡ Some f = rw told.1 at a in
    let second : told.0 path ≡ Some g = rw told.1 at b in
    let both : Some f ≡ Some g = sym first ∙ second in cc both

pub not_lacking : (contents : Option Contents) (path file : List ℕ) → IsTold contents → IsContent contents path file
    → Lacks contents path → ⊥
not_lacking contents path file told there lacks =
    let some : told.0 path ≡ Some file = rw told.1 at there in
    let none : told.0 path ≡ None = rw told.1 at lacks in
    let both : Some file ≡ None = sym some ∙ none in cc both

pub absent_told : (contents : Option Contents) (path : List ℕ) → IsAbsent contents path → IsTold contents
absent_told contents path absent = (absent.0, absent.1)

pub absent_lacks : (contents : Option Contents) (path file : List ℕ) → IsAbsent contents path
    → IsContent contents path file → ⊥
absent_lacks contents path file absent there =
    let some : absent.0 path ≡ Some file = rw absent.1 at there in
    let both : Some file ≡ None = sym some ∙ absent.2 in cc both

-- what lacks a file is told to lack it
pub told_absent : (contents : Option Contents) (path : List ℕ) → IsTold contents → Lacks contents path
    → IsAbsent contents path
told_absent contents path told lacks =
    let none : told.0 path ≡ None = rw told.1 at lacks in (told.0, told.1, none)

-- ---- documents

-- bytes are the text of one JSON value
one_json : (bytes : List ℕ) (a b : Data) → IsJson bytes a → IsJson bytes b → a ≡ b
one_json bytes a b x y = let both : Some a ≡ Some b = sym x.value ∙ y.value in cc both

one_document : {A : Type 0} (form : Forms) (of : Data → A) (bytes : List ℕ) (a b : A) → Reads form of bytes a
    → Reads form of bytes b → a ≡ b
one_document form of bytes a b (d, faultless, is) (e, clean, same) = is
    ∙ ap of (one_json bytes d e faultless.json clean.json) ∙ sym same

-- a document with a fault stands for nothing
not_both : {A : Type 0} (form : Forms) (of : Data → A) (bytes : List ℕ) (f : DocFault) (a : A)
    → IsFirstFault form bytes f → f.kind ≢ kinds.NoMemory
    → Reads form of bytes a → ⊥
not_both form of bytes f a (too_large many is) known (d, faultless, same) = let few = faultless.within in absurd
    (omega (arith, many, few))
not_both form of bytes f a (not_json few none is) known (d, faultless, same) = none d faultless.json
not_both form of bytes f a (broken few e json is) known (d, faultless, same) =
    let report = ap (first_report message_table form) (one_json bytes e d json faultless.json) in
    let both : Some (f.kind, f.place) ≡ None = sym is ∙ report ∙ faultless.faultless in absurd (cc both)
not_both form of bytes f a (no_memory is) known reads = known (ap (λ (r : DocKind × List ℕ). r.0) is)

-- ---- bundles

one_bundle : (contents : Option Contents) (path : List ℕ) (c d : Closure) → IsTold contents
    → (a : IsClosureAt contents path c) → (b : IsClosureAt contents path d)
    → a.bundle ≡ b.bundle
one_bundle contents path c d told a b =
    let same = one_content contents path a.file b.file told a.content b.content in
    one_document bundle_form bundle_value b.file a.bundle b.bundle
    (subst (λ (f : List ℕ). Reads bundle_form bundle_value f a.bundle) same a.reads) b.reads

pub one_closure : (contents : Option Contents) (path : List ℕ) (c d : Closure) → IsTold contents
    → IsClosureAt contents path c → IsClosureAt contents path d
    → c ≡ d
one_closure contents path c d told a b =
    let both : Some c ≡ Some d = sym a.compiled ∙ ap closure_of (one_bundle contents path c d told a b)
    ∙ b.compiled in cc both

-- a bundle without a fault is not refused
pub not_refused : (contents : Option Contents) (path lines : List ℕ) (c : Closure) → IsTold contents
    → IsClosureAt contents path c
    → HasDocumentFault bundle_word bundle_form contents path lines ⊎ HasBundleFaults contents path lines → ⊥
not_refused contents path lines c told at (inl fault) =
    let same = one_content contents path at.file fault.file told at.content fault.content in
    not_both bundle_form bundle_value fault.file fault.fault at.bundle fault.first fault.known
    (subst (λ (f : List ℕ). Reads bundle_form bundle_value f at.bundle) same at.reads)
not_refused contents path lines c told at (inr faults) =
    let same = one_content contents path at.file faults.file told at.content faults.content in
    let bundles = one_document bundle_form bundle_value faults.file at.bundle faults.bundle
    (subst (λ (f : List ℕ). Reads bundle_form bundle_value f at.bundle) same at.reads) faults.reads in
    faults.faulty (ap faults_of (sym bundles) ∙ at.faultless)

-- ---- submissions

pub one_submissions : (contents : Option Contents) (path : List ℕ) (s t : List Submission) → IsTold contents
    → AreSubmissionsAt contents path s
    → AreSubmissionsAt contents path t → s ≡ t
one_submissions contents path s t told a b =
    let same = one_content contents path a.file b.file told a.content b.content in
    one_document submissions_form submissions_value b.file s t
    (subst (λ (f : List ℕ). Reads submissions_form submissions_value f s) same a.reads) b.reads

pub submissions_not_refused : (word : List ℕ) (contents : Option Contents) (path line : List ℕ) (s : List Submission)
    → IsTold contents
    → AreSubmissionsAt contents path s → HasDocumentFault word submissions_form contents path line → ⊥
submissions_not_refused word contents path line s told there fault =
    let same = one_content contents path there.file fault.file told there.content fault.content in
    not_both submissions_form submissions_value fault.file fault.fault s fault.first fault.known
    (subst (λ (f : List ℕ). Reads submissions_form submissions_value f s) same there.reads)
