-- What is known of a file from its first bytes.
use Rattle.std.proofs.Common.{◌≡◌, ◌≢◌, ◌⊎◌, ℕ, ◌+◌, ◌<◌, ◌≤◌, List, [], length, take, Option, None, Some, option_map, IfSome, IfOk, IfErr, Result, Ok, Err, Vec, Global, string_bytes, inl, inr, ap, refl, sym, ◌∙◌, subst, arith}
use Rattle.std.proofs.lemmas.List.{length-take, take_all}
use Rattle.fly_ports.specs.Files.{Contents, FilesState, IsFront}
use Rattle.fly_docs.specs.declared.workflow.Bundle.{Bundle}
use Rattle.fly_docs.specs.declared.closure.Closure.{Closure}
use Rattle.fly_docs.specs.declared.submission.Submission.{Submission}
use Rattle.fly_docs.specs.Form.{IsBundleInForm}
use Rattle.fly_docs.specs.Readable.{IsReadable}
use Rattle.fly_schema.specs.declared.fault.DocKind.{DocKind}
use Rattle.fly_schema.specs.declared.fault.DocKind.TheVariants as kinds
use Rattle.fly_schema.specs.declared.fault.DocFault.{DocFault}
use Rattle.fly_schema.specs.Table.{Forms}
use Rattle.fly_idl.specs.Reading.{document_limit, ReadsBundle, ReadsSubmissions, IsFirstFault, too_large, not_json, broken, no_memory}
use Rattle.fly_idl.specs.Rows.{bundle_form}
use Rattle.fly_faults.specs.Laws.{NoFaultsExactlyWhereTyped}
use Rattle.fly_app.specs.declared.reading.Unanswered.{Unanswered}
use Rattle.fly_app.specs.declared.reading.Unanswered.TheVariants as unanswered
use Rattle.fly_app.specs.Outside.{IsContent}
use Rattle.fly_app.specs.Printing.{document_line}
use Rattle.fly_app.specs.Documents.{bundle_word, submissions_word, IsClosureAt, AreSubmissionsAt, HasDocumentFault, HasBundleFaults}
use Rattle.fly_app.specs.Reading.{ReadsUpTo, RefusesBytes, ReadsSubmissionsIn, ReadsSubmissionsAt}
use Rattle.fly_app.specs.Compiling.{ClosesBundle, ClosesFile, IsRunnable}
use Rattle.fly_app.proofs.RunnableLemmas.{runnable}

-- the most bytes that a document has
abbrev limit : ℕ
limit = document_limit

-- the first bytes of a file, where there is one
abbrev first_bytes : ℕ → Option (List ℕ) → Option (List ℕ)
first_bytes n file = option_map (λ f. take n f) file

whole_if_short : (n : ℕ) (file bytes : List ℕ) → take (n + 1) file ≡ bytes → length bytes ≤ n → file ≡ bytes
whole_if_short n file bytes is few =
    let long : length file ≤ n + 1 = omega (arith, few, ap length is, length-take (n + 1) file) in
    sym (take_all (n + 1) file long) ∙ is

-- fewer bytes than were asked for are the whole file
whole_file : (n : ℕ) (file : Option (List ℕ)) (bytes : List ℕ) → first_bytes (n + 1) file ≡ Some bytes
    → length bytes ≤ n → file ≡ Some bytes
whole_file n None bytes is few = absurd (cc is)
whole_file n (Some file) bytes is few = ap Some (whole_if_short n file bytes (cc is) few)

-- of a longer file all that was asked for is read
longer_file : (n : ℕ) (file : Option (List ℕ)) (bytes : List ℕ) → first_bytes (n + 1) file ≡ Some bytes
    → n < length bytes → (f : List ℕ) × (file ≡ Some f) × (n < length f)
longer_file n None bytes is many = absurd (cc is)
longer_file n (Some file) bytes is many =
    let e : take (n + 1) file ≡ bytes = cc is in
    let long : n < length file = omega (arith, many, ap length e, length-take (n + 1) file) in
    (file, refl, long)

whole : (n : ℕ) (contents : Option Contents) (path bytes : List ℕ) → IsFront contents path (n + 1) bytes
    → length bytes ≤ n → IsContent contents path bytes
whole n None path bytes is few = tt
whole n (Some held) path bytes is few = whole_file n (held path) bytes is few

longer : (n : ℕ) (contents : Option Contents) (path bytes : List ℕ) → IsFront contents path (n + 1) bytes
    → n < length bytes → (f : List ℕ) × IsContent contents path f × (n < length f)
longer n None path bytes is many = (bytes, tt, many)
longer n (Some held) path bytes is many = longer_file n (held path) bytes is many

-- ---- documents

-- a fault is of bytes within the limit, or that there are too many
fault_within : (form : Forms) (bytes file : List ℕ) (f : DocFault) → IsFirstFault form bytes f → f.kind ≢ kinds.NoMemory
    → (length bytes ≤ limit) ⊎ ((limit < length bytes) × (limit < length file → IsFirstFault form file f))
fault_within form bytes file f (too_large many is) known = inr (many, λ long. too_large long is)
fault_within form bytes file f (not_json few none is) known = inl few
fault_within form bytes file f (broken few d json is) known = inl few
fault_within form bytes file f (no_memory is) known = absurd (known (ap (λ (r : DocKind × List ℕ). r.0) is))

-- the first fault of the bytes that were read is the file's
document_fault : (word : List ℕ) (form : Forms) (contents : Option Contents) (path bytes line : List ℕ) (f : DocFault)
    → IsFront contents path (limit + 1) bytes
    → IsFirstFault form bytes f → f.kind ≢ kinds.NoMemory → line ≡ document_line word f.kind f.place
    → HasDocumentFault word form contents path line
document_fault word form contents path bytes line f is first known says = found
    (fault_within form bytes bytes f first known)
  where
    found : (length bytes ≤ limit) ⊎ ((limit < length bytes) × (limit < length bytes → IsFirstFault form bytes f))
        → HasDocumentFault word form contents path line
    found (inl few) = record {
      file = bytes;
      content = whole limit contents path bytes is few;
      fault = f;
      first =
          first;
      known = known;
      printed = says;
    }
    found (inr many) =
        let there = longer limit contents path bytes is many.0 in
        record {
          file = there.0;
          content = there.1;
          fault = f;
          first = large there.0 there.2
              (fault_within form bytes there.0 f first known);
          known = known;
          printed = says;
        }
      where
        large : (file : List ℕ) → limit < length file
            → (length bytes ≤ limit) ⊎ ((limit < length bytes) × (limit < length file → IsFirstFault form file f))
            → IsFirstFault form file f
        large file long (inl few) = absurd (omega (arith, few, many.0))
        large file long (inr lifted) = lifted.1 long

-- ---- submissions

-- a file that was not read, for those who read submissions in it
pub submissions_unread : (old new : FilesState) (path : List ℕ) (e : Unanswered) → ReadsUpTo old new path limit (Err e)
    → ReadsSubmissionsAt old new path (Err e)
submissions_unread old new path (unanswered.Refused lines) why = absurd why
submissions_unread old new path (unanswered.Unread p) why = why
submissions_unread old new path unanswered.NoMemory why = why

-- what is read in the bytes is in the file
pub submissions_at : (old new : FilesState) (path bytes : List ℕ) (r : Result (List Submission) Unanswered)
    → new ≡ old → IsFront old.contents path (limit + 1) bytes
    → ReadsSubmissionsIn bytes r → ReadsSubmissionsAt old new path r
submissions_at old new path bytes (Ok s) same is read = (
  record {
    there = record {
      file = bytes;
      content = whole limit old.contents path bytes is read.reads.1.within;
      reads =
          read.reads;
    };
    ids = read.ids;
    sound = read.sound;
  },
  same,
)
submissions_at old new path bytes (Err (unanswered.Refused lines)) same is (f, first, known, says) =
    (document_fault submissions_word _ old.contents path bytes (string_bytes lines) f is first known says, same)
submissions_at old new path bytes (Err (unanswered.Unread p)) same is why = absurd why
submissions_at old new path bytes (Err unanswered.NoMemory) same is why = same

-- ---- bundles

-- a file that was not read, for those who compile it
pub closure_unread : (old new : FilesState) (path : List ℕ) (e : Unanswered) → ReadsUpTo old new path limit (Err e)
    → ClosesFile old new path (Err e)
closure_unread old new path (unanswered.Refused lines) why = absurd why
closure_unread old new path (unanswered.Unread p) why = why
closure_unread old new path unanswered.NoMemory why = why

-- the first fault of the bytes that were read is the file's
pub refused_file : (old new : FilesState) (path bytes : List ℕ) (e : Unanswered) → new ≡ old
    → IsFront old.contents path (limit + 1) bytes
    → RefusesBytes bundle_word bundle_form bytes e → ClosesFile old new path (Err e)
refused_file old new path bytes (unanswered.Refused lines) same is (f, first, known, says) = (
  inl (document_fault bundle_word bundle_form old.contents path bytes (string_bytes lines) f is first known says),
  same,
)
refused_file old new path bytes (unanswered.Unread p) same is why = absurd why
refused_file old new path bytes unanswered.NoMemory same is why = same

-- what closing the bundle of the file answers, closing the file does
pub closed_file : NoFaultsExactlyWhereTyped
    → (old new : FilesState) (path bytes : List ℕ) (b : Bundle) (r : Result Closure Unanswered) → new ≡ old
    → IsFront old.contents path (limit + 1) bytes → ReadsBundle bytes b → IsBundleInForm b → IsReadable b
    → ClosesBundle b r
    → ClosesFile old new path r
closed_file law old new path bytes b (Ok c) same is reads form readable closed =
    let typed = (law b form).0 closed.0 in (
      record {
        file = bytes;
        content = whole limit old.contents path bytes is reads.1.within;
        bundle = b;
        reads = reads;
        faultless = closed.0;
        typed = typed.0;
        acyclic = typed.1;
        compiled = closed.1;
      },
      runnable b c form readable typed.0 closed.1 closed.2,
      same,
    )
closed_file law old new path bytes b (Err (unanswered.Refused lines)) same is reads form readable why = (
  inr (record {
    file = bytes;
    content = whole limit old.contents path bytes is reads.1.within;
    bundle = b;
    reads = reads;
    faulty = why.0;
    not_typed = λ typed acyclic. why.0 ((law b form).1 (typed, acyclic));
    printed = why.1;
  }),
  same,
)
closed_file law old new path bytes b (Err (unanswered.Unread p)) same is reads form readable why = absurd why
closed_file law old new path bytes b (Err unanswered.NoMemory) same is reads form readable why = same
