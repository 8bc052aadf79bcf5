-- What checking the files of a run comes to.
use Rattle.std.proofs.Common.{◌≡◌, ◌≢◌, ◌⊎◌, ◌<◌, ◌≤◌, ◌+◌, ◌==◌, ℕ, true, false, true≢false, List, [], ◌∷◌, ◌++◌, map, take, length, Option, Some, None, IfSome, IfOk, MatchResult, option_map, unwrap_or, Result, Ok, Err, Vec, Global, String, string_bytes, subst, refl, sym, ap, ◌∙◌, inl, inr, arith}
use Rattle.std.proofs.lemmas.Bool.{eqb-true}
use Rattle.std.proofs.lemmas.List.{length-map}
use Rattle.fly_types.specs.declared.memory.NoMemory.{NoMemory}
use Rattle.fly_ports.specs.Files.{Contents, FilesState, IsFront, Lacks, FailsToRead}
use Rattle.fly_docs.specs.declared.closure.Closure.{Closure}
use Rattle.fly_docs.specs.declared.submission.Submission.{Submission}
use Rattle.fly_state.specs.Plans.{RunPlan, plan_for}
use Rattle.fly_work.specs.Drives.{IsUncached}
use Rattle.fly_opening.specs.Hashes.{closure_hash}
use Rattle.fly_opening.specs.Lines.{AreRefused, submission_lines}
use Rattle.fly_opening.specs.Submissions.{AreFitted, CanOpen, submission_faults, fitted_submission}
use Rattle.fly_app.specs.declared.accepting.Accepted.{Accepted}
use Rattle.fly_app.specs.declared.reading.Unanswered.{Unanswered}
use Rattle.fly_app.specs.declared.reading.Unanswered.TheVariants as unanswered
use Rattle.fly_app.specs.Outside.{IsUnread}
use Rattle.fly_app.specs.RunWords.{RunRequest}
use Rattle.fly_app.specs.Documents.{IsClosureAt, AreSubmissionsAt}
use Rattle.fly_app.specs.Accepted.{IsEmptyAt, HasBytesAt, AreDocuments}
use Rattle.fly_app.specs.RunRefusals.{not_empty_line, HasRunRefusal, bundle_document, bundle_faults, submissions_document, submissions_faults, journal_bytes, IsRunUnread, bundle_unread, submissions_unread, journal_unread}
use Rattle.fly_app.specs.Compiling.{ClosesFile, IsRunnable}
use Rattle.fly_app.specs.Reading.{ReadsSubmissionsAt, AreReadAt}
use Rattle.fly_app.specs.Accepting.{AreReady, FitsSubmissions, ChecksJournal, AreFaultless, refused_document, refused_submissions, refused_journal, missed_submissions, missed_journal, AcceptsSubmissions, IsReady, IsMadeOf, Accepts}

-- ---- submissions that fit

-- where there is no fault there is a submission
some-fitted : (plan : RunPlan) (s fitted : List Submission) → AreFitted plan s fitted → 0 < length fitted
some-fitted plan [] fitted fits = absurd (cc fits.faultless)
some-fitted plan (x ∷ xs) fitted fits =
    omega (arith, ap length fits.fitted_are, length-map (x ∷ xs) (fitted_submission plan))

pub ready : (plan : RunPlan) (s fitted : List Submission) → AreFitted plan s fitted → CanOpen plan fitted
    → AreReady plan s fitted
ready plan s fitted fits opens = record { fits = fits; opens = opens; some = some-fitted plan s fitted fits }

-- ---- the journal

-- the first byte of a file
no-byte : (bytes : List ℕ) → take 1 bytes ≡ [] → bytes ≡ []
no-byte [] is = refl
no-byte (b ∷ bs) is = absurd (cc is)

empty-file : (file : Option (List ℕ)) (bytes : List ℕ) → option_map (λ (f : List ℕ). take 1 f) file ≡ Some bytes
    → bytes ≡ []
    → unwrap_or file [] ≡ []
empty-file None bytes is none = absurd (cc is)
empty-file (Some file) bytes is none = let first : take 1 file ≡ bytes = cc is in no-byte file (first ∙ none)

full-file : (file : Option (List ℕ)) (bytes : List ℕ) → option_map (λ (f : List ℕ). take 1 f) file ≡ Some bytes
    → bytes ≢ []
    → unwrap_or file [] ≢ []
full-file None bytes is some none = cc is
full-file (Some file) bytes is some none =
    let first : take 1 file ≡ bytes = cc is in some (sym first ∙ ap (take 1) none)

pub journal-empty : (contents : Option Contents) (path bytes : List ℕ) → IsFront contents path (0 + 1) bytes
    → (length bytes == 0) ≡ true → IsEmptyAt contents path
journal-empty None path bytes is none = tt
journal-empty (Some held) path [] is none = empty-file (held path) [] is refl
journal-empty (Some held) path (b ∷ bs) is none =
    let same : length (b ∷ bs) ≡ 0 = eqb-true (length (b ∷ bs)) 0 none in absurd (omega (arith, same))

pub journal-absent : (contents : Option Contents) (path : List ℕ) → Lacks contents path → IsEmptyAt contents path
journal-absent None path lacks = tt
journal-absent (Some held) path lacks = ap (λ (f : Option (List ℕ)). unwrap_or f []) lacks

pub journal-full : (contents : Option Contents) (path bytes : List ℕ) → IsFront contents path (0 + 1) bytes
    → (length bytes == 0) ≡ false → HasBytesAt contents path
journal-full None path bytes is some = tt
journal-full (Some held) path [] is some = absurd (true≢false some)
journal-full (Some held) path (b ∷ bs) is some = full-file (held path) (b ∷ bs) is (λ none. cc none)

-- the line, where there was memory for it
pub journal-refused : (old new : FilesState) (path : List ℕ) (line : Result (String Global) NoMemory) (e : Unanswered)
    → new ≡ old
    → HasBytesAt old.contents path → IfOk line (λ l. string_bytes l ≡ not_empty_line)
    → MatchResult line (λ l. e ≡ unanswered.Refused l) (λ n. e ≡ unanswered.NoMemory)
    → ChecksJournal old new path (Err e)
journal-refused old new path (Ok l) e same bytes says is =
    subst (λ (x : Unanswered). ChecksJournal old new path (Err x)) (sym is) (bytes, says, same)
journal-refused old new path (Err n) e same bytes says is =
    subst (λ (x : Unanswered). ChecksJournal old new path (Err x)) (sym is) same

-- ---- submissions and journal

pub submissions-stop : (old new : FilesState) (plan : RunPlan) (r : RunRequest) (e : Unanswered)
    → ReadsSubmissionsAt old new r.submissions (Err e)
    → AcceptsSubmissions old new plan r (Err e)
submissions-stop old new plan r (unanswered.Refused lines) why = (refused_document why.0, why.1)
submissions-stop old new plan r (unanswered.Unread p) why = missed_submissions why.0 why.1
submissions-stop old new plan r unanswered.NoMemory why = why

pub fitting-stop : (old new : FilesState) (plan : RunPlan) (r : RunRequest) (s : List Submission) (e : Unanswered)
    → new ≡ old
    → AreSubmissionsAt old.contents r.submissions s → FitsSubmissions plan s (Err e)
    → AcceptsSubmissions old new plan r (Err e)
fitting-stop old new plan r s (unanswered.Refused lines) same there why = (refused_submissions s there why, same)
fitting-stop old new plan r s (unanswered.Unread p) same there why = absurd why
fitting-stop old new plan r s unanswered.NoMemory same there why = same

-- where the files stayed the same until a read, it is of the first
pub journal-stop : (old mid new : FilesState) (plan : RunPlan) (r : RunRequest) (s fitted : List Submission)
    (e : Unanswered) → mid ≡ old
    → AreSubmissionsAt old.contents r.submissions s → AreReady plan s fitted → ChecksJournal mid new r.journal (Err e)
    → AcceptsSubmissions old new plan r (Err e)
journal-stop old mid new plan r s fitted e same there ready why =
    by e (subst (λ (x : FilesState). ChecksJournal x new r.journal (Err e)) same why)
  where
    faultless : AreFaultless old.contents plan r s
    faultless = record { there = there; faultless = ready.fits.faultless }

    by : (f : Unanswered) → ChecksJournal old new r.journal (Err f) → AcceptsSubmissions old new plan r (Err f)
    by (unanswered.Refused lines) h = (refused_journal s faultless h.0 h.1, h.2)
    by (unanswered.Unread p) h = missed_journal s faultless h.0 h.1
    by unanswered.NoMemory h = h

pub journal-passed : (old mid new : FilesState) (plan : RunPlan) (r : RunRequest) (s fitted : List Submission)
    (done : Unit {0}) → mid ≡ old
    → AreSubmissionsAt old.contents r.submissions s → AreReady plan s fitted → ChecksJournal mid new r.journal (Ok done)
    → AcceptsSubmissions old new plan r (Ok fitted)
journal-passed old mid new plan r s fitted done same there ready passed =
    (s, there, ready, subst (λ (x : FilesState). IsEmptyAt x.contents r.journal) same passed.0, passed.1 ∙ same)

-- ---- all files

pub bundle-stop : (old new : FilesState) (r : RunRequest) (e : Unanswered) → ClosesFile old new r.bundle (Err e)
    → Accepts old new r (Err e)
bundle-stop old new r (unanswered.Refused lines) (inl fault, same) = (bundle_document fault, same)
bundle-stop old new r (unanswered.Refused lines) (inr faults, same) = (bundle_faults faults, same)
bundle-stop old new r (unanswered.Unread p) why = bundle_unread why.0 why.1
bundle-stop old new r unanswered.NoMemory why = why

-- what is found behind an accepted bundle
module _ (old mid new : FilesState) (r : RunRequest) (c : Closure) (plan : RunPlan) (same : mid ≡ old)
    (at : IsClosureAt old.contents r.bundle c)
    (is : plan ≡ plan_for c) where
  documents : (s : List Submission) → AreFaultless old.contents plan r s → AreDocuments old.contents r c s
  documents s found = record {
    bundle = at;
    submitted = found.there;
    faultless = ap (λ (q : RunPlan). submission_faults q s) (sym is) ∙ found.faultless;
  }

  stopped : (e : Unanswered) → AcceptsSubmissions old new plan r (Err e) → Accepts old new r (Err e)
  stopped (unanswered.Refused lines) (refused_document fault, kept) = (submissions_document c at fault, kept)
  stopped (unanswered.Refused lines) (refused_submissions s there why, kept) = (
    submissions_faults c s at there (λ none. why.faulty (ap (λ (q : RunPlan). submission_faults q s) is ∙ none))
        (why.lines ∙ ap (λ (q : RunPlan). submission_lines (submission_faults q s)) is),
    kept,
  )
  stopped (unanswered.Refused lines) (refused_journal s found bytes says, kept) =
      (journal_bytes c s (documents s found) bytes says, kept)
  stopped (unanswered.Unread p) (missed_submissions path unread) = submissions_unread c at path unread
  stopped (unanswered.Unread p) (missed_journal s found path fails) = journal_unread c s (documents s found) path fails
  stopped unanswered.NoMemory kept = kept

  pub submissions-stopped : (e : Unanswered) → AcceptsSubmissions mid new plan r (Err e) → Accepts old new r (Err e)
  submissions-stopped e why = stopped e (subst (λ (x : FilesState). AcceptsSubmissions x new plan r (Err e)) same why)

  made : (hash : List ℕ) (fitted : List Submission) → hash ≡ closure_hash c → IsRunnable c
      → AcceptsSubmissions old new plan r (Ok fitted)
      → Accepts old new r (Ok (record { plan = plan; hash = hash; submissions = fitted }))
  made hash fitted hash-is runnable (s, there, ready, empty, kept) = (
    c,
    s,
    record {
      documents = record {
        bundle = at;
        submitted = there;
        faultless = ap (λ (q : RunPlan). submission_faults q s) (sym is) ∙ ready.fits.faultless;
      };
      new_journal = empty;
    },
    record {
      plan = is;
      hash = hash-is;
      submissions = ready.fits.fitted_are ∙ ap (λ (q : RunPlan). map (fitted_submission q) s) is;
    },
    record { uncached = subst IsUncached (sym is) runnable.uncached; opens = ready.opens; some = ready.some },
    kept,
  )

  pub accepted : (hash : List ℕ) (fitted : List Submission) → hash ≡ closure_hash c → IsRunnable c
      → AcceptsSubmissions mid new plan r (Ok fitted)
      → Accepts old new r (Ok (record { plan = plan; hash = hash; submissions = fitted }))
  accepted hash fitted hash-is runnable why =
      made hash fitted hash-is runnable
      (subst (λ (x : FilesState). AcceptsSubmissions x new plan r (Ok fitted)) same why)
