-- What the value of each document that is read keeps.
use Rattle.std.proofs.Common.{◌≡◌, inl, inr, Bool, true, false, List, [], ℕ, Result, Ok, Err, IfOk, sym, subst, ◌∙◌, arith}
use Rattle.std.specs.List.Sorted.{IsStrictlySortedBy}
use Rattle.std.proofs.lemmas.List.Elements.{All-from_recursion}
use Rattle.fly_types.specs.declared.literals.LiteralMap.{LiteralMap}
use Rattle.fly_types.specs.declared.said.Said.{Said}
use Rattle.fly_types.specs.declared.said.Said.TheVariants.{Outputs, TooLarge, Neither}
use Rattle.fly_types.specs.Sound.{IsSoundMap}
use Rattle.fly_docs.specs.declared.submission.Submission.{Submission}
use Rattle.fly_values.specs.Documents.{error_document_value, container_error_value}
use Rattle.fly_idl.specs.Saying.{MeansOutputs, IsWanted, Says, too_large, neither, wanted, HasSoundOutputs}
use Rattle.fly_idl.proofs.SoundMaps.{literal_map-sound, submissions-named, submissions-sound}
use Rattle.fly_docs.specs.declared.workflow.Bundle.{Bundle}
use Rattle.fly_docs.specs.Form.{IsBundleInForm}
use Rattle.fly_docs.specs.Readable.{IsReadable}
use Rattle.fly_docs.specs.SoundDocuments.{IsSoundBundle}
use Rattle.fly_idl.proofs.SoundBundle.{bundle-sound}
use Rattle.fly_idl.specs.Reading.{ReadsBundle, ReadsLiteralMap, ReadsSubmissions, HaveIds, HaveSoundInputs}
use Rattle.fly_idl.proofs.Form.{bundle-in_form}
use Rattle.fly_idl.proofs.Readable.{bundle-readable}

pub where_ok : {A E : Type 0} (P Q : A → Type 0) → ((a : A) → P a → Q a) → (r : Result A E) → IfOk r P → IfOk r Q
where_ok P Q h (Ok a) p = h a p
where_ok P Q h (Err e) p = tt

pub form-read : (bytes : List ℕ) (b : Bundle) → ReadsBundle bytes b → IsBundleInForm b
form-read bytes b h = subst IsBundleInForm (sym h.2) (bundle-in_form bytes h.0 h.1.json.value h.1.faultless)

pub readable-read : (bytes : List ℕ) (b : Bundle) → ReadsBundle bytes b → IsReadable b
readable-read bytes b h = subst IsReadable (sym h.2) (bundle-readable h.0 h.1.faultless)

pub bundle-read : (bytes : List ℕ) (b : Bundle) → ReadsBundle bytes b → IsSoundBundle b
bundle-read bytes b h = subst IsSoundBundle (sym h.2) (bundle-sound bytes h.0 h.1.within h.1.json.value h.1.faultless)

pub map-read : (bytes : List ℕ) (m : LiteralMap) → ReadsLiteralMap bytes m → IsSoundMap m
map-read bytes m h = subst IsSoundMap (sym h.2) (literal_map-sound bytes h.0 h.1.within h.1.json.value h.1.faultless)

pub ids-read : (bytes : List ℕ) (ss : List Submission) → ReadsSubmissions bytes ss → HaveIds ss
ids-read bytes ss h = subst HaveIds (sym h.2) (submissions-named bytes h.0 h.1.within h.1.json.value h.1.faultless)

pub inputs-read : (bytes : List ℕ) (ss : List Submission) → ReadsSubmissions bytes ss → HaveSoundInputs ss
inputs-read bytes ss h = subst HaveSoundInputs (sym h.2) (submissions-sound bytes h.0 h.1.within h.1.json.value
    h.1.faultless)

-- ---- what a child said

empty-sound : IsSoundMap (record { entries = [] })
unfolding IsStrictlySortedBy
empty-sound = record {
  names = (omega arith, tt, All-from_recursion _ [] tt);
  literals = All-from_recursion _ [] tt;
}

means-sound : (bytes : List ℕ) (m : LiteralMap) → MeansOutputs bytes m → IsSoundMap m
means-sound bytes m (inl none) = subst IsSoundMap (sym none.1) empty-sound
means-sound bytes m (inr read) = map-read bytes m read

wanted-sound : (zero : Bool) (bytes : List ℕ) (said : Said) → IsWanted zero bytes said → HasSoundOutputs said
unfolding error_document_value container_error_value
wanted-sound true bytes said h outputs e =
    let both : Outputs h.0 ≡ Outputs outputs = sym h.1 ∙ e in
    let same : h.0 ≡ outputs = cc in
    subst IsSoundMap same (means-sound bytes h.0 h.2)
wanted-sound false bytes said h outputs e = let clash = sym h.2 ∙ e in cc

pub said-sound : (zero : Bool) (bytes : List ℕ) (said : Said) → Says zero bytes said → HasSoundOutputs said
said-sound zero bytes said (too_large l is) outputs e = let clash : TooLarge ≡ Outputs outputs = sym is ∙ e in cc
said-sound zero bytes said (neither l n is) outputs e = let clash : Neither ≡ Outputs outputs = sym is ∙ e in cc
said-sound zero bytes said (wanted l w) outputs e = wanted-sound zero bytes said w outputs e
