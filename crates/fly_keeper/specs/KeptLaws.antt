-- The laws of a keeper of a journal in a file: a source file names no file of `proofs`, so their proofs stand here.
use Rattle.std.specs.Prelude.{◌≡◌, ◌⊎◌, ◌+◌, ℕ, List, [], ◌++◌, length, take, Option, None, Some}
use Rattle.std.proofs.Common.{refl, sym, ◌∙◌, ap, subst, inl, inr, append_assoc, arith}
use Rattle.std.proofs.Math.Seq.{take-append_seam, take-append-add}
use Rattle.std.proofs.lemmas.Grind.{flat_map-append}
use Rattle.std.proofs.lemmas.List.{append-nil}
use Rattle.fly_ports.specs.Files.{Contents, FilesState}
use Rattle.fly_state.specs.declared.entries.Entry.{Entry}
use Rattle.fly_state.specs.Plans.{RunPlan}
use Rattle.fly_journal.specs.Lines.{line_text}
use Rattle.fly_keeper.specs.declared.file_keep.FileKeep.{FileKeep}
use Rattle.fly_keeper.specs.JournalText.{journal_text}
use Rattle.fly_keeper.specs.Gains.{bytes_at, GainsBytes, GainsWhereTold, GainsText, GainsPart, GainsAll}
use Rattle.fly_keeper.specs.Kept.{IsSameKeeper, KeepsLines, KeepsPart}

-- ---- texts

pub journal-both : (plan : RunPlan) (es fs : List Entry) → journal_text plan (es ++ fs) ≡ journal_text plan es ++ journal_text plan fs
journal-both plan es fs = flat_map-append (line_text plan) es fs

-- ---- files

told-none : (contents : Option Contents) (path : List ℕ) → GainsWhereTold contents contents path []
told-none None path = tt
told-none (Some held) path = record { gained = sym (append-nil (bytes_at held path)); others = λ q other. refl }

bytes-both : (a b c : Contents) (path first then : List ℕ) → GainsBytes a b path first → GainsBytes b c path then
    → GainsBytes a c path (first ++ then)
bytes-both a b c path first then f t = record {
  gained = t.gained ∙ ap (λ (l : List ℕ). l ++ then) f.gained ∙ append_assoc (bytes_at a path) first then;
  others = λ q other. t.others q other ∙ f.others q other;
}

told-both : (a b c : Option Contents) (path first then : List ℕ) → GainsWhereTold a b path first
    → GainsWhereTold b c path then → GainsWhereTold a c path (first ++ then)
told-both None None None path first then f t = tt
told-both None None (Some c) path first then f t = absurd t
told-both None (Some b) c path first then f t = absurd f
told-both (Some a) None c path first then f t = absurd f
told-both (Some a) (Some b) None path first then f t = absurd t
told-both (Some a) (Some b) (Some c) path first then f t = bytes-both a b c path first then f t

pub gains-none : (s : FilesState) (path : List ℕ) → GainsText s s path []
gains-none s path = record { contents = told-none s.contents path; read_faults = refl; append_faults = omega arith }

pub gains-both : (a b c : FilesState) (path first then : List ℕ) → GainsText a b path first → GainsText b c path then
    → GainsText a c path (first ++ then)
gains-both a b c path first then f t = record {
  contents = told-both a.contents b.contents c.contents path first then f.contents t.contents;
  read_faults = t.read_faults ∙ f.read_faults;
  append_faults = omega (arith, f.append_faults, t.append_faults);
}

all-both : (a b c : FilesState) (path first then : List ℕ) → GainsAll a b path first → GainsAll b c path then
    → GainsAll a c path (first ++ then)
all-both a b c path first then f t = record {
  gains = gains-both a b c path first then f.gains t.gains;
  faultless = t.faultless ∙ f.faultless;
}

part-first : (a b c : FilesState) (path first then : List ℕ) → GainsAll a b path first → GainsPart b c path then
    → GainsPart a c path (first ++ then)
part-first a b c path first then f t = record {
  count = length first + t.count;
  gains = rw (take-append-add first then t.count) (gains-both a b c path first (take t.count then) f.gains t.gains);
}

part-all : (a b : FilesState) (path first then : List ℕ) → GainsAll a b path first → GainsPart a b path (first ++ then)
part-all a b path first then f = record {
  count = length first;
  gains = rw (take-append_seam first then) f.gains;
}

-- ---- keepers

pub same-both : {F : Type 0} (a b c : FileKeep F) → IsSameKeeper a b → IsSameKeeper b c → IsSameKeeper a c
same-both a b c f t = record { files = t.files ∙ f.files; path = t.path ∙ f.path; plan = t.plan ∙ f.plan }

pub keeps-none : {F : Type 0} (state : F → FilesState) (k : FileKeep F) → KeepsLines state k [] k
keeps-none state k = record {
  same = record { files = refl; path = refl; plan = refl };
  gains = record { gains = gains-none (state k.files.now) k.path.now; faultless = refl };
}

pub keeps-both : {F : Type 0} (state : F → FilesState) (a b c : FileKeep F) (es fs : List Entry) → KeepsLines state a es b
    → KeepsLines state b fs c → KeepsLines state a (es ++ fs) c
keeps-both state a b c es fs f t = record {
  same = same-both a b c f.same t.same;
  gains = rw (journal-both a.plan.now es fs)
      (all-both (state a.files.now) (state b.files.now) (state c.files.now) a.path.now (journal_text a.plan.now es)
      (journal_text a.plan.now fs) f.gains (rw (← f.same.path, ← f.same.plan) t.gains));
}

pub keeps-first : {F : Type 0} (state : F → FilesState) (a b c : FileKeep F) (es fs : List Entry) → KeepsLines state a es b
    → ((c ≡ b) ⊎ KeepsPart state b fs c) → KeepsPart state a (es ++ fs) c
keeps-first state a b c es fs f (inl same) =
    subst (λ (k : FileKeep _). KeepsPart state a (es ++ fs) k) (sym same) (record {
      same = f.same;
      gains = rw (journal-both a.plan.now es fs)
          (part-all (state a.files.now) (state b.files.now) a.path.now (journal_text a.plan.now es)
          (journal_text a.plan.now fs) f.gains);
    })
keeps-first state a b c es fs f (inr t) = record {
  same = same-both a b c f.same t.same;
  gains = rw (journal-both a.plan.now es fs)
      (part-first (state a.files.now) (state b.files.now) (state c.files.now) a.path.now (journal_text a.plan.now es)
      (journal_text a.plan.now fs) f.gains (rw (← f.same.path, ← f.same.plan) t.gains));
}
