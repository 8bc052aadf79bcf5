-- The laws of the keeper in memory: a source file names no file of `proofs`, so their proofs stand here.
use Rattle.std.specs.Prelude.{◌≡◌, ◌⊎◌, ◌+◌, List, [], ◌++◌, length, take}
use Rattle.std.proofs.Common.{refl, sym, ◌∙◌, ap, inl, inr, append_assoc}
use Rattle.std.proofs.Math.Seq.{take-append_seam, take-append-add}
use Rattle.std.proofs.lemmas.List.{append-nil}
use Rattle.fly_state.specs.declared.entries.Entry.{Entry}
use Rattle.fly_work.specs.MemKeep.{KeepMemory, KeepsAll, KeepsFirst}

pub all-none : (k : KeepMemory) → KeepsAll k [] k
all-none k = record { kept = sym (append-nil k.entries); bad = refl; faults = refl }

pub all-both : (a b c : KeepMemory) (es fs : List Entry) → KeepsAll a es b → KeepsAll b fs c → KeepsAll a (es ++ fs) c
all-both a b c es fs first then = record {
  kept = then.kept ∙ ap (λ (l : List Entry). l ++ fs) first.kept ∙ append_assoc a.entries es fs;
  bad = then.bad ∙ first.bad;
  faults = then.faults ∙ first.faults;
}

pub all-first : (a b c : KeepMemory) (es fs : List Entry) → KeepsAll a es b → ((c ≡ b) ⊎ KeepsFirst b fs c)
    → KeepsFirst a (es ++ fs) c
all-first a b c es fs first (inl same) = record {
  count = length es;
  kept = ap (λ (k : KeepMemory). k.entries) same ∙ first.kept
      ∙ ap (λ (l : List Entry). a.entries ++ l) (sym (take-append_seam es fs));
  bad = ap (λ (k : KeepMemory). k.bad) same ∙ first.bad;
}
all-first a b c es fs first (inr part) = record {
  count = length es + part.count;
  kept = part.kept ∙ ap (λ (l : List Entry). l ++ take part.count fs) first.kept
      ∙ append_assoc a.entries es (take part.count fs)
      ∙ ap (λ (l : List Entry). a.entries ++ l) (sym (take-append-add es fs part.count));
  bad = part.bad ∙ first.bad;
}
