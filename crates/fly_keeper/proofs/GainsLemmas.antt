-- What a file gained by a worker whose keeper kept its journal there.
use Rattle.std.proofs.Common.{◌≡◌, ◌+◌, ℕ, List, ◌++◌, map, length, take, ◌∙◌, ap}
use Rattle.std.proofs.Math.Seq.{take-append-add}
use Rattle.std.proofs.lemmas.List.{map-append}
use Rattle.fly_ports.specs.Files.{FilesState}
use Rattle.fly_state.specs.declared.entries.Entry.{Entry}
use Rattle.fly_state.specs.Plans.{RunPlan}
use Rattle.fly_round.specs.declared.told.Told.{Told}
use Rattle.fly_work.specs.Turns.{call_entry}
use Rattle.fly_work.specs.Keeping.{KeepsBefore}
use Rattle.fly_keeper.specs.declared.file_keep.FileKeep.{FileKeep}
use Rattle.fly_keeper.specs.JournalText.{journal_text}
use Rattle.fly_keeper.specs.Gains.{GainsPart, GainsAll, GainsBefore, calls_text}
use Rattle.fly_keeper.specs.Kept.{IsSameKeeper, KeepsLines, KeepsPart}
use Rattle.fly_keeper.specs.KeptLaws.{journal-both, gains-both, same-both}

-- the keeper is the one of before
pub same-before : {F : Type 0} (state : F → FilesState) (worker : ℕ) (calls : List Told) (ran : ℕ) (old new : FileKeep F)
    → KeepsBefore (KeepsLines state) (KeepsPart state) worker calls ran old new → IsSameKeeper old new
same-before state worker calls ran old new keeps =
    same-both old keeps.between new keeps.front_kept.same keeps.back_part.same

-- it gained the lines of all calls up to the last claim whose child ran, and of the rest a first part
pub gains-before : {F : Type 0} (state : F → FilesState) (worker : ℕ) (calls : List Told) (ran : ℕ) (old new : FileKeep F)
    → KeepsBefore (KeepsLines state) (KeepsPart state) worker calls ran old new
    → GainsBefore old.plan.now old.path.now worker calls ran (state old.files.now) (state new.files.now)
gains-before state worker calls ran old new keeps =
    let same : IsSameKeeper old keeps.between = keeps.front_kept.same in
    let rest = keeps.back_part.gains in
    record {
      front = keeps.front;
      back = keeps.back;
      all = keeps.all;
      ends = keeps.ends;
      count = rest.count;
      gains = gains-both (state old.files.now) (state keeps.between.files.now) (state new.files.now) old.path.now
          (calls_text old.plan.now worker keeps.front)
          (take rest.count (calls_text old.plan.now worker keeps.back)) keeps.front_kept.gains.gains
          (rw (← same.path, ← same.plan) rest.gains);
    }

-- where all was kept, it gained the lines of all calls
pub gains-all : {F : Type 0} (state : F → FilesState) (worker : ℕ) (calls : List Told) (old new : FileKeep F)
    → KeepsLines state old (map (call_entry worker) calls) new
    → GainsAll (state old.files.now) (state new.files.now) old.path.now (calls_text old.plan.now worker calls)
gains-all state worker calls old new keeps = keeps.gains

-- ---- the lines of calls

-- the lines of calls one behind another
pub calls-both : (plan : RunPlan) (worker : ℕ) (front back : List Told)
    → calls_text plan worker (front ++ back) ≡ calls_text plan worker front ++ calls_text plan worker back
calls-both plan worker front back =
    ap (λ (es : List Entry). journal_text plan es) (map-append (call_entry worker) front back)
    ∙ journal-both plan (map (call_entry worker) front) (map (call_entry worker) back)

-- so it gained a first part of the lines of all calls
pub before-part : (plan : RunPlan) (path : List ℕ) (worker : ℕ) (calls : List Told) (ran : ℕ) (old new : FilesState)
    → GainsBefore plan path worker calls ran old new → GainsPart old new path (calls_text plan worker calls)
before-part plan path worker calls ran old new before =
    let first = calls_text plan worker before.front in
    let then = calls_text plan worker before.back in
    let all : calls_text plan worker calls ≡ first ++ then =
    ap (λ (l : List Told). calls_text plan worker l) before.all ∙ calls-both plan worker before.front before.back in
    record {
      count = length first + before.count;
      gains = rw (all, take-append-add first then before.count) before.gains;
    }
