-- A keeper in memory.
use Rattle.std.specs.Prelude.{◌≡◌, ℕ, Bool, List, [], ◌++◌, take, Result, Ok, Err, ⊤}
use Rattle.fly_ports.specs.Faults.{next_count, is_bad}
use Rattle.fly_state.specs.declared.entries.Entry.{Entry}
use Rattle.fly_state.specs.Plans.{RunPlan}
use Rattle.fly_work.specs.declared.keep.KeepFault.{KeepFault}
use Rattle.fly_work.specs.declared.keep.KeepFault.TheVariants as fault

-- what was kept, the numbers of the calls that are to fail, and the calls and faults so far
pub record KeepMemory : Type 0 where
  pub entries : List Entry
  pub bad : List ℕ
  pub calls : ℕ
  pub faults : ℕ

-- a keeper that was not called yet
abbrev pub new_keep : List ℕ → KeepMemory
new_keep bad = record { entries = []; bad = bad; calls = 0; faults = 0 }

-- all these entries were kept behind those of before, and nothing failed
pub record KeepsAll (old : KeepMemory) (entries : List Entry) (new : KeepMemory) : Type 0 where
  pub kept : new.entries ≡ old.entries ++ entries
  pub bad : new.bad ≡ old.bad
  pub faults : new.faults ≡ old.faults

-- a first part of them was
pub record KeepsFirst (old : KeepMemory) (entries : List Entry) (new : KeepMemory) : Type 0 where
  pub count : ℕ
  pub kept : new.entries ≡ old.entries ++ take count entries
  pub bad : new.bad ≡ old.bad

-- journals of every plan
abbrev pub TakesAny : KeepMemory → RunPlan → Type 0
TakesAny k plan = ⊤

-- the next call is to fail
abbrev pub fails_next : KeepMemory → Bool
fails_next k = is_bad k.bad (next_count k.calls)

-- the keeper after a call with this answer; a call that answers for want of memory has no number
abbrev pub keep_after : KeepMemory → List Entry → Result (Unit {0}) KeepFault → KeepMemory
keep_after k entries (Ok _) = record k { entries = k.entries ++ entries; calls = next_count k.calls }
keep_after k entries (Err fault.Failed) = record k { calls = next_count k.calls; faults = next_count k.faults }
keep_after k entries (Err fault.NoMemory) = k
