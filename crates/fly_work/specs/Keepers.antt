-- What a keeper's answer says of the entries that it was to keep.
use Rattle.std.specs.Prelude.{◌≡◌, ℕ, List, Result, Ok, Err}
use Rattle.fly_ports.specs.Faults.{Rises}
use Rattle.fly_state.specs.declared.entries.Entry.{Entry}
use Rattle.fly_work.specs.declared.keep.KeepFault.{KeepFault}
use Rattle.fly_work.specs.declared.keep.KeepFault.TheVariants as fault

-- all were kept; or keeping failed behind a first part; or nothing was kept for want of memory
abbrev pub KeepsFrom : {K : Type 0} → (K → List Entry → K → Type 0) → (K → List Entry → K → Type 0) → (K → ℕ)
    → K → List Entry → K → Result (Unit {0}) KeepFault → Type 0
KeepsFrom kept kept_part faults old entries new (Ok _) = kept old entries new × (faults new ≡ faults old)
KeepsFrom kept kept_part faults old entries new (Err fault.Failed) = kept_part old entries new × Rises (faults old) (faults new)
KeepsFrom kept kept_part faults old entries new (Err fault.NoMemory) = new ≡ old
