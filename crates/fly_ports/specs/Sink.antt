-- What a sink has got.
use Rattle.std.specs.Prelude.{ℕ, ◌≡◌, ◌⊎◌, ◌+◌, ◌-◌, ◌^◌, ◌++◌, ◌<◌, min, List, Option, length, take}
use Rattle.std.specs.Io.KnownBytes.{append_known}
use Rattle.fly_ports.specs.Faults.{Rises}

-- all bytes written so far, where the sink tells them; how many bytes it was asked to write, and how many writes have failed, each up to the
-- last value of a u64
pub record SinkState : Type 0 where
  pub written : Option (List ℕ)
  pub asked : ℕ
  pub faults : ℕ

-- the count of bytes after a write of these was asked for
abbrev pub asked_after : ℕ → List ℕ → ℕ
asked_after asked bytes = min (asked + length bytes) (2 ^ 64 - 1)

-- all these bytes were written
pub record Writes (old new : SinkState) (bytes : List ℕ) : Type 0 where
  pub written : new.written ≡ append_known old.written bytes
  pub asked : new.asked ≡ asked_after old.asked bytes
  pub faults : new.faults ≡ old.faults

-- a write of these bytes failed, and a first part of them was written
pub record FailsToWrite (old new : SinkState) (bytes : List ℕ) : Type 0 where
  pub count : ℕ
  pub written : new.written ≡ append_known old.written (take count bytes)
  pub asked : new.asked ≡ asked_after old.asked bytes
  pub faults : Rises old.faults new.faults

-- a write of these bytes was tried
abbrev pub Tries : SinkState → SinkState → List ℕ → Type 0
Tries old new bytes = Writes old new bytes ⊎ FailsToWrite old new bytes

-- of bytes that are written in parts, the write of one that is not empty failed, behind those that were written
pub record FailsWithin (old new : SinkState) (bytes : List ℕ) : Type 0 where
  pub front : List ℕ
  pub part : List ℕ
  pub rest : List ℕ
  pub whole : bytes ≡ front ++ (part ++ rest)
  pub some : 0 < length part
  pub between : SinkState
  pub first : Writes old between front
  pub fails : FailsToWrite between new part
