-- A sink in memory.
use Rattle.std.specs.Prelude.{ℕ, ◌-◌, Bool, not, ◌&&◌, nat_le, if◌then◌else◌, List, [], ◌++◌, length, take, Some}
use Rattle.fly_ports.specs.Faults.{next_count, is_bad}
use Rattle.fly_ports.specs.Sink.{SinkState, asked_after}

-- what was written, the room for it in all, the numbers of the calls that are to fail, and how many calls, bytes asked for and faults there
-- were so far
pub record SinkMemory : Type 0 where
  pub written : List ℕ
  pub room : ℕ
  pub bad : List ℕ
  pub calls : ℕ
  pub asked : ℕ
  pub faults : ℕ

-- a sink that was not called yet
abbrev pub new_sink : ℕ → List ℕ → SinkMemory
new_sink room bad = record { written = []; room = room; bad = bad; calls = 0; asked = 0; faults = 0 }

-- all that it got, and its counts
abbrev pub sink_state : SinkMemory → SinkState
sink_state s = record { written = Some s.written; asked = s.asked; faults = s.faults }

-- the next call is not to fail, and there is room for all these bytes
abbrev pub takes_all : SinkMemory → List ℕ → Bool
takes_all s bytes = not (is_bad s.bad (next_count s.calls)) && nat_le (length bytes) (s.room - length s.written)

-- what the next call writes of these bytes: nothing where it is to fail, else what there is room for
abbrev pub part_for : SinkMemory → List ℕ → List ℕ
part_for s bytes = if is_bad s.bad (next_count s.calls) then [] else take (s.room - length s.written) bytes

-- the sink after a call with these bytes
abbrev pub sink_after : SinkMemory → List ℕ → SinkMemory
sink_after s bytes = record s {
  written = s.written ++ part_for s bytes;
  calls = next_count s.calls;
  asked = asked_after s.asked bytes;
  faults = if takes_all s bytes then s.faults else next_count s.faults;
}
