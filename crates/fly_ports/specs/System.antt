-- What contracts see of the files and the streams of the system.
use Rattle.std.specs.Prelude.{ℕ, None}
use Rattle.fly_ports.specs.Files.{FilesState}
use Rattle.fly_ports.specs.Sink.{SinkState}
use Rattle.fly_ports.specs.declared.system.OsFiles.{OsFiles}
use Rattle.fly_ports.specs.declared.system.OsSink.{OsSink}

-- how many reads have failed
abbrev pub read_faults : {R : Type 0} → OsFiles R → ℕ
read_faults files = files.read_faults

-- how many appends have failed
abbrev pub append_faults : {R : Type 0} → OsFiles R → ℕ
append_faults files = files.append_faults

-- the counts of the files, which tell no contents
abbrev pub files_state : {R : Type 0} → OsFiles R → FilesState
files_state files = record { contents = None; read_faults = read_faults files; append_faults = append_faults files }

-- the writer below
abbrev pub writer : {W : Type 0} → OsSink W → W
writer sink = sink.writer

-- how many writes have failed
abbrev pub faults : {W : Type 0} → OsSink W → ℕ
faults sink = sink.faults

-- how many bytes writes were asked for
abbrev pub asked : {W : Type 0} → OsSink W → ℕ
asked sink = sink.asked

-- the counts of the sink, which tells no bytes
abbrev pub sink_state : {W : Type 0} → OsSink W → SinkState
sink_state sink = record { written = None; asked = asked sink; faults = faults sink }
