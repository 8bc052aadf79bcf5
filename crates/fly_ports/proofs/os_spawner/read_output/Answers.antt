use Rattle.std.proofs.Common.{rules, arith, refl}
use Rattle.fly_ports.proofs.OsSpawnerLemmas.{KeepsFront-more, KeepsFront-still, KeepsFront-whole, KeepsFront-within}
use Rattle.fly_ports.specs.declared.spawner.TheConstants.{MAX_OUTPUT}
use Rattle.fly_ports.proofs.os_spawner.read_output.Goals.{in-Ok+in_ok-keep-in-Ok, in-Err}
use Rattle.fly_ports.proofs.os_spawner.read_output.Goals as goal

pub returns-in-Ok-eq0-clause-bytes : goal.returns-in-Ok-eq0-clause-bytes
returns-in-Ok-eq0-clause-bytes g c = KeepsFront-whole MAX_OUTPUT _ _ _ _ _ _ _ c.loop.invariant c.read.ensures.bytes c.in-Ok-eq0.is c.in-Ok-eq0.field-0-test (search rules)

pub returns-in-Ok-eq0-clause-bound : goal.returns-in-Ok-eq0-clause-bound
returns-in-Ok-eq0-clause-bound g c = KeepsFront-within MAX_OUTPUT _ _ _ c.loop.invariant

pub keep-requires : goal.keep-requires
keep-requires g c = KeepsFront-within MAX_OUTPUT _ _ _ c.loop.invariant

pub loop-preserved : goal.loop-preserved
loop-preserved g c = elim c.match-read.branch [
  | in-Ok+in_ok-keep-in-Ok w ↦ rw w.kept-is (KeepsFront-more MAX_OUTPUT _ _ _ _ _ _ c.loop.invariant w.in-Ok.ensures.bytes.0 w.in_ok-keep-in-Ok.ensures)
  | in-Err w ↦ rw w.kept-is (KeepsFront-still MAX_OUTPUT _ _ _ _ c.loop.invariant w.in-Err.ensures.bytes)
]
