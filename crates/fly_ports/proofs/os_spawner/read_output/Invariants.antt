use Rattle.fly_ports.proofs.OsSpawnerLemmas.{KeepsFront}
use Rattle.fly_ports.specs.declared.spawner.TheConstants.{MAX_OUTPUT}
use Rattle.fly_ports.proofs.os_spawner.read_output.Given as goal

-- the first of the bytes that were read so far are kept
abbrev pub invariant-loop : goal.invariant-loop
invariant-loop g l = KeepsFront MAX_OUTPUT (g.O.Read.remaining l.fn.end) (g.O.Read.remaining l.end) l.kept.items
