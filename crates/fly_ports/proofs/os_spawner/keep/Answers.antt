use Rattle.std.proofs.Common.{◌≡◌, ◌∙◌, rules, arith}
use Rattle.fly_ports.proofs.OsSpawnerLemmas.{take-room}
use Rattle.fly_ports.specs.declared.spawner.TheConstants.{MAX_OUTPUT}
use Rattle.fly_ports.proofs.os_spawner.keep.Goals as goal

pub returns : goal.returns
returns c = c.in_ok-extend_from_slice.ensures.items ∙ take-room MAX_OUTPUT c.args.kept.now.items c.args.bytes.now c.min-count.result c.requires (omega (arith, c.min-count.ensures, c.len-room.ensures))
