use Rattle.fly_types.proofs.Readings.{literals_prefix_free, maps_prefix_free, types_prefix_free, structs_prefix_free}
use Rattle.fly_types.proofs.canonical_bytes.bytes_are_prefix_free.Goals as goal

pub returns : goal.returns
returns c = record {
  literals = literals_prefix_free;
  maps = maps_prefix_free;
  types = types_prefix_free;
  structs = structs_prefix_free;
}
