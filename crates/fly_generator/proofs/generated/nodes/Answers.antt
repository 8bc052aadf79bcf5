use Rattle.std.proofs.lemmas.List.FromFn.{map-range_with_len_more}
use Rattle.std.proofs.lemmas.Grind.{common_steps}
use Rattle.std.proofs.Common.{zero-add, arith}
use Rattle.fly_generator.specs.Generated.{node_numbered}
use Rattle.fly_generator.proofs.generated.nodes.Goals as goal

pub loop-number-preserved : goal.loop-number-preserved
loop-number-preserved c =
    let more =
    map-range_with_len_more node_numbered 0 c.loop-number.number c.loop-number.number (zero-add c.loop-number.number) in
    grind (arith, common_steps, more)
