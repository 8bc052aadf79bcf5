use Rattle.std.proofs.Common.{◌≡◌, map, take, Option}
use Rattle.fly_types.specs.declared.literals.LiteralMap.{LiteralMap}
use Rattle.fly_state.specs.Plans.{Path, number_of}
use Rattle.fly_eval.proofs.tables.node_numbers.Given as goal

abbrev pub invariant-loop-hit : goal.invariant-loop-hit
invariant-loop-hit l = l.numbers.items ≡ map (λ (h : Path × Option LiteralMap). number_of l.plan h.0) (take l.hit-index l.hits)
