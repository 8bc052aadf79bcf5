use Rattle.std.proofs.Common.{◌≡◌, map, take, drop}
use Rattle.fly_writers.specs.Built.{elements_of}
use Rattle.fly_writers.specs.Nodes.{case_json}
use Rattle.fly_writers.proofs.nodes.+node_value.Given as goal

abbrev pub invariant-other_cases_value-loop-i : goal.invariant-other_cases_value-loop-i
invariant-other_cases_value-loop-i l = elements_of l.values ≡ map case_json (drop 1 (take l.i l.cases))
