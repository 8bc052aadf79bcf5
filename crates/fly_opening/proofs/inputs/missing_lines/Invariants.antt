use Rattle.std.proofs.Common.{◌≡◌, take, string_bytes}
use Rattle.std.specs.Prelude.{flat_map}
use Rattle.fly_opening.specs.Lines.{submission_lines}
use Rattle.fly_opening.specs.Submissions.{variable_faults}
use Rattle.fly_opening.proofs.inputs.missing_lines.Given as goal

abbrev pub invariant-loop-variable : goal.invariant-loop-variable
invariant-loop-variable l =
    string_bytes l.lines ≡ submission_lines (flat_map (variable_faults l.inputs l.exec) (take l.variable-index l.variables))
