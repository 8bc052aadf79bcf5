use Rattle.std.specs.Prelude.{◌≡◌, ◌++◌, drop, string_bytes}
use Rattle.fly_report.specs.Lines.{outputs_text}
use Rattle.fly_report.proofs.lines.push_outputs.Given as goal

abbrev pub invariant-loop-name : goal.invariant-loop-name
invariant-loop-name l =
    string_bytes l.text ++ outputs_text (drop l.name-index l.outputs) ≡ string_bytes l.fn.text ++ outputs_text l.outputs
