use Rattle.std.specs.Prelude.{◌≡◌, ◌++◌, drop, flat_map, string_bytes}
use Rattle.fly_world.specs.World.{Execution}
use Rattle.fly_report.specs.Lines.{newline}
use Rattle.fly_make.specs.Making.{end_text, summary_text}
use Rattle.fly_make.proofs.summary.summary.Given as goal

abbrev pub invariant-loop-number : goal.invariant-loop-number
invariant-loop-number l =
    string_bytes l.text ++ flat_map (λ (x : Execution). end_text x.state) (drop l.number l.world.world.executions)
    ++ newline
    ≡ summary_text l.fn.count l.world.world
