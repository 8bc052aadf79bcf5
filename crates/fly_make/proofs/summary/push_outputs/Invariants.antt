use Rattle.std.specs.Prelude.{◌≡◌, ◌++◌, drop, flat_map, string_bytes}
use Rattle.fly_make.specs.Making.{output_text, literal_text}
use Rattle.fly_make.proofs.summary.push_outputs.Given as goal

abbrev pub invariant-loop-value : goal.invariant-loop-value
invariant-loop-value l =
    string_bytes l.text ++ flat_map (λ entry. literal_text entry.1) (drop l.value-index l.value-items)
    ≡ string_bytes l.fn.text ++ output_text l.root
