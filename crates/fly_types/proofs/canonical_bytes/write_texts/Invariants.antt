use Rattle.std.proofs.Common.{◌≡◌, ◌++◌, map, take}
use Rattle.std.specs.List.{concat}
use Rattle.fly_types.specs.Canonical.{text_bytes}
use Rattle.fly_types.proofs.canonical_bytes.write_texts.Given as goal

abbrev pub invariant-loop-text : goal.invariant-loop-text
invariant-loop-text l = l.out.items ≡ l.initial.out.items ++ concat (map text_bytes (take l.text-index l.texts))
