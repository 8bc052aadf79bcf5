use Rattle.std.proofs.Common.{◌≡◌, map, take}
use Rattle.fly_templates.specs.Words.{word_of}
use Rattle.fly_templates.proofs.words.child_words.Given as goal

abbrev pub invariant-loop-word : goal.invariant-loop-word
invariant-loop-word l = l.replaced.items ≡ map (word_of l.inputs) (take l.word-index l.words)
