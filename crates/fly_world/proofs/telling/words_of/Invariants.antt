use Rattle.std.proofs.Common.{◌≡◌, ◌++◌, take}
use Rattle.fly_world.proofs.telling.words_of.Given as goal

abbrev pub invariant-loop-word : goal.invariant-loop-word
invariant-loop-word l = l.words.items ≡ l.task.command ++ take l.word-index l.task.args
