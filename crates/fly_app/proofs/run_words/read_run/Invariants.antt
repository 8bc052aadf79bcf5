use Rattle.std.proofs.Common.{◌-◌, length}
use Rattle.fly_app.proofs.RunWordsLemmas.{HasRead}
use Rattle.fly_app.proofs.run_words.read_run.Given as goal

abbrev pub invariant-loop-word : goal.invariant-loop-word
invariant-loop-word l = HasRead l.words l.at l.given

abbrev pub decreases-loop-word : goal.decreases-loop-word
decreases-loop-word l = length l.words - l.at
