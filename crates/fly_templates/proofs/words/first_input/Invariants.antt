use Rattle.fly_templates.proofs.WordLemmas.{IsPlainBelow}
use Rattle.fly_templates.proofs.words.first_input.Given as goal

-- no template of an input begins before this place
abbrev pub invariant-loop-start : goal.invariant-loop-start
invariant-loop-start l = IsPlainBelow l.inputs l.text l.start
