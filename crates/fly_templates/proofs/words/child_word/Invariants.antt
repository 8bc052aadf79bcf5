use denote.Shadow.{shadow}
use denote.Text.{Utf8}
use Rattle.std.proofs.Common.{◌≡◌, ◌++◌, length, string_bytes}
use Rattle.fly_templates.specs.Words.{word_of}
use Rattle.fly_templates.proofs.words.child_word.Given as goal

-- what is written, and what the rest comes to, is the whole
abbrev pub invariant-loop-found : goal.invariant-loop-found
invariant-loop-found l =
    (string_bytes l.text ++ word_of l.inputs l.rest ≡ word_of l.inputs l.word) × shadow (Utf8 l.rest)

abbrev pub decreases-loop-found : goal.decreases-loop-found
decreases-loop-found l = length l.rest
