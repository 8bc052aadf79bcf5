-- Words with their inputs put in, computed on the definition.
use Rattle.std.proofs.Common.{◌≡◌, [], ◌∷◌, codes, refl}
use Rattle.fly_types.specs.declared.literals.Literal.TheVariants as literal
use Rattle.fly_types.specs.declared.literals.LiteralMap.{LiteralMap}
use Rattle.fly_templates.specs.Words.{word_of, word_within}
use Rattle.fly_templates.proofs.PlainLemmas.{plain_text-Text}

-- a text, and one that is itself a template
abbrev inputs : LiteralMap
inputs = record {
  entries = (codes "x", literal.Text (codes "4")) ∷ (codes "y", literal.Text (codes "{{.inputs.x}}")) ∷ [];
}

pub one_input : word_of inputs (codes "{{.inputs.x}}") ≡ codes "4"
unfolding word_of word_within
one_input = simp plain_text-Text

-- with spaces beside the braces
pub spaced_input : word_of inputs (codes "{{ .inputs.x  }}") ≡ codes "4"
unfolding word_of word_within
spaced_input = simp plain_text-Text

-- between other bytes, and one that is not looked at again
pub several_inputs : word_of inputs (codes "a{{.inputs.x}}b{{.inputs.y}}") ≡ codes "a4b{{.inputs.x}}"
unfolding word_of word_within
several_inputs = simp plain_text-Text

-- behind a brace too many
pub braces_left : word_of inputs (codes "{{{.inputs.x}}}") ≡ codes "{4}"
unfolding word_of word_within
braces_left = simp plain_text-Text

-- a name that is no input
pub unknown_name : word_of inputs (codes "{{.inputs.z}}") ≡ codes "{{.inputs.z}}"
unfolding word_of word_within
unknown_name = refl

-- another template, and one that is not closed
pub other_templates : word_of inputs (codes "{{.outputPrefix}}{{.inputs.x}") ≡ codes "{{.outputPrefix}}{{.inputs.x}"
unfolding word_of word_within
other_templates = refl
