-- Templates in words, computed on the definition.
use Rattle.std.proofs.Common.{◌≡◌, [], ◌∷◌, codes, refl}
use Rattle.fly_docs.specs.Templates.{template_names}

pub one_template : template_names (codes "{{.inputs.q}}") ≡ codes "q" ∷ []
one_template = refl

-- with spaces beside the braces, two in a row, and behind a brace too many
pub several_templates : template_names (codes "a{{  .inputs.x }}{{.inputs.y}}b{{{.inputs.z}}") ≡ codes "x" ∷ codes "y" ∷ codes "z" ∷ []
several_templates = refl

-- a name that is no id, none, and one that is not closed
pub no_templates : template_names (codes "{{ .inputs.x!}}{{.inputs.}}{{.inputs.x}") ≡ []
no_templates = refl
