-- The words of the adding task have no template.
use Rattle.std.proofs.Common.{ℕ, List, length, codes, ap, arith}
use Rattle.std.proofs.lemmas.List.{length-append}
use Rattle.fly_docs.specs.Templates.{HasTemplateOf, AsksFor}
use Rattle.fly_docs.specs.Typed.{HasInputs}
use Rattle.fly_generator.specs.Generated.{add_task}
use Rattle.fly_generator.proofs.Lists.{all_of_one}

-- a template is longer than the word
too_long : (name : List ℕ) → HasTemplateOf (codes "add") name → ⊥
too_long name has =
    omega (arith, simp length-append at (ap length has.1.4))

pub has_inputs : HasInputs add_task
has_inputs = all_of_one (AsksFor add_task.interface.inputs) (codes "add") (λ name has. absurd (too_long name has))
