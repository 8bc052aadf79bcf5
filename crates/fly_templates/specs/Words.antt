-- The words of a task's command with the inputs in place of their templates.
use Rattle.std.specs.Prelude.{ℕ, zero, suc, List, [], ◌∷◌, ◌++◌, drop, length, codes, Option, Some, None, option_map, option_and_then}
use Rattle.std.specs.Borrow.{Bor}
use Rattle.fly_types.specs.declared.text.Text.{Text}
use Rattle.fly_types.specs.declared.literals.Literal.{Literal}
use Rattle.fly_types.specs.declared.literals.LiteralMap.{LiteralMap}
use Rattle.fly_types.specs.Lookup.{value_of}
use Rattle.fly_docs.specs.Templates.{without_spaces, template_name}
use Rattle.fly_templates.specs.Plain.{plain_text}

-- An input whose template stands at the front of a text, and what stands behind the template.
pub record Input : Type 0 where
  pub value : Literal
  pub rest : List ℕ

-- what stands behind the template of this name with which the text begins
abbrev pub behind_template : List ℕ → List ℕ → List ℕ
behind_template name text =
    let named = drop (length (codes ".inputs.")) (without_spaces (drop (length (codes "{{")) text)) in
    drop (length (codes "}}")) (without_spaces (drop (length name) named))

-- the input with whose template the text begins
abbrev pub input_at : LiteralMap → List ℕ → Option Input
input_at inputs text =
    option_and_then
    (λ name. option_map (λ value. record { value = value; rest = behind_template name text })
    (value_of inputs.entries name))
    (template_name text)

-- the same where it stands behind references
abbrev pub input_view : Option (Bor Literal × Bor (List ℕ)) → Option Input
input_view found = option_map (λ p. record { value = p.0.now; rest = p.1.now }) found

-- an input in place of its template, and more of what stands behind that; or the byte as it is, and more of the text
abbrev pub with_more : (List ℕ → List ℕ) → ℕ → List ℕ → Option Input → List ℕ
with_more more byte text (Some input) = plain_text input.value ++ more input.rest
with_more more byte text None = byte ∷ more text

-- with at most so many bytes to go, from the left; what was put in is not looked at again
unfoldable pub word_within : ℕ → LiteralMap → List ℕ → List ℕ
word_within zero inputs text = text
word_within (suc n) inputs [] = []
word_within (suc n) inputs (byte ∷ text) = with_more (word_within n inputs) byte text (input_at inputs (byte ∷ text))

-- the word with the inputs in place of their templates
unfoldable pub word_of : LiteralMap → Text → Text
word_of inputs word = word_within (length word) inputs word
