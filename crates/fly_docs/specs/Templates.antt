-- The templates of inputs in the command and the arguments of a task (`command` and `args` of Container, `core/tasks.proto` of flyteidl).
use Rattle.std.specs.Prelude.{◌≡◌, ℕ, ◌==◌, nat_le, Bool, ◌&&◌, if◌then◌else◌, List, [], ◌∷◌, ◌++◌, length, drop, replicate, take_while, codes, Contains, Option, Some, None, option_and_then, option_to_list, nat_eq}
use Rattle.std.specs.List.{list_all, starts_with, prefix_len}
use Rattle.fly_types.specs.declared.text.Text.{Text}
use Rattle.fly_types.specs.declared.variable.Variable.{Variable}
use Rattle.fly_docs.specs.declared.task.Task.{Task}
use Rattle.fly_docs.specs.Names.{IsId, is_id_byte}
use Rattle.fly_docs.specs.Interfaces.{names_of}

-- `{{.inputs.NAME}}`, with this many spaces behind the opening braces and before the closing ones
abbrev pub template : List ℕ → ℕ → ℕ → List ℕ
template name left right = codes "{{" ++ replicate left 32 ++ codes ".inputs." ++ name ++ replicate right 32 ++ codes "}}"

-- a template of the input stands in the word
abbrev pub HasTemplateOf : List ℕ → List ℕ → Type 0
HasTemplateOf word name = IsId name × ((before after : List ℕ) × (left right : ℕ) × (word ≡ before ++ template name left right ++ after))

-- each template in the word is of one of these variables
abbrev pub AsksFor : List Variable → List ℕ → Type 0
AsksFor inputs word = (name : List ℕ) → HasTemplateOf word name → Contains (names_of inputs) name

-- the command and the arguments
abbrev pub words_of : Task → List Text
words_of t = t.command ++ t.args

-- ---- in their order

-- what stands behind these bytes, where the text begins with them
abbrev pub behind : List ℕ → List ℕ → Option (List ℕ)
behind start text = if starts_with nat_eq text start then Some (drop (length start) text) else None

-- without the spaces at the front
abbrev pub without_spaces : List ℕ → List ℕ
without_spaces text = drop (prefix_len (λ byte. byte == 32) text) text

abbrev pub is_id_text : List ℕ → Bool
is_id_text id = nat_le 1 (length id) && nat_le (length id) 63 && list_all is_id_byte id

-- the name at the front of the text, where it is an id and closing braces follow
abbrev pub closed_name : List ℕ → Option Text
closed_name text =
    let name = take_while is_id_byte text in
    if is_id_text name && starts_with nat_eq (without_spaces (drop (length name) text)) (codes "}}") then Some name else None

-- the name in the template with which the text begins
abbrev pub template_name : List ℕ → Option Text
template_name text =
    option_and_then closed_name (option_and_then (λ rest. behind (codes ".inputs.") (without_spaces rest)) (behind (codes "{{") text))

-- the names in the templates of a word, from the left
abbrev pub template_names : List ℕ → List Text
template_names [] = []
template_names (byte ∷ word) = option_to_list (template_name (byte ∷ word)) ++ template_names word
