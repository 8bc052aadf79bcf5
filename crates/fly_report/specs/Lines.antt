-- The lines of a report on executions, whatever words it has for how a slot stands. A slot is an execution, a node or an
-- item of an array.
use Rattle.std.specs.Prelude.{ℕ, List, [], ◌∷◌, ◌++◌, flat_map, codes, decimal, Option, Some, None}
use Rattle.serde_json.specs.Data.{string}
use Rattle.serde_json.specs.Written.{compact_text}
use Rattle.fly_types.specs.declared.text.Text.{Text}
use Rattle.fly_types.specs.declared.literals.Literal.{Literal}
use Rattle.fly_writers.specs.Literals.{literal_text}

-- the line of a slot: what it is of, its word, how many of its attempts were launched where it has any, and its code
-- where it has one
pub record Line : Type 0 where
  pub subject : List ℕ
  pub word : List ℕ
  pub attempts : Option ℕ
  pub code : Option Text

-- of an execution: its own line, those of its nodes and items in their order, and what it put out
pub record Section : Type 0 where
  pub own : Line
  pub slots : List Line
  pub outputs : List (Text × Literal)

-- ---- texts

-- the end of each line
abbrev pub newline : List ℕ
newline = 10 ∷ []

abbrev pub attempts_text : Option ℕ → List ℕ
attempts_text None = []
attempts_text (Some attempts) = codes " attempts " ++ decimal attempts

-- the code as a JSON text
abbrev pub code_text : Option Text → List ℕ
code_text None = []
code_text (Some code) = codes " " ++ compact_text (string code)

-- what stands behind the subject of a line
abbrev pub rest_text : List ℕ → Option ℕ → Option Text → List ℕ
rest_text word attempts code = codes " " ++ word ++ attempts_text attempts ++ code_text code ++ newline

abbrev pub line_text : Line → List ℕ
line_text l = l.subject ++ rest_text l.word l.attempts l.code

abbrev pub lines_text : List Line → List ℕ
lines_text lines = flat_map line_text lines

abbrev pub output_text : Text × Literal → List ℕ
output_text output = codes "output " ++ output.0 ++ codes " " ++ literal_text output.1 ++ newline

abbrev pub outputs_text : List (Text × Literal) → List ℕ
outputs_text outputs = flat_map output_text outputs

abbrev pub section_text : Section → List ℕ
section_text s = line_text s.own ++ lines_text s.slots ++ outputs_text s.outputs

-- the last line: how many of the executions succeeded
abbrev pub total_text : ℕ → ℕ → List ℕ
total_text succeeded all = decimal succeeded ++ codes " of " ++ decimal all ++ (codes " succeeded" ++ newline)
