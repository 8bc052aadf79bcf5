-- The first template in a text. Private contracts alone cite this file.
use Rattle.std.specs.Prelude.{◌≡◌, ◌<◌, ℕ, List, ◌++◌, take, drop}
use Rattle.std.specs.Str.{IsCharBoundary}
use Rattle.fly_types.specs.declared.literals.Literal.{Literal}
use Rattle.fly_types.specs.declared.literals.LiteralMap.{LiteralMap}
use Rattle.fly_templates.specs.Plain.{plain_text}
use Rattle.fly_templates.specs.Words.{word_of}

-- The first template of an input in the text stands between these places, and this is its value.
pub record IsFirstInput (inputs : LiteralMap) (text : List ℕ) (start end : ℕ) (value : Literal) : Type 0 where
  pub some : start < end
  pub before : IsCharBoundary text start
  pub behind : IsCharBoundary text end
  pub word : word_of inputs text ≡ take start text ++ plain_text value ++ word_of inputs (drop end text)
