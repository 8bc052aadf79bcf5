-- Places in a document: the steps from the document to a value.
use Rattle.std.specs.Prelude.{ℕ, ◌+◌, List, [], ◌∷◌, ◌++◌, Option, Some, None, option_map, codes, decimal}
use Rattle.std.specs.Option.{option_or}
use Rattle.fly_schema.specs.declared.fault.DocKind.{DocKind}

-- into a field, or to the item of a list or the entry of a map with this number, from 0
pub data Step : Type 0 where
  field : List ℕ → Step
  index : ℕ → Step

abbrev pub step_text : Step → List ℕ
step_text (field name) = name
step_text (index n) = decimal n

-- each step behind a `/`
abbrev pub steps_text : List Step → List ℕ
steps_text [] = []
steps_text (step ∷ steps) = 47 ∷ step_text step ++ steps_text steps

-- the text of a place; the whole document's is `/`
abbrev pub place_text : List Step → List ℕ
place_text [] = codes "/"
place_text (step ∷ steps) = steps_text (step ∷ steps)

-- a rule that is broken, and the place of what breaks it in what was looked at
abbrev pub Fault : Type 0
Fault = DocKind × List Step

abbrev pub fault_here : DocKind → Option Fault
fault_here kind = Some (kind, [])

-- what is found a step further in, seen from here
abbrev pub inside : Step → Option Fault → Option Fault
inside step found = option_map (λ f. (f.0, step ∷ f.1)) found

abbrev pub first_of : List (Option Fault) → Option Fault
first_of [] = None
first_of (f ∷ fs) = option_or f (first_of fs)

-- the first of what is found in items, the first of which has this number
abbrev pub first_numbered : ℕ → List (Option Fault) → Option Fault
first_numbered n [] = None
first_numbered n (f ∷ fs) = option_or (inside (index n) f) (first_numbered (n + 1) fs)
