-- A list of launches, and the tables by which they are found.
use Rattle.std.specs.Prelude.{◌≡◌, ◌<◌, ℕ, Option, List, [], map, filter, position, bytes_eq, vec_len, vec_capacity, Some}
use Rattle.std.specs.List.{enumerate_from}
use Rattle.std.specs.Option.{option_map_or}
use Rattle.std.specs.Ordering.{nat_cmp}
use Rattle.std.specs.Cmp.Lexicographic.{slice_cmp}
use Rattle.std.specs.BTreeMap.{BTreeMap, get}
use Rattle.std.specs.Global.{Vec}
use Rattle.fly_types.specs.declared.text.Text.{Text}
use Rattle.fly_docs.specs.declared.attempt_name.AttemptName.{AttemptName}
use Rattle.fly_docs.specs.AttemptName.{IsTextOf}
use Rattle.fly_attempts.specs.declared.parts.Launch.{Launch}
use Rattle.fly_attempts.specs.Parts.{same_name}

-- the number of the first launch of that name
abbrev pub number_in : List Launch → AttemptName → Option ℕ
number_in launches name = position (λ (l : Launch). same_name name l.name) launches

-- the numbers of the launches of an execution, rising
abbrev pub numbers_in : List Launch → Text → List ℕ
numbers_in launches exec =
    map (λ (at : ℕ × Launch). at.0)
    (filter (λ (at : ℕ × Launch). bytes_eq exec at.1.name.exec) (enumerate_from 0 launches))

-- for each text some numbers
abbrev pub NumberLists : Type 0
NumberLists = BTreeMap Text (Vec ℕ)

-- the numbers of a text; none where it has no list
abbrev pub listed : NumberLists → Text → List ℕ
listed lists text = option_map_or (λ (v : Vec ℕ). v.items) (get (slice_cmp nat_cmp) lists text) []

-- the text has a list with room for one more number
abbrev pub HasRoom : NumberLists → Text → Type 0
HasRoom lists text = (v : Vec ℕ) × (get (slice_cmp nat_cmp) lists text ≡ Some v) × (vec_len v < vec_capacity v)

-- each launch is found by the text of its name, and those of an execution by its name
pub record IsIndexed (launches : List Launch) (numbers : BTreeMap Text ℕ) (executions : NumberLists) : Type 0 where
  pub numbered : (text : List ℕ) (name : AttemptName) → IsTextOf text name
      → get (slice_cmp nat_cmp) numbers text ≡ number_in launches name
  pub grouped : (exec : List ℕ) → listed executions exec ≡ numbers_in launches exec
