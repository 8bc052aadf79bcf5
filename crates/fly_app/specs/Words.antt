-- The words of a command line.
use Rattle.std.specs.Prelude.{◌≡◌, ℕ, ◌+◌, ◌<◌, ◌≤◌, nat_eq, Bool, false, List, [], ◌∷◌, ◌++◌, length, take, codes, decimal}
use Rattle.std.specs.List.{starts_with}
use Rattle.fly_generator.specs.Generated.{most_nodes}

-- a word that begins with `--` is an option, and names no file
abbrev pub is_option : List ℕ → Bool
is_option word = starts_with nat_eq word (codes "--")

-- what words ask for: the closure of the bundle in a file, a run of the generated workflow of so many nodes, what the program does, or its
-- name and version
pub data Request : Type 0 where
  compile : List ℕ → Request
  make : ℕ → Request
  help : Request
  version : Request

-- `compile` and a file
pub record IsCompile (words : List (List ℕ)) (path : List ℕ) : Type 0 where
  pub spelled : words ≡ codes "compile" ∷ path ∷ []
  pub file : is_option path ≡ false

-- `make` and a number of nodes
pub record IsMake (words : List (List ℕ)) (count : ℕ) : Type 0 where
  pub spelled : words ≡ codes "make" ∷ decimal count ∷ []
  pub some : 1 ≤ count
  pub few : count ≤ most_nodes

-- the words ask for this
abbrev pub IsRequest : List (List ℕ) → Request → Type 0
IsRequest words (compile path) = IsCompile words path
IsRequest words (make count) = IsMake words count
IsRequest words help = words ≡ codes "--help" ∷ []
IsRequest words version = words ≡ codes "--version" ∷ []

-- the words are those of a command
abbrev pub IsCommand : List (List ℕ) → Type 0
IsCommand words = (request : Request) × IsRequest words request

-- words of a grammar begin with these
abbrev pub Begins : (List (List ℕ) → Type 0) → List (List ℕ) → Type 0
Begins IsWhole words = (rest : List (List ℕ)) × IsWhole (words ++ rest)

-- The first k words begin words of the grammar, and with the word k no longer do. Where all words begin some, and more
-- are missing, k is their number.
pub record IsFirstWrong (IsWhole : List (List ℕ) → Type 0) (words : List (List ℕ)) (k : ℕ) : Type 0 where
  pub right : Begins IsWhole (take k words)
  pub within : k ≤ length words
  pub next : k < length words → Begins IsWhole (take (k + 1) words) → ⊥
  pub whole : IsWhole words → ⊥
