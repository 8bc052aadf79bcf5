-- The words of `run`.
use Rattle.std.specs.Prelude.{◌≡◌, ℕ, ◌≤◌, Bool, false, List, [], ◌∷◌, Option, Some, None, codes, decimal}
use Rattle.std.specs.List.{All, flat_map, filter_map}
use Rattle.std.specs.Str.{bytes_eq}
use Rattle.fly_app.specs.Words.{is_option}

-- the first word is `run`
abbrev pub is_run_line : List (List ℕ) → Bool
is_run_line [] = false
is_run_line (word ∷ rest) = bytes_eq word (codes "run")

-- a run that is asked for: its three files, and how many versions back its worker may read
pub record RunRequest : Type 0 where
  pub bundle : List ℕ
  pub submissions : List ℕ
  pub journal : List ℕ
  pub lag : ℕ

-- ---- options

-- an option that is followed by a number
pub data NumberOption : Type 0 where
  lag : NumberOption

abbrev pub name_of : NumberOption → List ℕ
name_of lag = codes "--lag"

-- the least and the greatest number that it takes
abbrev pub least_of : NumberOption → ℕ
least_of lag = 0

abbrev pub most_of : NumberOption → ℕ
most_of lag = 16

-- its number where it isn't given
abbrev pub default_of : NumberOption → ℕ
default_of lag = 0

-- its number in a run
abbrev pub asked_number : NumberOption → RunRequest → ℕ
asked_number lag request = request.lag

-- ---- what stands behind `run`

-- a file, or an option and its number
pub data Argument : Type 0 where
  file : List ℕ → Argument
  number : NumberOption → ℕ → Argument

-- the words that it is written in
abbrev pub words_of : Argument → List (List ℕ)
words_of (file path) = path ∷ []
words_of (number option n) = name_of option ∷ decimal n ∷ []

-- a file is no option, and a number is within its limits
abbrev pub IsArgument : Argument → Type 0
IsArgument (file path) = is_option path ≡ false
IsArgument (number option n) = (least_of option ≤ n) × (n ≤ most_of option)

abbrev pub file_of : Argument → Option (List ℕ)
file_of (file path) = Some path
file_of (number option n) = None

-- the number that it gives this option
abbrev pub number_of : NumberOption → Argument → Option ℕ
number_of option (file path) = None
number_of lag (number lag n) = Some n

-- ---- the run that is asked for

-- an option that is given these numbers is given one, or none and has its default
abbrev pub IsGivenOnce : List ℕ → ℕ → ℕ → Type 0
IsGivenOnce [] default n = n ≡ default
IsGivenOnce (given ∷ []) default n = n ≡ given
IsGivenOnce (given ∷ again ∷ more) default n = ⊥

-- the three files in their order, and each option at most once, give this run
pub record AreGiven (files : List (List ℕ)) (numbers : NumberOption → List ℕ) (request : RunRequest) : Type 0 where
  pub named : files ≡ request.bundle ∷ request.submissions ∷ request.journal ∷ []
  pub numbered : (option : NumberOption) → IsGivenOnce (numbers option) (default_of option)
      (asked_number option request)

-- `run`, and behind it arguments in any order, which give this run
pub record IsRun (words : List (List ℕ)) (request : RunRequest) : Type 0 where
  pub arguments : List Argument
  pub spelled : words ≡ codes "run" ∷ flat_map words_of arguments
  pub each : All IsArgument arguments
  pub given : AreGiven (filter_map file_of arguments) (λ option. filter_map (number_of option) arguments) request

-- the words are those of a run
abbrev pub IsRunCommand : List (List ℕ) → Type 0
IsRunCommand words = (request : RunRequest) × IsRun words request
