-- What the words of a run that were read stand for.
use Rattle.std.specs.Prelude.{◌≡◌, ◌≢◌, ℕ, ◌≤◌, List, [], ◌∷◌, ◌++◌, length, drop, Option, Some, None, decimal}
use Rattle.std.specs.List.{All, flat_map, filter_map}
use Rattle.fly_app.specs.declared.run_words.RunWords.{RunWords}
use Rattle.fly_app.specs.declared.run_words.Files.{Files}
use Rattle.fly_app.specs.declared.run_words.Files.TheVariants as files
use Rattle.fly_app.specs.declared.run_words.Given.{Given}
use Rattle.fly_app.specs.RunWords.{RunRequest, NumberOption, lag, Argument, words_of, IsArgument, file_of, number_of, AreGiven}

-- the run that was read
abbrev pub run_request_of : RunWords → RunRequest
run_request_of run =
    record { bundle = run.bundle.now; submissions = run.submissions.now; journal = run.journal.now; lag = run.lag }

abbrev pub paths_of : Files → List (List ℕ)
paths_of files.Zero = []
paths_of (files.One bundle) = bundle.now ∷ []
paths_of (files.Two bundle submissions) = bundle.now ∷ submissions.now ∷ []
paths_of (files.Three bundle submissions journal) = bundle.now ∷ submissions.now ∷ journal.now ∷ []

abbrev pub numbers_of : Option ℕ → List ℕ
numbers_of None = []
numbers_of (Some n) = n ∷ []

-- the numbers that an option was given
abbrev pub given_numbers : Given → NumberOption → List ℕ
given_numbers given lag = numbers_of given.lag

-- further words which make a run of what was given
pub record Completes (given : Given) (words : List (List ℕ)) : Type 0 where
  pub arguments : List Argument
  pub spelled : words ≡ flat_map words_of arguments
  pub each : All IsArgument arguments
  pub request : RunRequest
  pub whole : AreGiven (paths_of given.files ++ filter_map file_of arguments)
      (λ option. given_numbers given option ++ filter_map (number_of option) arguments) request

-- the first words, so many, are an argument, and the new is given with it
pub record ReadsArgument (old new : Given) (words : List (List ℕ)) (count : ℕ) : Type 0 where
  pub argument : Argument
  pub allowed : IsArgument argument
  pub spelled : words ≡ words_of argument ++ drop count words
  pub counted : count ≡ length (words_of argument)
  pub files : paths_of new.files ≡ paths_of old.files ++ filter_map file_of (argument ∷ [])
  pub numbers : (option : NumberOption)
      → given_numbers new option ≡ given_numbers old option ++ filter_map (number_of option) (argument ∷ [])

-- an option that wasn't given before is followed by this number, which is within its limits
pub record IsFollowed (given : Option ℕ) (words : List (List ℕ)) (least most n : ℕ) : Type 0 where
  pub first : given ≡ None
  pub enough : least ≤ n
  pub few : n ≤ most
  pub spelled : words ≡ decimal n ∷ drop 1 words

-- an option that was given before is wrong itself, and else what stands in place of its number
abbrev pub IsNotFollowed : Option ℕ → List (List ℕ) → ℕ → ℕ → ℕ → Type 0
IsNotFollowed (Some before) words least most right = right ≡ 0
IsNotFollowed None words least most right =
    (right ≡ 1) × ((n : ℕ) (more : List (List ℕ)) → least ≤ n → n ≤ most → words ≢ decimal n ∷ more)
