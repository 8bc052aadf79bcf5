-- Some command lines of `run`, and which of their words is the first wrong one.
use Rattle.std.proofs.Common.{◌≡◌, ◌≢◌, ℕ, ◌≤◌, List, [], ◌∷◌, false, None, All, Bor, codes, decimal, refl, arith}
use Rattle.std.proofs.lemmas.Fmt.{decimal_injective}
use Rattle.std.proofs.lemmas.List.Elements.{All-nil, All-cons}
use Rattle.std.specs.List.{filter_map}
use Rattle.fly_app.specs.declared.run_words.Files.{Files}
use Rattle.fly_app.specs.declared.run_words.Files.TheVariants as files
use Rattle.fly_app.specs.declared.run_words.Given.{Given}
use Rattle.fly_app.specs.Words.{is_option, IsFirstWrong}
use Rattle.fly_app.specs.RunWords.{RunRequest, NumberOption, lag, name_of, default_of, asked_number, Argument, file, number, number_of, IsArgument, IsGivenOnce, IsRun, IsRunCommand}
use Rattle.fly_app.specs.GivenWords.{given_numbers}
use Rattle.fly_app.proofs.RunWordsLemmas.{HasRead, wrong_at, missing_file, wrong_file, wrong_option, wrong_number}

are_files : (b s j : List ℕ) → is_option b ≡ false → is_option s ≡ false → is_option j ≡ false
    → All IsArgument (file b ∷ file s ∷ file j ∷ [])
are_files b s j first second third =
    let last = All-cons IsArgument (file j) [] third (All-nil IsArgument) in
    All-cons IsArgument (file b) (file s ∷ file j ∷ []) first (All-cons IsArgument (file s) (file j ∷ []) second last)

-- the option before the files
abbrev asked : RunRequest
asked = record { bundle = codes "b"; submissions = codes "s"; journal = codes "j"; lag = 0 }

abbrev lag_arguments : List Argument
lag_arguments = number lag 0 ∷ file (codes "b") ∷ file (codes "s") ∷ file (codes "j") ∷ []

given_zero : (option : NumberOption)
    → IsGivenOnce (filter_map (number_of option) lag_arguments) (default_of option) (asked_number option asked)
given_zero lag = refl

lag_first : IsRun (codes "run" ∷ codes "--lag" ∷ decimal 0 ∷ codes "b" ∷ codes "s" ∷ codes "j" ∷ []) asked
lag_first = record {
  arguments = lag_arguments;
  spelled = refl;
  each = All-cons IsArgument (number lag 0) (file (codes "b") ∷ file (codes "s") ∷ file (codes "j") ∷ [])
      (omega arith, omega arith) (are_files (codes "b") (codes "s") (codes "j") refl refl refl);
  given = record { named = refl; numbered = given_zero };
}

-- no option is given
no_number : (named : Files) (option : NumberOption) → given_numbers (record { files = named; lag = None }) option ≡ []
no_number named lag = refl

abbrev nothing : Given
nothing = record { files = files.Zero; lag = None }

-- nothing behind `run`
no_file : IsFirstWrong IsRunCommand (codes "run" ∷ []) 1
no_file = wrong_at (codes "run" ∷ []) 1 0 nothing (record {
  arguments = [];
  each = All-nil IsArgument;
  counted = refl;
  spelled = refl;
  files = refl;
  numbers = no_number files.Zero;
}) (missing_file nothing (omega arith))

-- ---- behind three files

abbrev three : (b s j : Bor (List ℕ)) → Given
three b s j = record { files = files.Three b s j; lag = None }

three_read : (b s j : Bor (List ℕ)) (rest : List (List ℕ)) → is_option b.now ≡ false → is_option s.now ≡ false
    → is_option j.now ≡ false → HasRead (codes "run" ∷ b.now ∷ s.now ∷ j.now ∷ rest) 4 (three b s j)
three_read b s j rest first second third = record {
  arguments = file b.now ∷ file s.now ∷ file j.now ∷ [];
  each = are_files b.now s.now j.now first second third;
  counted = refl;
  spelled = refl;
  files = refl;
  numbers = no_number (files.Three b s j);
}

fourth_file : (b s j : Bor (List ℕ)) (x : List ℕ) → is_option b.now ≡ false → is_option s.now ≡ false
    → is_option j.now ≡ false → is_option x ≡ false
    → IsFirstWrong IsRunCommand (codes "run" ∷ b.now ∷ s.now ∷ j.now ∷ x ∷ []) 4
fourth_file b s j x first second third fourth =
    wrong_at (codes "run" ∷ b.now ∷ s.now ∷ j.now ∷ x ∷ []) 4 0 (three b s j)
    (three_read b s j (x ∷ []) first second third) (wrong_file (three b s j) x [] fourth refl)

other_option : (b s j : Bor (List ℕ)) → is_option b.now ≡ false → is_option s.now ≡ false → is_option j.now ≡ false
    → IsFirstWrong IsRunCommand (codes "run" ∷ b.now ∷ s.now ∷ j.now ∷ codes "--workers" ∷ codes "2" ∷ []) 4
other_option b s j first second third =
    wrong_at (codes "run" ∷ b.now ∷ s.now ∷ j.now ∷ codes "--workers" ∷ codes "2" ∷ []) 4 0 (three b s j)
    (three_read b s j (codes "--workers" ∷ codes "2" ∷ []) first second third)
    (wrong_option (three b s j) (codes "--workers") (codes "2" ∷ []) refl other)
  where
    other : (option : NumberOption) → codes "--workers" ≢ name_of option
    other lag same = absurd (cc same)

lag_of_17 : (b s j : Bor (List ℕ)) → is_option b.now ≡ false → is_option s.now ≡ false → is_option j.now ≡ false
    → IsFirstWrong IsRunCommand (codes "run" ∷ b.now ∷ s.now ∷ j.now ∷ codes "--lag" ∷ decimal 17 ∷ []) 5
lag_of_17 b s j first second third =
    wrong_at (codes "run" ∷ b.now ∷ s.now ∷ j.now ∷ codes "--lag" ∷ decimal 17 ∷ []) 4 1 (three b s j)
    (three_read b s j (codes "--lag" ∷ decimal 17 ∷ []) first second third)
    (wrong_number (three b s j) lag (decimal 17 ∷ []) refl too_many)
  where
    too_many : (n : ℕ) (more : List (List ℕ)) → 0 ≤ n → n ≤ 16 → decimal 17 ∷ [] ≢ decimal n ∷ more
    too_many n more enough few same =
        let is : 17 ≡ n = decimal_injective 17 n (omega arith) (omega (arith, few)) (cc same) in
        omega (arith, is, few)
