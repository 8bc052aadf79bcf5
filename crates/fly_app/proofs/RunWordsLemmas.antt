-- The words of a run, read from the left.
use Rattle.std.proofs.Common.{◌≡◌, ◌≢◌, ℕ, ◌+◌, ◌-◌, ◌^◌, ◌<◌, ◌≤◌, List, [], ◌∷◌, ◌++◌, length, take, drop, get_or, true, false, true≢false, Option, Some, None, MatchOption, IfOk, IfErr, Result, All, codes, decimal, refl, sym, ap, subst, ◌∙◌, append_assoc, length-append, length-drop, arith}
use Rattle.std.specs.List.{flat_map, filter_map}
use Rattle.std.specs.Option.{is_some, ok_or}
use Rattle.std.specs.Str.{bytes_eq}
use Rattle.std.proofs.Math.Seq.{take-length}
use Rattle.std.proofs.lemmas.Fmt.{decimal_injective}
use Rattle.std.proofs.lemmas.Grind.{flat_map-append}
use Rattle.std.proofs.lemmas.List.{append-nil, drop-drop, flat_map_more}
use Rattle.std.proofs.lemmas.List.Elements.{All-nil, All-cons, All-head, All-tail, All-append, filter_map-append}
use Rattle.std.proofs.lemmas.Slice.Eq.{bytes_eq-Decides}
use Rattle.fly_app.specs.declared.run_words.RunWords.{RunWords}
use Rattle.fly_app.specs.declared.run_words.Files.{Files}
use Rattle.fly_app.specs.declared.run_words.Files.TheVariants as files
use Rattle.fly_app.specs.declared.run_words.Given.{Given}
use Rattle.fly_app.specs.Words.{is_option, IsFirstWrong}
use Rattle.fly_app.specs.RunWords.{RunRequest, NumberOption, lag, name_of, least_of, most_of, default_of, asked_number, Argument, file, number, words_of, IsArgument, file_of, number_of, IsGivenOnce, AreGiven, IsRun, IsRunCommand}
use Rattle.fly_app.specs.GivenWords.{run_request_of, paths_of, numbers_of, given_numbers, Completes, ReadsArgument, IsFollowed, IsNotFollowed}
use Rattle.fly_app.proofs.Grammars.{wrong_word, missing_word, wrong_behind}

-- ---- the table of options

-- an option is no file
is_name : (option : NumberOption) → is_option (name_of option) ≡ true
is_name lag = refl

not_file : {word : List ℕ} (option : NumberOption) → is_option word ≡ false → word ≡ name_of option → ⊥
not_file {word} option plain is = true≢false (sym (is_name option) ∙ ap is_option (sym is) ∙ plain)

one_name : (a b : NumberOption) → name_of a ≡ name_of b → a ≡ b
one_name lag lag is = refl

small : (option : NumberOption) (n : ℕ) → n ≤ most_of option → n < 2 ^ 64
small lag n few = omega (arith, few)

default_fits : (option : NumberOption) → IsArgument (number option (default_of option))
default_fits lag = (omega arith, omega arith)

-- its number is given to it alone
given_itself : (option : NumberOption) (n : ℕ) → number_of option (number option n) ≡ Some n
given_itself lag n = refl

-- each option was given a number or none
few_numbers : (given : Given) (option : NumberOption) → length (given_numbers given option) ≤ 1
few_numbers given lag = by_number given.lag
  where
    by_number : (o : Option ℕ) → length (numbers_of o) ≤ 1
    by_number None = omega arith
    by_number (Some n) = omega arith

few_with : (given : Given) (option other : NumberOption) (n : ℕ) → given_numbers given option ≡ []
    → length (given_numbers given other ++ filter_map (number_of other) (number option n ∷ [])) ≤ 1
few_with given lag lag n first = rw first (omega arith)

-- ---- words are read in one way

-- two arguments at the head of the same words are one
one_argument : (a b : Argument) (r s : List (List ℕ)) → IsArgument a → IsArgument b → words_of a ++ r ≡ words_of b ++ s
    → (a ≡ b) × (r ≡ s)
one_argument (file p) (file q) r s x y is = (ap file (cc is), cc is)
one_argument (file p) (number option n) r s x y is = absurd (not_file {word = p} option x (cc is))
one_argument (number option n) (file p) r s x y is = absurd (not_file {word = p} option y (cc is))
one_argument (number option m) (number other n) r s x y is =
    let options : option ≡ other = one_name option other (cc is) in
    let numbers : m ≡ n = decimal_injective m n (small option m x.1) (small other n y.1) (cc is) in
    (cc, cc is)

none_empty : (a : Argument) (r : List (List ℕ)) → [] ≡ words_of a ++ r → ⊥
none_empty (file p) r is = cc is
none_empty (number option n) r is = cc is

none_left : (arguments : List Argument) → [] ≡ flat_map words_of arguments → arguments ≡ []
none_left [] is = refl
none_left (a ∷ more) is = absurd (none_empty a (flat_map words_of more) is)

-- what stands behind the words of the first arguments are the words of the others
record Cuts (before arguments : List Argument) (rest : List (List ℕ)) : Type 0 where
  pub after : List Argument
  pub whole : arguments ≡ before ++ after
  pub spelled : rest ≡ flat_map words_of after
  pub each : All IsArgument after

cut : (before arguments : List Argument) (rest : List (List ℕ)) → All IsArgument before → All IsArgument arguments
    → flat_map words_of before ++ rest ≡ flat_map words_of arguments → Cuts before arguments rest
cut [] arguments rest own each is = record { after = arguments; whole = refl; spelled = is; each = each }
cut (a ∷ before) [] rest own each is =
    absurd (none_empty a (flat_map words_of before ++ rest)
    (sym is ∙ append_assoc (words_of a) (flat_map words_of before) rest))
cut (a ∷ before) (b ∷ more) rest own each is =
    let same = one_argument a b (flat_map words_of before ++ rest) (flat_map words_of more)
    (All-head IsArgument a before own)
    (All-head IsArgument b more each) (sym (append_assoc (words_of a) (flat_map words_of before) rest) ∙ is) in
    let deeper = cut before more rest (All-tail IsArgument a before own) (All-tail IsArgument b more each) same.1 in
    record {
      after = deeper.after;
      whole = ap (λ (x : Argument). x ∷ more) (sym same.0) ∙ ap (λ (xs : List Argument). a ∷ xs) deeper.whole;
      spelled = deeper.spelled;
      each = deeper.each;
    }

-- how the words of arguments begin
data BeginsAs (word : List ℕ) (rest : List (List ℕ)) (arguments : List Argument) : Type 0 where
  as_file : (more : List Argument) → is_option word ≡ false → arguments ≡ file word ∷ more
      → BeginsAs word rest arguments
  as_number : (option : NumberOption) (n : ℕ) (more : List Argument) → IsArgument (number option n)
      → word ≡ name_of option
      → rest ≡ decimal n ∷ flat_map words_of more → arguments ≡ number option n ∷ more → BeginsAs word rest arguments

begins_as : (word : List ℕ) (rest : List (List ℕ)) (arguments : List Argument) → All IsArgument arguments
    → word ∷ rest ≡ flat_map words_of arguments → BeginsAs word rest arguments
begins_as word rest [] each is = absurd (cc is)
begins_as word rest (file path ∷ more) each is =
    let same : path ≡ word = cc is in
    let plain : is_option path ≡ false = All-head IsArgument (file path) more each in
    as_file more (ap is_option (sym same) ∙ plain) (ap (λ (p : List ℕ). file p ∷ more) same)
begins_as word rest (number option n ∷ more) each is =
    as_number option n more (All-head IsArgument (number option n) more each) (cc is) (cc is) refl

-- ---- words ask for one run

one_number : (numbers : List ℕ) (default m n : ℕ) → IsGivenOnce numbers default m → IsGivenOnce numbers default n
    → m ≡ n
one_number [] default m n a b = a ∙ sym b
one_number (given ∷ []) default m n a b = a ∙ sym b
one_number (given ∷ again ∷ more) default m n a b = absurd a

abbrev request_of_parts : List ℕ → List ℕ → List ℕ → ℕ → RunRequest
request_of_parts b s j n = record { bundle = b; submissions = s; journal = j; lag = n }

same_request : (b s j b' s' j' : List ℕ) (n n' : ℕ) → b ≡ b' → s ≡ s' → j ≡ j' → n ≡ n'
    → request_of_parts b s j n ≡ request_of_parts b' s' j' n'
same_request b s j b' s' j' n n' first second third last = cc

one_given : (files : List (List ℕ)) (numbers : NumberOption → List ℕ) (r s : RunRequest) → AreGiven files numbers r
    → AreGiven files numbers s → r ≡ s
one_given files numbers r s a b =
    let same = sym a.named ∙ b.named in
    same_request r.bundle r.submissions r.journal s.bundle s.submissions s.journal r.lag s.lag
    (cc same) (cc same) (cc same)
    (one_number (numbers lag) (default_of lag) r.lag s.lag (a.numbered lag) (b.numbered lag))

pub one_run : (words : List (List ℕ)) (r s : RunRequest) → IsRun words r → IsRun words s → r ≡ s
one_run words r s a b =
    let behind : flat_map words_of a.arguments ≡ flat_map words_of b.arguments = cc (sym a.spelled ∙ b.spelled) in
    let parts = cut a.arguments b.arguments [] a.each b.each (append-nil (flat_map words_of a.arguments) ∙ behind) in
    let same : b.arguments ≡ a.arguments = parts.whole
    ∙ ap (λ (xs : List Argument). a.arguments ++ xs) (none_left parts.after parts.spelled)
    ∙ append-nil a.arguments in
    one_given (filter_map file_of a.arguments) (λ option. filter_map (number_of option) a.arguments) r s a.given
    (subst (λ (xs : List Argument). AreGiven (filter_map file_of xs)
    (λ option. filter_map (number_of option) xs) s) same b.given)

-- ---- what was given can be completed

-- files in the place of those that are missing
record Fills (paths : List (List ℕ)) : Type 0 where
  pub missing : List Argument
  pub each : All IsArgument missing
  pub bundle : List ℕ
  pub submissions : List ℕ
  pub journal : List ℕ
  pub named : paths ++ filter_map file_of missing ≡ bundle ∷ submissions ∷ journal ∷ []
  pub plain : (option : NumberOption) → filter_map (number_of option) missing ≡ []

-- any file will do, as the one without a name
one_file : All IsArgument (file [] ∷ [])
one_file = All-cons IsArgument (file []) [] refl (All-nil IsArgument)

two_files : All IsArgument (file [] ∷ file [] ∷ [])
two_files = All-cons IsArgument (file []) (file [] ∷ []) refl one_file

three_files : All IsArgument (file [] ∷ file [] ∷ file [] ∷ [])
three_files = All-cons IsArgument (file []) (file [] ∷ file [] ∷ []) refl two_files

fills : (paths : List (List ℕ)) → length paths ≤ 3 → Fills paths
fills [] few = record {
  missing = file [] ∷ file [] ∷ file [] ∷ [];
  each = three_files;
  bundle = [];
  submissions = [];
  journal = [];
  named = refl;
  plain = λ option. refl;
}
fills (b ∷ []) few = record {
  missing = file [] ∷ file [] ∷ [];
  each = two_files;
  bundle = b;
  submissions = [];
  journal = [];
  named = refl;
  plain = λ option. refl;
}
fills (b ∷ s ∷ []) few = record {
  missing = file [] ∷ [];
  each = one_file;
  bundle = b;
  submissions = s;
  journal = [];
  named = refl;
  plain = λ option. refl;
}
fills (b ∷ s ∷ j ∷ []) few = record {
  missing = [];
  each = All-nil IsArgument;
  bundle = b;
  submissions = s;
  journal = j;
  named = refl;
  plain = λ option. refl;
}
fills (b ∷ s ∷ j ∷ x ∷ more) few = absurd (omega arith)

few_paths : (named : Files) → length (paths_of named) ≤ 3
few_paths files.Zero = omega arith
few_paths (files.One b) = omega arith
few_paths (files.Two b s) = omega arith
few_paths (files.Three b s j) = omega arith

some_number : (numbers : List ℕ) (default : ℕ) → length numbers ≤ 1 → (n : ℕ) × IsGivenOnce numbers default n
some_number [] default few = (default, refl)
some_number (n ∷ []) default few = (n, refl)
some_number (m ∷ n ∷ more) default few = absurd (omega arith)

-- a run with these files, where each option was given once at most
some_run : (b s j : List ℕ) (numbers : NumberOption → List ℕ) → ((option : NumberOption) → length (numbers option) ≤ 1)
    → (r : RunRequest) × AreGiven (b ∷ s ∷ j ∷ []) numbers r
some_run b s j numbers few = (request_of_parts b s j at_lag.0, record { named = refl; numbered = numbered })
  where
    at_lag : (n : ℕ) × IsGivenOnce (numbers lag) (default_of lag) n
    at_lag = some_number (numbers lag) (default_of lag) (few lag)

    numbered : (option : NumberOption) → IsGivenOnce (numbers option) (default_of option)
        (asked_number option (request_of_parts b s j at_lag.0))
    numbered lag = at_lag.1

-- arguments that leave each option given once at most, and then files
completes_by : (given : Given) (first : List Argument) → All IsArgument first → filter_map file_of first ≡ []
    → ((option : NumberOption) → length (given_numbers given option ++ filter_map (number_of option) first) ≤ 1)
    → (some : List (List ℕ)) × Completes given (flat_map words_of first ++ some)
completes_by given first allowed no_file few = (
  flat_map words_of f.missing,
  record {
    arguments = first ++ f.missing;
    spelled = sym (flat_map-append words_of first f.missing);
    each = All-append IsArgument first f.missing allowed f.each;
    request = run.0;
    whole = record { named = named ∙ run.1.named; numbered = run.1.numbered };
  },
)
  where
    f : Fills (paths_of given.files)
    f = fills (paths_of given.files) (few_paths given.files)

    at_most : (option : NumberOption)
        → length (given_numbers given option ++ filter_map (number_of option) (first ++ f.missing)) ≤ 1
    at_most option =
        rw (
          filter_map-append (number_of option) first f.missing,
          f.plain option,
          append-nil (filter_map (number_of option) first),
        ) (few option)

    run : (r : RunRequest) × AreGiven (f.bundle ∷ f.submissions ∷ f.journal ∷ [])
        (λ option. given_numbers given option ++ filter_map (number_of option) (first ++ f.missing)) r
    run = some_run f.bundle f.submissions f.journal
        (λ option. given_numbers given option ++ filter_map (number_of option) (first ++ f.missing)) at_most

    named : paths_of given.files ++ filter_map file_of (first ++ f.missing) ≡ f.bundle ∷ f.submissions ∷ f.journal ∷ []
    named = rw (filter_map-append file_of first f.missing, no_file) f.named

completable : (given : Given) → (some : List (List ℕ)) × Completes given some
completable given = completes_by given [] (All-nil IsArgument) refl
    (λ option. rw (append-nil (given_numbers given option)) (few_numbers given option))

-- also by an option that wasn't given
completable_by : (given : Given) (option : NumberOption) → given_numbers given option ≡ []
    → (some : List (List ℕ)) × Completes given (name_of option ∷ some)
completable_by given option first =
    let some = completes_by given (number option (default_of option) ∷ [])
    (All-cons IsArgument _ [] (default_fits option) (All-nil IsArgument)) refl
    (λ other. few_with given option other (default_of option) first) in
    (decimal (default_of option) ∷ some.0, some.1)

-- ---- the first wrong word behind what was given

pub wrong_option : (given : Given) (word : List ℕ) (rest : List (List ℕ)) → is_option word ≡ true
    → ((option : NumberOption) → word ≢ name_of option)
    → IsFirstWrong (Completes given) (word ∷ rest) 0
wrong_option given word rest option other =
    let some = completable given in wrong_word (Completes given) [] word rest some.0 some.1 none
  where
    none : (more : List (List ℕ)) → Completes given (word ∷ more) → ⊥
    none more is = elim (begins_as word more is.arguments is.each is.spelled) [
      | as_file _ plain _ ↦ true≢false (sym option ∙ plain)
      | as_number o _ _ _ named _ _ ↦ other o named
    ]

pub wrong_file : (given : Given) (word : List ℕ) (rest : List (List ℕ)) → is_option word ≡ false
    → length (paths_of given.files) ≡ 3
    → IsFirstWrong (Completes given) (word ∷ rest) 0
wrong_file given word rest plain all =
    let some = completable given in wrong_word (Completes given) [] word rest some.0 some.1 none
  where
    none : (more : List (List ℕ)) → Completes given (word ∷ more) → ⊥
    none more is = elim (begins_as word more is.arguments is.each is.spelled) [
      | as_file others _ are ↦
          let named = ap length (subst (λ (xs : List Argument). paths_of given.files ++ filter_map file_of xs ≡
          is.request.bundle ∷ is.request.submissions ∷ is.request.journal ∷ []) are is.whole.named) in
          omega (arith, named, all, length-append (paths_of given.files) (word ∷ filter_map file_of others))
      | as_number o _ _ _ named _ _ ↦ not_file o plain named
    ]

-- what stands behind an option is its number
behind_option : (given : Given) (option : NumberOption) (rest : List (List ℕ))
    (is : Completes given (name_of option ∷ rest))
    → (n : ℕ) × (more : List Argument) × IsArgument (number option n)
    × (rest ≡ decimal n ∷ flat_map words_of more) × (is.arguments ≡ number option n ∷ more)
behind_option given option rest is = elim (begins_as (name_of option) rest is.arguments is.each is.spelled) [
  | as_file _ plain _ ↦ absurd (not_file option plain refl)
  | as_number o n more fits named behind are ↦
      let same : o ≡ option = one_name o option (sym named) in (
        n,
        more,
        subst (λ (p : NumberOption). IsArgument (number p n)) same fits,
        behind,
        are ∙ ap (λ (p : NumberOption). number p n ∷ more) same,
      )
]

two_numbers : (given : Given) (option : NumberOption) (m n : ℕ) (more : List Argument)
    → given_numbers given option ≡ m ∷ []
    → given_numbers given option ++ filter_map (number_of option) (number option n ∷ more)
    ≡ m ∷ n ∷ filter_map (number_of option) more
two_numbers given option m n more before = rw (given_itself option n, before) refl

given_twice : (m n default k : ℕ) (more : List ℕ) → IsGivenOnce ((m ∷ []) ++ n ∷ more) default k → ⊥
given_twice m n default k more is = is

wrong_again : (given : Given) (option : NumberOption) (rest : List (List ℕ)) (m : ℕ)
    → given_numbers given option ≡ m ∷ []
    → IsFirstWrong (Completes given) (name_of option ∷ rest) 0
wrong_again given option rest m before =
    let some = completable given in wrong_word (Completes given) [] (name_of option) rest some.0 some.1 none
  where
    none : (more : List (List ℕ)) → Completes given (name_of option ∷ more) → ⊥
    none more is =
        let got = behind_option given option more is in
        let twice : given_numbers given option ++ filter_map (number_of option) is.arguments
        ≡ m ∷ got.0 ∷ filter_map (number_of option) got.1 =
        ap (λ (xs : List Argument). given_numbers given option ++ filter_map (number_of option) xs) got.4
        ∙ two_numbers given option m got.0 got.1 before in
        given_twice m got.0 (default_of option) (asked_number option is.request) (filter_map (number_of option) got.1)
        (subst (λ (ns : List ℕ). IsGivenOnce ns (default_of option) (asked_number option is.request)) twice
        (is.whole.numbered option))

pub wrong_number : (given : Given) (option : NumberOption) (rest : List (List ℕ)) → given_numbers given option ≡ []
    → ((n : ℕ) (more : List (List ℕ)) → least_of option ≤ n → n ≤ most_of option → rest ≢ decimal n ∷ more)
    → IsFirstWrong (Completes given) (name_of option ∷ rest) 1
wrong_number given option [] first none =
    let some = completable_by given option first in
    missing_word (Completes given) (name_of option ∷ []) some.0 some.1
    (λ is. let got = behind_option given option [] is in none got.0 (flat_map words_of got.1) got.2.0 got.2.1 got.3)
wrong_number given option (word ∷ rest) first none =
    let some = completable_by given option first in
    wrong_word (Completes given) (name_of option ∷ []) word rest some.0 some.1
    (λ more is. let got = behind_option given option (word ∷ more) is in none got.0 rest got.2.0 got.2.1 (cc got.3))

-- an option without its number, or once more
wrong_behind_option : (given : Given) (option : NumberOption) (before : Option ℕ) (rest : List (List ℕ)) (k : ℕ)
    → given_numbers given option ≡ numbers_of before → IsNotFollowed before rest (least_of option) (most_of option) k
    → IsFirstWrong (Completes given) (name_of option ∷ rest) k
wrong_behind_option given option None rest k same is =
    subst (IsFirstWrong (Completes given) (name_of option ∷ rest)) (sym is.0) (wrong_number given option rest same is.1)
wrong_behind_option given option (Some m) rest k same is =
    subst (IsFirstWrong (Completes given) (name_of option ∷ rest)) (sym is) (wrong_again given option rest m same)

pub missing_file : (given : Given) → length (paths_of given.files) < 3 → IsFirstWrong (Completes given) [] 0
missing_file given few = let some = completable given in missing_word (Completes given) [] some.0 some.1 none
  where
    none : Completes given [] → ⊥
    none is =
        let named = ap length (subst (λ (xs : List Argument). paths_of given.files ++ filter_map file_of xs ≡
        is.request.bundle ∷ is.request.submissions ∷ is.request.journal ∷ [])
        (none_left is.arguments is.spelled) is.whole.named) in
        omega (arith, named, few, length-append (paths_of given.files) [])

-- ---- the words that were read

-- the words before `at` are `run` and arguments, which gave this
pub record HasRead (words : List (List ℕ)) (at : ℕ) (given : Given) : Type 0 where
  pub arguments : List Argument
  pub each : All IsArgument arguments
  pub counted : at ≡ length (codes "run" ∷ flat_map words_of arguments)
  pub spelled : words ≡ codes "run" ∷ flat_map words_of arguments ++ drop at words
  pub files : paths_of given.files ≡ filter_map file_of arguments
  pub numbers : (option : NumberOption) → given_numbers given option ≡ filter_map (number_of option) arguments

pub reads_on : (words : List (List ℕ)) (at count : ℕ) (old new : Given) → HasRead words at old
    → ReadsArgument old new (drop at words) count
    → HasRead words (at + count) new
reads_on words at count old new read reads = record {
  arguments = read.arguments ++ reads.argument ∷ [];
  each = All-append IsArgument read.arguments (reads.argument ∷ []) read.each
      (All-cons IsArgument reads.argument [] reads.allowed (All-nil IsArgument));
  counted = omega (arith, read.counted, reads.counted, length-append front (words_of reads.argument), ap length longer);
  spelled = read.spelled ∙ ap (λ (ws : List (List ℕ)). front ++ ws) (reads.spelled
      ∙ ap (λ (ws : List (List ℕ)). words_of reads.argument ++ ws) (drop-drop count at words))
      ∙ sym (append_assoc front (words_of reads.argument) (drop (at + count) words))
      ∙ ap (λ (ws : List (List ℕ)). ws ++ drop (at + count) words) longer;
  files = reads.files ∙ ap (λ (ps : List (List ℕ)). ps ++ filter_map file_of (reads.argument ∷ [])) read.files
      ∙ sym (filter_map-append file_of read.arguments (reads.argument ∷ []));
  numbers = λ option. reads.numbers option
      ∙ ap (λ (ns : List ℕ). ns ++ filter_map (number_of option) (reads.argument ∷ [])) (read.numbers option)
      ∙ sym (filter_map-append (number_of option) read.arguments (reads.argument ∷ []));
}
  where
    front : List (List ℕ)
    front = codes "run" ∷ flat_map words_of read.arguments

    longer : front ++ words_of reads.argument ≡ codes "run" ∷ flat_map words_of (read.arguments ++ reads.argument ∷ [])
    longer = flat_map_more words_of (codes "run" ∷ []) read.arguments reads.argument

-- a wrong word behind them
pub wrong_at : (words : List (List ℕ)) (at k : ℕ) (given : Given) → HasRead words at given
    → IsFirstWrong (Completes given) (drop at words) k
    → IsFirstWrong IsRunCommand words (at + k)
wrong_at words at k given read wrong =
    subst (λ (n : ℕ). IsFirstWrong IsRunCommand words (n + k)) (sym read.counted)
    (subst (λ (ws : List (List ℕ)). IsFirstWrong IsRunCommand ws (length front + k)) (sym read.spelled)
    (wrong_behind (Completes given) IsRunCommand front (drop at words) k onto back wrong))
  where
    front : List (List ℕ)
    front = codes "run" ∷ flat_map words_of read.arguments

    named : (after : List Argument)
        → filter_map file_of (read.arguments ++ after) ≡ paths_of given.files ++ filter_map file_of after
    named after = filter_map-append file_of read.arguments after
        ∙ ap (λ (ps : List (List ℕ)). ps ++ filter_map file_of after) (sym read.files)

    numbered : (after : List Argument) (option : NumberOption)
        → filter_map (number_of option) (read.arguments ++ after)
        ≡ given_numbers given option ++ filter_map (number_of option) after
    numbered after option = filter_map-append (number_of option) read.arguments after
        ∙ ap (λ (ns : List ℕ). ns ++ filter_map (number_of option) after) (sym (read.numbers option))

    onto : (rest : List (List ℕ)) → Completes given rest → IsRunCommand (front ++ rest)
    onto rest is = (
      is.request,
      record {
        arguments = read.arguments ++ is.arguments;
        spelled = ap (λ (ws : List (List ℕ)). front ++ ws) is.spelled
            ∙ ap (λ (ws : List (List ℕ)). codes "run" ∷ ws) (sym (flat_map-append words_of read.arguments is.arguments));
        each = All-append IsArgument read.arguments is.arguments read.each is.each;
        given = record {
          named = named is.arguments ∙ is.whole.named;
          numbered = λ option. subst (λ (ns : List ℕ). IsGivenOnce ns (default_of option)
              (asked_number option is.request))
              (sym (numbered is.arguments option)) (is.whole.numbered option);
        };
      },
    )

    back : (rest : List (List ℕ)) → IsRunCommand (front ++ rest) → Completes given rest
    back rest is =
        let parts = cut read.arguments is.1.arguments rest read.each is.1.each (cc is.1.spelled) in
        record {
          arguments = parts.after;
          spelled = parts.spelled;
          each = parts.each;
          request = is.0;
          whole = record {
            named = sym (named parts.after) ∙ ap (filter_map file_of) (sym parts.whole) ∙ is.1.given.named;
            numbered = λ option. subst (λ (ns : List ℕ). IsGivenOnce ns (default_of option) (asked_number option is.0))
                (ap (filter_map (number_of option)) parts.whole ∙ numbered parts.after option)
                (is.1.given.numbered option);
          };
        }

no_words : (ws : List (List ℕ)) → length ws ≡ 0 → ws ≡ []
no_words [] none = refl
no_words (w ∷ ws) none = absurd (omega arith)

run_read : (words : List (List ℕ)) (at : ℕ) (given : Given) (r : RunRequest) → HasRead words at given
    → length (drop at words) ≡ 0
    → AreGiven (paths_of given.files) (given_numbers given) r → IsRun words r
run_read words at given r read none whole = record {
  arguments = read.arguments;
  spelled = read.spelled ∙ ap (λ (ws : List (List ℕ)). codes "run" ∷ flat_map words_of read.arguments ++ ws)
      (no_words (drop at words) none)
      ∙ append-nil (codes "run" ∷ flat_map words_of read.arguments);
  each = read.each;
  given = record {
    named = sym read.files ∙ whole.named;
    numbered = λ option. subst (λ (ns : List ℕ). IsGivenOnce ns (default_of option) (asked_number option r))
        (read.numbers option) (whole.numbered option);
  };
}

-- ---- as the code splits the words

rest_at : (words : List (List ℕ)) (at : ℕ) → take (length words - at) (drop at words) ≡ drop at words
rest_at words at = ap (λ (n : ℕ). take n (drop at words)) (sym (length-drop at words)) ∙ take-length (drop at words)

pub split_at : (words rest : List (List ℕ)) (at : ℕ) (word spelled : List ℕ)
    → take (length words - at) (drop at words) ≡ word ∷ rest
    → spelled ≡ word → spelled ∷ rest ≡ drop at words
split_at words rest at word spelled parts same = ap (λ (w : List ℕ). w ∷ rest) same ∙ sym parts ∙ rest_at words at

pub none_at : (words : List (List ℕ)) (at : ℕ) → length (take (length words - at) (drop at words)) ≡ 0
    → length (drop at words) ≡ 0
none_at words at none = ap length (sym (rest_at words at)) ∙ none

-- at the end of the words stands a run
pub run_at_end : (words : List (List ℕ)) (at : ℕ) (given : Given) (found : Option RunWords)
    (result : Result RunWords ℕ) → HasRead words at given
    → length (drop at words) ≡ 0
    → MatchOption found (length (paths_of given.files) < 3)
    (λ r. AreGiven (paths_of given.files) (given_numbers given) (run_request_of r))
    → result ≡ ok_or found at → IfOk result (λ r. IsRun words (run_request_of r))
run_at_end words at given (Some r) result read none whole is = rw is
    (run_read words at given (run_request_of r) read none whole)
run_at_end words at given None result read none few is = rw is tt

-- or more words are missing
pub wrong_at_end : (words : List (List ℕ)) (at : ℕ) (given : Given) (found : Option RunWords)
    (result : Result RunWords ℕ) → HasRead words at given
    → length (drop at words) ≡ 0
    → MatchOption found (length (paths_of given.files) < 3)
    (λ r. AreGiven (paths_of given.files) (given_numbers given) (run_request_of r))
    → result ≡ ok_or found at → IfErr result (λ k. IsFirstWrong IsRunCommand words k)
wrong_at_end words at given (Some r) result read none whole is = rw is tt
wrong_at_end words at given None result read none few is =
    let last : at + 0 ≡ at = omega arith in
    let wrong = subst (λ (ws : List (List ℕ)). IsFirstWrong (Completes given) ws 0)
    (sym (no_words (drop at words) none)) (missing_file given few) in
    rw is (subst (IsFirstWrong IsRunCommand words) last (wrong_at words at 0 given read wrong))

-- what stands behind an option is no number within its limits
pub not_within : (given : Option ℕ) (words : List (List ℕ)) (word : List ℕ) (least most n : ℕ) → is_some given ≡ false
    → word ≡ get_or words 0 word
    → n < 2 ^ 32 → word ≡ decimal n → (least ≤ n → n ≤ most → ⊥) → most < 2 ^ 32
    → IsNotFollowed given words least most 1
not_within (Some before) words word least most n first at fits is out limit = absurd (true≢false first)
not_within None words word least most n first at fits is out limit = (
  refl,
  λ m more enough few spelled.
      let head : word ≡ decimal m = at ∙ ap (λ (ws : List (List ℕ)). get_or ws 0 word) spelled in
      let same : n ≡ m = decimal_injective n m (omega (arith, fits)) (omega (arith, few, limit)) (sym is ∙ head) in
      out (omega (arith, same, enough)) (omega (arith, same, few)),
)

-- ---- arguments, from what the tests of the first word told

is_named : (word : List ℕ) (option : NumberOption) → true ≡ bytes_eq word (name_of option) → word ≡ name_of option
is_named word option test = (bytes_eq-Decides word (name_of option)).0 (sym test)

not_named : (word : List ℕ) (option : NumberOption) → false ≡ bytes_eq word (name_of option) → word ≢ name_of option
not_named word option test is = true≢false (sym ((bytes_eq-Decides word (name_of option)).1 is) ∙ sym test)

pub none_named : (word : List ℕ) → false ≡ bytes_eq word (codes "--lag") → (option : NumberOption)
    → word ≢ name_of option
none_named word test lag = not_named word lag test

pub reads_lag : (given : Given) (word : List ℕ) (rest : List (List ℕ)) (n : ℕ) → true ≡ bytes_eq word (codes "--lag")
    → IsFollowed given.lag rest (least_of lag) (most_of lag) n
    → ReadsArgument given (record given { lag = Some n }) (word ∷ rest) 2
reads_lag given word rest n test behind = record {
  argument = number lag n;
  allowed = (behind.enough, behind.few);
  spelled = ap (λ (w : List ℕ). w ∷ rest) (is_named word lag test)
      ∙ ap (λ (ws : List (List ℕ)). name_of lag ∷ ws) behind.spelled;
  counted = refl;
  files = sym (append-nil (paths_of given.files));
  numbers = numbers;
}
  where
    numbers : (option : NumberOption)
        → given_numbers (record given { lag = Some n }) option
        ≡ given_numbers given option ++ filter_map (number_of option) (number lag n ∷ [])
    numbers lag = rw behind.first refl

pub wrong_lag : (given : Given) (word : List ℕ) (rest : List (List ℕ)) (k : ℕ) → true ≡ bytes_eq word (codes "--lag")
    → IsNotFollowed given.lag rest (least_of lag) (most_of lag) k → IsFirstWrong (Completes given) (word ∷ rest) k
wrong_lag given word rest k test behind = rw (is_named word lag test)
    (wrong_behind_option given lag given.lag rest k refl behind)

pub reads_file : (given : Given) (more : Files) (word : List ℕ) (rest : List (List ℕ)) → is_option word ≡ false
    → paths_of more ≡ paths_of given.files ++ word ∷ []
    → ReadsArgument given (record given { files = more }) (word ∷ rest) 1
reads_file given more word rest plain named = record {
  argument = file word;
  allowed = plain;
  spelled = refl;
  counted = refl;
  files = named;
  numbers = λ option. sym (append-nil (given_numbers given option));
}
