-- The first wrong word, by what the words begin with.
use Rattle.std.proofs.Common.{◌≡◌, ◌≢◌, ℕ, ◌<◌, ◌≤◌, ◌^◌, List, [], ◌∷◌, length, suc, ◌==◌, Bool, true, false, true≢false, ◌⊎◌, inl, inr, codes, decimal, refl, sym, ap, ◌∙◌, arith}
use Rattle.std.specs.Str.{bytes_eq}
use Rattle.std.proofs.lemmas.Bool.Decides.{nat_tests}
use Rattle.std.proofs.lemmas.Fmt.{decimal_injective}
use Rattle.std.proofs.lemmas.Slice.Eq.{bytes_eq-Decides}
use Rattle.fly_generator.specs.Generated.{most_nodes}
use Rattle.fly_app.specs.Words.{is_option, Request, compile, make, help, version, IsCompile, IsRequest, IsCommand, IsFirstWrong}
use Rattle.fly_app.proofs.Grammars.{wrong_word, missing_word}

-- any file will do, as the one without a name
command_at : (path : List ℕ) → is_option path ≡ false → IsCommand (codes "compile" ∷ path ∷ [])
command_at path h = (compile path, record { spelled = refl; file = h })

no_words : (r : Request) → IsRequest [] r → ⊥
no_words (compile path) is = absurd (cc is.spelled)
no_words (make count) is = absurd (cc is.spelled)
no_words help is = absurd (cc is)
no_words version is = absurd (cc is)

pub wrong_empty : IsFirstWrong IsCommand [] 0
wrong_empty = missing_word IsCommand [] (codes "compile" ∷ [] ∷ []) (command_at [] refl) (λ w. no_words w.0 w.1)

-- a word that begins no command
not_first : (command : List ℕ) (rest : List (List ℕ)) → command ≢ codes "compile" → command ≢ codes "make"
    → command ≢ codes "--help" → command ≢ codes "--version"
    → (r : Request) → IsRequest (command ∷ rest) r → ⊥
not_first command rest a m b c (compile path) is = a (cc is.spelled)
not_first command rest a m b c (make count) is = m (cc is.spelled)
not_first command rest a m b c help is = b (cc is)
not_first command rest a m b c version is = c (cc is)

pub wrong_command : (command : List ℕ) (rest : List (List ℕ)) → command ≢ codes "compile" → command ≢ codes "make"
    → command ≢ codes "--help"
    → command ≢ codes "--version" → IsFirstWrong IsCommand (command ∷ rest) 0
wrong_command command rest a m b c =
    wrong_word IsCommand [] command rest (codes "compile" ∷ [] ∷ []) (command_at [] refl)
    (λ more w. not_first command more a m b c w.0 w.1)

-- ---- behind `compile`

no_file : (r : Request) → IsRequest (codes "compile" ∷ []) r → ⊥
no_file (compile path) is = absurd (cc is.spelled)
no_file (make count) is = absurd (cc is.spelled)
no_file help is = absurd (cc is)
no_file version is = absurd (cc is)

pub wrong_missing : IsFirstWrong IsCommand (codes "compile" ∷ []) 1
wrong_missing = missing_word IsCommand (codes "compile" ∷ []) ([] ∷ []) (command_at [] refl) (λ w. no_file w.0 w.1)

not_option : (path : List ℕ) (rest : List (List ℕ)) → is_option path ≡ true → (r : Request)
    → IsRequest (codes "compile" ∷ path ∷ rest) r → ⊥
not_option path rest option (compile p) is = let same : path ≡ p = cc is.spelled in true≢false
    (sym option ∙ ap is_option same ∙ is.file)
not_option path rest option (make count) is = absurd (cc is.spelled)
not_option path rest option help is = absurd (cc is)
not_option path rest option version is = absurd (cc is)

pub wrong_option : (path : List ℕ) (rest : List (List ℕ)) → is_option path ≡ true
    → IsFirstWrong IsCommand (codes "compile" ∷ path ∷ rest) 1
wrong_option path rest option =
    wrong_word IsCommand (codes "compile" ∷ []) path rest ([] ∷ []) (command_at [] refl)
    (λ more w. not_option path more option w.0 w.1)

not_third : (path word : List ℕ) (rest : List (List ℕ)) → (r : Request)
    → IsRequest (codes "compile" ∷ path ∷ word ∷ rest) r → ⊥
not_third path word rest (compile p) is = absurd (cc is.spelled)
not_third path word rest (make count) is = absurd (cc is.spelled)
not_third path word rest help is = absurd (cc is)
not_third path word rest version is = absurd (cc is)

pub wrong_third : (path word : List ℕ) (rest : List (List ℕ)) → is_option path ≡ false
    → IsFirstWrong IsCommand (codes "compile" ∷ path ∷ word ∷ rest) 2
wrong_third path word rest file =
    wrong_word IsCommand (codes "compile" ∷ path ∷ []) word rest [] (command_at path file)
    (λ more w. not_third path word more w.0 w.1)

-- ---- behind `make`

-- any number will do, as 1
make_at : (count : ℕ) → 1 ≤ count → count ≤ most_nodes → IsCommand (codes "make" ∷ decimal count ∷ [])
make_at count some few = (make count, record { spelled = refl; some = some; few = few })

no_number : (r : Request) → IsRequest (codes "make" ∷ []) r → ⊥
no_number (compile path) is = absurd (cc is.spelled)
no_number (make count) is = absurd (cc is.spelled)
no_number help is = absurd (cc is)
no_number version is = absurd (cc is)

pub wrong_missing_number : IsFirstWrong IsCommand (codes "make" ∷ []) 1
wrong_missing_number =
    missing_word IsCommand (codes "make" ∷ []) (decimal 1 ∷ []) (make_at 1 (omega arith) (omega arith))
    (λ w. no_number w.0 w.1)

-- the word is the number of no workflow that is generated
abbrev pub IsNoCount : List ℕ → Type 0
IsNoCount word = (n : ℕ) → 1 ≤ n → n ≤ most_nodes → word ≢ decimal n

not_count : (word : List ℕ) (rest : List (List ℕ)) → IsNoCount word → (r : Request)
    → IsRequest (codes "make" ∷ word ∷ rest) r → ⊥
not_count word rest none (compile path) is = absurd (cc is.spelled)
not_count word rest none (make count) is = none count is.some is.few (cc is.spelled)
not_count word rest none help is = absurd (cc is)
not_count word rest none version is = absurd (cc is)

pub wrong_count : (word : List ℕ) (rest : List (List ℕ)) → IsNoCount word
    → IsFirstWrong IsCommand (codes "make" ∷ word ∷ rest) 1
wrong_count word rest none =
    wrong_word IsCommand (codes "make" ∷ []) word rest (decimal 1 ∷ []) (make_at 1 (omega arith) (omega arith))
    (λ more w. not_count word more none w.0 w.1)

not_behind_count : (number word : List ℕ) (rest : List (List ℕ)) → (r : Request)
    → IsRequest (codes "make" ∷ number ∷ word ∷ rest) r → ⊥
not_behind_count number word rest (compile path) is = absurd (cc is.spelled)
not_behind_count number word rest (make count) is = absurd (cc is.spelled)
not_behind_count number word rest help is = absurd (cc is)
not_behind_count number word rest version is = absurd (cc is)

wrong_behind_count : (count : ℕ) (word : List ℕ) (rest : List (List ℕ)) → 1 ≤ count → count ≤ most_nodes
    → IsFirstWrong IsCommand (codes "make" ∷ decimal count ∷ word ∷ rest) 2
wrong_behind_count count word rest some few =
    wrong_word IsCommand (codes "make" ∷ decimal count ∷ []) word rest [] (make_at count some few)
    (λ more w. not_behind_count (decimal count) word more w.0 w.1)

-- ---- behind `--help` and `--version`

not_behind_help : (word : List ℕ) (rest : List (List ℕ)) → (r : Request) → IsRequest (codes "--help" ∷ word ∷ rest) r
    → ⊥
not_behind_help word rest (compile p) is = absurd (cc is.spelled)
not_behind_help word rest (make count) is = absurd (cc is.spelled)
not_behind_help word rest help is = absurd (cc is)
not_behind_help word rest version is = absurd (cc is)

wrong_behind_help : (word : List ℕ) (rest : List (List ℕ)) → IsFirstWrong IsCommand (codes "--help" ∷ word ∷ rest) 1
wrong_behind_help word rest =
    wrong_word IsCommand (codes "--help" ∷ []) word rest [] (help, refl) (λ more w. not_behind_help word more w.0 w.1)

not_behind_version : (word : List ℕ) (rest : List (List ℕ)) → (r : Request)
    → IsRequest (codes "--version" ∷ word ∷ rest) r → ⊥
not_behind_version word rest (compile p) is = absurd (cc is.spelled)
not_behind_version word rest (make count) is = absurd (cc is.spelled)
not_behind_version word rest help is = absurd (cc is)
not_behind_version word rest version is = absurd (cc is)

wrong_behind_version : (word : List ℕ) (rest : List (List ℕ))
    → IsFirstWrong IsCommand (codes "--version" ∷ word ∷ rest) 1
wrong_behind_version word rest =
    wrong_word IsCommand (codes "--version" ∷ []) word rest [] (version, refl)
    (λ more w. not_behind_version word more w.0 w.1)

-- ---- the same, from what the tests of the words told

not_none : (ws : List (List ℕ)) → (suc (length ws) == 0) ≡ false
not_none ws = grind (arith, nat_tests)

-- `compile` and one file
pub one_file : (path : List ℕ) (more : List (List ℕ)) → is_option path ≡ false → true ≡ (length more == 0)
    → IsCompile (codes "compile" ∷ path ∷ more) path
one_file path [] file none = record { spelled = refl; file = file }
one_file path (w ∷ ws) file none = absurd (true≢false (none ∙ not_none ws))

-- and more words
pub more_words : (path : List ℕ) (more : List (List ℕ)) → is_option path ≡ false → false ≡ (length more == 0)
    → IsFirstWrong IsCommand (codes "compile" ∷ path ∷ more) 2
more_words path [] file some = absurd (true≢false (sym some))
more_words path (w ∷ ws) file some = wrong_third path w ws file

-- an option that is a command by itself
pub alone : (word : List ℕ) (rest : List (List ℕ)) (r : Request)
    → ((r ≡ help) × (word ≡ codes "--help")) ⊎ ((r ≡ version) × (word ≡ codes "--version"))
    → true ≡ (length rest == 0) → IsRequest (word ∷ rest) r
alone word [] r (inl is) none = rw (is.0, is.1) refl
alone word [] r (inr is) none = rw (is.0, is.1) refl
alone word (w ∷ ws) r is none = absurd (true≢false (none ∙ not_none ws))

pub not_alone : (word : List ℕ) (rest : List (List ℕ)) (r : Request)
    → ((r ≡ help) × (word ≡ codes "--help")) ⊎ ((r ≡ version) × (word ≡ codes "--version"))
    → false ≡ (length rest == 0) → IsFirstWrong IsCommand (word ∷ rest) 1
not_alone word [] r is some = absurd (true≢false (sym some))
not_alone word (w ∷ ws) r (inl is) some = rw is.1 (wrong_behind_help w ws)
not_alone word (w ∷ ws) r (inr is) some = rw is.1 (wrong_behind_version w ws)

-- ---- behind `compile`, as the code splits the words

pub missing_file : (rest : List (List ℕ)) → length rest ≡ 0 → IsFirstWrong IsCommand (codes "compile" ∷ rest) 1
missing_file [] none = wrong_missing
missing_file (w ∷ ws) none = absurd (omega arith)

pub option_for_file : (rest more : List (List ℕ)) (path : List ℕ) → rest ≡ path ∷ more → is_option path ≡ true
    → IsFirstWrong IsCommand (codes "compile" ∷ rest) 1
option_for_file rest more path then option = rw then (wrong_option path more option)

pub file_alone : (rest more : List (List ℕ)) (path : List ℕ) → rest ≡ path ∷ more → is_option path ≡ false
    → true ≡ (length more == 0) → IsCompile (codes "compile" ∷ rest) path
file_alone rest more path then file none = rw then (one_file path more file none)

pub file_and_more : (rest more : List (List ℕ)) (path : List ℕ) → rest ≡ path ∷ more → is_option path ≡ false
    → false ≡ (length more == 0)
    → IsFirstWrong IsCommand (codes "compile" ∷ rest) 2
file_and_more rest more path then file some = rw then (more_words path more file some)

-- ---- behind `make`, as the code splits the words

pub missing_number : (rest : List (List ℕ)) → length rest ≡ 0 → IsFirstWrong IsCommand (codes "make" ∷ rest) 1
missing_number [] none = wrong_missing_number
missing_number (w ∷ ws) none = absurd (omega arith)

-- what no number was read from
pub not_a_number : (rest more : List (List ℕ)) (word : List ℕ) → rest ≡ word ∷ more
    → ((n : ℕ) → n < 2 ^ 32 → word ≢ decimal n)
    → IsFirstWrong IsCommand (codes "make" ∷ rest) 1
not_a_number rest more word then none = rw then (wrong_count word more (λ n some few. none n (omega arith)))

-- a number that is too small or too large
pub no_count : (rest more : List (List ℕ)) (word : List ℕ) (count : ℕ) → rest ≡ word ∷ more → count < 2 ^ 32
    → word ≡ decimal count
    → (1 ≤ count → count ≤ most_nodes → ⊥) → IsFirstWrong IsCommand (codes "make" ∷ rest) 1
no_count rest more word count then small is out = rw then (wrong_count word more other_count)
  where
    other_count : IsNoCount word
    other_count n some few same =
        let one : count ≡ n = decimal_injective count n (omega arith) (omega arith) (sym is ∙ same) in
        out (omega arith) (omega arith)

pub count_and_more : (rest more : List (List ℕ)) (word : List ℕ) (count : ℕ) → rest ≡ word ∷ more
    → word ≡ decimal count → 1 ≤ count → count ≤ most_nodes
    → false ≡ (length more == 0) → IsFirstWrong IsCommand (codes "make" ∷ rest) 2
count_and_more rest [] word count then is some few none = absurd (true≢false (sym none))
count_and_more rest (w ∷ ws) word count then is some few none = rw (then, is) (wrong_behind_count count w ws some few)

-- ---- the first word

pub empty_words : (words : List (List ℕ)) → length words ≡ 0 → IsFirstWrong IsCommand words 0
empty_words [] h = wrong_empty
empty_words (w ∷ ws) h = absurd (omega arith)

agrees : (a b : List ℕ) (t : Bool) → bytes_eq a b ≡ t → true ≡ t → a ≡ b
agrees a b true e h = (bytes_eq-Decides a b).0 e
agrees a b false e h = absurd (true≢false h)

differs : (a b : List ℕ) → false ≡ bytes_eq a b → a ≢ b
differs a b h e = true≢false (sym ((bytes_eq-Decides a b).1 e) ∙ sym h)

-- the first word is this one, by a test of its text
pub named : (command spelled name : List ℕ) → spelled ≡ command → true ≡ bytes_eq spelled name → command ≡ name
named command spelled name same test = sym same ∙ agrees spelled name (bytes_eq spelled name) refl test

other : (command spelled name : List ℕ) → spelled ≡ command → false ≡ bytes_eq spelled name → command ≢ name
other command spelled name same test is = differs spelled name test (same ∙ is)

pub other_command : (words rest : List (List ℕ)) (command first second third fourth : List ℕ) → words ≡ command ∷ rest
    → first ≡ command → false ≡ bytes_eq first (codes "compile") → second ≡ command
    → false ≡ bytes_eq second (codes "make")
    → third ≡ command → false ≡ bytes_eq third (codes "--help") → fourth ≡ command
    → false ≡ bytes_eq fourth (codes "--version") → IsFirstWrong IsCommand words 0
other_command words rest command first second third fourth is same a next m then b last c =
    rw is (wrong_command command rest (other command first (codes "compile") same a)
    (other command second (codes "make") next m)
    (other command third (codes "--help") then b) (other command fourth (codes "--version") last c))

pub request_alone : (words rest : List (List ℕ)) (command : List ℕ) (r : Request) → words ≡ command ∷ rest
    → ((r ≡ help) × (command ≡ codes "--help")) ⊎ ((r ≡ version) × (command ≡ codes "--version"))
    → true ≡ (length rest == 0) → IsRequest words r
request_alone words rest command r is asked none = rw is (alone command rest r asked none)

pub request_and_more : (words rest : List (List ℕ)) (command : List ℕ) (r : Request) → words ≡ command ∷ rest
    → ((r ≡ help) × (command ≡ codes "--help")) ⊎ ((r ≡ version) × (command ≡ codes "--version"))
    → false ≡ (length rest == 0) → IsFirstWrong IsCommand words 1
request_and_more words rest command r is asked some = rw is (not_alone command rest r asked some)
