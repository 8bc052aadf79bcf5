-- The names of submissions, as a table.
use Rattle.std.proofs.Common.{◌≡◌, ℕ, ◌+◌, ◌<◌, Bool, true, false, cond, ◌||◌, List, [], ◌∷◌, ◌++◌, map, length, get_or, take, Bor, Ordering, nat_cmp, refl, sym, ◌∙◌, ap, is_eq, arith, length-append}
use Rattle.std.specs.Prelude.{not}
use Rattle.std.specs.List.{list_any, enumerate_from}
use Rattle.std.specs.Str.{bytes_eq}
use Rattle.std.specs.Cmp.Lexicographic.{slice_cmp}
use Rattle.std.specs.BTreeSet.{BTreeSet, contains, Updates}
use Rattle.std.proofs.lemmas.Map.Text.{is_eq-slice_cmp}
use Rattle.std.proofs.lemmas.List.Folds.{list_any-append}
use Rattle.std.proofs.lemmas.List.{length-map}
use Rattle.std.proofs.lemmas.List.FromFn.{length-enumerate_from}
use Rattle.fly_docs.specs.declared.submission.Submission.{Submission}
use Rattle.fly_opening.specs.Submissions.{is_repeated, repetitions}
use Rattle.fly_opening.proofs.Parts.{more, placed}

abbrev pub Loan : Type 0
Loan = Bor (List ℕ)

abbrev pub loan_cmp : Loan → Loan → Ordering
loan_cmp x y = slice_cmp nat_cmp x.now y.now

-- the table has the names of the submissions
abbrev pub HasNames : List Submission → BTreeSet Loan → Type 0
HasNames submissions names =
    (name : Loan) → contains loan_cmp names name ≡ list_any (λ (s : Submission). bytes_eq s.name name.now) submissions

-- the names are those of one submission more
pub names-more : (submissions : List Submission) (i : ℕ) (x : Submission) (names next : BTreeSet Loan) (name : Loan)
    → i < length submissions → x ≡ get_or submissions i x
    → HasNames (take i submissions) names → name.now ≡ x.name → Updates loan_cmp names next name true
    → HasNames (take (i + 1) submissions) next
names-more submissions i x names next name lt is has same updates = λ q.
    let at : is_eq (loan_cmp name q) ≡ bytes_eq x.name q.now =
    is_eq-slice_cmp name.now q.now ∙ ap (λ n. bytes_eq n q.now) same in
    updates.0 q ∙ (λ j. cond (at j) true (has q j))
    ∙ either (bytes_eq x.name q.now) (list_any (λ (y : Submission). bytes_eq y.name q.now) (take i submissions))
    ∙ sym (list_any-append (λ (y : Submission). bytes_eq y.name q.now) (take i submissions) (x ∷ []))
    ∙ ap (list_any (λ (y : Submission). bytes_eq y.name q.now)) (sym (more submissions i x lt is))
  where
    either : (a b : Bool) → cond a true b ≡ (b || (a || false))
    either true true = refl
    either true false = refl
    either false true = refl
    either false false = refl

-- a name that is not new is repeated
pub repeated-by : (earlier : List Submission) (x : Submission) (is_new : Bool) (names : BTreeSet Loan) (name : Loan)
    → HasNames earlier names → name.now ≡ x.name → is_new ≡ not (contains loan_cmp names name)
    → not is_new ≡ is_repeated earlier x
repeated-by earlier x is_new names name has same new =
    ap not new ∙ twice (contains loan_cmp names name) ∙ has name
    ∙ ap (λ n. list_any (λ (y : Submission). bytes_eq y.name n) earlier) same
  where
    twice : (b : Bool) → not (not b) ≡ b
    twice true = refl
    twice false = refl

-- ---- which are repeated, one by one

pub length-repetitions : (submissions : List Submission) → length (repetitions submissions) ≡ length submissions
length-repetitions submissions =
    length-map (enumerate_from 0 submissions) (λ (at : ℕ × Submission). is_repeated (take at.0 submissions) at.1)
    ∙ length-enumerate_from 0 submissions

-- of the one that comes behind these
pub repetition-here : (all front : List Submission) (x : Submission) (rest : List Submission) (b : Bool) (i : ℕ)
    → all ≡ front ++ x ∷ rest → i ≡ length front → b ≡ get_or (repetitions all) i b
    → b ≡ is_repeated (take (length front) all) x
repetition-here all front x rest b i whole place is =
    let f : ℕ × Submission → Bool = λ at. is_repeated (take at.0 all) at.1 in
    let behind : 0 + length front ≡ length front = omega arith in
    is ∙ ap (λ k. get_or (repetitions all) k b) place
    ∙ ap (λ (ss : List Submission). get_or (map f (enumerate_from 0 ss)) (length front) b) whole
    ∙ placed f 0 front x rest b ∙ ap (λ k. f (k, x)) behind

-- a list with one more is longer than those before it
pub within-front : {X : Type 0} (all front : List X) (x : X) (rest : List X) → all ≡ front ++ x ∷ rest
    → length front < length all
within-front all front x rest whole =
    let long : length all ≡ length front + length (x ∷ rest) = ap length whole ∙ length-append front (x ∷ rest) in
    omega arith
