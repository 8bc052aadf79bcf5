-- The lines of faults, one part more; and that faults have lines.
use Rattle.std.proofs.Common.{◌≡◌, ℕ, Bool, true, List, [], ◌∷◌, ◌++◌, Option, Some, None, is_none, codes, refl, sym, ◌∙◌, ap, append_assoc}
use Rattle.std.specs.Prelude.{flat_map, option_and_then}
use Rattle.std.specs.Option.{option_map_or}
use Rattle.std.proofs.lemmas.List.{append-nil}
use Rattle.std.proofs.lemmas.List.Concat.{flat_map-append}
use Rattle.fly_types.specs.declared.text.Text.{Text}
use Rattle.fly_types.specs.declared.variable.Variable.{Variable}
use Rattle.fly_types.specs.declared.literals.Literal.{Literal}
use Rattle.fly_types.specs.Lookup.{variable_of}
use Rattle.fly_cast.specs.Fitting.{fitting_of}
use Rattle.fly_opening.specs.Lines.{newline, fault_line, submission_lines}
use Rattle.fly_opening.specs.Submissions.{SubmissionFault, no_submissions, too_many_submissions, duplicate_id, variable_not_found, mismatched_types, not_bound, fault_where, input_faults, fitting_value}

pub lines-append : (a b : List SubmissionFault) → submission_lines (a ++ b) ≡ submission_lines a ++ submission_lines b
lines-append a b = flat_map-append fault_line a b

pub lines-joined : (old now next : List ℕ) (a b : List SubmissionFault) → now ≡ old ++ submission_lines a
    → next ≡ now ++ submission_lines b → next ≡ old ++ submission_lines (a ++ b)
lines-joined old now next a b before step =
    step ∙ ap (λ r. r ++ submission_lines b) before ∙ append_assoc old (submission_lines a) (submission_lines b)
    ∙ ap (λ r. old ++ r) (sym (lines-append a b))

pub lines-more : {X : Type 0} (f : X → List SubmissionFault) (xs : List X) (x : X) (old now next : List ℕ)
    → now ≡ old ++ submission_lines (flat_map f xs) → next ≡ now ++ submission_lines (f x)
    → next ≡ old ++ submission_lines (flat_map f (xs ++ x ∷ []))
lines-more f xs x old now next before step =
    lines-joined old now next (flat_map f xs) (f x) before step
    ∙ ap (λ r. old ++ submission_lines (flat_map f xs ++ r)) (sym (append-nil (f x)))
    ∙ ap (λ r. old ++ submission_lines r) (sym (flat_map-append f xs (x ∷ [])))

-- no line is empty
no-line : (f : SubmissionFault) (rest : List ℕ) → fault_line f ++ rest ≡ [] → ⊥
no-line no_submissions rest h = cc
no-line too_many_submissions rest h = cc
no-line (duplicate_id exec) rest h = cc
no-line (variable_not_found exec name) rest h = cc
no-line (mismatched_types exec name kind) rest h = cc
no-line (not_bound exec name) rest h = cc

-- where there are no lines there are no faults
pub no-lines : (faults : List SubmissionFault) → submission_lines faults ≡ [] → faults ≡ []
no-lines [] h = refl
no-lines (f ∷ faults) h = absurd (no-line f (submission_lines faults) h)

-- ---- a line as it is written

pub line-of-one : (head a exec old out : List ℕ) → out ≡ old ++ (head ++ (a ++ newline)) → a ≡ exec
    → out ≡ old ++ (head ++ exec ++ newline)
line-of-one head a exec old out h e =
    h ∙ (λ i. old ++ (head ++ (e i ++ newline))) ∙ ap (λ r. old ++ r) (sym (append_assoc head exec newline))

pub line-of-two : (head a exec b name old out : List ℕ)
    → out ≡ old ++ (head ++ (a ++ (codes "." ++ (b ++ newline)))) → a ≡ exec → b ≡ name
    → out ≡ old ++ (head ++ exec ++ codes "." ++ name ++ newline)
line-of-two head a exec b name old out h e f =
    h ∙ (λ i. old ++ (head ++ (e i ++ (codes "." ++ (f i ++ newline)))))
    ∙ ap (λ r. old ++ r) (spread head exec (codes ".") name newline)
  where
    spread : (a b c d e : List ℕ) → a ++ (b ++ (c ++ (d ++ e))) ≡ a ++ b ++ c ++ d ++ e
    spread a b c d e = simp append_assoc

pub line-of-three : (head a exec b name c kind old out : List ℕ)
    → out ≡ old ++ (head ++ (a ++ (codes "." ++ (b ++ (codes " value to " ++ (c ++ newline)))))) → a ≡ exec
    → b ≡ name → c ≡ kind
    → out ≡ old ++ (head ++ exec ++ codes "." ++ name ++ codes " value to " ++ kind ++ newline)
line-of-three head a exec b name c kind old out h e f g =
    h ∙ (λ i. old ++ (head ++ (e i ++ (codes "." ++ (f i ++ (codes " value to " ++ (g i ++ newline)))))))
    ∙ ap (λ r. old ++ r) (spread head exec (codes ".") name (codes " value to ") kind newline)
  where
    spread : (a b c d e f g : List ℕ) → a ++ (b ++ (c ++ (d ++ (e ++ (f ++ g))))) ≡ a ++ b ++ c ++ d ++ e ++ f ++ g
    spread a b c d e f g = simp append_assoc

-- ---- the lines of one fault, where it is there

one-line : (f : SubmissionFault) → submission_lines (f ∷ []) ≡ fault_line f
one-line f = append-nil (fault_line f)

-- of a repeated name
pub repetition-line : (repeated : Bool) (f : SubmissionFault) (old out : List ℕ) → repeated ≡ true
    → out ≡ old ++ fault_line f → out ≡ old ++ submission_lines (fault_where repeated f)
repetition-line repeated f old out is h =
    h ∙ ap (λ r. old ++ r) (sym (one-line f)) ∙ ap (λ b. old ++ submission_lines (fault_where b f)) (sym is)

-- of an input that no variable has
pub absent-line : (variables : List Variable) (exec : Text) (entry : Text × Literal) (old out : List ℕ)
    → variable_of variables entry.0 ≡ None → out ≡ old ++ fault_line (variable_not_found exec entry.0)
    → out ≡ old ++ submission_lines (input_faults variables exec entry)
absent-line variables exec entry old out absent h =
    h ∙ ap (λ r. old ++ r) (sym (one-line (variable_not_found exec entry.0)))
    ∙ ap (λ o. old ++ submission_lines (option_map_or (λ (x : Variable). fault_where
    (is_none (fitting_of entry.1 x.kind)) (mismatched_types exec entry.0 x.kind)) o
    (variable_not_found exec entry.0 ∷ []))) (sym absent)

-- of an input, by what its literal is as one of its variable's type
pub fitting-line : (variables : List Variable) (exec : Text) (entry : Text × Literal) (x : Variable)
    (r : Option Literal) (old out : List ℕ)
    → variable_of variables entry.0 ≡ Some x → fitting_of entry.1 x.kind ≡ r
    → out ≡ old ++ submission_lines (fault_where (is_none r) (mismatched_types exec entry.0 x.kind))
    → out ≡ old ++ submission_lines (input_faults variables exec entry)
fitting-line variables exec entry x r old out found is h =
    h ∙ ap (λ v. old ++ submission_lines (fault_where (is_none v) (mismatched_types exec entry.0 x.kind))) (sym is)
    ∙ ap (λ o. old ++ submission_lines (option_map_or (λ (x : Variable). fault_where
    (is_none (fitting_of entry.1 x.kind)) (mismatched_types exec entry.0 x.kind)) o
    (variable_not_found exec entry.0 ∷ []))) (sym found)

pub misfit-line : (variables : List Variable) (exec : Text) (entry : Text × Literal) (x : Variable)
    (old out : List ℕ)
    → variable_of variables entry.0 ≡ Some x → fitting_of entry.1 x.kind ≡ None
    → out ≡ old ++ fault_line (mismatched_types exec entry.0 x.kind)
    → out ≡ old ++ submission_lines (input_faults variables exec entry)
misfit-line variables exec entry x old out found is h =
    fitting-line variables exec entry x None old out found is
    (h ∙ ap (λ r. old ++ r) (sym (one-line (mismatched_types exec entry.0 x.kind))))

pub no-line-where-fitting : (variables : List Variable) (exec : Text) (entry : Text × Literal) (x : Variable)
    (l : Literal) (out : List ℕ)
    → variable_of variables entry.0 ≡ Some x → fitting_of entry.1 x.kind ≡ Some l
    → out ≡ out ++ submission_lines (input_faults variables exec entry)
no-line-where-fitting variables exec entry x l out found is =
    fitting-line variables exec entry x (Some l) out out found is (sym (append-nil out))

-- the value of an input, by its variable
pub absent-value : (variables : List Variable) (entry : Text × Literal) → variable_of variables entry.0 ≡ None
    → fitting_value variables entry ≡ None
absent-value variables entry absent = ap (option_and_then (λ (x : Variable). fitting_of entry.1 x.kind)) absent

pub value-by : (variables : List Variable) (entry : Text × Literal) (x : Variable) (r : Option Literal)
    → variable_of variables entry.0 ≡ Some x → fitting_of entry.1 x.kind ≡ r
    → fitting_value variables entry ≡ r
value-by variables entry x r found is = ap (option_and_then (λ (x : Variable). fitting_of entry.1 x.kind)) found ∙ is

-- ---- the lines of a submission

pub submission-lines : (old named fitted out : List ℕ) (a b c : List SubmissionFault) (missing : List ℕ)
    → named ≡ old ++ submission_lines a → fitted ≡ named ++ submission_lines b → missing ≡ submission_lines c
    → out ≡ fitted ++ missing → out ≡ old ++ submission_lines (a ++ b ++ c)
submission-lines old named fitted out a b c missing p q r s =
    lines-joined old fitted out (a ++ b) c (lines-joined old named fitted a b p q)
    (s ∙ ap (λ m. fitted ++ m) r)
