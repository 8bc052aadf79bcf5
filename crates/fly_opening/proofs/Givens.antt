-- Inputs without faults: each fits a variable, each variable has one, and fitted they are given as they should be.
use Rattle.std.proofs.Common.{◌≡◌, ℕ, Bool, true, false, cond, ◌&&◌, ◌||◌, List, [], ◌∷◌, map, find, Option, Some, None, is_some, is_none, All, refl, sym, ◌∙◌, ap, subst}
use Rattle.std.specs.Prelude.{flat_map, option_map, option_and_then, unwrap_or}
use Rattle.std.specs.List.{list_any, AllByRecursion as Each}
use Rattle.std.specs.Option.{option_map_or}
use Rattle.std.specs.Str.{bytes_eq}
use Rattle.std.proofs.lemmas.List.Elements.{recursion_from_All, All-weaker}
use Rattle.std.proofs.lemmas.Option.{same_Some}
use Rattle.fly_types.specs.declared.text.Text.{Text}
use Rattle.fly_types.specs.declared.variable.Variable.{Variable}
use Rattle.fly_types.specs.declared.literals.Literal.{Literal}
use Rattle.fly_types.specs.declared.literals.LiteralMap.{LiteralMap}
use Rattle.fly_types.specs.Lookup.{variable_of, value_of, AreVariablesSorted}
use Rattle.fly_types.specs.Sound.{AreNamesSorted}
use Rattle.fly_cast.specs.Fitting.{fitting_of, is_of}
use Rattle.fly_cast.proofs.Fits.{fitted-member}
use Rattle.fly_cast.proofs.Members.{is_of-Decides}
use Rattle.fly_world.specs.Spots.{is_given, are_given, gives_all}
use Rattle.fly_opening.specs.Submissions.{SubmissionFault, fault_where, mismatched_types, variable_not_found, not_bound, input_faults, variable_faults, fitting_value, fitted_value, fitted_inputs}
use Rattle.fly_opening.proofs.Names.{FindsItself, finds-itself, same-names, itself}
use Rattle.fly_opening.proofs.Parts.{parts-empty}

abbrev Entry : Type 0
Entry = Text × Literal

-- a fault that is not there was not tested true
pub no-fault : (test : Bool) (fault : SubmissionFault) → fault_where test fault ≡ [] → test ≡ false
no-fault true fault h = absurd (cc)
no-fault false fault h = refl

-- ---- one input

-- the input fits the variable of its name
pub record FitsOne (variables : List Variable) (entry : Text × Literal) : Type 0 where
  pub variable : Variable
  pub literal : Literal
  pub found : variable_of variables entry.0 ≡ Some variable
  pub fits : fitting_of entry.1 variable.kind ≡ Some literal

pub fits-one : (variables : List Variable) (exec : Text) (entry : Text × Literal)
    → input_faults variables exec entry ≡ [] → FitsOne variables entry
fits-one variables exec entry h = by (variable_of variables entry.0) refl h
  where
    fit : (x : Variable) → variable_of variables entry.0 ≡ Some x → (r : Option Literal)
        → fitting_of entry.1 x.kind ≡ r → fault_where (is_none r) (mismatched_types exec entry.0 x.kind) ≡ []
        → FitsOne variables entry
    fit x found None fits h = absurd (cc)
    fit x found (Some l) fits h = record { variable = x; literal = l; found = found; fits = fits }

    by : (o : Option Variable) → variable_of variables entry.0 ≡ o
        → option_map_or (λ (x : Variable). fault_where (is_none (fitting_of entry.1 x.kind))
        (mismatched_types exec entry.0 x.kind)) o (variable_not_found exec entry.0 ∷ []) ≡ [] → FitsOne variables entry
    by None found h = absurd (cc)
    by (Some x) found h = fit x found (fitting_of entry.1 x.kind) refl h

pub fits-value : (variables : List Variable) (entry : Text × Literal) (f : FitsOne variables entry)
    → fitting_value variables entry ≡ Some f.literal
fits-value variables entry f =
    ap (option_and_then (λ (x : Variable). fitting_of entry.1 x.kind)) f.found ∙ f.fits

pub fits-fitted : (variables : List Variable) (entry : Text × Literal) (f : FitsOne variables entry)
    → fitted_value variables entry ≡ f.literal
fits-fitted variables entry f = ap (λ o. unwrap_or o entry.1) (fits-value variables entry f)

-- ---- names

any-find : {X : Type 0} (p : X → Bool) (xs : List X) → list_any p xs ≡ is_some (find p xs)
any-find p [] = refl
any-find p (x ∷ xs) =
    elim (p x) as (λ b. (b || list_any p xs) ≡ is_some (cond b (Some x) (find p xs))) [
      | true ↦ refl
      | false ↦ any-find p xs
    ]

any-map : {X Y : Type 0} (f : X → Y) (p : Y → Bool) (xs : List X) → list_any p (map f xs)
    ≡ list_any (λ x. p (f x)) xs
any-map f p [] = refl
any-map f p (x ∷ xs) = ap (λ b. p (f x) || b) (any-map f p xs)

-- what each element of a list has
each : {X Y : Type 0} (f : X → Y) (P : Y → Type 0) (xs : List X) → Each (λ x. P (f x)) xs → Each P (map f xs)
each f P [] h = tt
each f P (x ∷ xs) h = (h.0, each f P xs h.1)

-- an input's name is that of a variable
named-variable : (variables : List Variable) (entry : Text × Literal) → FitsOne variables entry
    → list_any (λ (n : Text). bytes_eq n entry.0) (map (λ (v : Variable). v.name) variables) ≡ true
named-variable variables entry f =
    any-map (λ (v : Variable). v.name) (λ (n : Text). bytes_eq n entry.0) variables
    ∙ any-find (λ (v : Variable). bytes_eq v.name entry.0) variables ∙ ap is_some f.found

there : {X Y : Type 0} (f : X → Y) (o : Option X) → is_none (option_map f o) ≡ false → is_some o ≡ true
there f None h = absurd (cc)
there f (Some x) h = refl

-- a variable's name is that of an input
named-input : (m : LiteralMap) (exec : Text) (x : Variable) → variable_faults m exec x ≡ []
    → list_any (λ (n : Text). bytes_eq n x.name) (map (λ (e : Text × Literal). e.0) m.entries) ≡ true
named-input m exec x h =
    let p : Text × Literal → Bool = λ e. bytes_eq e.0 x.name in
    any-map (λ (e : Text × Literal). e.0) (λ (n : Text). bytes_eq n x.name) m.entries ∙ any-find p m.entries
    ∙ there (λ (e : Text × Literal). e.1) (find p m.entries)
    (no-fault (is_none (value_of m.entries x.name)) (not_bound exec x.name) h)

-- ---- all inputs

both-true : (a b : Bool) → a ≡ true → b ≡ true → a && b ≡ true
both-true true b p q = q
both-true false b p q = p

-- an input, fitted, is given as its variable
given-one : (variables : List Variable) (x : Variable) (entry : Text × Literal) → x.name ≡ entry.0
    → variable_of variables x.name ≡ Some x
    → FitsOne variables entry → is_given x (entry.0, fitted_value variables entry) ≡ true
given-one variables x entry same finds f =
    let which : f.variable ≡ x =
    same_Some f.variable x (sym f.found ∙ ap (variable_of variables) (sym same) ∙ finds) in
    let fits : fitting_of entry.1 x.kind ≡ Some f.literal =
    subst (λ (v : Variable). fitting_of entry.1 v.kind ≡ Some f.literal) which f.fits in
    let member : is_of x.kind f.literal ≡ true =
    (is_of-Decides x.kind f.literal).1 (fitted-member entry.1 f.literal x.kind fits) in
    both-true (bytes_eq entry.0 x.name) (is_of x.kind (fitted_value variables entry))
    (subst (λ (n : Text). bytes_eq n x.name ≡ true) same (itself x.name))
    (ap (is_of x.kind) (fits-fitted variables entry f) ∙ member)

given : (variables vs : List Variable) (es : List (Text × Literal)) → map (λ (v : Variable). v.name) vs
    ≡ map (λ (e : Text × Literal). e.0) es
    → Each (FindsItself (λ (v : Variable). v.name) variables) vs
    → Each (FitsOne variables) es
    → are_given vs (map (λ (e : Text × Literal). (e.0, fitted_value variables e)) es) ≡ true
given variables [] [] same finds fits = refl
given variables [] (e ∷ es) same finds fits = absurd (cc)
given variables (x ∷ vs) [] same finds fits = absurd (cc)
given variables (x ∷ vs) (e ∷ es) same finds fits =
    let first : x.name ≡ e.0 = cc in
    let rest : map (λ (v : Variable). v.name) vs ≡ map (λ (e : Text × Literal). e.0) es = cc in
    both-true (is_given x (e.0, fitted_value variables e))
    (are_given vs (map (λ (e : Text × Literal). (e.0, fitted_value variables e)) es))
    (given-one variables x e first finds.0 fits.0) (given variables vs es rest finds.1 fits.1)

-- without faults, the inputs give each variable, and nothing else
pub gives-all : (variables : List Variable) (m : LiteralMap) (exec : Text) → AreVariablesSorted variables
    → AreNamesSorted m.entries
    → All (FitsOne variables) m.entries → flat_map (variable_faults m exec) variables ≡ []
    → gives_all variables (fitted_inputs variables m) ≡ true
gives-all variables m exec sorted in-order fits bound =
    let name : Variable → Text = λ v. v.name in
    let key : Text × Literal → Text = λ e. e.0 in
    let has-variable : Text → Type 0 = λ n. list_any (λ (k : Text). bytes_eq k n) (map name variables) ≡ true in
    let has-input : Text → Type 0 = λ n. list_any (λ (k : Text). bytes_eq k n) (map key m.entries) ≡ true in
    let inputs : Each has-variable (map key m.entries) =
    each key has-variable m.entries (recursion_from_All (λ e. has-variable (key e)) m.entries
    (All-weaker (FitsOne variables) (λ e. has-variable (key e)) (named-variable variables) m.entries fits)) in
    let wanted : Each has-input (map name variables) =
    each name has-input variables (recursion_from_All (λ v. has-input (name v)) variables
    (All-weaker (λ v. variable_faults m exec v ≡ []) (λ v. has-input (name v)) (named-input m exec) variables
    (parts-empty (variable_faults m exec) variables bound))) in
    given variables variables m.entries
    (same-names (map name variables) (map key m.entries) sorted in-order wanted inputs)
    (finds-itself name variables sorted) (recursion_from_All (FitsOne variables) m.entries fits)
