-- The names that bindings bind, one binding more.
use Rattle.std.proofs.Common.{◌≡◌, ℕ, ◌+◌, ◌<◌, Bool, true, false, cond, ◌||◌, List, [], ◌∷◌, length, get_or, take, refl, sym, ◌∙◌, ap, is_eq}
use Rattle.std.specs.Prelude.{not}
use Rattle.std.specs.List.{list_any}
use Rattle.std.specs.Str.{bytes_eq}
use Rattle.std.specs.BTreeSet.{BTreeSet, contains, Updates}
use Rattle.std.proofs.lemmas.Map.Text.{is_eq-slice_cmp}
use Rattle.std.proofs.lemmas.List.Folds.{list_any-append}
use Rattle.fly_docs.specs.declared.binding.Binding.{Binding}
use Rattle.fly_faults.specs.declared.fault.Code.TheVariants as code
use Rattle.fly_faults.specs.BindingFaults.{Site, twice_faults}
use Rattle.fly_compile.specs.BoundNames.{Loan, loan_cmp, HasNames}
use Rattle.fly_faults.specs.Places.{fault_at, variable_place}
use Rattle.fly_faults.proofs.Loops.{more}

-- the names are those of one binding more
pub names_more : (bindings : List Binding) (i : ℕ) (x : Binding) (names next : BTreeSet Loan) (name : Loan) → i < length bindings → x ≡ get_or bindings i x
    → HasNames (take i bindings) names → name.now ≡ x.var → Updates loan_cmp names next name true → HasNames (take (i + 1) bindings) next
names_more bindings i x names next name lt is has same updates = λ q.
    let at : is_eq (loan_cmp name q) ≡ bytes_eq x.var q.now = is_eq-slice_cmp name.now q.now ∙ ap (λ n. bytes_eq n q.now) same in
    let either : (a b : Bool) → cond a true b ≡ (b || (a || false)) = λ a b. cases a b in
    updates.0 q ∙ (λ j. cond (at j) true (has q j))
    ∙ either (bytes_eq x.var q.now) (list_any (λ (y : Binding). bytes_eq y.var q.now) (take i bindings))
    ∙ sym (list_any-append (λ (y : Binding). bytes_eq y.var q.now) (take i bindings) (x ∷ []))
    ∙ ap (list_any (λ (y : Binding). bytes_eq y.var q.now)) (sym (more bindings i x lt is))
  where
    cases : (a b : Bool) → cond a true b ≡ (b || (a || false))
    cases true true = refl
    cases true false = refl
    cases false true = refl
    cases false false = refl

-- a binding is bound twice where its name is not new
pub twice-by : (site : Site) (earlier : List Binding) (x : Binding) (is_first : Bool) (names : BTreeSet Loan) (name : Loan) → HasNames earlier names → name.now ≡ x.var
    → is_first ≡ not (contains loan_cmp names name)
    → cond is_first [] (fault_at code.BoundTwice (variable_place site.place x.var) ∷ []) ≡ twice_faults site earlier x
twice-by site earlier x is_first names name has same first =
    let test : contains loan_cmp names name ≡ list_any (λ (y : Binding). bytes_eq y.var x.var) earlier =
    has name ∙ ap (λ n. list_any (λ (y : Binding). bytes_eq y.var n) earlier) same in
    ap (λ b. cond b [] (fault_at code.BoundTwice (variable_place site.place x.var) ∷ [])) (first ∙ ap not test)
    ∙ back (list_any (λ (y : Binding). bytes_eq y.var x.var) earlier) _
  where
    back : {A : Type 0} (b : Bool) (xs : List A) → cond (not b) [] xs ≡ cond b xs []
    back true xs = refl
    back false xs = refl
