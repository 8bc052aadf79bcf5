-- Values that are taken, part by part.
use Rattle.std.proofs.Common.{◌≡◌, ℕ, suc, ◌+◌, ◌<◌, Bool, true, false, List, [], ◌∷◌, ◌++◌, length, get_or, take, drop, bytes_eq, Option, Some, None, Result, Ok, Err, refl, sym, ◌∙◌, ap, ⊎_elim}
use Rattle.std.specs.List.{All, list_all, slice_get}
use Rattle.std.proofs.lemmas.Bool.{false≢true, cases_Bool}
use Rattle.std.proofs.lemmas.List.Folds.{list_all_at}
use Rattle.fly_types.specs.declared.kinds.LiteralType.{LiteralType}
use Rattle.fly_types.specs.declared.literals.Literal.{Literal}
use Rattle.fly_types.specs.declared.variable.Variable.{Variable}
use Rattle.fly_cast.specs.Conversion.{result_map, each_result}
use Rattle.fly_cast.proofs.Lists.{each_result-push, each_result-fails, split_at, more}
use Rattle.fly_docs.specs.declared.binding.Binding.{Binding}
use Rattle.fly_docs.specs.declared.binding.Bound.{Bound}
use Rattle.fly_docs.specs.Bindings.{binding_of}
use Rattle.fly_docs.specs.SlotInputs as docs
use Rattle.fly_docs.specs.SlotInputs.{Taken, variable_value}
use Rattle.fly_state.specs.declared.values.ValueFault.{ValueFault}
use Rattle.fly_state.specs.declared.values.ValueFault.TheVariants as fault
use Rattle.fly_state.specs.Sites.{binding_place}
use Rattle.fly_state.specs.Values.{IsTaken}
use Rattle.fly_state.proofs.PlaceLemmas.{find_at_place, find_nowhere}

pub taken-same : {X : Type 0} (v w : Taken X) (r : Result X ValueFault) → v ≡ w → IsTaken w r → IsTaken v r
taken-same v w (Ok x) e h = e ∙ h
taken-same v w (Err (fault.Outside text)) e h = e ∙ h
taken-same v w (Err fault.Unknown) e h = e ∙ h
taken-same v w (Err fault.NoMemory) e h = h

pub taken-map : {X Y : Type 0} (g : X → Y) (wanted : Taken X) (d : ValueFault) → IsTaken wanted (Err d) → IsTaken (result_map g wanted) (Err d)
taken-map g wanted (fault.Outside text) h = ap (result_map g) h
taken-map g wanted fault.Unknown h = ap (result_map g) h
taken-map g wanted fault.NoMemory h = h

-- what stops at an element stops the list
pub stops-taken : {X Y : Type 0} (f : X → Taken Y) (all : List X) (i : ℕ) (x : X) (ys : List Y) (d : ValueFault)
    → i < length all → x ≡ get_or all i x → each_result f (take i all) ≡ Ok ys → IsTaken (f x) (Err d) → IsTaken (each_result f all) (Err d)
stops-taken f all i x ys (fault.Outside text) lt is before here =
    ap (each_result f) (split_at all i x lt is) ∙ each_result-fails f (take i all) ys x (drop (suc i) all) (docs.enum_outside text) before here
stops-taken f all i x ys fault.Unknown lt is before here =
    ap (each_result f) (split_at all i x lt is) ∙ each_result-fails f (take i all) ys x (drop (suc i) all) docs.unknown before here
stops-taken f all i x ys fault.NoMemory lt is before here = here

-- one element more
pub taken-more : {X Y : Type 0} (f : X → Taken Y) (all : List X) (i : ℕ) (x : X) (ys next : List Y) (y : Y)
    → i < length all → x ≡ get_or all i x → each_result f (take i all) ≡ Ok ys → f x ≡ Ok y → next ≡ ys ++ y ∷ []
    → each_result f (take (i + 1) all) ≡ Ok next
taken-more f all i x ys next y lt is before here step =
    ap (each_result f) (more all i x lt is) ∙ each_result-push f (take i all) ys x y before here ∙ ap Ok (sym step)

pub all-test : {X : Type 0} (p : X → Bool) (xs : List X) → list_all p xs ≡ true → All (λ x. p x ≡ true) xs
all-test p xs e = λ k d within.
    ⊎_elim (λ yes. yes) (λ no. absurd (false≢true (sym (list_all_at p xs k d within no) ∙ e))) (cases_Bool (p (get_or xs k d)))

-- ---- variables

pub variable-unbound : (value : Bound → LiteralType → Taken Literal) (bindings : List Binding) (v : Variable)
    → binding_of v.name bindings ≡ None → variable_value value bindings v ≡ Err docs.unknown
variable-unbound value bindings v e = rw e refl

pub variable-bound : (value : Bound → LiteralType → Taken Literal) (bindings : List Binding) (v : Variable) (x : Binding)
    → binding_of v.name bindings ≡ Some x → variable_value value bindings v ≡ result_map (λ l. (v.name, l)) (value x.bound v.kind)
variable-bound value bindings v x e = rw e refl

-- the binding at its place
pub binding-at : (bindings : List Binding) (v : Variable) (place : ℕ) (o : Option Binding) → Some place ≡ binding_place bindings v
    → o ≡ slice_get bindings place → binding_of v.name bindings ≡ o
binding-at bindings v place o is there = find_at_place (λ (x : Binding). bytes_eq x.var v.name) bindings place (sym is) ∙ sym there

pub binding-nowhere : (bindings : List Binding) (v : Variable) → None ≡ binding_place bindings v → binding_of v.name bindings ≡ None
binding-nowhere bindings v is = find_nowhere (λ (x : Binding). bytes_eq x.var v.name) bindings (sym is)
