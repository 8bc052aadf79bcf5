-- The sites of nodes, and their inputs without a binding.
use Rattle.std.proofs.Common.{◌≡◌, Bool, true, false, cond, ◌&&◌, ◌||◌, List, [], ◌∷◌, map, filter, Option, Some, None, is_some, is_none, refl, sym, ◌∙◌, ap, find, append-nil}
use Rattle.std.specs.Prelude.{not, unwrap_or}
use Rattle.std.specs.List.{list_any, list_all, flat_map}
use Rattle.std.specs.Option.{option_to_list}
use Rattle.std.specs.Str.{bytes_eq}
use Rattle.std.specs.BTreeSet.{BTreeSet}
use Rattle.fly_types.specs.declared.text.Text.{Text}
use Rattle.fly_types.specs.declared.variable.Variable.{Variable}
use Rattle.fly_docs.specs.declared.binding.Binding.{Binding}
use Rattle.fly_docs.specs.Bindings.{binding_of}
use Rattle.fly_faults.specs.declared.fault.Code.{Code}
use Rattle.fly_faults.specs.declared.fault.Fault.{Fault}
use Rattle.fly_faults.specs.BindingFaults.{unbound_faults}
use Rattle.fly_compile.specs.BoundNames.{Loan, HasNames, has_name, unnamed}
use Rattle.fly_docs.specs.declared.node.Node.{Node}
use Rattle.fly_compile.specs.declared.site.Site as kept
use Rattle.fly_compile.specs.Scopes.{source_there}
use Rattle.fly_compile.specs.Sites.{IsSiteOf, site_of}
use Rattle.fly_faults.specs.NodeFaults.{is_empty, node_site}
use Rattle.fly_faults.specs.Places.{fault_at, variable_place}

find-any : {X : Type 0} (p : X → Bool) (xs : List X) → not (list_any p xs) ≡ is_none (find p xs)
find-any p [] = refl
find-any p (x ∷ xs) =
    elim (p x) as (λ b. not (b || list_any p xs) ≡ is_none (cond b (Some x) (find p xs))) [ true ↦ refl | false ↦ find-any p xs ]

module _ (bs : List Binding) (names : BTreeSet Loan) (has : HasNames bs names) where
  -- a variable without a name in the table is not bound
  unbound : (v : Variable) → not (has_name names v.name) ≡ is_none (binding_of v.name bs)
  unbound v =
      let name : Loan = record { ref_ptr = (0, 0); now = v.name } in
      ap not (has name) ∙ find-any (λ (x : Binding). bytes_eq x.var v.name) bs

  pub unbound-by : (code : Code) (place : Text) (vs : List Variable)
      → map (λ (v : Variable). fault_at code (variable_place place v.name)) (unnamed names vs) ≡ unbound_faults code place vs bs
  unbound-by code place vs = λ i. map (λ (v : Variable). fault_at code (variable_place place v.name)) (filter (λ (v : Variable). unbound v i) vs)

  -- of all that may be unknown
  pub unbound-known : (code : Code) (place : Text) (o : Option (List Variable))
      → map (λ (v : Variable). fault_at code (variable_place place v.name)) (unnamed names (unwrap_or o []))
      ≡ flat_map (λ vs. unbound_faults code place vs bs) (option_to_list o)
  unbound-known code place None = refl
  unbound-known code place (Some vs) = unbound-by code place vs ∙ sym (append-nil (unbound_faults code place vs bs))

  pub bound-by : (f : Variable → Fault) (vs : List Variable) → is_empty (map f (unnamed names vs)) ≡ list_all (λ (v : Variable). is_some (binding_of v.name bs)) vs
  bound-by f vs = (λ i. is_empty (map f (filter (λ (v : Variable). unbound v i) vs))) ∙ none_left vs
    where
      none_left : (vs : List Variable) → is_empty (map f (filter (λ (v : Variable). is_none (binding_of v.name bs)) vs)) ≡ list_all (λ (v : Variable). is_some (binding_of v.name bs)) vs
      none_left [] = refl
      none_left (v ∷ vs) =
          elim (binding_of v.name bs) as (λ o. is_empty (map f (cond (is_none o) (v ∷ filter (λ (w : Variable). is_none (binding_of w.name bs)) vs) (filter (λ (w : Variable). is_none (binding_of w.name bs)) vs)))
          ≡ (is_some o && list_all (λ (w : Variable). is_some (binding_of w.name bs)) vs)) [
            | None ↦ refl
            | Some x ↦ none_left vs
          ]

-- where a node's bindings stand
pub site-same : (n : Node) (s : kept.Site) → IsSiteOf n s → site_of s ≡ node_site s.sources.now.bundle s.sources.now.workflow n
site-same n s is = λ i. record { place = is.place i; source = source_there s.sources.now; wanted = is.inputs.wanted i }
