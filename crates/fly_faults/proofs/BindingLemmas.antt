-- Bindings without a fault, and what they bind.
use Rattle.std.proofs.Common.{◌≡◌, ℕ, Bool, true, false, ◌||◌, List, [], ◌++◌, map, take, slice_get, Contains, Option, Some, None, is_none, option_map, option_and_then, option_to_list, bytes_eq, refl, sym, ap, ◌∙◌, subst}
use Rattle.std.specs.List.{enumerate_from}
use Rattle.std.proofs.lemmas.Bool.{or_left}
use Rattle.fly_types.specs.declared.text.Text.{Text}
use Rattle.fly_types.specs.declared.kinds.LiteralType.{LiteralType}
use Rattle.fly_types.specs.declared.variable.Variable.{Variable}
use Rattle.fly_docs.specs.declared.binding.Binding.{Binding}
use Rattle.fly_docs.specs.declared.binding.Bound.{Bound}
use Rattle.fly_docs.specs.Bindings.{promises_of, binding_of}
use Rattle.fly_docs.specs.Interfaces.{names_of, bound_names, type_of}
use Rattle.fly_docs.specs.NodeInterfaces.{Wanted}
use Rattle.fly_docs.specs.Typed.{AreDistinct, Binds}
use Rattle.fly_faults.specs.declared.fault.Code.{Code}
use Rattle.fly_faults.specs.BindingFaults.{Site, is_no_node, is_no_variable, has_source, node_faults, variable_faults, fits_wanted, misfit, value_faults, twice_faults, unwanted_faults, wanted_faults, wanted_for, binding_faults, bindings_faults, unbound_faults}
use Rattle.fly_faults.proofs.Lists.{any_none, any_nothing, apart, append_none, append_nothing, contains_at, distinct_from, filter_none, filter_nothing, find_found, find_some, flat_map_none, flat_map_nothing, in_map, in_option, in_take, map_at, map_none, not_none, number_at, numbered, of_map, of_map_at, of_option, of_take, one_if_none, one_if_nothing, one_unless_none, one_unless_nothing, place_in, some_of_map, some_without_none}
use Rattle.fly_faults.proofs.Distinct.{other_text, permutation_apart, permutation_from, permutation_in, permutation_of, same_text, text_differs, text_same, type_of_found, type_of_named}
use Rattle.fly_faults.proofs.BoundFits.{AllPromises, IsThere}

first_of_three : (a b c : Bool) → (a || b || c) ≡ true → b ≡ false → c ≡ false → a ≡ true
first_of_three true b c e p q = refl
first_of_three false true c e p q = cc
first_of_three false false true e p q = cc
first_of_three false false false e p q = cc

module _ (site : Site) where
  abbrev pub PromisesThere : Bound → Type 0
  PromisesThere x = AllPromises (λ promise. IsThere (site.source promise)) x

  -- what is bound is wanted, fits, and promises what is there
  abbrev pub Fits : (Text → Option Wanted) → Binding → Type 0
  Fits wanted x = (t : Wanted) × (wanted x.var ≡ Some t) × (fits_wanted site x.bound t ≡ true) × PromisesThere x.bound

  unwanted_none : (x : Binding) (o : Option Wanted) → unwanted_faults site x o ≡ [] → (t : Wanted) × (o ≡ Some t)
  unwanted_none x None e = cc
  unwanted_none x (Some t) e = (t, refl)

  promises_none : (x : Binding) → node_faults site x ≡ [] → variable_faults site x ≡ [] → PromisesThere x.bound
  promises_none x nodes variables promise has = (
    filter_none (λ p. is_no_node (site.source p)) (promises_of x.bound) (map_none _ _ nodes) promise has,
    filter_none (λ p. is_no_variable (site.source p)) (promises_of x.bound) (map_none _ _ variables) promise has,
  )

  pub has_none : (x : Bound) → PromisesThere x
      → (has_source is_no_node site x ≡ false) × (has_source is_no_variable site x ≡ false)
  has_none x there = (
    any_nothing (λ p. is_no_node (site.source p)) (promises_of x) (λ p has. (there p has).0),
    any_nothing (λ p. is_no_variable (site.source p)) (promises_of x) (λ p has. (there p has).1),
  )

  value_none : (x : Binding) (t : Wanted) → PromisesThere x.bound → value_faults site x (Some t) ≡ []
      → fits_wanted site x.bound t ≡ true
  value_none x t there e =
      let none = has_none x.bound there in
      first_of_three (fits_wanted site x.bound t) (has_source is_no_node site x.bound)
      (has_source is_no_variable site x.bound)
      (one_unless_none
      (fits_wanted site x.bound t || has_source is_no_node site x.bound || has_source is_no_variable site x.bound)
      (misfit site x t) e)
      none.0 none.1

  value_nothing : (x : Binding) (t : Wanted) → fits_wanted site x.bound t ≡ true → value_faults site x (Some t) ≡ []
  value_nothing x t fits =
      one_unless_nothing
      (fits_wanted site x.bound t || has_source is_no_node site x.bound || has_source is_no_variable site x.bound)
      (misfit site x t)
      (or_left (fits_wanted site x.bound t || has_source is_no_node site x.bound)
      (has_source is_no_variable site x.bound)
      (or_left (fits_wanted site x.bound t) (has_source is_no_node site x.bound) fits))

  abbrev pub IsNew : List Binding → Binding → Type 0
  IsNew earlier x = (y : Binding) → Contains earlier y → y.var ≡ x.var → ⊥

  module _ (wanted : Text → Option Wanted) (is : site.wanted ≡ Some wanted) where
    wanted_for_is : (name : Text) → wanted_for site name ≡ wanted name
    wanted_for_is name = ap (option_and_then (λ (w : Text → Option Wanted). w name)) is

    binding_none : (earlier : List Binding) (x : Binding) → binding_faults site earlier x ≡ []
        → IsNew earlier x × Fits wanted x
    binding_none earlier x e =
        let p4 = append_none
        (twice_faults site earlier x ++ wanted_faults site x ++ node_faults site x ++ variable_faults site x)
        (value_faults site x (wanted_for site x.var)) e in
        let p3 = append_none (twice_faults site earlier x ++ wanted_faults site x ++ node_faults site x)
        (variable_faults site x) p4.0 in
        let p2 = append_none (twice_faults site earlier x ++ wanted_faults site x) (node_faults site x) p3.0 in
        let p1 = append_none (twice_faults site earlier x) (wanted_faults site x) p2.0 in
        let new : IsNew earlier x =
        λ y has. text_differs y.var x.var
        (any_none (λ (z : Binding). bytes_eq z.var x.var) earlier (one_if_none _ _ p1.0) y has) in
        let there = promises_none x p2.1 p3.1 in
        let found = unwanted_none x (wanted x.var)
        (flat_map_none (λ (w : Text → Option Wanted). unwanted_faults site x (w x.var)) (option_to_list site.wanted)
        p1.1 wanted (in_option site.wanted wanted is)) in
        let value : value_faults site x (Some found.0) ≡ [] =
        subst (λ o. value_faults site x o ≡ []) (wanted_for_is x.var ∙ found.1) p4.1 in
        (new, (found.0, found.1, value_none x found.0 there value, there))

    -- of a new variable that is wanted, only the value can be at fault
    before_value : (earlier : List Binding) (x : Binding) (t : Wanted) → IsNew earlier x → wanted x.var ≡ Some t
        → PromisesThere x.bound
        → twice_faults site earlier x ++ wanted_faults site x ++ node_faults site x ++ variable_faults site x ≡ []
    before_value earlier x t new wants there =
        append_nothing (twice_faults site earlier x ++ wanted_faults site x ++ node_faults site x)
        (variable_faults site x)
        (append_nothing (twice_faults site earlier x ++ wanted_faults site x) (node_faults site x)
        (append_nothing (twice_faults site earlier x) (wanted_faults site x)
        (one_if_nothing _ _
        (any_nothing (λ (z : Binding). bytes_eq z.var x.var) earlier (λ y has. other_text y.var x.var (new y has))))
        (flat_map_nothing (λ (w : Text → Option Wanted). unwanted_faults site x (w x.var))
        (option_to_list site.wanted) (λ w has.
        let same : Some wanted ≡ Some w = sym is ∙ of_option site.wanted w has in
        let one : wanted ≡ w = cc in
        subst (λ o. unwanted_faults site x o ≡ []) (sym wants ∙ ap (λ (f : Text → Option Wanted). f x.var) one)
        refl)))
        (ap (map _)
        (filter_nothing (λ p. is_no_node (site.source p)) (promises_of x.bound) (λ p has. (there p has).0))))
        (ap (map _)
        (filter_nothing (λ p. is_no_variable (site.source p)) (promises_of x.bound) (λ p has. (there p has).1)))

    pub binding_is_value : (earlier : List Binding) (x : Binding) (t : Wanted) → IsNew earlier x
        → wanted x.var ≡ Some t → PromisesThere x.bound
        → binding_faults site earlier x ≡ value_faults site x (Some t)
    binding_is_value earlier x t new wants there =
        λ i. before_value earlier x t new wants there i ++ value_faults site x ((wanted_for_is x.var ∙ wants) i)

    pub binding_nothing : (earlier : List Binding) (x : Binding) → IsNew earlier x → Fits wanted x
        → binding_faults site earlier x ≡ []
    binding_nothing earlier x new fits = binding_is_value earlier x fits.0 new fits.1 fits.3
        ∙ value_nothing x fits.0 fits.2

    pub bindings_none : (bindings : List Binding) → bindings_faults site bindings ≡ []
        → AreDistinct (bound_names bindings) × ((x : Binding) → Contains bindings x → Fits wanted x)
    bindings_none bindings e =
        let at : (i : ℕ) (x : Binding) → slice_get bindings i ≡ Some x → IsNew (take i bindings) x × Fits wanted x =
        λ i x there. binding_none (take i bindings) x
        (flat_map_none (λ (at : ℕ × Binding). binding_faults site (take at.0 bindings) at.1)
        (enumerate_from 0 bindings) e (i, x) (numbered bindings i x there)) in (
          distinct_from (bound_names bindings) (λ i j z lt first second.
              let x = of_map_at (λ (b : Binding). b.var) bindings i z first in
              let y = of_map_at (λ (b : Binding). b.var) bindings j z second in
              (at j y.0 y.1).0 x.0 (in_take bindings j i x.0 lt x.1) (x.2 ∙ sym y.2)),
          λ x has. let place = place_in bindings x has in (at place.0 x place.1).1,
        )

    pub bindings_nothing : (bindings : List Binding) → AreDistinct (bound_names bindings)
        → ((x : Binding) → Contains bindings x → Fits wanted x)
        → bindings_faults site bindings ≡ []
    bindings_nothing bindings distinct fits =
        flat_map_nothing (λ (at : ℕ × Binding). binding_faults site (take at.0 bindings) at.1)
        (enumerate_from 0 bindings) (λ at has.
        let there = number_at bindings at has in
        binding_nothing (take at.0 bindings) at.1 (λ y before same.
        let place = of_take bindings at.0 y before in
        apart (bound_names bindings) distinct place.0 at.0 at.1.var place.1
        (map_at (λ (b : Binding). b.var) bindings place.0 y place.2 ∙ ap Some same)
        (map_at (λ (b : Binding). b.var) bindings at.0 at.1 there))
        (fits at.1 (contains_at bindings at.0 at.1 there)))

-- ---- without a binding

pub unbound_none : (c : Code) (place : Text) (variables : List Variable) (bindings : List Binding)
    → unbound_faults c place variables bindings ≡ []
    → (v : Variable) → Contains variables v → Contains (bound_names bindings) v.name
unbound_none c place variables bindings e v has =
    let test : Binding → Bool = λ x. bytes_eq x.var v.name in
    let one = some_without_none (binding_of v.name bindings)
    (filter_none (λ (w : Variable). is_none (binding_of w.name bindings)) variables (map_none _ _ e) v has) in
    let found = find_found test bindings one.0 one.1 in
    subst (Contains (bound_names bindings)) (same_text one.0.var v.name found.1)
    (in_map (λ (b : Binding). b.var) bindings one.0 found.0)

pub unbound_nothing : (c : Code) (place : Text) (variables : List Variable) (bindings : List Binding)
    → ((v : Variable) → Contains variables v → Contains (bound_names bindings) v.name)
    → unbound_faults c place variables bindings ≡ []
unbound_nothing c place variables bindings h =
    ap (map _) (filter_nothing (λ (w : Variable). is_none (binding_of w.name bindings)) variables (λ v has.
    let from = of_map (λ (b : Binding). b.var) bindings v.name (h v has) in
    not_none (binding_of v.name bindings)
    (find_some (λ (x : Binding). bytes_eq x.var v.name) bindings from.0 from.1 (text_same from.0.var v.name from.2))))

-- ---- each variable once

-- a site that wants values, or lists of them, of the types of these variables
module _ (site : Site) (wanted : Text → Option Wanted) (is : site.wanted ≡ Some wanted) (of : LiteralType → Wanted)
    (variables : List Variable)
    (by_name : (name : Text) → wanted name ≡ option_map of (type_of name variables))
    (distinct : AreDistinct (names_of variables)) where
  abbrev fit : Bound → LiteralType → Bool
  fit x t = fits_wanted site x (of t)

  named : (name : Text) (t : Wanted) → wanted name ≡ Some t → Contains (names_of variables) name
  named name t e =
      let kind = some_of_map of (type_of name variables) t (sym (by_name name) ∙ e) in
      let v = type_of_found name variables kind.0 kind.1 in
      subst (Contains (names_of variables)) v.2 (in_map (λ (w : Variable). w.name) variables v.0 v.1)

  wanted_named : (v : Variable) (name : Text) → Contains variables v → name ≡ v.name → wanted name ≡ Some (of v.kind)
  wanted_named v name has same =
      by_name name ∙ ap (λ n. option_map of (type_of n variables)) same
      ∙ ap (option_map of) (type_of_named variables v distinct has)

  pub binds_none : (c : Code) (place : Text) (bindings : List Binding) → bindings_faults site bindings ≡ []
      → unbound_faults c place variables bindings ≡ []
      → Binds fit variables bindings
  binds_none c place bindings none bound =
      let all = bindings_none site wanted is bindings none in record {
        once = permutation_from (bound_names bindings) (names_of variables) all.0 distinct
            (λ z has. let x = of_map (λ (b : Binding). b.var) bindings z has in let fits = all.1 x.0 x.1 in
            named z fits.0 (ap wanted (sym x.2) ∙ fits.1))
            (λ z has. let v = of_map (λ (w : Variable). w.name) variables z has in
            subst (Contains (bound_names bindings)) v.2 (unbound_none c place variables bindings bound v.0 v.1));
        fits = λ v x v_in x_in same.
            let fits = all.1 x x_in in
            let one : Some fits.0 ≡ Some (of v.kind) = sym fits.1 ∙ wanted_named v x.var v_in same in
            let wants : fits.0 ≡ of v.kind = cc in
            subst (λ t. fits_wanted site x.bound t ≡ true) wants fits.2;
      }

  pub binds_nothing : ((x : Bound) (t : LiteralType) → fit x t ≡ true → PromisesThere site x)
      → (c : Code) (place : Text) (bindings : List Binding)
      → Binds fit variables bindings
      → (bindings_faults site bindings ≡ []) × (unbound_faults c place variables bindings ≡ [])
  binds_nothing there c place bindings binds = (
    bindings_nothing site wanted is bindings
        (permutation_apart (bound_names bindings) (names_of variables) binds.once distinct) (λ x has.
        let v = of_map (λ (w : Variable). w.name) variables x.var
        (permutation_in (bound_names bindings) (names_of variables) binds.once x.var
        (in_map (λ (b : Binding). b.var) bindings x has)) in
        let fits = binds.fits v.0 x v.1 has (sym v.2) in
        (of v.0.kind, wanted_named v.0 x.var v.1 (sym v.2), fits, there x.bound v.0.kind fits)),
    unbound_nothing c place variables bindings (λ v has.
        permutation_of (bound_names bindings) (names_of variables) binds.once v.name
        (in_map (λ (w : Variable). w.name) variables v has)),
  )
