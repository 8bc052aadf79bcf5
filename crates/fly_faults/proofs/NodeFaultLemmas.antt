-- A node without a fault is typed, and a typed node has none.
use Rattle.std.proofs.Common.{◌≡◌, ℕ, ◌≤◌, nat_lt, true, false, not, ◌&&◌, if◌then◌else◌, List, [], ◌∷◌, ◌++◌, map, filter, flat_map, slice_get, Contains, All, Option, Some, None, is_some, is_none, option_map, option_and_then, option_to_list, bytes_eq, decimal, codes, refl, sym, ap, ◌∙◌, subst, ⊎_elim}
use Rattle.std.specs.List.{list_any, list_all, enumerate_from}
use Rattle.std.proofs.lemmas.Bool.{or_cases, or_left, and_cases, and_from, and_right, not-false, not_from_true, not_from_false, false≢true, cond-true, ltb-false, le-ltb}
use Rattle.std.proofs.lemmas.List.Elements.{All-contains}
use Rattle.fly_types.specs.declared.text.Text.{Text}
use Rattle.fly_types.specs.declared.kinds.Simple.{Simple}
use Rattle.fly_types.specs.declared.variable.Variable.{Variable}
use Rattle.fly_types.specs.Levels.{max_levels, type_levels}
use Rattle.fly_types.specs.Lookup.{value_of}
use Rattle.fly_exprs.specs.Faults.{faults_of}
use Rattle.fly_docs.specs.declared.names.Identifier.{Identifier}
use Rattle.fly_docs.specs.declared.binding.Binding.{Binding}
use Rattle.fly_docs.specs.declared.binding.Bound.{out-Bound}
use Rattle.fly_docs.specs.declared.binding.Bound.TheOpen.{Bound-F}
use Rattle.fly_docs.specs.Layer.{BoundLayer}
use Rattle.fly_docs.specs.declared.task.Task.{Task}
use Rattle.fly_docs.specs.declared.node.Node.{Node}
use Rattle.fly_docs.specs.declared.node.Case.{Case}
use Rattle.fly_docs.specs.declared.node.Target.{Target, out-Target}
use Rattle.fly_docs.specs.declared.node.Target.TheOpen.{Target-F}
use Rattle.fly_docs.specs.declared.workflow.Workflow.{Workflow}
use Rattle.fly_docs.specs.declared.workflow.Bundle.{Bundle}
use Rattle.fly_docs.specs.Form.{IsTaskInForm, IsWorkflowInForm, IsBundleInForm}
use Rattle.fly_docs.specs.Interfaces.{names_of, bound_names, type_of}
use Rattle.fly_docs.specs.Bindings.{Promised, source_node, promises_of, binding_of}
use Rattle.fly_docs.specs.Lookups.{is_same, task_named, workflow_named}
use Rattle.fly_docs.specs.NodeInterfaces.{array_type, inputs_by, Wanted, value, items, primitive, wanted_by, source_of}
use Rattle.fly_docs.specs.Fitting.{array_input_fits, is_mapped}
use Rattle.fly_docs.specs.Conditions.{bound_primitive, branch_variables, condition_fault}
use Rattle.fly_docs.specs.Typed.{AreDistinct, Binds, MapsOne, IsTypedPlain, IsTypedArray, HasCondition, IsTypedBranch, IsTypedTarget}
use Rattle.fly_graph.proofs.Members.{Contains-filter, Contains-filter_from}
use Rattle.fly_faults.specs.declared.fault.Code.TheVariants as code
use Rattle.fly_faults.specs.declared.fault.Fault.{Fault}
use Rattle.fly_faults.specs.Places.{node_place, fault_at, fault_with}
use Rattle.fly_faults.specs.BindingFaults.{Site, is_anything, has_source, is_promise_of_anything, fits_wanted, bindings_faults, unbound_faults}
use Rattle.fly_faults.specs.NodeFaults.{missing_fault, cases_in, kind_text, is_empty, has_known_inputs, bindings_of, is_bound_and_fits, is_mapped_by, unmapped_faults, depth_faults, task_array_faults, array_faults_in}
use Rattle.fly_faults.proofs.Lists.{all_from, all_of, any_at, any_found, any_nothing, append_none, append_nothing, contains_at, filter_none, filter_nothing, find_found, find_some, flat_map_none, flat_map_nothing, if_nothing, in_map, in_option, map_none, number_at, numbered, of_map, one_if_none, one_if_nothing, one_unless_none, one_unless_nothing, option_none, place_in, some_get, some_of_map, some_without_none, then_none}
use Rattle.fly_faults.proofs.Distinct.{distinct_in_order, permutation_of, same_text, text_same}
use Rattle.fly_faults.proofs.BoundFits.{array_fits_there, fits_there, primitive_known}
use Rattle.fly_faults.proofs.BindingLemmas.{Fits, bindings_none, bindings_nothing, binds_none, binds_nothing}

-- ---- faults of cases

first_none : {X : Type 0} (xs : List X) → slice_get xs 0 ≡ None → xs ≡ []
first_none [] e = refl
first_none (x ∷ xs) e = cc

empty_nothing : (faults : List Fault) → faults ≡ [] → is_empty faults ≡ true
empty_nothing faults e = ap is_empty e

-- ---- the names of an interface differ

module _ (b : Bundle) (form : IsBundleInForm b) where
  pub task_inputs : (id : Identifier) (t : Task) → task_named b id ≡ Some t
      → AreDistinct (names_of t.interface.inputs)
  task_inputs id t e =
      let found = find_found (λ (u : Task). is_same u.id id) b.tasks t e in
      distinct_in_order (names_of t.interface.inputs)
      (All-contains IsTaskInForm b.tasks t form.tasks found.0).interface.inputs

  workflow_inputs : (id : Identifier) (w : Workflow) → workflow_named b id ≡ Some w
      → AreDistinct (names_of w.interface.inputs)
  workflow_inputs id w e =
      let found = find_found (λ (u : Workflow). is_same u.id id) b.workflows w e in
      distinct_in_order (names_of w.interface.inputs)
      (All-contains IsWorkflowInForm b.workflows w form.workflows found.0).interface.inputs

-- ---- what a node runs, by its layer

module _ (b : Bundle) (w : Workflow) (n : Node) where
  abbrev Layer : Type 0
  Layer = Target-F Target Case Node

  -- where the bindings of a node of this layer stand
  abbrev site_at : Layer → Site
  site_at layer = record {
    place = node_place w n;
    source = source_of b w;
    wanted = if is_some (inputs_by b layer) then Some (λ name. wanted_by b name layer) else None;
  }

  abbrev cases_at : Layer → List Fault
  cases_at layer =
      flat_map (λ (at : ℕ × Case).
      map (λ kind. fault_with code.ExprFault (node_place w n) (decimal at.0 ++ codes " " ++ kind_text kind))
      (option_to_list (condition_fault (branch_variables (source_of b w) n.inputs) at.1)))
      (enumerate_from 0 (cases_in layer))

  -- no fault of what it runs and of its inputs
  pub record RunsWithoutFault (layer : Layer) : Type 0 where
    pub found : (if is_some (inputs_by b layer) then [] else missing_fault w n layer ∷ []) ≡ []
    pub conditions : map (λ (case : Case). fault_at code.BranchNoCondition (node_place w n))
        (filter (λ (case : Case). is_none case.condition) (cases_in layer)) ≡ []
    pub bindings : bindings_faults (site_at layer) n.inputs ≡ []
    pub inputs : flat_map (λ variables. unbound_faults code.NotBound (node_place w n) variables n.inputs)
        (option_to_list (inputs_by b layer)) ≡ []
    pub arrays : array_faults_in b (site_at layer) n layer ≡ []
    pub cases : (if has_known_inputs (site_at layer) n then cases_at layer else []) ≡ []

  site_wanted : (layer : Layer) → is_some (inputs_by b layer) ≡ true
      → (site_at layer).wanted ≡ Some (λ name. wanted_by b name layer)
  site_wanted layer found = cond-true (is_some (inputs_by b layer)) (Some (λ name. wanted_by b name layer)) None found

  -- ---- tasks and workflows

  abbrev value_named : Text → Option (List Variable) → Option Wanted
  value_named name inputs = option_and_then (λ variables. option_map value (type_of name variables)) inputs

  abbrev IsPlain : Layer → Type 0
  IsPlain layer =
      ((name : Text) → wanted_by b name layer ≡ value_named name (inputs_by b layer))
      × ((inputs : List Variable) → inputs_by b layer ≡ Some inputs → AreDistinct (names_of inputs))
      × (cases_in layer ≡ []) × (array_faults_in b (site_at layer) n layer ≡ [])

  plain_none : (layer : Layer) → out-Target n.target ≡ layer → IsPlain layer → RunsWithoutFault layer
      → IsTypedPlain b w n
  plain_none layer is plain none =
      let found = one_unless_none (is_some (inputs_by b layer)) (missing_fault w n layer) none.found in
      let inputs = some_get (inputs_by b layer) found in record {
        inputs = inputs.0;
        found = ap (inputs_by b) is ∙ inputs.1;
        bound = binds_none (site_at layer) (λ name. wanted_by b name layer) (site_wanted layer found) value inputs.0
            (λ name. plain.0 name ∙ ap (value_named name) inputs.1) (plain.1 inputs.0 inputs.1) code.NotBound
            (node_place w n) n.inputs none.bindings
            (flat_map_none (λ variables. unbound_faults code.NotBound (node_place w n) variables n.inputs)
            (option_to_list (inputs_by b layer)) none.inputs
            inputs.0 (in_option (inputs_by b layer) inputs.0 inputs.1));
      }

  plain_nothing : (layer : Layer) → out-Target n.target ≡ layer → IsPlain layer → IsTypedPlain b w n
      → RunsWithoutFault layer
  plain_nothing layer is plain typed =
      let inputs : inputs_by b layer ≡ Some typed.inputs = ap (inputs_by b) (sym is) ∙ typed.found in
      let found : is_some (inputs_by b layer) ≡ true = ap is_some inputs in
      let both = binds_nothing (site_at layer) (λ name. wanted_by b name layer)
      (site_wanted layer found) value typed.inputs
      (λ name. plain.0 name ∙ ap (value_named name) inputs) (plain.1 typed.inputs inputs)
      (λ x t fits. fits_there (source_of b w) x t fits) code.NotBound (node_place w n) n.inputs typed.bound in
      record {
        found = one_unless_nothing (is_some (inputs_by b layer)) (missing_fault w n layer) found;
        conditions =
            ap (λ cases. map (λ (case : Case). fault_at code.BranchNoCondition (node_place w n))
            (filter (λ (case : Case). is_none case.condition) cases)) plain.2;
        bindings = both.0;
        inputs = ap
            (λ o. flat_map (λ variables. unbound_faults code.NotBound (node_place w n) variables n.inputs)
            (option_to_list o)) inputs
            ∙ append_nothing (unbound_faults code.NotBound (node_place w n) typed.inputs n.inputs) [] both.1 refl;
        arrays = plain.3;
        cases = if_nothing (has_known_inputs (site_at layer) n) (cases_at layer)
            (ap (λ cases. flat_map (λ (at : ℕ × Case).
            map (λ kind. fault_with code.ExprFault (node_place w n) (decimal at.0 ++ codes " " ++ kind_text kind))
            (option_to_list (condition_fault (branch_variables (source_of b w) n.inputs) at.1)))
            (enumerate_from 0 cases)) plain.2);
      }

  -- ---- arrays

  module _ (id : Identifier) (min_successes : Option ℕ) (is : out-Target n.target ≡ Target-F.Array id min_successes)
      (task : Task)
      (named : task_named b id ≡ Some task) (distinct : AreDistinct (names_of task.interface.inputs)) where
    abbrev array : Layer
    array = Target-F.Array id min_successes

    abbrev inputs_in : List Variable
    inputs_in = task.interface.inputs

    abbrev IsBoundBy : Type 0
    IsBoundBy = Binds (array_input_fits (source_of b w)) inputs_in n.inputs

    array_found : is_some (inputs_by b array) ≡ true
    array_found = ap (λ o. is_some (option_map (λ (t : Task). t.interface.inputs) o)) named

    array_named : (name : Text) → wanted_by b name array ≡ option_map items (type_of name inputs_in)
    array_named name = ap (option_and_then (λ (t : Task). option_map items (type_of name t.interface.inputs))) named

    all_fit : IsBoundBy → list_all (is_bound_and_fits (site_at array) n.inputs) inputs_in ≡ true
    all_fit binds =
        all_from (is_bound_and_fits (site_at array) n.inputs) inputs_in (λ v has.
        let from = of_map (λ (x : Binding). x.var) n.inputs v.name
        (permutation_of (bound_names n.inputs) (names_of inputs_in) binds.once v.name
        (in_map (λ (u : Variable). u.name) inputs_in v has)) in
        and_from (is_some (binding_of v.name n.inputs)) _
        (find_some (λ (x : Binding). bytes_eq x.var v.name) n.inputs from.0 from.1
        (text_same from.0.var v.name from.2))
        (all_from (λ (x : Binding). array_input_fits (source_of b w) x.bound v.kind) (bindings_of v n.inputs)
        (λ x kept.
        let there = Contains-filter (λ (y : Binding). bytes_eq y.var v.name) n.inputs x kept in
        binds.fits v x has there.0 (same_text x.var v.name there.1))))

    mapped_none : IsBoundBy → unmapped_faults (site_at array) inputs_in n.inputs ≡ []
        → MapsOne (source_of b w) inputs_in n.inputs
    mapped_none binds e =
        let all = list_all (is_bound_and_fits (site_at array) n.inputs) inputs_in in
        let any = list_any (is_mapped_by (site_at array) n.inputs) inputs_in in
        let no : (all && not any) ≡ false =
        one_if_none (all && not any) (fault_at code.ArrayNoMapped (node_place w n)) e in
        let yes : any ≡ true =
        ⊎_elim (λ none. absurd (false≢true (sym none ∙ all_fit binds))) (λ mapped. not-false any mapped)
        (and_cases all (not any) no) in
        let v = any_found (is_mapped_by (site_at array) n.inputs) inputs_in yes in
        let x = any_found (λ (y : Binding). is_mapped (source_of b w) y.bound v.0.kind)
        (bindings_of v.0 n.inputs) v.2 in
        let there = Contains-filter (λ (y : Binding). bytes_eq y.var v.0.name) n.inputs x.0 x.1 in record {
          variable = v.0;
          wanted = v.1;
          binding = x.0;
          there = there.0;
          names = same_text x.0.var v.0.name there.1;
          mapped = x.2;
        }

    mapped_nothing : MapsOne (source_of b w) inputs_in n.inputs → unmapped_faults (site_at array) inputs_in n.inputs
        ≡ []
    mapped_nothing maps =
        let all = list_all (is_bound_and_fits (site_at array) n.inputs) inputs_in in
        let any = list_any (is_mapped_by (site_at array) n.inputs) inputs_in in
        let kept : Contains (bindings_of maps.variable n.inputs) maps.binding =
        Contains-filter_from (λ (y : Binding). bytes_eq y.var maps.variable.name) n.inputs maps.binding maps.there
        (text_same maps.binding.var maps.variable.name maps.names) in
        let yes : any ≡ true =
        any_at (is_mapped_by (site_at array) n.inputs) inputs_in maps.variable maps.wanted
        (any_at (λ (y : Binding). is_mapped (source_of b w) y.bound maps.variable.kind)
        (bindings_of maps.variable n.inputs) maps.binding kept maps.mapped) in
        one_if_nothing (all && not any) (fault_at code.ArrayNoMapped (node_place w n))
        (and_right all (not any) (not_from_true any yes))

    abbrev levels_of : Variable → ℕ
    levels_of v = type_levels (array_type min_successes v.kind)

    depth_none : depth_faults (site_at array) min_successes task.interface.outputs ≡ []
        → All (λ (v : Variable). levels_of v ≤ max_levels) task.interface.outputs
    depth_none e =
        all_of _ task.interface.outputs (λ v has.
        ltb-false max_levels (levels_of v)
        (filter_none (λ (u : Variable). nat_lt max_levels (levels_of u)) task.interface.outputs (map_none _ _ e) v
        has))

    depth_nothing : All (λ (v : Variable). levels_of v ≤ max_levels) task.interface.outputs
        → depth_faults (site_at array) min_successes task.interface.outputs ≡ []
    depth_nothing all =
        ap (map _)
        (filter_nothing (λ (u : Variable). nat_lt max_levels (levels_of u)) task.interface.outputs (λ v has.
        le-ltb max_levels (levels_of v)
        (All-contains (λ (v : Variable). levels_of v ≤ max_levels) task.interface.outputs v all has)))

    array_none : RunsWithoutFault array → IsTypedArray b w n id min_successes
    array_none none =
        let inputs : inputs_by b array ≡ Some inputs_in = ap (option_map (λ (t : Task). t.interface.inputs)) named in
        let binds : IsBoundBy =
        binds_none (site_at array) (λ name. wanted_by b name array)
        (site_wanted array array_found) items inputs_in array_named distinct
        code.NotBound (node_place w n) n.inputs none.bindings
        (flat_map_none (λ variables. unbound_faults code.NotBound (node_place w n) variables n.inputs)
        (option_to_list (inputs_by b array)) none.inputs
        inputs_in (in_option (inputs_by b array) inputs_in inputs)) in
        let arrays = append_none (unmapped_faults (site_at array) inputs_in n.inputs)
        (depth_faults (site_at array) min_successes task.interface.outputs)
        (subst (λ o. task_array_faults (site_at array) n min_successes o ≡ []) named none.arrays) in record {
          task = task;
          found = named;
          bound = binds;
          mapped = mapped_none binds arrays.0;
          shallow = depth_none arrays.1;
        }

    array_nothing : IsBoundBy → MapsOne (source_of b w) inputs_in n.inputs
        → All (λ (v : Variable). levels_of v ≤ max_levels) task.interface.outputs
        → RunsWithoutFault array
    array_nothing binds maps shallow =
        let inputs : inputs_by b array ≡ Some inputs_in = ap (option_map (λ (t : Task). t.interface.inputs)) named in
        let both = binds_nothing (site_at array) (λ name. wanted_by b name array)
        (site_wanted array array_found) items inputs_in array_named distinct
        (λ x t fits. array_fits_there (source_of b w) x t fits) code.NotBound (node_place w n) n.inputs binds in
        record {
          found = one_unless_nothing (is_some (inputs_by b array)) (missing_fault w n array) array_found;
          conditions = refl;
          bindings = both.0;
          inputs = ap
              (λ o. flat_map (λ variables. unbound_faults code.NotBound (node_place w n) variables n.inputs)
              (option_to_list o)) inputs
              ∙ append_nothing (unbound_faults code.NotBound (node_place w n) inputs_in n.inputs) [] both.1 refl;
          arrays = subst (λ o. task_array_faults (site_at array) n min_successes o ≡ []) (sym named)
              (append_nothing _ _ (mapped_nothing maps) (depth_nothing shallow));
          cases = if_nothing (has_known_inputs (site_at array) n) (cases_at array) refl;
        }

  -- ---- branches

  module _ (cases : List Case) (otherwise : Option Node) (error : Option Text) where
    abbrev branch : Layer
    branch = Target-F.Branch cases otherwise error

    abbrev known_variables : List (Text × Simple)
    known_variables = branch_variables (source_of b w) n.inputs

    no_promise : (layer : BoundLayer) → ((promise : Promised) → is_anything (source_of b w promise) ≡ false)
        → is_promise_of_anything (site_at branch) layer ≡ true → ⊥
    no_promise (Bound-F.Promise node var) known e = false≢true (sym (known (source_node node, var)) ∙ e)
    no_promise (Bound-F.Scalar literal) known e = false≢true e
    no_promise (Bound-F.Collection elements) known e = false≢true e
    no_promise (Bound-F.Map entries) known e = false≢true e

    branch_fits : (x : Binding) → ((promise : Promised) → is_anything (source_of b w promise) ≡ false)
        → Fits (site_at branch) (λ name. Some primitive) x
        → is_some (bound_primitive (source_of b w) x.bound) ≡ true
    branch_fits x known fits =
        let wants : primitive ≡ fits.0 = let e = fits.1 in cc in
        let e : fits_wanted (site_at branch) x.bound primitive ≡ true =
        subst (λ t. fits_wanted (site_at branch) x.bound t ≡ true) (sym wants) fits.2 in
        ⊎_elim (λ some. some) (λ promise. absurd (no_promise (out-Bound x.bound) known promise))
        (or_cases (is_some (bound_primitive (source_of b w) x.bound))
        (is_promise_of_anything (site_at branch) (out-Bound x.bound)) e)

    condition_none : (i : ℕ) (case : Case) → slice_get cases i ≡ Some case → RunsWithoutFault branch
        → has_known_inputs (site_at branch) n ≡ true
        → HasCondition known_variables case
    condition_none i case there none all =
        let has = contains_at cases i case there in
        let condition = some_without_none case.condition
        (filter_none (λ (c : Case). is_none c.condition) cases (map_none _ _ none.conditions) case has) in
        let listed = then_none (has_known_inputs (site_at branch) n) (cases_at branch) all none.cases in
        let here = flat_map_none (λ (at : ℕ × Case).
        map (λ kind. fault_with code.ExprFault (node_place w n) (decimal at.0 ++ codes " " ++ kind_text kind))
        (option_to_list (condition_fault known_variables at.1))) (enumerate_from 0 cases) listed (i, case)
        (numbered cases i case there) in
        let no : condition_fault known_variables case ≡ None = option_none (condition_fault known_variables case)
        (map_none _ _ here) in
        let first : slice_get (faults_of (value_of known_variables) condition.0) 0 ≡ None =
        sym (ap (option_and_then (λ c. slice_get (faults_of (value_of known_variables) c) 0)) condition.1) ∙ no in
        record {
          condition = condition.0;
          there = condition.1;
          sound = first_none (faults_of (value_of known_variables) condition.0) first;
        }

    branch_none : ((promise : Promised) → is_anything (source_of b w promise) ≡ false) → RunsWithoutFault branch
        → IsTypedBranch b w n cases
    branch_none known none =
        let all = bindings_none (site_at branch) (λ name. Some primitive) refl n.inputs none.bindings in
        let inputs_known : has_known_inputs (site_at branch) n ≡ true =
        and_from (is_empty (bindings_faults (site_at branch) n.inputs)) _
        (empty_nothing (bindings_faults (site_at branch) n.inputs) none.bindings)
        (not_from_false _
        (any_nothing (λ (x : Binding). has_source is_anything (site_at branch) x.bound) n.inputs (λ x has.
        any_nothing (λ promise. is_anything (source_of b w promise)) (promises_of x.bound)
        (λ promise there. known promise)))) in record {
          once = all.0;
          primitives = all_of _ n.inputs (λ x has. branch_fits x known (all.1 x has));
          conditions =
              all_of _ cases
              (λ case has. let place = place_in cases case has in
              condition_none place.0 case place.1 none inputs_known);
        }

    condition_nothing : (case : Case) → HasCondition known_variables case
        → condition_fault known_variables case ≡ None
    condition_nothing case has =
        ap (option_and_then (λ c. slice_get (faults_of (value_of known_variables) c) 0)) has.there
        ∙ ap (λ faults. slice_get faults 0) has.sound

    branch_nothing : IsTypedBranch b w n cases → RunsWithoutFault branch
    branch_nothing typed = record {
      found = refl;
      conditions = ap (map _) (filter_nothing (λ (c : Case). is_none c.condition) cases (λ case has.
          ap is_none (All-contains (HasCondition known_variables) cases case typed.conditions has).there));
      bindings = bindings_nothing (site_at branch) (λ name. Some primitive) refl n.inputs typed.once (λ x has.
          let some =
          All-contains (λ (y : Binding). is_some (bound_primitive (source_of b w) y.bound) ≡ true) n.inputs x
          typed.primitives has in (
            primitive,
            refl,
            or_left (is_some (bound_primitive (source_of b w) x.bound))
                (is_promise_of_anything (site_at branch) (out-Bound x.bound)) some,
            λ promise there. (primitive_known (source_of b w) x.bound some promise there).0,
          ));
      inputs = refl;
      arrays = refl;
      cases = if_nothing (has_known_inputs (site_at branch) n) (cases_at branch)
          (flat_map_nothing _ (enumerate_from 0 cases) (λ at has.
          ap (λ o. map
          (λ kind. fault_with code.ExprFault (node_place w n) (decimal at.0 ++ codes " " ++ kind_text kind))
          (option_to_list o))
          (condition_nothing at.1
          (All-contains (HasCondition known_variables) cases at.1 typed.conditions
          (contains_at cases at.0 at.1 (number_at cases at has))))));
    }

-- ---- what a node runs

module _ (b : Bundle) (form : IsBundleInForm b) (w : Workflow) (n : Node) where
  task_plain : (id : Identifier) → IsPlain b w n (Target-F.Task id)
  task_plain id = (
    λ name. refl,
    λ inputs e. let t = some_of_map (λ (t : Task). t.interface.inputs) (task_named b id) inputs e in
        subst (λ vs. AreDistinct (names_of vs)) t.2 (task_inputs b form id t.0 t.1),
    refl,
    refl,
  )

  workflow_plain : (id : Identifier) → IsPlain b w n (Target-F.Workflow id)
  workflow_plain id = (
    λ name. refl,
    λ inputs e. let t = some_of_map (λ (t : Workflow). t.interface.inputs) (workflow_named b id) inputs e in
        subst (λ vs. AreDistinct (names_of vs)) t.2 (workflow_inputs b form id t.0 t.1),
    refl,
    refl,
  )

  pub target_none : (layer : Target-F Target Case Node) → out-Target n.target ≡ layer
      → ((promise : Promised) → is_anything (source_of b w promise) ≡ false)
      → RunsWithoutFault b w n layer → IsTypedTarget b w n layer
  target_none (Target-F.Task id) is known none = plain_none b w n (Target-F.Task id) is (task_plain id) none
  target_none (Target-F.Workflow id) is known none = plain_none b w n (Target-F.Workflow id) is
      (workflow_plain id) none
  target_none (Target-F.Branch cases otherwise error) is known none =
      branch_none b w n cases otherwise error known none
  target_none (Target-F.Array id min_successes) is known none =
      let found = some_get (inputs_by b (Target-F.Array id min_successes))
      (one_unless_none _ (missing_fault w n (Target-F.Array id min_successes)) none.found) in
      let t = some_of_map (λ (t : Task). t.interface.inputs) (task_named b id) found.0 found.1 in
      array_none b w n id min_successes is t.0 t.1 (task_inputs b form id t.0 t.1) none

  pub target_nothing : (layer : Target-F Target Case Node) → out-Target n.target ≡ layer → IsTypedTarget b w n layer
      → RunsWithoutFault b w n layer
  target_nothing (Target-F.Task id) is typed = plain_nothing b w n (Target-F.Task id) is (task_plain id) typed
  target_nothing (Target-F.Workflow id) is typed = plain_nothing b w n (Target-F.Workflow id) is
      (workflow_plain id) typed
  target_nothing (Target-F.Branch cases otherwise error) is typed = branch_nothing b w n cases otherwise error typed
  target_nothing (Target-F.Array id min_successes) is typed =
      array_nothing b w n id min_successes is typed.task typed.found
      (task_inputs b form id typed.task typed.found) typed.bound typed.mapped typed.shallow
