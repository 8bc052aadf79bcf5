-- What nodes give, by what they run, and what the cases of a branch give in common.
use Rattle.std.proofs.Common.{◌≡◌, ◌↔◌, IsTrue, ℕ, ◌<◌, Bool, true, false, cond, ◌&&◌, List, [], ◌∷◌, ◌++◌, length, get_or, map, filter, Option, Some, None, refl, sym, ◌∙◌, ap, subst, find, nat_cmp, take, ◌+◌}
use Rattle.std.specs.Prelude.{unwrap_or, is_some}
use Rattle.std.specs.Option.{option_map, option_to_list}
use Rattle.std.specs.List.{list_all, AllByRecursion as Each}
use Rattle.std.specs.Str.{bytes_eq}
use Rattle.std.specs.List.Sorted.{IsStrictlySortedBy}
use Rattle.std.specs.Cmp.Lexicographic.{slice_cmp}
use Rattle.std.proofs.lemmas.Bool.{false≢true, true≢false}
use Rattle.std.proofs.lemmas.List.{map-append}
use Rattle.std.proofs.lemmas.List.Elements.{recursion_from_All, filter-append}
use Rattle.fly_types.specs.declared.text.Text.{Text}
use Rattle.fly_types.specs.declared.kinds.LiteralType.{LiteralType}
use Rattle.fly_types.specs.declared.kinds.LiteralType.TheVariants as type
use Rattle.fly_types.specs.declared.variable.Variable.{Variable}
use Rattle.fly_types.specs.Lookup.{AreVariablesSorted}
use Rattle.fly_cast.specs.Fitting.{each_value}
use Rattle.fly_docs.specs.declared.names.Identifier.{Identifier}
use Rattle.fly_docs.specs.declared.task.Task.{Task}
use Rattle.fly_docs.specs.declared.node.Node.{Node}
use Rattle.fly_docs.specs.declared.node.Case.{Case}
use Rattle.fly_docs.specs.declared.node.Target.{Target, out-Target}
use Rattle.fly_docs.specs.declared.node.Target.TheOpen.{Target-F}
use Rattle.fly_docs.specs.declared.node.Target.TheFolds.{fold-Target, fold-Case, fold_out-Target, fold_out-Case, fold_out-Node, map-Target}
use Rattle.fly_docs.specs.declared.workflow.Workflow.{Workflow}
use Rattle.fly_docs.specs.declared.workflow.Bundle.{Bundle}
use Rattle.fly_docs.specs.Form.{IsBundleInForm, IsTaskInForm, IsWorkflowInForm}
use Rattle.fly_docs.specs.Interfaces.{type_of, has_variable, common_variables}
use Rattle.fly_docs.specs.Lookups.{task_named, workflow_named}
use Rattle.fly_docs.specs.NodeInterfaces.{Found, of_type, no_variable, array_variable, outputs_by, case_outputs, node_outputs, outputs_of, source_in}
use Rattle.fly_compile.specs.declared.outputs.Output.{Output}
use Rattle.fly_compile.specs.declared.outputs.Outputs.{Outputs}
use Rattle.fly_faults.specs.declared.output_type.OutputType.{OutputType}
use Rattle.fly_faults.specs.declared.output_type.Origin.{Origin}
use Rattle.fly_faults.specs.declared.output_type.Origin.TheVariants as origin
use Rattle.fly_types.proofs.SameLemmas.{answers_same_type}
use Rattle.fly_faults.specs.OutputTypes.{item_type, type_of_output, source_of_origin}
use Rattle.fly_compile.specs.Outputs.{output_variable, item_variable, outputs_value, known_variables, AreOutputsSorted, common_of, source_found}
use Rattle.fly_faults.proofs.Loops.{more}
use Rattle.fly_compile.proofs.SortedNames.{name_of, find-map, map-names, sorted_filter, same_kind, has_variable-by}

-- ---- promises of a variable

pub source_in-some : (name : Text) (vs : List Variable) (t : LiteralType) → type_of name vs ≡ Some t → source_in name vs ≡ of_type t
source_in-some name vs t e = rw e refl

pub source_in-none : (name : Text) (vs : List Variable) → type_of name vs ≡ None → source_in name vs ≡ no_variable
source_in-none name vs e = rw e refl

-- ---- outputs of arrays

pub items_sorted : (may_lack : Bool) (vs : List Variable) → AreVariablesSorted (map (item_variable may_lack) vs) → AreVariablesSorted vs
items_sorted may_lack vs h = subst (IsStrictlySortedBy (slice_cmp nat_cmp)) (map-names name_of (item_variable may_lack) (λ v. refl) vs) h

pub sorted_items : (may_lack : Bool) (vs : List Variable) → AreVariablesSorted vs → AreVariablesSorted (map (item_variable may_lack) vs)
sorted_items may_lack vs h = subst (IsStrictlySortedBy (slice_cmp nat_cmp)) (sym (map-names name_of (item_variable may_lack) (λ v. refl) vs)) h

pub items-found : (may_lack : Bool) (vs : List Variable) (name : Text) (o : Option Variable) → find (λ (v : Variable). bytes_eq v.name name) vs ≡ o
    → type_of name (map (item_variable may_lack) vs) ≡ option_map (λ (v : Variable). type.Collection (item_type may_lack v.kind)) o
items-found may_lack vs name None e =
    ap (option_map (λ (v : Variable). v.kind)) (find-map (λ (v : Variable). bytes_eq v.name name) (item_variable may_lack) vs ∙ ap (option_map (item_variable may_lack)) e)
items-found may_lack vs name (Some v) e =
    ap (option_map (λ (v : Variable). v.kind)) (find-map (λ (v : Variable). bytes_eq v.name name) (item_variable may_lack) vs ∙ ap (option_map (item_variable may_lack)) e)

pub arrays : (min_successes : Option ℕ) (vs : List Variable) → map (array_variable min_successes) vs ≡ map (item_variable (is_some min_successes)) vs
arrays None vs = refl
arrays (Some m) vs = refl

-- ---- outputs in a list

abbrev output_name : Output → List ℕ
output_name o = o.name.now

pub outputs_sorted : (os : List Output) → AreVariablesSorted (map output_variable os) → IsStrictlySortedBy (slice_cmp nat_cmp) (map output_name os)
outputs_sorted os h = subst (IsStrictlySortedBy (slice_cmp nat_cmp)) (map-names output_name output_variable (λ o. refl) os) h

pub output-found : (os : List Output) (name : Text) (o : Option Output) → find (λ (x : Output). bytes_eq x.name.now name) os ≡ o
    → type_of name (map output_variable os) ≡ option_map (λ (x : Output). type_of_output x.kind) o
output-found os name None e =
    ap (option_map (λ (v : Variable). v.kind)) (find-map (λ (v : Variable). bytes_eq v.name name) output_variable os ∙ ap (option_map output_variable) e)
output-found os name (Some x) e =
    ap (option_map (λ (v : Variable). v.kind)) (find-map (λ (v : Variable). bytes_eq v.name name) output_variable os ∙ ap (option_map output_variable) e)

pub mapped_more : {X Y Z : Type 0} (f : Y → Z) (g : X → Z) (xs : List X) (i : ℕ) (x : X) (ys next : List Y) (y : Y) → i < length xs → x ≡ get_or xs i x
    → map f ys ≡ map g (take i xs) → next ≡ ys ++ y ∷ [] → f y ≡ g x → map f next ≡ map g (take (i + 1) xs)
mapped_more f g xs i x ys next y lt is before step same =
    ap (map f) step ∙ map-append f ys (y ∷ []) ∙ (λ j. before j ++ same j ∷ []) ∙ sym (map-append g (take i xs) (x ∷ []))
    ∙ ap (map g) (sym (more xs i x lt is))

pub taken_more : {X Y : Type 0} (f : Y → X) (xs : List X) (i : ℕ) (x : X) (ys next : List Y) (y : Y) → i < length xs → x ≡ get_or xs i x
    → map f ys ≡ take i xs → next ≡ ys ++ y ∷ [] → f y ≡ x → map f next ≡ take (i + 1) xs
taken_more f xs i x ys next y lt is before step same =
    ap (map f) step ∙ map-append f ys (y ∷ []) ∙ (λ j. before j ++ same j ∷ []) ∙ sym (more xs i x lt is)

-- those that pass a test, one element more
pub passed_more : {X Y Z : Type 0} (p : Z → Bool) (f : Y → Z) (g : X → Z) (xs : List X) (i : ℕ) (x : X) (ys next : List Y) → i < length xs → x ≡ get_or xs i x
    → map f ys ≡ filter p (map g (take i xs)) → map f next ≡ map f ys ++ filter p (g x ∷ []) → map f next ≡ filter p (map g (take (i + 1) xs))
passed_more p f g xs i x ys next lt is before step =
    step ∙ ap (λ r. r ++ filter p (g x ∷ [])) before ∙ sym (filter-append p (map g (take i xs)) (g x ∷ []))
    ∙ ap (filter p) (sym (map-append g (take i xs) (x ∷ [])) ∙ ap (map g) (sym (more xs i x lt is)))

-- ---- what all cases give

each_unknown : (os : List Outputs) → list_all (λ o. is_some (outputs_value o)) os ≡ false → each_value (λ f. f) (map outputs_value os) ≡ None
each_unknown [] e = absurd (true≢false e)
each_unknown (o ∷ os) e =
    elim (outputs_value o) as (λ v. (is_some v && list_all (λ o. is_some (outputs_value o)) os) ≡ false → each_value (λ f. f) (v ∷ map outputs_value os) ≡ None) [
      | None ↦ λ h. refl
      | Some vs ↦ λ h. ap (option_map (λ (ys : List (List Variable)). vs ∷ ys)) (each_unknown os h)
    ] e

each_known : (os : List Outputs) → list_all (λ o. is_some (outputs_value o)) os ≡ true → each_value (λ f. f) (map outputs_value os) ≡ Some (map known_variables os)
each_known [] e = refl
each_known (o ∷ os) e =
    elim (outputs_value o) as (λ v. (is_some v && list_all (λ o. is_some (outputs_value o)) os) ≡ true
    → each_value (λ f. f) (v ∷ map outputs_value os) ≡ Some (unwrap_or v [] ∷ map known_variables os)) [
      | None ↦ λ h. absurd (false≢true h)
      | Some vs ↦ λ h. ap (option_map (λ (ys : List (List Variable)). vs ∷ ys)) (each_known os h)
    ] e

pub common-unknown : (os : List Outputs) (known : Bool) → known ≡ list_all (λ o. is_some (outputs_value o)) os → known ≡ false → None ≡ common_of (map outputs_value os)
common-unknown os known test fails = sym (ap (option_map common_variables) (each_unknown os (sym test ∙ fails)))

all-map : {X Y : Type 0} (p : Y → Bool) (g : X → Y) (xs : List X) → list_all p (map g xs) ≡ list_all (λ x. p (g x)) xs
all-map p g [] = refl
all-map p g (x ∷ xs) = ap (λ b. p (g x) && b) (all-map p g xs)

pub common-known : (os others : List Outputs) (first : Outputs) (listed common : List Output) → os ≡ first ∷ others → list_all (λ o. is_some (outputs_value o)) os ≡ true
    → map output_variable listed ≡ known_variables first
    → map output_variable common ≡ filter (λ v. list_all (λ other. has_variable (known_variables other) v) others) (map output_variable listed)
    → Some (map output_variable common) ≡ common_of (map outputs_value os)
common-known os others first listed common parts known list is =
    let tests : (v : Variable) → list_all (λ other. has_variable (known_variables other) v) others ≡ list_all (λ other. has_variable other v) (map known_variables others) =
    λ v. sym (all-map (λ (other : List Variable). has_variable other v) known_variables others) in
    ap Some (is ∙ (λ i. filter (λ v. tests v i) (list i)))
    ∙ sym (ap (option_map common_variables) (each_known os known) ∙ ap (λ zs. Some (common_variables (map known_variables zs))) parts)

pub common_sorted : (others : List Outputs) (first : Outputs) (listed common : List Output) → map output_variable listed ≡ known_variables first
    → map output_variable common ≡ filter (λ v. list_all (λ other. has_variable (known_variables other) v) others) (map output_variable listed)
    → AreOutputsSorted first → AreVariablesSorted (map output_variable common)
common_sorted others first listed common list is sorted =
    subst AreVariablesSorted (sym (is ∙ ap (filter (λ v. list_all (λ other. has_variable (known_variables other) v) others)) list))
    (sorted_filter (λ v. list_all (λ other. has_variable (known_variables other) v) others) (known_variables first) sorted)

-- ---- what a bundle has, in form

found_each : {X : Type 0} (P : X → Type 0) (p : X → Bool) (xs : List X) (x : X) → Each P xs → find p xs ≡ Some x → P x
found_each P p [] x h e = cc
found_each P p (y ∷ ys) x h e =
    elim (p y) as (λ b. cond b (Some y) (find p ys) ≡ Some x → P x) [
      | true ↦ λ same. let is : y ≡ x = cc in subst P is h.0
      | false ↦ λ later. found_each P p ys x h.1 later
    ] e

pub task_in_form : (b : Bundle) (id : Identifier) (t : Task) → IsBundleInForm b → task_named b id ≡ Some t → IsTaskInForm t
task_in_form b id t form e = found_each IsTaskInForm _ b.tasks t (recursion_from_All IsTaskInForm b.tasks form.tasks) e

pub workflow_in_form : (b : Bundle) (id : Identifier) (w : Workflow) → IsBundleInForm b → workflow_named b id ≡ Some w → IsWorkflowInForm w
workflow_in_form b id w form e = found_each IsWorkflowInForm _ b.workflows w (recursion_from_All IsWorkflowInForm b.workflows form.workflows) e

-- ---- the outputs of a node, by its target

module _ (b : Bundle) where
  abbrev outputs_of_target : Target → Found
  outputs_of_target = fold-Target Found Found Found (outputs_by b) case_outputs node_outputs

  abbrev outputs_of_case : Case → Found
  outputs_of_case = fold-Case Found Found Found (outputs_by b) case_outputs node_outputs

  abbrev target_outputs : Target-F Target Case Node → Target-F Found Found Found
  target_outputs = map-Target Target Case Node Found Found Found outputs_of_target outputs_of_case (outputs_of b)

  pub outputs_at : (n : Node) (layer : Target-F Target Case Node) → out-Target n.target ≡ layer → outputs_of b n ≡ outputs_by b (target_outputs layer)
  outputs_at n layer is =
      fold_out-Node Found Found Found (outputs_by b) case_outputs node_outputs n
      ∙ fold_out-Target Found Found Found (outputs_by b) case_outputs node_outputs n.target
      ∙ ap (λ l. outputs_by b (target_outputs l)) is

  cases_outputs : (cases : List Case) → map outputs_of_case cases ≡ map (λ (case : Case). outputs_of b case.then) cases
  cases_outputs [] = refl
  cases_outputs (case ∷ cases) =
      λ i. fold_out-Case Found Found Found (outputs_by b) case_outputs node_outputs case i ∷ cases_outputs cases i

  pub branch_outputs_at : (n : Node) (cases : List Case) (otherwise : Option Node) (error : Option Text) → out-Target n.target ≡ Target-F.Branch cases otherwise error
      → common_of (map (λ (case : Case). outputs_of b case.then) cases ++ map (outputs_of b) (option_to_list otherwise)) ≡ outputs_of b n
  branch_outputs_at n cases None error is =
      ap (λ r. common_of (r ++ [])) (sym (cases_outputs cases)) ∙ sym (outputs_at n (Target-F.Branch cases None error) is)
  branch_outputs_at n cases (Some node) error is =
      ap (λ r. common_of (r ++ outputs_of b node ∷ [])) (sym (cases_outputs cases)) ∙ sym (outputs_at n (Target-F.Branch cases (Some node) error) is)

-- ---- whether a node gives an output

found-type : (name : Text) (f : Found) (t : LiteralType) → of_type t ≡ source_found name f → type_of name (unwrap_or f []) ≡ Some t
found-type name None t h = cc
found-type name (Some vs) t h =
    elim (type_of name vs) as (λ o. type_of name vs ≡ o → o ≡ Some t) [
      | Some s ↦ λ e. let same : of_type t ≡ of_type s = h ∙ source_in-some name vs s e in cc
      | None ↦ λ e. let same : of_type t ≡ no_variable = h ∙ source_in-none name vs e in cc
    ] refl

origin_differs : (r : Origin) (s : LiteralType) → ((t : OutputType) → r ≡ origin.Output t → ⊥) → source_of_origin r ≡ of_type s → ⊥
origin_differs (origin.Output t) s other h = other t refl
origin_differs origin.Anything s other h = cc
origin_differs origin.NoNode s other h = cc
origin_differs origin.NoVariable s other h = cc

not-found : (name : Text) (f : Found) (r : Origin) → ((t : OutputType) → r ≡ origin.Output t → ⊥) → source_of_origin r ≡ source_found name f → type_of name (unwrap_or f []) ≡ None
not-found name f (origin.Output t) other h = absurd (other t refl)
not-found name None origin.Anything other h = refl
not-found name None origin.NoNode other h = refl
not-found name None origin.NoVariable other h = refl
not-found name (Some vs) r other h =
    elim (type_of name vs) as (λ o. type_of name vs ≡ o → o ≡ None) [
      | Some s ↦ λ e. absurd (origin_differs r s other (h ∙ source_in-some name vs s e))
      | None ↦ λ e. refl
    ] refl

pub has-found : (o : Outputs) (v : Variable) (s : LiteralType) (r : Bool) → AreOutputsSorted o → of_type s ≡ source_found v.name (outputs_value o)
    → (IsTrue r ↔ (s ≡ v.kind)) → r ≡ has_variable (known_variables o) v
has-found o v s r sorted h same =
    answers_same_type s v.kind r same
    ∙ sym (has_variable-by (known_variables o) v sorted ∙ ap (same_kind v.kind) (found-type v.name (outputs_value o) s h))

pub has-nothing : (o : Outputs) (v : Variable) (r : Origin) → AreOutputsSorted o → ((t : OutputType) → r ≡ origin.Output t → ⊥)
    → source_of_origin r ≡ source_found v.name (outputs_value o) → false ≡ has_variable (known_variables o) v
has-nothing o v r sorted other h =
    sym (has_variable-by (known_variables o) v sorted ∙ ap (same_kind v.kind) (not-found v.name (outputs_value o) r other h))
