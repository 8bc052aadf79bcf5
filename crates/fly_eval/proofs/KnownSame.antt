-- What a node takes, and what a workflow gives, goes by what is known of those alone that the bindings promise from.
use Rattle.std.proofs.Common.{◌≡◌, ℕ, zero, suc, if◌then◌else◌, List, [], ◌∷◌, map, filter, bytes_eq, Contains, Option, Some, None, option_and_then, refl, sym, ◌∙◌, ap, subst}
use Rattle.fly_types.specs.declared.text.Text.{Text}
use Rattle.fly_types.specs.declared.kinds.LiteralType.{LiteralType, out-LiteralType}
use Rattle.fly_types.specs.declared.kinds.LiteralType.TheOpen.{LiteralType-F}
use Rattle.fly_types.specs.declared.kinds.LiteralType.TheVariants as type
use Rattle.fly_types.specs.declared.literals.Literal.{Literal}
use Rattle.fly_types.specs.declared.literals.Literal.TheVariants as literal
use Rattle.fly_types.specs.declared.literals.LiteralMap.{LiteralMap}
use Rattle.fly_types.specs.declared.variable.Variable.{Variable}
use Rattle.fly_types.specs.Layer.{TypeLayer}
use Rattle.fly_types.specs.Levels.{type_levels}
use Rattle.fly_cast.specs.Castable.{sole_element}
use Rattle.fly_cast.specs.Conversion.{result_map, result_ahead_of, each_result, entry_result}
use Rattle.fly_docs.specs.declared.binding.Binding.{Binding}
use Rattle.fly_docs.specs.declared.binding.Bound.{Bound, out-Bound}
use Rattle.fly_docs.specs.declared.binding.Bound.TheOpen.{Bound-F}
use Rattle.fly_docs.specs.declared.binding.Bound.TheFolds.{fold_out-Bound, map-Bound}
use Rattle.fly_docs.specs.declared.node.Node.{Node}
use Rattle.fly_docs.specs.declared.node.Case.{Case}
use Rattle.fly_docs.specs.declared.node.Target.{Target, out-Target}
use Rattle.fly_docs.specs.declared.node.Target.TheOpen.{Target-F}
use Rattle.fly_docs.specs.declared.workflow.Workflow.{Workflow}
use Rattle.fly_docs.specs.declared.workflow.Bundle.{Bundle}
use Rattle.fly_docs.specs.Layer.{BoundLayer}
use Rattle.fly_docs.specs.Bindings.{Promised, source_node, promises_by, promises_of, sources_of, binding_of}
use Rattle.fly_docs.specs.Fitting.{bound_fits, is_mapped}
use Rattle.fly_docs.specs.NodeInterfaces.{Source, Found, inputs_of, source_of}
use Rattle.fly_docs.specs.SlotInputs.{Known, Taken, literal_named, known_literal, or_unknown, promise_value, variant_value, bound_form_value, bound_value_within, bound_value, variable_value, values_of, workflow_outputs, branch_value_in, by_name, branch_inputs, array_value, mapped_names, with_items, inputs_with, node_inputs}
use Rattle.fly_rules.proofs.GroundLemmas.{Contains-map, Contains-flat_map}
use Rattle.fly_state.proofs.AskedInputs.{found-in}
use Rattle.fly_state.proofs.Lists.{first_in, later_in}
use Rattle.fly_state.proofs.TakenLemmas.{variable-bound, variable-unbound}

each-same : {X Y : Type 0} (f g : X → Taken Y) (xs : List X) → ((x : X) → Contains xs x → f x ≡ g x)
    → each_result f xs ≡ each_result g xs
each-same f g [] same = refl
each-same f g (x ∷ xs) same =
    ap (result_ahead_of (each_result f xs)) (same x (first_in x xs))
    ∙ ap (λ rest. result_ahead_of rest (g x)) (each-same f g xs (λ y has. same y (later_in x xs y has)))

-- ---- what is bound

abbrev layer_promises : BoundLayer → List Promised
layer_promises layer = promises_by (map-Bound Bound (List Promised) promises_of layer)

promises-layer : (x : Bound) (layer : BoundLayer) → out-Bound x ≡ layer → promises_of x ≡ layer_promises layer
promises-layer x layer e = fold_out-Bound (List Promised) promises_by x ∙ ap layer_promises e

-- the same is known where the binding promises from
abbrev pub AgreeAt : Known → Known → Bound → Type 0
AgreeAt known other x = (promise : Promised) → Contains (promises_of x) promise → known promise.0 ≡ other promise.0

abbrev pub AgreeAll : Known → Known → List Binding → Type 0
AgreeAll known other bindings = (x : Binding) → Contains bindings x → AgreeAt known other x.bound

-- the same values, where the same is known
abbrev pub AreSame : Known → Known → (Bound → LiteralType → Taken Literal) → (Bound → LiteralType → Taken Literal) → Type 0
AreSame known other value later = (x : Bound) (t : LiteralType) → AgreeAt known other x → value x t ≡ later x t

variant-same : (value later : LiteralType → Taken Literal) (o : Option LiteralType) → ((t : LiteralType) → value t ≡ later t)
    → variant_value value o ≡ variant_value later o
variant-same value later (Some t) same = ap (result_map (λ l. literal.Union l t)) (same t)
variant-same value later None same = refl

module _ (source : Promised → Source) (known other : Known) where
  literal-same : (node var : Text) (x : Bound) → out-Bound x ≡ Bound-F.Promise node var → AgreeAt known other x
      → known_literal known (source_node node, var) ≡ known_literal other (source_node node, var)
  literal-same node var x is agree =
      let promise : Promised = (source_node node, var) in
      ap (option_and_then (literal_named var))
      (agree promise (subst (λ ps. Contains ps promise) (sym (promises-layer x (Bound-F.Promise node var) is)) (first_in promise [])))

  element-agrees : (es : List Bound) (x v : Bound) → out-Bound x ≡ Bound-F.Collection es → AgreeAt known other x → Contains es v
      → AgreeAt known other v
  element-agrees es x v is agree has promise inside =
      agree promise (subst (λ ps. Contains ps promise) (sym (promises-layer x (Bound-F.Collection es) is))
      (Contains-flat_map (λ (ps : List Promised). ps) (map promises_of es) (promises_of v) promise (Contains-map promises_of es v has) inside))

  entry-agrees : (es : List (Text × Bound)) (x : Bound) (e : Text × Bound) → out-Bound x ≡ Bound-F.Map es → AgreeAt known other x → Contains es e
      → AgreeAt known other e.1
  entry-agrees es x e is agree has promise inside =
      agree promise (subst (λ ps. Contains ps promise) (sym (promises-layer x (Bound-F.Map es) is))
      (Contains-flat_map (λ (u : Text × List Promised). u.1) (map (λ (u : Text × Bound). (u.0, promises_of u.1)) es) (e.0, promises_of e.1) promise
      (Contains-map (λ (u : Text × Bound). (u.0, promises_of u.1)) es e has) inside))

  form-same : (value later : Bound → LiteralType → Taken Literal) (x : Bound) (t : LiteralType) (p : BoundLayer) (q : TypeLayer)
      → AreSame known other value later → out-Bound x ≡ p → AgreeAt known other x
      → bound_form_value source known value x t p q ≡ bound_form_value source other later x t p q
  form-same value later x t (Bound-F.Promise node var) q each is agree =
      ap (promise_value t (source (source_node node, var))) (literal-same node var x is agree)
  form-same value later x t (Bound-F.Scalar l) q each is agree = refl
  form-same value later x t (Bound-F.Collection es) (LiteralType-F.Collection y) each is agree =
      ap (result_map literal.Collection)
      (each-same (λ v. value v y) (λ v. later v y) es (λ v has. each v y (element-agrees es x v is agree has)))
  form-same value later x t (Bound-F.Map es) (LiteralType-F.Map y) each is agree =
      ap (result_map literal.Map)
      (each-same (entry_result (λ v. value v y)) (entry_result (λ v. later v y)) es (λ e has.
      ap (result_map (λ l. (e.0, l))) (each e.1 y (entry-agrees es x e is agree has))))
  form-same value later x t (Bound-F.Collection es) (LiteralType-F.Union ts) each is agree =
      variant-same (value x) (later x) (sole_element (filter (bound_fits source x) ts)) (λ s. each x s agree)
  form-same value later x t (Bound-F.Map es) (LiteralType-F.Union ts) each is agree =
      variant-same (value x) (later x) (sole_element (filter (bound_fits source x) ts)) (λ s. each x s agree)
  form-same value later x t (Bound-F.Collection es) q each is agree = refl
  form-same value later x t (Bound-F.Map es) q each is agree = refl

  within-same : (n : ℕ) → AreSame known other (bound_value_within source known n) (bound_value_within source other n)
  unfolding bound_value_within
  within-same zero x t agree = refl
  within-same (suc n) x t agree =
      form-same (bound_value_within source known n) (bound_value_within source other n) x t (out-Bound x) (out-LiteralType t)
      (within-same n) refl agree

  value-same : AreSame known other (bound_value source known) (bound_value source other)
  unfolding bound_value
  value-same x t agree = within-same (type_levels t) x t agree

  array-same : AreSame known other (array_value source known) (array_value source other)
  array-same x t agree =
      λ i. if is_mapped source x t then value-same x (type.Collection t) agree i else value-same x t agree i

  -- ---- variables

  variable-same : (value later : Bound → LiteralType → Taken Literal) (bindings : List Binding) (v : Variable) (o : Option Binding)
      → binding_of v.name bindings ≡ o → AreSame known other value later → AgreeAll known other bindings
      → variable_value value bindings v ≡ variable_value later bindings v
  variable-same value later bindings v None is each agree = variable-unbound value bindings v is ∙ sym (variable-unbound later bindings v is)
  variable-same value later bindings v (Some x) is each agree =
      variable-bound value bindings v x is
      ∙ ap (result_map (λ l. (v.name, l)))
      (each x.bound v.kind (agree x (found-in (λ (y : Binding). bytes_eq y.var v.name) bindings x is).0))
      ∙ sym (variable-bound later bindings v x is)

  values-same : (value later : Bound → LiteralType → Taken Literal) (bindings : List Binding) (variables : List Variable)
      → AreSame known other value later → AgreeAll known other bindings
      → values_of value variables bindings ≡ values_of later variables bindings
  values-same value later bindings variables each agree =
      let close : List (Text × Literal) → LiteralMap = λ entries. record { entries = entries } in
      ap (result_map close) (each-same (variable_value value bindings) (variable_value later bindings) variables (λ v has.
      variable-same value later bindings v (binding_of v.name bindings) refl each agree))

  pub plain-same : (bindings : List Binding) (variables : List Variable) → AgreeAll known other bindings
      → values_of (bound_value source known) variables bindings ≡ values_of (bound_value source other) variables bindings
  plain-same bindings variables agree = values-same (bound_value source known) (bound_value source other) bindings variables value-same agree

  pub array_values-same : (bindings : List Binding) (variables : List Variable) → AgreeAll known other bindings
      → values_of (array_value source known) variables bindings ≡ values_of (array_value source other) variables bindings
  array_values-same bindings variables agree = values-same (array_value source known) (array_value source other) bindings variables array-same agree

  -- ---- branches

  branch-value-same : (x : Bound) (p : BoundLayer) → out-Bound x ≡ p → AgreeAt known other x → branch_value_in known p ≡ branch_value_in other p
  branch-value-same x (Bound-F.Promise node var) is agree = ap or_unknown (literal-same node var x is agree)
  branch-value-same x (Bound-F.Scalar l) is agree = refl
  branch-value-same x (Bound-F.Collection es) is agree = refl
  branch-value-same x (Bound-F.Map es) is agree = refl

  pub branch-same : (bindings : List Binding) → AgreeAll known other bindings → branch_inputs known bindings ≡ branch_inputs other bindings
  branch-same bindings agree =
      let close : List (Text × Literal) → LiteralMap = λ entries. record { entries = by_name entries } in
      let value : Known → Binding → Taken (Text × Literal) = λ k x. result_map (λ l. (x.var, l)) (branch_value_in k (out-Bound x.bound)) in
      ap (result_map close) (each-same (value known) (value other) bindings (λ x has.
      ap (result_map (λ l. (x.var, l))) (branch-value-same x.bound (out-Bound x.bound) refl (agree x has))))

-- ---- nodes and workflows

-- the ids that bindings promise from
agree-all : (known other : Known) (bindings : List Binding) → ((id : Text) → Contains (sources_of bindings) id → known id ≡ other id)
    → AgreeAll known other bindings
agree-all known other bindings same x has promise inside =
    same promise.0
    (Contains-flat_map (λ (y : Binding). map (λ (q : Promised). q.0) (promises_of y.bound)) bindings x promise.0 has
    (Contains-map (λ (q : Promised). q.0) (promises_of x.bound) promise inside))

module _ (b : Bundle) (w : Workflow) (known other : Known) where
  with-same : (n : Node) (variables : List Variable) (t : Target-F Target Case Node) → AgreeAll known other n.inputs
      → inputs_with b w known n variables t ≡ inputs_with b w other n variables t
  with-same n variables (Target-F.Branch cases otherwise error) agree = branch-same (source_of b w) known other n.inputs agree
  with-same n variables (Target-F.Array id min_successes) agree =
      ap (with_items (mapped_names (source_of b w) variables n.inputs)) (array_values-same (source_of b w) known other n.inputs variables agree)
  with-same n variables (Target-F.Task id) agree = plain-same (source_of b w) known other n.inputs variables agree
  with-same n variables (Target-F.Workflow id) agree = plain-same (source_of b w) known other n.inputs variables agree

  -- the inputs of a node
  pub node_inputs-same : (n : Node) → ((id : Text) → Contains (sources_of n.inputs) id → known id ≡ other id)
      → node_inputs b w known n ≡ node_inputs b w other n
  node_inputs-same n same = by (inputs_of b n) refl
    where
      by : (found : Found) → inputs_of b n ≡ found → node_inputs b w known n ≡ node_inputs b w other n
      by None is = rw is refl
      by (Some variables) is = rw is (with-same n variables (out-Target n.target) (agree-all known other n.inputs same))

  -- the outputs of a workflow
  pub workflow_outputs-same : ((id : Text) → Contains (sources_of w.outputs) id → known id ≡ other id)
      → workflow_outputs b w known ≡ workflow_outputs b w other
  workflow_outputs-same same = plain-same (source_of b w) known other w.outputs w.interface.outputs (agree-all known other w.outputs same)
