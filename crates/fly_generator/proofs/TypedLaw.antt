-- A generated bundle is typed.
use Rattle.std.proofs.Common.{◌≡◌, ◌≢◌, ◌⊎◌, ℕ, ◌-◌, ◌^◌, ◌<◌, ◌≤◌, IsTrue, List, [], ◌∷◌, get_or, Contains, codes, pos, refl, sym, ◌∙◌, ap, subst, ⊎_elim, arith}
use Rattle.std.proofs.lemmas.List.Elements.{All-nil, Contains-get_or}
use Rattle.std.proofs.lemmas.List.Sorted.{IsPermutation-refl}
use Rattle.fly_types.specs.declared.literals.Literal.TheVariants as literal
use Rattle.fly_types.specs.declared.variable.Variable.{Variable}
use Rattle.fly_docs.specs.declared.binding.Binding.{Binding}
use Rattle.fly_docs.specs.declared.binding.Bound.TheVariants as bound
use Rattle.fly_docs.specs.declared.node.Node.{Node}
use Rattle.fly_docs.specs.declared.workflow.Workflow.{Workflow}
use Rattle.fly_docs.specs.declared.workflow.Bundle.{Bundle}
use Rattle.fly_docs.specs.Bindings.{Promised}
use Rattle.fly_docs.specs.Fitting.{bound_fits}
use Rattle.fly_docs.specs.NodeInterfaces.{Source, inputs_by, source_of}
use Rattle.fly_docs.specs.Plans.{nodes_of, node_ids}
use Rattle.fly_docs.specs.Typed.{AreDistinct, Binds, HasInputs, IsTypedPlain, IsTypedTarget, IsTypedNode, IsTypedWorkflow, NestsWithin, IsTyped}
use Rattle.fly_generator.specs.Generated.{most_nodes, add_task, whole, binding, node_id, sum_at, above, node_numbered, generated_workflow, generated}
use Rattle.fly_generator.proofs.Firsts.{at}
use Rattle.fly_generator.proofs.Fits.{number_fits, sum_fits, above_fits}
use Rattle.fly_generator.proofs.Lists.{in_one, in_two}
use Rattle.fly_generator.proofs.NodeIds.{ids_differ, not_start, not_end}
use Rattle.fly_generator.proofs.Nodes.{runs_task, nodes_count, ids_are, ids_count, numbered}
use Rattle.fly_generator.proofs.Reached.{no_walk, only_workflow, only_task}
use Rattle.fly_generator.proofs.Runs.{plan_count, no_arrays}
use Rattle.fly_generator.proofs.Templates.{has_inputs}

alone : {X : Type 0} (x : X) → AreDistinct (x ∷ [])
alone x i j d before within = absurd (omega arith)

module _ (count : ℕ) (some : 1 ≤ count) (few : count ≤ most_nodes) where
  abbrev b : Bundle
  b = generated count

  abbrev w : Workflow
  w = generated_workflow count

  small : count < 2 ^ 64
  small = omega arith

  abbrev source : Promised → Source
  source = source_of b w

  -- ---- a node

  abbrev IsFit : Binding → Variable → Type 0
  IsFit x v = x.var ≡ v.name → IsTrue (bound_fits source x.bound v.kind)

  abbrev x_binding : ℕ → Binding
  x_binding i = binding (codes "x") (above i)

  abbrev y_binding : ℕ → Binding
  y_binding i = binding (codes "y") (bound.Scalar (literal.Integer (pos i)))

  x_y_differ : codes "x" ≢ codes "y"
  x_y_differ same = omega (arith, ap (λ name. get_or name 0 0) same)

  fits : (m : List ℕ) (y : Binding) (v : Variable) (x : Binding) → IsTrue (bound_fits source y.bound (whole m).kind)
      → v ≡ whole m → x ≡ y → IsFit x v
  fits m y v x fit which from named =
      subst (λ z. IsTrue (bound_fits source z.bound v.kind)) (sym from)
      (subst (λ u. IsTrue (bound_fits source y.bound u.kind)) (sym which) fit)

  unnamed : (m : List ℕ) (y : Binding) (v : Variable) (x : Binding) → y.var ≢ m → v ≡ whole m → x ≡ y → IsFit x v
  unnamed m y v x differ which from named =
      absurd (differ (ap (λ (z : Binding). z.var) (sym from) ∙ named ∙ ap (λ (u : Variable). u.name) which))

  each_fits : (i : ℕ) → i < count → (v : Variable) (x : Binding) → (v ≡ whole (codes "x")) ⊎ (v ≡ whole (codes "y"))
      → (x ≡ x_binding i) ⊎ (x ≡ y_binding i) → IsFit x v
  each_fits i within v x which from =
      ⊎_elim (λ is_x. ⊎_elim (fits (codes "x") (x_binding i) v x (above_fits count small i within) is_x)
      (unnamed (codes "x") (y_binding i) v x (λ same. x_y_differ (sym same)) is_x) from)
      (λ is_y. ⊎_elim (unnamed (codes "y") (x_binding i) v x x_y_differ is_y)
      (fits (codes "y") (y_binding i) v x (number_fits source (pos i)) is_y) from)
      which

  inputs_fit : (i : ℕ) → i < count → Binds (bound_fits source) add_task.interface.inputs (node_numbered i).inputs
  inputs_fit i within = record {
    once = IsPermutation-refl (codes "x" ∷ codes "y" ∷ []);
    fits = λ v x wanted there. each_fits i within v x (in_two _ _ v wanted) (in_two _ _ x there);
  }

  plain_typed : (i : ℕ) → i < count → IsTypedPlain b w (node_numbered i)
  plain_typed i within = record {
    inputs = add_task.interface.inputs;
    found = ap (inputs_by b) (runs_task i);
    bound = inputs_fit i within;
  }

  node_typed : (i : ℕ) → i < count → IsTypedNode b w (node_numbered i)
  node_typed i within = record {
    not_start = not_start i;
    not_end = not_end i;
    upstream = All-nil (λ id. (id ≡ _) ⊎ Contains (node_ids w) id);
    target = subst (IsTypedTarget b w (node_numbered i)) (sym (runs_task i)) (plain_typed i within);
  }

  any_node_typed : (n : Node) → Contains (nodes_of w) n → IsTypedNode b w n
  any_node_typed n has =
      let found = numbered count n has in
      subst (IsTypedNode b w) (sym found.2) (node_typed found.0 found.1)

  -- ---- the workflow

  distinct_ids : AreDistinct (node_ids w)
  distinct_ids i j d before within same =
      let within_count : j < count = omega (arith, within, ids_count count) in
      let id : (k : ℕ) → k < count → get_or (node_ids w) k d ≡ node_id k =
      λ k lt. ap (λ ids. get_or ids k d) (ids_are count) ∙ at node_id count k d lt in
      let number : i ≡ j = ids_differ i j (omega arith) (omega arith)
      (sym (id i (omega arith)) ∙ same ∙ id j within_count) in
      omega arith

  outputs_fit : Binds (bound_fits source) w.interface.outputs w.outputs
  outputs_fit = record {
    once = IsPermutation-refl (codes "b" ∷ []);
    fits = λ v x wanted there named.
        subst (λ y. IsTrue (bound_fits source y.bound v.kind)) (sym (in_one _ x there))
        (subst (λ u. IsTrue (bound_fits source (sum_at (count - 1)) u.kind)) (sym (in_one _ v wanted))
        (sum_fits count small (count - 1) (omega arith)));
  }

  workflow_typed : IsTypedWorkflow b w
  workflow_typed = record {
    some = omega (arith, nodes_count count);
    few = omega (arith, nodes_count count);
    ids = distinct_ids;
    nodes = λ k d within. any_node_typed (get_or (nodes_of w) k d) (Contains-get_or (nodes_of w) k d within);
    outputs = outputs_fit;
  }

  -- ---- the bundle

  nests : NestsWithin 8 b
  nests primary place between is walk = absurd (no_walk count primary between place walk)

  pub typed : IsTyped b
  typed = record {
    tasks = alone add_task.id;
    workflows = alone w.id;
    primary = w;
    named = refl;
    typed = λ v reached. subst (IsTypedWorkflow b) (sym (only_workflow count v reached)) workflow_typed;
    templates = λ t reached. subst HasInputs (sym (only_task count t reached)) has_inputs;
    not_recursive = λ place reached loop. no_walk count place loop.0 place loop.1;
    nesting = nests;
    plan = omega (arith, plan_count count);
    arrays = omega (arith, no_arrays count);
  }
