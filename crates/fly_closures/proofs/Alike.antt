-- Two bundles in which the nodes of a workflow look up the same: where it is typed in one, it is in the other.
use Rattle.std.proofs.Common.{◌≡◌, ℕ, zero, suc, List, [], ◌∷◌, ◌++◌, map, flat_map, All, Contains, Option, Some, None, is_some, option_map, option_and_then, option_to_list, bytes_eq, refl, sym, ap, ◌∙◌, subst, ⊎_elim}
use Rattle.std.specs.Prelude.{IsTrue, if◌then◌else◌}
use Rattle.std.specs.List.{enumerate_from}
use Rattle.std.proofs.lemmas.List.Elements.{All-contains}
use Rattle.fly_types.specs.declared.text.Text.{Text}
use Rattle.fly_cast.specs.Fitting.{each_value}
use Rattle.fly_graph.proofs.Members.{Contains-cons_cases}
use Rattle.fly_docs.specs.declared.binding.Binding.{Binding}
use Rattle.fly_docs.specs.declared.task.Task.{Task}
use Rattle.fly_docs.specs.declared.node.Node.{Node}
use Rattle.fly_docs.specs.declared.node.Case.{Case}
use Rattle.fly_docs.specs.declared.node.Target.{Target, out-Target}
use Rattle.fly_docs.specs.declared.node.Target.TheOpen.{Target-F}
use Rattle.fly_docs.specs.declared.workflow.Workflow.{Workflow}
use Rattle.fly_docs.specs.declared.workflow.Bundle.{Bundle}
use Rattle.fly_docs.specs.Bindings.{Promised}
use Rattle.fly_docs.specs.Conditions.{bound_primitive, branch_variables}
use Rattle.fly_docs.specs.Fitting.{bound_fits, array_input_fits}
use Rattle.fly_docs.specs.Interfaces.{common_variables}
use Rattle.fly_docs.specs.Lookups.{task_named, workflow_named}
use Rattle.fly_docs.specs.Names.{start_node}
use Rattle.fly_docs.specs.NodeInterfaces.{Found, Source, array_variable, outputs_of, inputs_by, source_in, source_by, source_of}
use Rattle.fly_docs.specs.Plans.{PlanNode, nodes_of, inner_nodes, node_named, workflow_id_in, subworkflow_of, plan_with, plan_within}
use Rattle.fly_docs.specs.Reaching.{task_id_in}
use Rattle.fly_docs.specs.Typed.{Binds, MapsOne, HasCondition, IsTypedPlain, IsTypedTarget, IsTypedNode, IsTypedWorkflow}
use Rattle.fly_faults.proofs.Lists.{all_of, contains_at, find_found, first_in, in_flat_map, later_in, number_at, of_flat_map, of_option}
use Rattle.fly_closures.proofs.Lists.{flat_map_alike, map_alike}
use Rattle.fly_closures.proofs.NodeInduction.{nodes_in, inner_nodes-layer, by_nodes_inside, layer_outputs, outputs_of-layer}

module _ (b b' : Bundle) where
  -- what the layer runs is the same in both
  pub record LooksUpAlike (x : Target-F Target Case Node) : Type 0 where
    pub task : option_and_then (task_named b') (task_id_in x) ≡ option_and_then (task_named b) (task_id_in x)
    pub workflow :
        option_and_then (workflow_named b') (workflow_id_in x) ≡ option_and_then (workflow_named b) (workflow_id_in x)

  -- so it is for each of the nodes
  abbrev pub AreAlike : List Node → Type 0
  AreAlike ns = (n : Node) → Contains ns n → LooksUpAlike (out-Target n.target)

  -- ---- what nodes take and give

  layer_inputs : (x : Target-F Target Case Node) → LooksUpAlike x → inputs_by b' x ≡ inputs_by b x
  layer_inputs (Target-F.Task id) alike = ap (option_map (λ (t : Task). t.interface.inputs)) alike.task
  layer_inputs (Target-F.Workflow id) alike = ap (option_map (λ (w : Workflow). w.interface.inputs)) alike.workflow
  layer_inputs (Target-F.Array id min_successes) alike = ap (option_map (λ (t : Task). t.interface.inputs)) alike.task
  layer_inputs (Target-F.Branch cases otherwise error) alike = refl

  layer_gives : (x : Target-F Target Case Node) → LooksUpAlike x
      → ((m : Node) → Contains (nodes_in x) m → outputs_of b' m ≡ outputs_of b m)
      → layer_outputs b' x ≡ layer_outputs b x
  layer_gives (Target-F.Task id) alike same = ap (option_map (λ (t : Task). t.interface.outputs)) alike.task
  layer_gives (Target-F.Workflow id) alike same = ap (option_map (λ (w : Workflow). w.interface.outputs)) alike.workflow
  layer_gives (Target-F.Array id min_successes) alike same =
      ap (option_map (λ (t : Task). map (array_variable min_successes) t.interface.outputs)) alike.task
  layer_gives (Target-F.Branch cases otherwise error) alike same =
      ap (λ os. option_map common_variables (each_value (λ outputs. outputs) os))
      (map_alike (outputs_of b') (outputs_of b) (nodes_in (Target-F.Branch cases otherwise error)) same)

  abbrev GivesAlike : Node → Type 0
  GivesAlike n =
      AreAlike (n ∷ inner_nodes n) → (m : Node) → Contains (n ∷ inner_nodes n) m → outputs_of b' m ≡ outputs_of b m

  -- the nodes inside a node right inside another
  inside_alike : (n m : Node) → AreAlike (n ∷ inner_nodes n) → Contains (nodes_in (out-Target n.target)) m
      → AreAlike (m ∷ inner_nodes m)
  inside_alike n m alike has k there =
      alike k (later_in n (inner_nodes n) k (subst (λ ns. Contains ns k) (sym (inner_nodes-layer n))
      (in_flat_map (λ (x : Node). x ∷ inner_nodes x) (nodes_in (out-Target n.target)) m k has there)))

  gives_alike : (n : Node) → GivesAlike n
  gives_alike =
      by_nodes_inside GivesAlike (λ n inside alike m has.
      let layer = nodes_in (out-Target n.target) in
      let own : outputs_of b' n ≡ outputs_of b n =
      outputs_of-layer b' n
      ∙ layer_gives (out-Target n.target) (alike n (first_in n (inner_nodes n)))
      (λ k there. inside k there (inside_alike n k alike there) k (first_in k (inner_nodes k)))
      ∙ sym (outputs_of-layer b n) in
      ⊎_elim (λ same. subst (λ k. outputs_of b' k ≡ outputs_of b k) same own)
      (λ more. let from = of_flat_map (λ (k : Node). k ∷ inner_nodes k) layer m
      (subst (λ ns. Contains ns m) (inner_nodes-layer n) more) in
      inside from.0 from.1 (inside_alike n from.0 alike from.1) m from.2)
      (Contains-cons_cases n (inner_nodes n) m has))

  -- the nodes of a workflow give the same
  outputs_alike : (w : Workflow) → AreAlike (nodes_of w) → (n : Node) → Contains (nodes_of w) n
      → outputs_of b' n ≡ outputs_of b n
  outputs_alike w alike n has =
      let from = of_flat_map (λ (m : Node). m ∷ inner_nodes m) w.nodes n has in
      gives_alike from.0
      (λ m there. alike m (in_flat_map (λ (k : Node). k ∷ inner_nodes k) w.nodes from.0 m from.1 there)) n from.2

  -- ---- what is promised

  by_outputs : (name : Text) (n : Node) (f : Found) → outputs_of b n ≡ f → outputs_of b' n ≡ f
      → source_by b' name (Some n) ≡ source_by b name (Some n)
  by_outputs name n None e f = rw e rw f refl
  by_outputs name n (Some variables) e f = rw e rw f refl

  by_node : (w : Workflow) → AreAlike (nodes_of w) → (name : Text) (o : Option Node)
      → ((n : Node) → o ≡ Some n → Contains (nodes_of w) n) → source_by b' name o ≡ source_by b name o
  by_node w alike name None there = refl
  by_node w alike name (Some n) there = by_outputs name n (outputs_of b n) refl (outputs_alike w alike n (there n refl))

  pub sources_alike : (w : Workflow) → AreAlike (nodes_of w) → source_of b' w ≡ source_of b w
  sources_alike w alike =
      λ i promise. if bytes_eq promise.0 start_node then source_in promise.1 w.interface.inputs else
      by_node w alike promise.1 (node_named w promise.0)
      (λ n e. (find_found (λ (m : Node). bytes_eq m.id promise.0) (nodes_of w) n e).0) i

  -- ---- typed workflows

  module _ (w : Workflow) (alike : AreAlike (nodes_of w)) where
    same : source_of b w ≡ source_of b' w
    same = sym (sources_alike w alike)

    -- what holds of the sources in one bundle holds of those in the other
    moved : (P : (Promised → Source) → Type 0) → P (source_of b w) → P (source_of b' w)
    moved P = subst P same

    plain_alike : (n : Node) → LooksUpAlike (out-Target n.target) → IsTypedPlain b w n → IsTypedPlain b' w n
    plain_alike n here t = record {
      inputs = t.inputs;
      found = layer_inputs (out-Target n.target) here ∙ t.found;
      bound = moved (λ source. Binds (bound_fits source) t.inputs n.inputs) t.bound;
    }

    target_alike : (n : Node) → LooksUpAlike (out-Target n.target) → (x : Target-F Target Case Node) → LooksUpAlike x
        → IsTypedTarget b w n x → IsTypedTarget b' w n x
    target_alike n here (Target-F.Task id) layer t = plain_alike n here t
    target_alike n here (Target-F.Workflow id) layer t = plain_alike n here t
    target_alike n here (Target-F.Array id min_successes) layer t = record {
      task = t.task;
      found = layer.task ∙ t.found;
      bound = moved (λ source. Binds (array_input_fits source) t.task.interface.inputs n.inputs) t.bound;
      mapped = moved (λ source. MapsOne source t.task.interface.inputs n.inputs) t.mapped;
      shallow = t.shallow;
    }
    target_alike n here (Target-F.Branch cases otherwise error) layer t = record {
      once = t.once;
      primitives =
          moved (λ source. All (λ (x : Binding). IsTrue (is_some (bound_primitive source x.bound))) n.inputs)
          t.primitives;
      conditions = moved (λ source. All (HasCondition (branch_variables source n.inputs)) cases) t.conditions;
    }

    node_alike : (n : Node) → LooksUpAlike (out-Target n.target) → IsTypedNode b w n → IsTypedNode b' w n
    node_alike n here t = record {
      not_start = t.not_start;
      not_end = t.not_end;
      upstream = t.upstream;
      target = target_alike n here (out-Target n.target) here t.target;
    }

    pub workflow_alike : IsTypedWorkflow b w → IsTypedWorkflow b' w
    workflow_alike t = record {
      some = t.some;
      few = t.few;
      ids = t.ids;
      nodes = all_of (IsTypedNode b' w) (nodes_of w)
          (λ n has. node_alike n (alike n has) (All-contains (IsTypedNode b w) (nodes_of w) n t.nodes has));
      outputs = moved (λ source. Binds (bound_fits source) w.interface.outputs w.outputs) t.outputs;
    }

  -- ---- plans

  -- where the nodes of each workflow that one of them runs look up the same, so does the plan
  module _ (IsRun : Workflow → Type 0) (alike : (w : Workflow) → IsRun w → AreAlike (nodes_of w))
      (runs : (w : Workflow) (n : Node) (v : Workflow) → IsRun w → Contains (nodes_of w) n
      → subworkflow_of b n ≡ Some v → IsRun v) where
    abbrev PlansAlike : ℕ → Type 0
    PlansAlike k = (around : List Text) (w : Workflow) → IsRun w → plan_within k b' around w ≡ plan_within k b around w

    plan_with_alike : (inside inside' : List Text → Node → List PlanNode) (around : List Text) (w : Workflow)
        → ((path : List Text) (n : Node) → Contains (nodes_of w) n → inside' path n ≡ inside path n)
        → plan_with inside' around w ≡ plan_with inside around w
    plan_with_alike inside inside' around w same_inside =
        flat_map_alike _ _ (enumerate_from 0 (nodes_of w)) (λ at has.
        ap (λ ps. record { path = around ++ at.1.id ∷ []; workflow = w; place = at.0; node = at.1 } ∷ ps)
        (same_inside (around ++ at.1.id ∷ []) at.1
        (contains_at (nodes_of w) at.0 at.1 (number_at (nodes_of w) at has))))

    pub plans_alike : (k : ℕ) → PlansAlike k
    unfolding plan_within
    plans_alike zero around w is = refl
    plans_alike (suc k) around w is =
        plan_with_alike (λ path n. flat_map (plan_within k b path) (option_to_list (subworkflow_of b n)))
        (λ path n. flat_map (plan_within k b' path) (option_to_list (subworkflow_of b' n))) around w (λ path n has.
        ap (λ o. flat_map (plan_within k b' path) (option_to_list o)) (alike w is n has).workflow
        ∙ flat_map_alike (plan_within k b' path) (plan_within k b path) (option_to_list (subworkflow_of b n))
        (λ v there. plans_alike k path v (runs w n v is has (of_option (subworkflow_of b n) v there))))
