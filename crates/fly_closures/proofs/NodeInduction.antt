-- Nodes by the nodes right inside them.
use Rattle.std.proofs.Common.{◌≡◌, List, [], ◌∷◌, ◌++◌, map, flat_map, Contains, Option, Some, None, option_to_list, option_map, refl, sym, ap, ap₂, ◌∙◌, subst, ⊎_elim}
use Rattle.std.proofs.lemmas.List.Elements.{Contains-append_cases}
use Rattle.std.proofs.lemmas.List.Folds.{flat_map-map}
use Rattle.std.proofs.lemmas.List.Concat.{flat_map-append}
use Rattle.fly_cast.specs.Fitting.{each_value}
use Rattle.fly_graph.proofs.Members.{Contains-nil, Contains-cons_cases}
use Rattle.fly_docs.specs.declared.node.Node.{Node, roll-Node}
use Rattle.fly_docs.specs.declared.node.Case.{Case}
use Rattle.fly_docs.specs.declared.node.Target.{Target, out-Target}
use Rattle.fly_docs.specs.declared.node.Target.TheOpen.{Target-F, Case-F, Node-F}
use Rattle.fly_docs.specs.declared.node.Target.TheFolds.{ind-Node, fold-Target, fold-Case, fold_out-Case, fold_out-Target, fold_out-Node, map-Target}
use Rattle.fly_docs.specs.declared.node.Target.TheViews as view
use Rattle.fly_docs.specs.declared.workflow.Bundle.{Bundle}
use Rattle.fly_docs.specs.Interfaces.{common_variables}
use Rattle.fly_docs.specs.NodeInterfaces.{Found, outputs_by, case_outputs, node_outputs, outputs_of}
use Rattle.fly_docs.specs.Plans.{inner_nodes}
use Rattle.fly_faults.proofs.Lists.{in_one}
use Rattle.fly_links.specs.Layout.{case_node, inside_layer}
use Rattle.fly_links.proofs.InnerNodes.{inner_nodes-inside}

-- the nodes of a branch's cases, and its else node
abbrev pub nodes_in : Target-F Target Case Node → List Node
nodes_in (Target-F.Branch cases otherwise error) = map case_node cases ++ option_to_list otherwise
nodes_in _ = []

-- ---- what is inside

layer_nodes : (x : Target-F Target Case Node) → inside_layer x ≡ flat_map (λ n. n ∷ inner_nodes n) (nodes_in x)
layer_nodes (Target-F.Task id) = refl
layer_nodes (Target-F.Workflow id) = refl
layer_nodes (Target-F.Array id min_successes) = refl
layer_nodes (Target-F.Branch cases otherwise error) =
    sym (flat_map-append (λ (n : Node). n ∷ inner_nodes n) (map case_node cases) (option_to_list otherwise)
    ∙ ap (λ ns. ns ++ flat_map (λ (n : Node). n ∷ inner_nodes n) (option_to_list otherwise))
    (flat_map-map (λ (n : Node). n ∷ inner_nodes n) case_node cases))

-- the nodes inside a node are those right inside it, each followed by those inside that
pub inner_nodes-layer : (n : Node) → inner_nodes n ≡ flat_map (λ m. m ∷ inner_nodes m) (nodes_in (out-Target n.target))
inner_nodes-layer n = inner_nodes-inside n ∙ layer_nodes (out-Target n.target)

-- ---- induction

module _ (P : Node → Type 0) where
  abbrev HoldsIn : Target → Type 0
  HoldsIn t = (m : Node) → Contains (nodes_in (out-Target t)) m → P m

  abbrev HoldsAt : Case → Type 0
  HoldsAt c = P (case_node c)

  each_case : (cs : List ((c : Case) × HoldsAt c)) (m : Node) → Contains (map case_node (map (λ e. e.0) cs)) m → P m
  each_case [] m has = absurd (Contains-nil m has)
  each_case (c ∷ cs) m has =
      ⊎_elim (λ same. subst P same c.1) (λ more. each_case cs m more)
      (Contains-cons_cases (case_node c.0) (map case_node (map (λ e. e.0) cs)) m has)

  -- a layer whose parts are known to hold
  abbrev HeldLayer : Type 0
  HeldLayer = Target-F ((t : Target) × HoldsIn t) ((c : Case) × HoldsAt c) ((n : Node) × P n)

  abbrev fronts : HeldLayer → Target-F Target Case Node
  fronts = map-Target ((t : Target) × HoldsIn t) ((c : Case) × HoldsAt c) ((n : Node) × P n) Target Case Node
      (λ e. e.0) (λ e. e.0) (λ e. e.0)

  each_inside : (y : HeldLayer) (m : Node) → Contains (nodes_in (fronts y)) m → P m
  each_inside (Target-F.Task id) m has = absurd (Contains-nil m has)
  each_inside (Target-F.Workflow id) m has = absurd (Contains-nil m has)
  each_inside (Target-F.Array id min_successes) m has = absurd (Contains-nil m has)
  each_inside (Target-F.Branch cases None error) m has =
      ⊎_elim (λ first. each_case cases m first) (λ more. absurd (Contains-nil m more))
      (Contains-append_cases (map case_node (map (λ e. e.0) cases)) [] m has)
  each_inside (Target-F.Branch cases (Some n) error) m has =
      ⊎_elim (λ first. each_case cases m first) (λ more. subst P (in_one n.0 m more) n.1)
      (Contains-append_cases (map case_node (map (λ e. e.0) cases)) (n.0 ∷ []) m has)

  -- what holds of a node where it holds of those right inside it holds of all
  pub by_nodes_inside : ((n : Node) → HoldsIn n.target → P n) → (n : Node) → P n
  by_nodes_inside step =
      ind-Node HoldsIn HoldsAt P
      (λ x y is m has.
      subst (λ l. Contains (nodes_in l) m → P m) (is ∙ sym (view.out-roll-Target x)) (each_inside y m) has)
      (λ x y is. subst P (ap (λ (l : Case-F Target Case Node). l.then) (is ∙ sym (view.out-roll-Case x))) y.then.1)
      (λ x y is. step (roll-Node x)
      (subst HoldsIn (ap (λ (l : Node-F Target Case Node). l.target) (is ∙ sym (view.out-roll-Node x))) y.target.1))

-- ---- outputs

module _ (b : Bundle) where
  -- the outputs of a layer, by those of the nodes in it
  abbrev pub layer_outputs : Target-F Target Case Node → Found
  layer_outputs (Target-F.Task id) = outputs_by b (Target-F.Task id)
  layer_outputs (Target-F.Workflow id) = outputs_by b (Target-F.Workflow id)
  layer_outputs (Target-F.Array id min_successes) = outputs_by b (Target-F.Array id min_successes)
  layer_outputs (Target-F.Branch cases otherwise error) =
      option_map common_variables (each_value (λ outputs. outputs)
      (map (outputs_of b) (nodes_in (Target-F.Branch cases otherwise error))))

  abbrev outputs_of_target : Target → Found
  outputs_of_target = fold-Target Found Found Found (outputs_by b) case_outputs node_outputs

  abbrev outputs_of_case : Case → Found
  outputs_of_case = fold-Case Found Found Found (outputs_by b) case_outputs node_outputs

  case_outputs_of : (c : Case) → outputs_of_case c ≡ outputs_of b (case_node c)
  case_outputs_of c = fold_out-Case Found Found Found (outputs_by b) case_outputs node_outputs c

  each_outputs : (cs : List Case) (otherwise : Option Node)
      → map outputs_of_case cs ++ option_to_list (option_map (outputs_of b) otherwise)
      ≡ map (outputs_of b) (map case_node cs ++ option_to_list otherwise)
  each_outputs [] None = refl
  each_outputs [] (Some n) = refl
  each_outputs (c ∷ cs) otherwise = ap₂ (λ o os. o ∷ os) (case_outputs_of c) (each_outputs cs otherwise)

  abbrev target_outputs : Target-F Target Case Node → Target-F Found Found Found
  target_outputs = map-Target Target Case Node Found Found Found outputs_of_target outputs_of_case (outputs_of b)

  by_layer : (x : Target-F Target Case Node) → outputs_by b (target_outputs x) ≡ layer_outputs x
  by_layer (Target-F.Task id) = refl
  by_layer (Target-F.Workflow id) = refl
  by_layer (Target-F.Array id min_successes) = refl
  by_layer (Target-F.Branch cases None error) =
      ap (λ os. option_map common_variables (each_value (λ outputs. outputs) os)) (each_outputs cases None)
  by_layer (Target-F.Branch cases (Some n) error) =
      ap (λ os. option_map common_variables (each_value (λ outputs. outputs) os)) (each_outputs cases (Some n))

  pub outputs_of-layer : (n : Node) → outputs_of b n ≡ layer_outputs (out-Target n.target)
  outputs_of-layer n =
      fold_out-Node Found Found Found (outputs_by b) case_outputs node_outputs n
      ∙ fold_out-Target Found Found Found (outputs_by b) case_outputs node_outputs n.target
      ∙ by_layer (out-Target n.target)
