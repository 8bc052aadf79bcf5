-- A workflow without a fault is typed and acyclic, and one that is typed and acyclic has none.
use Rattle.std.proofs.Common.{◌≡◌, ◌⊎◌, ◌≢◌, ℕ, ◌≤◌, nat_lt, Bool, true, false, not, ◌||◌, if◌then◌else◌, List, [], ◌∷◌, ◌++◌, map, filter, take, length, slice_get, Contains, All, Option, Some, None, is_some, option_map, bytes_eq, refl, sym, ap, ◌∙◌, subst, inl, inr, ⊎_elim}
use Rattle.std.specs.List.{list_any, enumerate_from}
use Rattle.std.proofs.lemmas.Bool.{or_cases, or_left, or_right, or_from, or_parts, not-false, not_from_true, false≢true, false_from_ne_true, cond_both, cond-true, ltb-true, ltb-false, lt-ltb, le-ltb}
use Rattle.std.proofs.lemmas.List.Elements.{All-contains}
use Rattle.fly_types.specs.declared.text.Text.{Text}
use Rattle.fly_types.specs.declared.kinds.LiteralType.{LiteralType}
use Rattle.fly_types.specs.declared.variable.Variable.{Variable}
use Rattle.fly_graph.specs.Walks.{IsEdge, IsWalk}
use Rattle.fly_graph.proofs.Members.{Contains-filter}
use Rattle.fly_docs.specs.declared.node.Node.{Node}
use Rattle.fly_docs.specs.declared.node.Target.{out-Target}
use Rattle.fly_docs.specs.declared.workflow.Workflow.{Workflow}
use Rattle.fly_docs.specs.declared.workflow.Bundle.{Bundle}
use Rattle.fly_docs.specs.Acyclic.{IsAcyclic}
use Rattle.fly_docs.specs.Bindings.{Promised}
use Rattle.fly_docs.specs.Edges.{needs, edges_of}
use Rattle.fly_docs.specs.Fitting.{bound_fits}
use Rattle.fly_docs.specs.Form.{IsBundleInForm, IsWorkflowInForm}
use Rattle.fly_docs.specs.Interfaces.{type_of}
use Rattle.fly_docs.specs.Names.{start_node, end_node}
use Rattle.fly_docs.specs.NodeInterfaces.{value, source_in, source_by, source_of, outputs_of, is_found}
use Rattle.fly_docs.specs.Plans.{nodes_of, node_ids, node_named, places_of}
use Rattle.fly_docs.specs.Reaching.{reaches}
use Rattle.fly_docs.specs.Typed.{AreDistinct, Binds, IsTypedNode, IsTypedWorkflow}
use Rattle.fly_docs.proofs.ReachingLemmas.{reaches-Decides}
use Rattle.fly_faults.specs.declared.fault.Code.TheVariants as code
use Rattle.fly_faults.specs.declared.fault.Fault.{Fault}
use Rattle.fly_faults.specs.Places.{workflow_name, node_place, outputs_place, fault_at}
use Rattle.fly_faults.specs.BindingFaults.{is_anything, bindings_faults, unbound_faults}
use Rattle.fly_faults.specs.NodeFaults.{node_site, id_faults, target_faults, missing_fault, is_node_or_start, upstream_faults, no_condition_faults, input_faults, array_faults_in, condition_faults, faults_of_node}
use Rattle.fly_faults.specs.FaultList.{max_nodes, size_faults, nodes_faults, outputs_site, output_faults, cyclic_places, cycle_fault, faults_of_workflow}
use Rattle.fly_faults.proofs.Lists.{all_of, any_none, any_nothing, apart, append_none, append_nothing, contains_at, distinct_from, filter_none, filter_nothing, find_found, find_some, flat_map_none, flat_map_nothing, in_map, in_take, map_at, map_none, number_at, numbered, of_flat_map, of_map, of_map_at, of_take, one_if_none, one_if_nothing, one_unless_none, place_in, some_get}
use Rattle.fly_faults.proofs.Distinct.{distinct_in_order, other_text, same_text, text_differs, text_same}
use Rattle.fly_faults.proofs.BoundFits.{fits_there}
use Rattle.fly_faults.proofs.BindingLemmas.{binds_none, binds_nothing}
use Rattle.fly_faults.proofs.NodeFaultLemmas.{RunsWithoutFault, target_none, target_nothing}
use Rattle.fly_faults.proofs.Known.{AllKnown, all_known}

-- ---- sources are of a known type

in_known : (name : Text) (variables : List Variable) → is_anything (source_in name variables) ≡ false
in_known name variables = at (type_of name variables) refl
  where
    at : (o : Option LiteralType) → type_of name variables ≡ o → is_anything (source_in name variables) ≡ false
    at None e = rw e refl
    at (Some kind) e = rw e refl

by_known : (b : Bundle) (name : Text) (o : Option Node) → ((n : Node) → o ≡ Some n → is_some (outputs_of b n) ≡ true)
    → is_anything (source_by b name o) ≡ false
by_known b name None known = refl
by_known b name (Some n) known = let outputs = some_get (outputs_of b n) (known n refl) in
    rw outputs.1 (in_known name outputs.0)

source_known : (b : Bundle) (w : Workflow) → AllKnown b (nodes_of w) → (promise : Promised)
    → is_anything (source_of b w promise) ≡ false
source_known b w known promise =
    cond_both (bytes_eq promise.0 start_node) (source_in promise.1 w.interface.inputs)
    (source_by b promise.1 (node_named w promise.0))
    (λ s. is_anything s ≡ false) (λ start. in_known promise.1 w.interface.inputs)
    (λ node. by_known b promise.1 (node_named w promise.0) (λ n named.
    known n (find_found (λ (m : Node). bytes_eq m.id promise.0) (nodes_of w) n named).0))

-- ---- a node

module _ (b : Bundle) (w : Workflow) where
  abbrev RunsFaultless : Node → Type 0
  RunsFaultless n = RunsWithoutFault b w n (out-Target n.target)

  node_none : (place : ℕ) (n : Node) → faults_of_node b w place n ≡ []
      → (id_faults w place n ≡ []) × (upstream_faults w n ≡ []) × RunsFaultless n
  node_none place n e =
      let site = node_site b w n in
      let ids = id_faults w place n in
      let targets = target_faults b w n in
      let upstream = upstream_faults w n in
      let no_condition = no_condition_faults w n in
      let bindings = bindings_faults site n.inputs in
      let inputs = input_faults b site n in
      let arrays = array_faults_in b site n (out-Target n.target) in
      let p7 = append_none (ids ++ targets ++ upstream ++ no_condition ++ bindings ++ inputs ++ arrays)
      (condition_faults site n) e in
      let p6 = append_none (ids ++ targets ++ upstream ++ no_condition ++ bindings ++ inputs) arrays p7.0 in
      let p5 = append_none (ids ++ targets ++ upstream ++ no_condition ++ bindings) inputs p6.0 in
      let p4 = append_none (ids ++ targets ++ upstream ++ no_condition) bindings p5.0 in
      let p3 = append_none (ids ++ targets ++ upstream) no_condition p4.0 in
      let p2 = append_none (ids ++ targets) upstream p3.0 in
      let p1 = append_none ids targets p2.0 in (
        p1.0,
        p2.1,
        record { found = p1.1; conditions = p3.1; bindings = p4.1; inputs = p5.1; arrays = p6.1; cases = p7.1 },
      )

  node_nothing : (place : ℕ) (n : Node) → id_faults w place n ≡ [] → upstream_faults w n ≡ [] → RunsFaultless n
      → faults_of_node b w place n ≡ []
  node_nothing place n own up runs =
      append_nothing _ _ (append_nothing _ _ (append_nothing _ _ (append_nothing _ _ (append_nothing _ _
      (append_nothing _ _ (append_nothing _ _ own runs.found) up) runs.conditions) runs.bindings) runs.inputs)
      runs.arrays) runs.cases

  record HasNewId (place : ℕ) (n : Node) : Type 0 where
    not_start : n.id ≢ start_node
    not_end : n.id ≢ end_node
    new : Contains (take place (node_ids w)) n.id → ⊥

  id_none : (place : ℕ) (n : Node) → id_faults w place n ≡ [] → HasNewId place n
  id_none place n e =
      let earlier = list_any (bytes_eq n.id) (take place (node_ids w)) in
      let outer = or_parts (bytes_eq n.id start_node || bytes_eq n.id end_node) earlier
      (one_if_none _ (fault_at code.DuplicateId (node_place w n)) e) in
      let inner = or_parts (bytes_eq n.id start_node) (bytes_eq n.id end_node) outer.0 in record {
        not_start = text_differs n.id start_node inner.0;
        not_end = text_differs n.id end_node inner.1;
        new = λ has. text_differs n.id n.id
            (any_none (bytes_eq n.id) (take place (node_ids w)) outer.1 n.id has) refl;
      }

  id_nothing : (place : ℕ) (n : Node) → HasNewId place n → id_faults w place n ≡ []
  id_nothing place n h =
      one_if_nothing _ (fault_at code.DuplicateId (node_place w n))
      (or_from _ _ (or_from _ _ (other_text n.id start_node h.not_start) (other_text n.id end_node h.not_end))
      (any_nothing (bytes_eq n.id) (take place (node_ids w)) (λ z has.
      other_text n.id z (λ same. h.new (subst (Contains (take place (node_ids w))) (sym same) has)))))

  abbrev IsUpstream : Text → Type 0
  IsUpstream id = (id ≡ start_node) ⊎ Contains (node_ids w) id

  upstream_none : (n : Node) → upstream_faults w n ≡ [] → All IsUpstream n.upstream
  upstream_none n e =
      all_of IsUpstream n.upstream (λ id has.
      let there =
      not-false (is_node_or_start w id)
      (filter_none (λ i. not (is_node_or_start w i)) n.upstream (map_none _ _ e) id has) in
      ⊎_elim (λ start. inl (same_text id start_node start))
      (λ node. let found = some_get (node_named w id) node in
      let at = find_found (λ (m : Node). bytes_eq m.id id) (nodes_of w) found.0 found.1 in
      inr (subst (Contains (node_ids w)) (same_text found.0.id id at.1)
      (in_map (λ (m : Node). m.id) (nodes_of w) found.0 at.0)))
      (or_cases (bytes_eq id start_node) (is_some (node_named w id)) there))

  upstream_nothing : (n : Node) → All IsUpstream n.upstream → upstream_faults w n ≡ []
  upstream_nothing n all =
      ap (map _) (filter_nothing (λ i. not (is_node_or_start w i)) n.upstream (λ id has.
      not_from_true (is_node_or_start w id)
      (⊎_elim (λ start. or_left (bytes_eq id start_node) (is_some (node_named w id)) (text_same id start_node start))
      (λ node. let from = of_map (λ (m : Node). m.id) (nodes_of w) id node in
      or_right (bytes_eq id start_node) (is_some (node_named w id))
      (find_some (λ (m : Node). bytes_eq m.id id) (nodes_of w) from.0 from.1 (text_same from.0.id id from.2)))
      (All-contains IsUpstream n.upstream id all has))))

  -- ---- all nodes

  module _ (form : IsBundleInForm b) where
    nodes_none : nodes_faults b w ≡ [] → AreDistinct (node_ids w) × All (IsTypedNode b w) (nodes_of w)
    nodes_none e =
        let at : (place : ℕ) (n : Node) → slice_get (nodes_of w) place ≡ Some n → HasNewId place n ×
        (upstream_faults w n ≡ []) × RunsFaultless n =
        λ place n there. let parts = node_none place n
        (flat_map_none (λ (at : ℕ × Node). faults_of_node b w at.0 at.1) (enumerate_from 0 (nodes_of w)) e (place, n)
        (numbered (nodes_of w) place n there)) in
        (id_none place n parts.0, parts.1, parts.2) in
        let known = source_known b w (all_known b w.nodes (λ n has.
        let place = place_in (nodes_of w) n has in
        one_unless_none (is_found b n) (missing_fault w n (out-Target n.target)) (at place.0 n place.1).2.found)) in (
          distinct_from (node_ids w) (λ i j z lt first second.
              let n = of_map_at (λ (m : Node). m.id) (nodes_of w) j z second in
              (at j n.0 n.1).0.new (in_take (node_ids w) j i n.0.id lt (first ∙ ap Some (sym n.2)))),
          all_of (IsTypedNode b w) (nodes_of w) (λ n has.
              let place = place_in (nodes_of w) n has in
              let parts = at place.0 n place.1 in record {
                not_start = parts.0.not_start;
                not_end = parts.0.not_end;
                upstream = upstream_none n parts.1;
                target = target_none b form w n (out-Target n.target) refl known parts.2;
              }),
        )

    nodes_nothing : AreDistinct (node_ids w) → All (IsTypedNode b w) (nodes_of w) → nodes_faults b w ≡ []
    nodes_nothing distinct typed =
        flat_map_nothing (λ (at : ℕ × Node). faults_of_node b w at.0 at.1) (enumerate_from 0 (nodes_of w)) (λ at has.
        let there = number_at (nodes_of w) at has in
        let node = All-contains (IsTypedNode b w) (nodes_of w) at.1 typed
        (contains_at (nodes_of w) at.0 at.1 there) in
        let new : HasNewId at.0 at.1 = record {
          not_start = node.not_start;
          not_end = node.not_end;
          new = λ before. let place = of_take (node_ids w) at.0 at.1.id before in
              apart (node_ids w) distinct place.0 at.0 at.1.id place.1 place.2
              (map_at (λ (m : Node). m.id) (nodes_of w) at.0 at.1 there);
        } in
        node_nothing at.0 at.1 (id_nothing at.0 at.1 new) (upstream_nothing at.1 node.upstream)
        (target_nothing b form w at.1 (out-Target at.1.target) refl node.target))

  -- ---- outputs

  module _ (form : IsWorkflowInForm w) where
    outputs_differ : AreDistinct (map (λ (v : Variable). v.name) w.interface.outputs)
    outputs_differ = distinct_in_order (map (λ (v : Variable). v.name) w.interface.outputs) form.interface.outputs

    outputs_none : output_faults b w ≡ [] → Binds (bound_fits (source_of b w)) w.interface.outputs w.outputs
    outputs_none e =
        let parts = append_none (bindings_faults (outputs_site b w) w.outputs)
        (unbound_faults code.OutputNotBound (outputs_place w) w.interface.outputs w.outputs) e in
        binds_none (outputs_site b w)
        (λ name. option_map value (type_of name w.interface.outputs)) refl value w.interface.outputs
        (λ name. refl) outputs_differ
        code.OutputNotBound (outputs_place w) w.outputs parts.0 parts.1

    outputs_nothing : Binds (bound_fits (source_of b w)) w.interface.outputs w.outputs → output_faults b w ≡ []
    outputs_nothing binds =
        let both =
        binds_nothing (outputs_site b w)
        (λ name. option_map value (type_of name w.interface.outputs)) refl value w.interface.outputs (λ name. refl)
        outputs_differ (λ x t fits. fits_there (source_of b w) x t fits) code.OutputNotBound
        (outputs_place w) w.outputs binds in
        append_nothing _ _ both.0 both.1

  -- ---- how many nodes

  size_cases : (some many : Bool) (x y : Fault) → (if some then (if many then x ∷ [] else []) else y ∷ []) ≡ []
      → (some ≡ true) × (many ≡ false)
  size_cases true many x y e = (refl, one_if_none many x e)
  size_cases false many x y e = cc

  size_none : size_faults w ≡ [] → (1 ≤ length (nodes_of w)) × (length (nodes_of w) ≤ 1024)
  size_none e =
      let parts = size_cases (nat_lt 0 (length (nodes_of w))) (nat_lt max_nodes (length (nodes_of w)))
      (fault_at code.TooManyNodes (workflow_name w)) (fault_at code.NoNodes (workflow_name w)) e in
      (ltb-true 0 (length (nodes_of w)) parts.0, ltb-false max_nodes (length (nodes_of w)) parts.1)

  size_nothing : 1 ≤ length (nodes_of w) → length (nodes_of w) ≤ 1024 → size_faults w ≡ []
  size_nothing some few =
      cond-true (nat_lt 0 (length (nodes_of w))) _ _ (lt-ltb 0 (length (nodes_of w)) some)
      ∙ one_if_nothing (nat_lt max_nodes (length (nodes_of w))) _ (le-ltb max_nodes (length (nodes_of w)) few)

  -- ---- cycles

  from_places : (u v : ℕ) → IsEdge (edges_of w) u v → Contains (places_of w) u
  from_places u v edge =
      let end = of_flat_map (λ t. map (λ s. (s, t)) (filter (needs w t) (places_of w))) (places_of w) (u, v) edge in
      let start = of_map (λ s. (s, end.0)) (filter (needs w end.0) (places_of w)) (u, v) end.2 in
      subst (Contains (places_of w)) (ap (λ (p : ℕ × ℕ). p.0) start.2)
      (Contains-filter (needs w end.0) (places_of w) start.0 start.1).0

  walks_from : (u : ℕ) (between : List ℕ) (v : ℕ) → IsWalk (edges_of w) u between v → Contains (places_of w) u
  walks_from u [] v walk = from_places u v walk
  walks_from u (x ∷ between) v walk = from_places u x walk.0

  no_cycle : (places : List ℕ) → cycle_fault w places ≡ [] → places ≡ []
  no_cycle [] e = refl
  no_cycle (place ∷ places) e = cc

  cycles_none : cycle_fault w (cyclic_places w) ≡ [] → IsAcyclic w
  cycles_none e v walk =
      let none = filter_none (λ u. reaches (edges_of w) u u) (places_of w) (no_cycle (cyclic_places w) e) v
      (walks_from v walk.0 v walk.1) in
      false≢true (sym none ∙ (reaches-Decides (edges_of w) v v).1 walk)

  cycles_nothing : IsAcyclic w → cycle_fault w (cyclic_places w) ≡ []
  cycles_nothing acyclic =
      ap (cycle_fault w) (filter_nothing (λ u. reaches (edges_of w) u u) (places_of w) (λ v has.
      false_from_ne_true (reaches (edges_of w) v v) (λ e. acyclic v ((reaches-Decides (edges_of w) v v).0 e))))

  -- ---- all of it

  pub workflow_none : IsBundleInForm b → IsWorkflowInForm w → faults_of_workflow b w ≡ []
      → IsTypedWorkflow b w × IsAcyclic w
  workflow_none form own e =
      let p3 = append_none (size_faults w ++ nodes_faults b w ++ output_faults b w)
      (cycle_fault w (cyclic_places w)) e in
      let p2 = append_none (size_faults w ++ nodes_faults b w) (output_faults b w) p3.0 in
      let p1 = append_none (size_faults w) (nodes_faults b w) p2.0 in
      let size = size_none p1.0 in
      let nodes = nodes_none form p1.1 in (
        record { some = size.0; few = size.1; ids = nodes.0; nodes = nodes.1; outputs = outputs_none own p2.1 },
        cycles_none p3.1,
      )

  pub workflow_nothing : IsBundleInForm b → IsWorkflowInForm w → IsTypedWorkflow b w → IsAcyclic w
      → faults_of_workflow b w ≡ []
  workflow_nothing form own typed acyclic =
      append_nothing _ _
      (append_nothing _ _
      (append_nothing _ _ (size_nothing typed.some typed.few) (nodes_nothing form typed.ids typed.nodes))
      (outputs_nothing own typed.outputs)) (cycles_nothing acyclic)
