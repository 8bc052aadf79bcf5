-- The nodes of the generated workflow, in plan order, and what their ids name.
use Rattle.std.proofs.Common.{◌≡◌, ℕ, ◌^◌, ◌<◌, ◌≤◌, true, false, List, [], ◌∷◌, ◌++◌, map, flat_map, length, get_or, find, position, bytes_eq, Contains, Some, None, refl, sym, ◌∙◌, ap, arith}
use Rattle.std.specs.List.{range_with_len, slice_get}
use Rattle.std.proofs.lemmas.Bool.{false_from_ne_true}
use Rattle.std.proofs.lemmas.List.FromFn.{length-map-range_with_len}
use Rattle.std.proofs.lemmas.Option.{slice_get_past}
use Rattle.std.proofs.lemmas.Slice.Eq.{bytes_eq-Decides}
use Rattle.fly_docs.specs.declared.node.Node.{Node}
use Rattle.fly_docs.specs.declared.node.Target.{out-Target}
use Rattle.fly_docs.specs.declared.node.Target.TheOpen.{Target-F}
use Rattle.fly_docs.specs.declared.node.Target.TheViews as view
use Rattle.fly_docs.specs.Plans.{nodes_of, node_ids, inner_nodes, node_named, place_named, node_at}
use Rattle.fly_docs.proofs.NodeLemmas.{inner_nodes-task}
use Rattle.fly_generator.specs.Generated.{add_id, node_id, node_numbered, generated_workflow}
use Rattle.fly_generator.proofs.Firsts.{at, got, find-first, position-first}
use Rattle.fly_generator.proofs.NodeIds.{ids_differ}

pub runs_task : (i : ℕ) → out-Target (node_numbered i).target ≡ Target-F.Task add_id
runs_task i = view.outs-Task add_id

-- nothing stands inside a node
pub nothing_inside : (i : ℕ) → inner_nodes (node_numbered i) ≡ []
nothing_inside i = inner_nodes-task (node_numbered i) add_id (runs_task i)

flat : (numbers : List ℕ) → flat_map (λ n. n ∷ inner_nodes n) (map node_numbered numbers) ≡ map node_numbered numbers
flat [] = refl
flat (i ∷ numbers) =
    ap (λ inside. node_numbered i ∷ (inside ++ flat_map (λ n. n ∷ inner_nodes n) (map node_numbered numbers)))
    (nothing_inside i)
    ∙ ap (λ rest. node_numbered i ∷ rest) (flat numbers)

ids : (numbers : List ℕ) → map (λ (n : Node). n.id) (map node_numbered numbers) ≡ map node_id numbers
ids [] = refl
ids (i ∷ numbers) = ap (λ rest. node_id i ∷ rest) (ids numbers)

module _ (count : ℕ) where
  pub nodes_are : nodes_of (generated_workflow count) ≡ map node_numbered (range_with_len 0 count)
  nodes_are = flat (range_with_len 0 count)

  pub ids_are : node_ids (generated_workflow count) ≡ map node_id (range_with_len 0 count)
  ids_are = ap (map (λ (n : Node). n.id)) nodes_are ∙ ids (range_with_len 0 count)

  pub nodes_count : length (nodes_of (generated_workflow count)) ≡ count
  nodes_count = ap length nodes_are ∙ length-map-range_with_len node_numbered 0 count

  pub ids_count : length (node_ids (generated_workflow count)) ≡ count
  ids_count = ap length ids_are ∙ length-map-range_with_len node_id 0 count

  pub node_there : (i : ℕ) → i < count → node_at (generated_workflow count) i ≡ Some (node_numbered i)
  node_there i small = ap (λ nodes. slice_get nodes i) nodes_are ∙ got node_numbered count i small

  pub no_node : (i : ℕ) → count ≤ i → node_at (generated_workflow count) i ≡ None
  no_node i large = slice_get_past (nodes_of (generated_workflow count)) i (omega (arith, nodes_count))

  -- a node is one of a number
  pub numbered : (n : Node) → Contains (nodes_of (generated_workflow count)) n
      → (i : ℕ) × (i < count) × (n ≡ node_numbered i)
  numbered n has =
      let i = has.0 in
      let small : i < count = omega (arith, has.1, nodes_count) in
      (i, small, sym has.2 ∙ ap (λ nodes. get_or nodes i n) nodes_are ∙ at node_numbered count i n small)

module _ (count : ℕ) (few : count < 2 ^ 64) where
  same : (i : ℕ) → bytes_eq (node_id i) (node_id i) ≡ true
  same i = (bytes_eq-Decides (node_id i) (node_id i)).1 refl

  other : (k i : ℕ) → k < i → i < count → bytes_eq (node_id k) (node_id i) ≡ false
  other k i before small =
      false_from_ne_true (bytes_eq (node_id k) (node_id i))
      (λ e. let id = (bytes_eq-Decides (node_id k) (node_id i)).0 e in
      let number : k ≡ i = ids_differ k i (omega arith) (omega arith) id in
      omega arith)

  another : (k i : ℕ) → k < i → i < count → bytes_eq (node_id i) (node_id k) ≡ false
  another k i before small =
      false_from_ne_true (bytes_eq (node_id i) (node_id k))
      (λ e. let id = (bytes_eq-Decides (node_id i) (node_id k)).0 e in
      let number : i ≡ k = ids_differ i k (omega arith) (omega arith) id in
      omega arith)

  pub named : (i : ℕ) → i < count → node_named (generated_workflow count) (node_id i) ≡ Some (node_numbered i)
  named i small =
      ap (find (λ (n : Node). bytes_eq n.id (node_id i))) (nodes_are count)
      ∙ find-first node_numbered count (λ (n : Node). bytes_eq n.id (node_id i)) i small (same i)
      (λ k before. other k i before small)

  pub placed : (i : ℕ) → i < count → place_named (generated_workflow count) (node_id i) ≡ Some i
  placed i small =
      ap (position (bytes_eq (node_id i))) (ids_are count)
      ∙ position-first node_id count (bytes_eq (node_id i)) i small (same i) (λ k before. another k i before small)
