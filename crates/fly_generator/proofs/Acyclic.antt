-- In the generated workflow each node needs only nodes of lower numbers.
use Rattle.std.proofs.Common.{◌≡◌, ℕ, zero, suc, ◌+◌, ◌/◌, ◌^◌, ◌<◌, ◌==◌, true, false, Bool, cond, not, ◌&&◌, ◌||◌, nat_lt, nat_le, List, [], ◌∷◌, ◌++◌, map, filter, flat_map, filter_map, sum_by, length, bytes_eq, Contains, Option, option_to_list, codes, pos, sym, ◌∙◌, ap, subst, ⊎_elim, arith}
use Rattle.std.specs.List.{list_any, range_with_len, cons_option}
use Rattle.std.proofs.lemmas.Bool.{false_from_ne_true, false≢true, eqb-true, leb-true, ltb-true, or_cases, and_parts, cases_lt}
use Rattle.std.proofs.lemmas.List.Elements.{Contains-append_cases, Contains-append_right}
use Rattle.std.proofs.lemmas.List.Folds.{Any-from_list_any}
use Rattle.std.proofs.lemmas.List.FromFn.{length-range_with_len, get_or-range_with_len}
use Rattle.std.proofs.lemmas.Slice.Eq.{bytes_eq-Decides}
use Rattle.fly_graph.specs.Walks.{IsEdge, IsWalk}
use Rattle.fly_graph.proofs.Members.{Contains-nil, Contains-cons_cases, Contains-filter}
use Rattle.fly_types.specs.declared.text.Text.{Text}
use Rattle.fly_types.specs.declared.literals.Literal.{Literal}
use Rattle.fly_types.specs.declared.literals.Literal.TheVariants as literal
use Rattle.fly_docs.specs.declared.binding.Bound.{Bound}
use Rattle.fly_docs.specs.declared.binding.Bound.TheVariants as bound
use Rattle.fly_docs.specs.declared.binding.Bound.TheViews as bound_view
use Rattle.fly_docs.specs.declared.binding.Bound.TheFolds.{map-Bound, fold_out-Bound}
use Rattle.fly_docs.specs.declared.node.Node.{Node}
use Rattle.fly_docs.specs.declared.workflow.Workflow.{Workflow}
use Rattle.fly_docs.specs.Acyclic.{IsAcyclic}
use Rattle.fly_docs.specs.Bindings.{Promised, source_node, promises_by, promises_of, sources_of}
use Rattle.fly_docs.specs.Edges.{named_ids, named_places, names_place, inner_count, is_inside, is_case, needs, edges_of}
use Rattle.fly_docs.specs.Names.{start_node}
use Rattle.fly_docs.specs.Plans.{inner_nodes, nodes_of, place_named, places_of}
use Rattle.fly_generator.specs.Generated.{node_id, above, node_numbered, generated_workflow}
use Rattle.fly_generator.proofs.NodeIds.{not_start}
use Rattle.fly_generator.proofs.Nodes.{nothing_inside, nodes_count, node_there, no_node, placed}

-- ---- what a node promises from

promised : (node var : List ℕ) → promises_of (bound.Promise node var) ≡ (source_node node, var) ∷ []
promised node var =
    fold_out-Bound (List Promised) promises_by (bound.Promise node var)
    ∙ ap (λ layer. promises_by (map-Bound Bound (List Promised) promises_of layer)) (bound_view.outs-Promise node var)

unpromised : (l : Literal) → promises_of (bound.Scalar l) ≡ []
unpromised l =
    fold_out-Bound (List Promised) promises_by (bound.Scalar l)
    ∙ ap (λ layer. promises_by (map-Bound Bound (List Promised) promises_of layer)) (bound_view.outs-Scalar l)

abbrev source_above : ℕ → Text
source_above zero = start_node
source_above (suc i) = node_id (i / 2)

abbrev nodes_in : List Promised → List Text
nodes_in promises = map (λ promise. promise.0) promises

above_promised : (i : ℕ) → nodes_in (promises_of (above i)) ≡ source_above i ∷ []
above_promised zero = ap nodes_in (promised start_node (codes "a"))
above_promised (suc i) = ap nodes_in (promised (node_id (i / 2)) (codes "z"))

sources : (i : ℕ) → sources_of (node_numbered i).inputs ≡ source_above i ∷ []
sources i =
    ap (λ front. front ++ (nodes_in (promises_of (bound.Scalar (literal.Integer (pos i)))) ++ [])) (above_promised i)
    ∙ ap (λ promises. (source_above i ∷ []) ++ (nodes_in promises ++ [])) (unpromised (literal.Integer (pos i)))

abbrev is_node : Text → Bool
is_node id = not (bytes_eq id start_node)

first_names : named_ids (node_numbered 0) ≡ []
first_names = ap (λ ids. filter is_node (ids ++ [])) (sources 0)

later_names : (i : ℕ) → named_ids (node_numbered (suc i)) ≡ node_id (i / 2) ∷ []
later_names i =
    let other : bytes_eq (node_id (i / 2)) start_node ≡ false =
    false_from_ne_true (bytes_eq (node_id (i / 2)) start_node)
    (λ e. not_start (i / 2) ((bytes_eq-Decides (node_id (i / 2)) start_node).0 e)) in
    ap (λ ids. filter is_node (ids ++ [])) (sources (suc i)) ∙ ap (λ b. filter_by b (node_id (i / 2))) other
  where
    filter_by : Bool → Text → List Text
    filter_by b id = cond (not b) (id ∷ []) []

module _ (count : ℕ) (few : count < 2 ^ 64) where
  abbrev w : Workflow
  w = generated_workflow count

  abbrev places_at : Option Node → List ℕ
  places_at o = flat_map (λ n. filter_map (place_named w) (named_ids n)) (option_to_list o)

  first_places : 0 < count → named_places w 0 ≡ []
  first_places small =
      ap places_at (node_there count 0 small) ∙ ap (λ ids. filter_map (place_named w) ids ++ []) first_names

  later_places : (i : ℕ) → suc i < count → named_places w (suc i) ≡ (i / 2) ∷ []
  later_places i small =
      ap places_at (node_there count (suc i) small)
      ∙ ap (λ ids. filter_map (place_named w) ids ++ []) (later_names i)
      ∙ ap (λ o. cons_option o [] ++ []) (placed count few (i / 2) (omega arith))

  names_lower : (v u : ℕ) → v < count → names_place w v u ≡ true → u < v
  names_lower zero u small e = absurd (false≢true (sym (ap (list_any (λ place. place == u)) (first_places small)) ∙ e))
  names_lower (suc i) u small e =
      ⊎_elim (λ here. let same = eqb-true (i / 2) u here in omega (arith, same)) (λ none. absurd (false≢true none))
      (or_cases _ _ (sym (ap (list_any (λ place. place == u)) (later_places i small)) ∙ e))

  -- ---- nothing is inside

  abbrev inner_at : Option Node → ℕ
  inner_at o = sum_by (λ n. length (inner_nodes n)) (option_to_list o)

  no_inner : (v : ℕ) → inner_count w v ≡ 0
  no_inner v =
      ⊎_elim (λ small. omega (arith, ap inner_at (node_there count v small), ap length (nothing_inside v)))
      (λ large. ap inner_at (no_node count v large)) (cases_lt v count)

  not_inside : (v u : ℕ) → is_inside w v u ≡ true → ⊥
  not_inside v u e =
      let parts = and_parts (nat_lt v u) (nat_le u (v + inner_count w v)) e in
      let above = ltb-true v u parts.0 in
      let within = leb-true u (v + inner_count w v) parts.1 in
      omega (arith, above, within, no_inner v)

  needs_lower : (v u : ℕ) → v < count → needs w v u ≡ true → u < v
  needs_lower v u small e =
      ⊎_elim (λ front. ⊎_elim (λ named. names_lower v u small named)
      (λ inner. absurd (not_inside v u (and_parts (is_inside w v u) _ inner).0))
      (or_cases (names_place w v u) (is_case w v u) front))
      (λ outer. let t = Any-from_list_any (λ t. is_inside w t v && names_place w t u) (places_of w) outer in
      absurd (not_inside t.1 v (and_parts (is_inside w t.1 v) _ t.4).0))
      (or_cases (names_place w v u || is_case w v u) _ e)

  -- ---- edges

  paired : (v : ℕ) (us : List ℕ) (edge : ℕ × ℕ) → Contains (map (λ u. (u, v)) us) edge
      → (edge.1 ≡ v) × Contains us edge.0
  paired v [] edge has = absurd (Contains-nil edge has)
  paired v (u ∷ us) edge has =
      ⊎_elim (λ same. (sym (ap (λ p. p.1) same), (0, omega arith, ap (λ p. p.0) same)))
      (λ more. let rest = paired v us edge more in (rest.0, Contains-append_right (u ∷ []) us edge.0 rest.1))
      (Contains-cons_cases (u, v) (map (λ x. (x, v)) us) edge has)

  abbrev edges_from : List ℕ → List (ℕ × ℕ)
  edges_from vs = flat_map (λ v. map (λ u. (u, v)) (filter (needs w v) (places_of w))) vs

  edge_needs : (vs : List ℕ) (edge : ℕ × ℕ) → Contains (edges_from vs) edge
      → Contains vs edge.1 × (needs w edge.1 edge.0 ≡ true)
  edge_needs [] edge has = absurd (Contains-nil edge has)
  edge_needs (v ∷ vs) edge has =
      ⊎_elim (λ here. let pair = paired v (filter (needs w v) (places_of w)) edge here in (
        (0, omega arith, sym pair.0),
        subst (λ x. needs w x edge.0 ≡ true) (sym pair.0) (Contains-filter (needs w v) (places_of w) edge.0 pair.1).1,
      ))
      (λ later. let rest = edge_needs vs edge later in (Contains-append_right (v ∷ []) vs edge.1 rest.0, rest.1))
      (Contains-append_cases (map (λ u. (u, v)) (filter (needs w v) (places_of w))) (edges_from vs) edge has)

  below : (n v : ℕ) → Contains (range_with_len 0 n) v → v < n
  below n v has =
      let small : has.0 < n = omega (arith, has.1, length-range_with_len 0 n) in
      omega (arith, small, has.2, get_or-range_with_len 0 n has.0 v small)

  edge_rises : (u v : ℕ) → IsEdge (edges_of w) u v → u < v
  edge_rises u v edge =
      let found = edge_needs (places_of w) (u, v) edge in
      needs_lower v u (omega (arith, below (length (nodes_of w)) v found.0, nodes_count count)) found.1

  walk_rises : (u : ℕ) (between : List ℕ) (v : ℕ) → IsWalk (edges_of w) u between v → u < v
  walk_rises u [] v walk = edge_rises u v walk
  walk_rises u (t ∷ between) v walk = omega (arith, edge_rises u t walk.0, walk_rises t between v walk.1)

  pub acyclic : IsAcyclic w
  acyclic v loop = let more = walk_rises v loop.0 v loop.1 in omega arith
