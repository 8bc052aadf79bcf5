-- Along what nodes look at no node of a compiled workflow is led back to itself.
use Rattle.std.proofs.Common.{◌≡◌, ℕ, suc, ◌+◌, ◌<◌, List, map, flat_map, filter, filter_map, length, position, bytes_eq, cond, eqb, Contains, Option, Some, None, option_map, option_to_list, refl, sym, ◌∙◌, ap, subst, arith, inl, true}
use Rattle.std.specs.List.{slice_get, range_with_len, list_any}
use Rattle.std.proofs.lemmas.Bool.{or_left, eq-eqb}
use Rattle.std.proofs.lemmas.List.Folds.{list_any_at}
use Rattle.std.proofs.lemmas.List.{length-map}
use Rattle.std.proofs.lemmas.List.Quantifiers.{position-Some}
use Rattle.std.proofs.lemmas.List.FromFn.{length-range_with_len, get_or-range_with_len}
use Rattle.std.proofs.lemmas.Option.{slice_get-map}
use Rattle.fly_docs.specs.declared.node.Node.{Node}
use Rattle.fly_docs.specs.declared.task.Task.{Task}
use Rattle.fly_docs.specs.declared.workflow.Workflow.{Workflow}
use Rattle.fly_docs.specs.declared.closure.Closure.{Closure}
use Rattle.fly_docs.specs.Acyclic.{IsAcyclic, RunsAcyclic}
use Rattle.fly_docs.specs.Closures.{bundle_of}
use Rattle.fly_docs.specs.Edges.{named_ids, named_places, needs, edges_of}
use Rattle.fly_docs.specs.Lookups.{is_same}
use Rattle.fly_docs.specs.Plans.{nodes_of, node_ids, place_named, node_at, places_of}
use Rattle.fly_docs.specs.Readable.{HasTaskNodes}
use Rattle.fly_docs.specs.Reaching.{primary_place}
use Rattle.fly_graph.specs.Walks.{IsEdge}
use Rattle.fly_graph.proofs.WalkLemmas.{reaches_along}
use Rattle.fly_graph.proofs.Members.{Contains-filter_from}
use Rattle.fly_rules.specs.Rules.{look_edges, IsGrounded}
use Rattle.fly_rules.proofs.GroundLemmas.{Contains-map, Contains-flat_map, Contains-range}
use Rattle.fly_state.specs.declared.sites.Site.{Site}
use Rattle.fly_state.specs.Sites.{node_place, site_of, looks_at}
use Rattle.fly_state.proofs.PlaceLemmas.{position_cons}
use Rattle.fly_state.proofs.PlanLemmas.{nodes_of-plain, is_same-itself}
use Rattle.fly_state.proofs.Lists.{of_map, of_flat_map, of_filter_map}

-- an element of a list of numbers is below its end
below_range : (n v : ℕ) → Contains (range_with_len 0 n) v → v < n
below_range n v has =
    let long : length (range_with_len 0 n) ≡ n = length-range_with_len 0 n in
    let small : has.0 < n = omega (arith, long, has.1) in
    let at : 0 + has.0 ≡ v = sym (get_or-range_with_len 0 n has.0 v small) ∙ has.2 in
    omega arith

module _ (w : Workflow) (plain : HasTaskNodes w) (tasks : List Task) where
  abbrev sites : List Site
  sites = map (site_of tasks w.nodes) w.nodes

  abbrev named_among : List Node → ℕ → List ℕ
  named_among nodes v =
      flat_map (λ n. filter_map (λ id. position (bytes_eq id) (map (λ (m : Node). m.id) nodes)) (named_ids n)) (option_to_list (slice_get nodes v))

  -- what a site looks at is what its node names
  looks-named : (v : ℕ) → looks_at sites v ≡ named_places w v
  looks-named v =
      ap (λ o. flat_map (λ (s : Site). s.looks) (option_to_list o)) (slice_get-map (site_of tasks w.nodes) w.nodes v)
      ∙ by (slice_get w.nodes v)
      ∙ sym (ap (λ nodes. named_among nodes v) (nodes_of-plain w plain))
    where
      by : (o : Option Node) → flat_map (λ (s : Site). s.looks) (option_to_list (option_map (site_of tasks w.nodes) o))
          ≡ flat_map (λ n. filter_map (node_place w.nodes) (named_ids n)) (option_to_list o)
      by None = refl
      by (Some n) = refl

  looks-within : (v u : ℕ) → Contains (named_places w v) u → u < length (nodes_of w)
  looks-within v u looked =
      let part = of_flat_map (λ n. filter_map (place_named w) (named_ids n)) (option_to_list (node_at w v)) u looked in
      let id = of_filter_map (place_named w) (named_ids part.0) u part.2 in
      let within : u < length (node_ids w) = (position-Some (bytes_eq id.0) (node_ids w) u id.0 id.2).0 in
      omega (arith, within, length-map (nodes_of w) (λ (n : Node). n.id))

  -- what is named makes an edge
  named-edge : (v u : ℕ) → v < length (nodes_of w) → Contains (named_places w v) u → IsEdge (edges_of w) u v
  named-edge v u small looked =
      let names : list_any (λ place. eqb place u) (named_places w v) ≡ true =
      list_any_at (λ place. eqb place u) (named_places w v) looked.0 u looked.1 (eq-eqb _ _ looked.2) in
      let needed : needs w v u ≡ true = or_left _ _ (or_left _ _ names) in
      let among : Contains (filter (needs w v) (places_of w)) u =
      Contains-filter_from (needs w v) (places_of w) u (Contains-range (length (nodes_of w)) u (looks-within v u looked)) needed in
      Contains-flat_map (λ x. map (λ y. (y, x)) (filter (needs w x) (places_of w))) (places_of w) v (u, v)
      (Contains-range (length (nodes_of w)) v small)
      (Contains-map (λ y. (y, v)) (filter (needs w v) (places_of w)) u among)

  sites-count : length sites ≡ length (nodes_of w)
  sites-count = length-map w.nodes (site_of tasks w.nodes) ∙ ap length (sym (nodes_of-plain w plain))

  look-edge : (u v : ℕ) → IsEdge (look_edges (looks_at sites) (length sites)) u v → IsEdge (edges_of w) u v
  look-edge u v edge =
      let at = of_flat_map (λ x. map (λ y. (y, x)) (looks_at sites x)) (range_with_len 0 (length sites)) (u, v) edge in
      let from = of_map (λ y. (y, at.0)) (looks_at sites at.0) (u, v) at.2 in
      let small : at.0 < length (nodes_of w) = omega (arith, below_range (length sites) at.0 at.1, sites-count) in
      let looked : Contains (named_places w at.0) from.0 = subst (λ xs. Contains xs from.0) (looks-named at.0) from.1 in
      subst (Contains (edges_of w)) from.2 (named-edge at.0 from.0 small looked)

  pub sites-grounded : IsAcyclic w → IsGrounded (looks_at sites) (length sites)
  sites-grounded acyclic = record {
    within = λ v u small looked.
        omega (arith, sites-count, looks-within v u (subst (λ xs. Contains xs u) (looks-named v) looked));
    acyclic = λ v walk. acyclic v (reaches_along (look_edges (looks_at sites) (length sites)) (edges_of w) look-edge v v walk);
  }

-- the primary workflow of a compiled closure is acyclic
pub primary-acyclic : (c : Closure) → RunsAcyclic (bundle_of c) → IsAcyclic c.primary
primary-acyclic c runs =
    let named : primary_place (bundle_of c) ≡ Some 0 =
    position_cons (λ (w : Workflow). is_same w.id c.primary.id) c.primary c.subs
    ∙ ap (λ b. cond b (Some 0) (option_map suc (position (λ (w : Workflow). is_same w.id c.primary.id) c.subs))) (is_same-itself c.primary.id) in
    runs c.primary (record { place = 0; there = refl; reached = (0, named, inl refl) })
