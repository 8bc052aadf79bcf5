-- The edges of a workflow by rows, and the nodes that need none, that none needs, or that need themselves.
use Rattle.std.proofs.Common.{◌≡◌, ◌↔◌, ℕ, ◌+◌, ◌<◌, Bool, true, false, cond, not, ◌||◌, ◌&&◌, eqb, leb, List, [], ◌∷◌, ◌++◌, map, length, get_or, All, Contains, refl, sym, ◌∙◌, ap, ap₂, subst, ⊎_elim, arith}
use Rattle.std.specs.Prelude.{IsTrue}
use Rattle.std.specs.List.{range_with_len, list_any, filter, flat_map}
use Rattle.std.specs.Cmp.{both_ways}
use Rattle.std.proofs.lemmas.Bool.{and_parts, and_from, eqb-true, eq-eqb, lt-leb, false≢true}
use Rattle.std.proofs.lemmas.List.Elements.{Contains-append_left, Contains-append_right, Contains-append_cases, All-map}
use Rattle.fly_graph.specs.Walks.{IsEdge}
use Rattle.fly_graph.proofs.Members.{Contains-nil, Contains-cons_cases}
use Rattle.fly_graph.proofs.WalkLemmas.{reaches_along}
use Rattle.fly_docs.specs.declared.workflow.Workflow.{Workflow}
use Rattle.fly_docs.specs.Plans.{nodes_of, places_of}
use Rattle.fly_docs.specs.Edges.{needs, edges_of}
use Rattle.fly_docs.specs.Reaching.{reaches}
use Rattle.fly_docs.specs.Closures.{needing}
use Rattle.fly_docs.proofs.ReachingLemmas.{reaches-Decides}
use Rattle.fly_links.specs.Search.{AreBelow, edges_along}
use Rattle.fly_links.specs.Links.{cyclic_places, is_empty_row, empty_places, marked_places}
use Rattle.fly_links.proofs.SearchLemmas.{target_of_edge, edge_of_target, contains_any, any_contains}
use Rattle.fly_links.proofs.RowLemmas.{filter_alike, filter_range_more, range_below}
use Rattle.fly_links.proofs.RangeLemmas.{any_filtered, any_in_range, any_from_range, in_range, from_range}
use Rattle.fly_links.proofs.LinkLemmas.{row_by_place, rows_by_place}

-- ---- one step of a loop that keeps places

pub kept_more : (p : ℕ → Bool) (i : ℕ) (b : Bool) (now next : List ℕ) → p i ≡ b → now ≡ filter p (range_with_len 0 i)
    → next ≡ now ++ cond b (i ∷ []) [] → next ≡ filter p (range_with_len 0 (i + 1))
kept_more p i b now next is before step =
    step ∙ ap₂ (λ ks c. ks ++ cond c (i ∷ []) []) before (sym is) ∙ sym (filter_range_more p i)

pub empty_is : (b : Bool) (row : List ℕ) → (IsTrue b ↔ (row ≡ [])) → leb (length row) 0 ≡ b
empty_is true [] e = refl
empty_is true (x ∷ row) e = absurd (let none : length (x ∷ row) ≡ 0 = ap length (e.0 refl) in omega (arith, none))
empty_is false [] e = absurd (false≢true (e.1 refl))
empty_is false (x ∷ row) e = lt-leb (length (x ∷ row)) 0 (omega arith)

-- ---- rows that are filters

none_kept : (p : ℕ → Bool) (xs : List ℕ) → leb (length (filter p xs)) 0 ≡ not (list_any p xs)
none_kept p [] = refl
none_kept p (x ∷ xs) =
    elim (p x) as (λ b. leb (length (cond b (x ∷ filter p xs) (filter p xs))) 0 ≡ not (b || list_any p xs))
    [ true ↦ lt-leb (length (x ∷ filter p xs)) 0 (omega arith) | false ↦ none_kept p xs ]

pub empty_rows : (p : ℕ → ℕ → Bool) (n : ℕ) (rows : List (List ℕ)) → rows ≡ map (λ v. filter (p v) (range_with_len 0 n)) (range_with_len 0 n)
    → empty_places rows ≡ filter (λ v. not (list_any (p v) (range_with_len 0 n))) (range_with_len 0 n)
empty_rows p n rows is =
    let f : ℕ → List ℕ = λ v. filter (p v) (range_with_len 0 n) in
    ap empty_places is
    ∙ ap (λ m. filter (is_empty_row (map f (range_with_len 0 n))) (range_with_len 0 m)) (rows_by_place f n)
    ∙ filter_alike (is_empty_row (map f (range_with_len 0 n))) (λ v. not (list_any (p v) (range_with_len 0 n))) 0 n
    (λ v _ lt. ap (λ row. leb (length row) 0) (row_by_place f n v (omega (arith, lt))) ∙ none_kept (p v) (range_with_len 0 n))

-- ---- pairs

pairs_from : (v : ℕ) (us : List ℕ) (a b : ℕ) → Contains {X = ℕ × ℕ} (map (λ u. (u, v)) us) (a, b) → (b ≡ v) × Contains us a
pairs_from v [] a b c = absurd (Contains-nil (a, b) c)
pairs_from v (u ∷ us) a b c =
    ⊎_elim (λ same. (sym (ap (λ p. p.1) same), (0, omega arith, ap (λ p. p.0) same)))
    (λ more. let rest = pairs_from v us a b more in (rest.0, Contains-append_right (u ∷ []) us a rest.1))
    (Contains-cons_cases (u, v) (map (λ x. (x, v)) us) (a, b) c)

pairs_in : (v : ℕ) (us : List ℕ) (a : ℕ) → Contains us a → Contains {X = ℕ × ℕ} (map (λ u. (u, v)) us) (a, v)
pairs_in v [] a c = absurd (Contains-nil a c)
pairs_in v (u ∷ us) a c =
    ⊎_elim (λ same. (0, omega arith, ap (λ x. (x, v)) same))
    (λ more. Contains-append_right ((u, v) ∷ []) (map (λ x. (x, v)) us) (a, v) (pairs_in v us a more))
    (Contains-cons_cases u us a c)

abbrev paired : (ℕ → List ℕ) → List ℕ → List (ℕ × ℕ)
paired f vs = flat_map (λ v. map (λ u. (u, v)) (f v)) vs

paired_from : (f : ℕ → List ℕ) (vs : List ℕ) (a b : ℕ) → Contains {X = ℕ × ℕ} (paired f vs) (a, b) → Contains vs b × Contains (f b) a
paired_from f [] a b c = absurd (Contains-nil (a, b) c)
paired_from f (v ∷ vs) a b c =
    ⊎_elim (λ here. let pair = pairs_from v (f v) a b here in ((0, omega arith, sym pair.0), subst (λ x. Contains (f x) a) (sym pair.0) pair.1))
    (λ later. let rest = paired_from f vs a b later in (Contains-append_right (v ∷ []) vs b rest.0, rest.1))
    (Contains-append_cases (map (λ u. (u, v)) (f v)) (paired f vs) (a, b) c)

paired_in : (f : ℕ → List ℕ) (vs : List ℕ) (a b : ℕ) → Contains vs b → Contains (f b) a → Contains {X = ℕ × ℕ} (paired f vs) (a, b)
paired_in f [] a b c there = absurd (Contains-nil b c)
paired_in f (v ∷ vs) a b c there =
    ⊎_elim (λ same. Contains-append_left (map (λ u. (u, v)) (f v)) (paired f vs) (a, b)
    (subst (λ x. Contains {X = ℕ × ℕ} (map (λ u. (u, v)) (f v)) (a, x)) same (pairs_in v (f v) a (subst (λ x. Contains (f x) a) (sym same) there))))
    (λ more. Contains-append_right (map (λ u. (u, v)) (f v)) (paired f vs) (a, b) (paired_in f vs a b more there))
    (Contains-cons_cases v vs b c)

kept_from : (p : ℕ → Bool) (n a : ℕ) → Contains (filter p (range_with_len 0 n)) a → (a < n) × (p a ≡ true)
kept_from p n a c =
    let e = any_from_range (λ x. p x && eqb x a) 0 n (sym (any_filtered (λ x. eqb x a) p (range_with_len 0 n)) ∙ contains_any (filter p (range_with_len 0 n)) a c) in
    let parts = and_parts (p e.0) (eqb e.0 a) e.3 in
    let same : e.0 ≡ a = eqb-true e.0 a parts.1 in
    (omega (arith, e.2, same), subst (λ x. p x ≡ true) same parts.0)

kept_in : (p : ℕ → Bool) (n a : ℕ) → a < n → p a ≡ true → Contains (filter p (range_with_len 0 n)) a
kept_in p n a lt e =
    any_contains (filter p (range_with_len 0 n)) a
    (any_filtered (λ x. eqb x a) p (range_with_len 0 n)
    ∙ any_in_range (λ x. p x && eqb x a) 0 n a (omega arith) (omega (arith, lt)) (and_from (p a) (eqb a a) e (eq-eqb a a refl)))

place_from : (n a : ℕ) → Contains (range_with_len 0 n) a → a < n
place_from n a c = (let r = from_range 0 n a (contains_any (range_with_len 0 n) a c) in omega (arith, r.1))

place_in : (n a : ℕ) → a < n → Contains (range_with_len 0 n) a
place_in n a lt = any_contains (range_with_len 0 n) a (in_range 0 n a (omega arith) (omega (arith, lt)))

-- ---- the edges of a workflow

module _ (w : Workflow) where
  abbrev count : ℕ
  count = length (nodes_of w)

  abbrev rows : List (List ℕ)
  rows = map (needing w) (places_of w)

  pub needing_below : AreBelow count rows
  needing_below =
      All-map (λ ts. All (λ t. t < count) ts) (needing w) (places_of w) (λ k d lt. range_below (λ v. needs w v (get_or (places_of w) k d)) count)

  to_edge : (u v : ℕ) → IsEdge (edges_along rows) u v → IsEdge (edges_of w) u v
  to_edge u v edge =
      let there = target_of_edge rows u v edge in
      let u_in : u < count = omega (arith, there.0, rows_by_place (needing w) count) in
      let needed = kept_from (λ x. needs w x u) count v (subst (λ row. Contains row v) (row_by_place (needing w) count u u_in) there.1) in
      paired_in (λ x. filter (needs w x) (places_of w)) (places_of w) u v (place_in count v needed.0) (kept_in (needs w v) count u u_in needed.1)

  from_edge : (u v : ℕ) → IsEdge (edges_of w) u v → IsEdge (edges_along rows) u v
  from_edge u v edge =
      let there = paired_from (λ x. filter (needs w x) (places_of w)) (places_of w) u v edge in
      let v_in = place_from count v there.0 in
      let needed = kept_from (needs w v) count u there.1 in
      edge_of_target rows u v (omega (arith, needed.0, rows_by_place (needing w) count))
      (subst (λ row. Contains row v) (sym (row_by_place (needing w) count u needed.0)) (kept_in (λ x. needs w x u) count v v_in needed.1))

  same_reaches : (u v : ℕ) → reaches (edges_along rows) u v ≡ reaches (edges_of w) u v
  same_reaches u v =
      both_ways (reaches (edges_along rows) u v) (reaches (edges_of w) u v)
      (λ e. (reaches-Decides (edges_of w) u v).1 (reaches_along (edges_along rows) (edges_of w) to_edge u v ((reaches-Decides (edges_along rows) u v).0 e)))
      (λ e. (reaches-Decides (edges_along rows) u v).1 (reaches_along (edges_of w) (edges_along rows) from_edge u v ((reaches-Decides (edges_of w) u v).0 e)))

  pub cyclic_is : (marks : List Bool) (targets : List (List ℕ)) → targets ≡ rows → length marks ≡ length targets
      → ((v : ℕ) → v < length targets → get_or marks v false ≡ reaches (edges_along targets) v v) → marked_places marks ≡ cyclic_places w
  cyclic_is marks targets is long each =
      let n : length marks ≡ count = long ∙ ap length is ∙ rows_by_place (needing w) count in
      ap (λ m. filter (λ v. get_or marks v false) (range_with_len 0 m)) n
      ∙ filter_alike (λ v. get_or marks v false) (λ v. reaches (edges_of w) v v) 0 count
      (λ v _ lt. each v (omega (arith, lt, n, long)) ∙ ap (λ ts. reaches (edges_along ts) v v) is ∙ same_reaches v v)
