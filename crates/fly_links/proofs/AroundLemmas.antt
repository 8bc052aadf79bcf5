-- The branches around a node, and the branch whose case it is.
use Rattle.std.proofs.Common.{◌≡◌, ℕ, ◌+◌, ◌-◌, ◌<◌, ◌≤◌, min, Bool, true, false, not, ◌&&◌, ltb, leb, List, [], ◌∷◌, map, filter, length, get_or, sum_by, option_to_list, sym, ◌∙◌, ap, zero-add, arith}
use Rattle.std.specs.List.{range_with_len, list_any, enumerate_from}
use Rattle.std.specs.Cmp.{both_ways}
use Rattle.std.proofs.lemmas.Bool.{ltb-true, leb-true, lt-ltb, le-leb, and_parts, and_from, not-true, not_from_false, false_from_ne_true, true≢false, false≢true}
use Rattle.std.proofs.lemmas.List.{length-map, get_or-map}
use Rattle.std.proofs.lemmas.List.FromFn.{length-enumerate_from, get_or-enumerate_from}
use Rattle.std.proofs.lemmas.List.Sums.{sum_by-cons}
use Rattle.std.proofs.lemmas.Option.{slice_get-get_or}
use Rattle.fly_docs.specs.declared.node.Node.{Node}
use Rattle.fly_docs.specs.declared.workflow.Workflow.{Workflow}
use Rattle.fly_docs.specs.Plans.{nodes_of, inner_nodes, places_of}
use Rattle.fly_docs.specs.Edges.{inner_count, is_inside, is_case}
use Rattle.fly_links.specs.Rows.{has_place, row_at, rows_with, transposed}
use Rattle.fly_links.specs.Around.{inner_places, branches_around, last_alone}
use Rattle.fly_links.proofs.RowLemmas.{filter_alike, map_alike}
use Rattle.fly_links.proofs.RangeLemmas.{in_range, from_range, any_in_range, any_from_range, IsLast, last_from, last_is}

pub first_of : {X : Type 0} (xs : List X) (t : ℕ) → t < length xs → X
first_of [] t lt = absurd (omega arith)
first_of (x ∷ xs) t lt = x

-- the row of an element with its place
pub row_of : {X : Type 0} (f : ℕ × X → List ℕ) (xs : List X) (t : ℕ) (d : X) → t < length xs → row_at (map f (enumerate_from 0 xs)) t ≡ f (t, get_or xs t d)
row_of f xs t d lt =
    get_or-map f (enumerate_from 0 xs) t (0, d) [] (omega (arith, lt, length-enumerate_from 0 xs))
    ∙ ap f (get_or-enumerate_from 0 xs t (0, d) lt ∙ ap (λ k. (k, get_or xs t d)) (zero-add t))

module _ (w : Workflow) where
  abbrev count : ℕ
  count = length (nodes_of w)

  inner_is : (t : ℕ) (d : Node) → t < count → inner_count w t ≡ length (inner_nodes (get_or (nodes_of w) t d))
  inner_is t d lt =
      let f : Node → ℕ = λ n. length (inner_nodes n) in
      ap (λ o. sum_by f (option_to_list o)) (slice_get-get_or (nodes_of w) t d lt)
      ∙ sum_by-cons f (get_or (nodes_of w) t d) [] ∙ omega arith

  pub inside_is : (t v : ℕ) (d : Node) → t < count → v < count → has_place (inner_places count t (get_or (nodes_of w) t d)) v ≡ is_inside w t v
  inside_is t v d lt within =
      let m = length (inner_nodes (get_or (nodes_of w) t d)) in
      let same : inner_count w t ≡ m = inner_is t d lt in
      let n = min m (count - (t + 1)) in
      both_ways (has_place (range_with_len (t + 1) n) v) (is_inside w t v)
      (λ e. let r = from_range (t + 1) n v e in
      and_from (ltb t v) (leb v (t + inner_count w t)) (lt-ltb t v (omega (arith, r.0))) (le-leb v (t + inner_count w t) (omega (arith, r.1, same))))
      (λ e. let r = and_parts (ltb t v) (leb v (t + inner_count w t)) e in
      let after : t < v = ltb-true t v r.0 in
      let up_to : v ≤ t + inner_count w t = leb-true v (t + inner_count w t) r.1 in
      in_range (t + 1) n v (omega (arith, after)) (omega (arith, after, up_to, same, within)))

  pub around_is : (rows : List (List ℕ)) → rows ≡ map (λ at. inner_places count at.0 at.1) (enumerate_from 0 (nodes_of w))
      → transposed count rows ≡ map (branches_around w) (places_of w)
  around_is rows is =
      let f : ℕ × Node → List ℕ = λ at. inner_places count at.0 at.1 in
      let long : length rows ≡ count = ap length is ∙ length-map (enumerate_from 0 (nodes_of w)) f ∙ length-enumerate_from 0 (nodes_of w) in
      map_alike (rows_with rows) (branches_around w) 0 count
      (λ v _ v_in.
      ap (λ n. filter (λ t. has_place (row_at rows t) v) (range_with_len 0 n)) long
      ∙ filter_alike (λ t. has_place (row_at rows t) v) (λ t. is_inside w t v) 0 count
      (λ t _ t_in.
      let d : Node = first_of (nodes_of w) t (omega (arith, t_in)) in
      ap (λ r. has_place (row_at r t) v) is
      ∙ ap (λ r. has_place r v) (row_of f (nodes_of w) t d (omega (arith, t_in)))
      ∙ inside_is t v d (omega (arith, t_in)) (omega (arith, v_in))))

  -- ---- cases

  case_from : (v u : ℕ) → v < count → u < count → IsLast (λ t. is_inside w t u) count v → is_case w v u ≡ true
  case_from v u v_in u_in last =
      let between : ℕ → Bool = λ t. is_inside w v t && is_inside w t u in
      let none : list_any between (places_of w) ≡ false =
      false_from_ne_true (list_any between (places_of w)) (λ e.
      let t = any_from_range between 0 count e in
      let parts = and_parts (is_inside w v t.0) (is_inside w t.0 u) t.3 in
      let after : v < t.0 = ltb-true v t.0 (and_parts (ltb v t.0) (leb t.0 (v + inner_count w v)) parts.0).0 in
      true≢false (sym parts.1 ∙ last.none_later t.0 after (omega (arith, t.2)))) in
      and_from (is_inside w v u) (not (list_any between (places_of w))) last.passes (not_from_false (list_any between (places_of w)) none)

  last_by_case : (v u : ℕ) → v < count → u < count → is_case w v u ≡ true → IsLast (λ t. is_inside w t u) count v
  last_by_case v u v_in u_in e =
      let between : ℕ → Bool = λ t. is_inside w v t && is_inside w t u in
      let parts = and_parts (is_inside w v u) (not (list_any between (places_of w))) e in
      let none : list_any between (places_of w) ≡ false = not-true (list_any between (places_of w)) parts.1 in
      let outer = and_parts (ltb v u) (leb u (v + inner_count w v)) parts.0 in
      let up_to : u ≤ v + inner_count w v = leb-true u (v + inner_count w v) outer.1 in
      record {
        passes = parts.0;
        below = v_in;
        none_later = λ t lt t_in. false_from_ne_true (is_inside w t u) (λ inside.
            let before : t < u = ltb-true t u (and_parts (ltb t u) (leb u (t + inner_count w t)) inside).0 in
            let here : is_inside w v t ≡ true =
            and_from (ltb v t) (leb t (v + inner_count w v)) (lt-ltb v t lt) (le-leb t (v + inner_count w v) (omega (arith, before, up_to))) in
            false≢true (sym none ∙ any_in_range between 0 count t (omega arith) (omega (arith, t_in))
            (and_from (is_inside w v t) (is_inside w t u) here inside)));
      }

  -- the innermost branch around a node is the one whose case it is
  pub case_is : (v u : ℕ) → v < count → u < count → has_place (last_alone (branches_around w u)) v ≡ is_case w v u
  case_is v u v_in u_in =
      both_ways (has_place (last_alone (branches_around w u)) v) (is_case w v u)
      (λ e. case_from v u v_in u_in (last_from (λ t. is_inside w t u) count v e))
      (λ e. last_is (λ t. is_inside w t u) count v (last_by_case v u v_in u_in e))
