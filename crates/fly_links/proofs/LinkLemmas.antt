-- What a node needs, by rows; and the edges that rows make.
use Rattle.std.proofs.Common.{◌≡◌, ℕ, ◌<◌, Bool, true, false, ◌||◌, ◌&&◌, eqb, List, [], ◌++◌, map, length, get_or, option_to_list, refl, sym, ◌∙◌, ap, arith}
use Rattle.std.specs.List.{range_with_len, list_any, filter, flat_map, filter_map}
use Rattle.std.proofs.lemmas.List.{append-nil, length-map, get_or-map}
use Rattle.std.proofs.lemmas.List.Folds.{list_any-append}
use Rattle.std.proofs.lemmas.List.FromFn.{get_or-map-range_with_len, length-map-range_with_len}
use Rattle.std.proofs.lemmas.Option.{slice_get-get_or}
use Rattle.fly_docs.specs.declared.workflow.Workflow.{Workflow}
use Rattle.fly_docs.specs.Plans.{nodes_of, place_named, places_of}
use Rattle.fly_docs.specs.Edges.{named_ids, named_places, names_place, is_inside, is_case, needs}
use Rattle.fly_docs.specs.Closures.{needed_by, needing}
use Rattle.fly_links.specs.Rows.{has_place, row_at, rows_with, transposed}
use Rattle.fly_links.specs.Named.{places_in}
use Rattle.fly_links.specs.Around.{branches_around, last_alone}
use Rattle.fly_links.specs.Links.{joined_row, joined_rows}
use Rattle.fly_links.proofs.RowLemmas.{filter_alike, map_alike, has_filter}
use Rattle.fly_links.proofs.RangeLemmas.{any_flat, any_filtered, any_alike}
use Rattle.fly_links.proofs.AroundLemmas.{first_of, case_is}

-- a row of a table by places
pub row_by_place : (f : ℕ → List ℕ) (n v : ℕ) → v < n → row_at (map f (range_with_len 0 n)) v ≡ f v
row_by_place f n v lt = get_or-map-range_with_len f 0 n v v [] lt (omega arith)

pub rows_by_place : (f : ℕ → List ℕ) (n : ℕ) → length (map f (range_with_len 0 n)) ≡ n
rows_by_place f n = length-map-range_with_len f 0 n

-- what a transposed table has
pub has_transposed : (rows : List (List ℕ)) (n u v : ℕ) → u < n → v < length rows → has_place (row_at (transposed n rows) u) v ≡ has_place (row_at rows v) u
has_transposed rows n u v lt within =
    ap (λ r. has_place r v) (row_by_place (rows_with rows) n u lt)
    ∙ has_filter (λ t. has_place (row_at rows t) u) 0 (length rows) v (omega arith) (omega (arith, within))

module _ (w : Workflow) where
  abbrev count : ℕ
  count = length (nodes_of w)

  abbrev named : List (List ℕ)
  named = map (places_in w) (nodes_of w)

  -- the names of each node, once each
  abbrev pub named_once : List (List ℕ)
  named_once = transposed count (transposed count named)

  abbrev around : List (List ℕ)
  around = map (branches_around w) (places_of w)

  abbrev pub cases_in : List (List ℕ)
  cases_in = transposed count (map last_alone around)

  places_at : (v : ℕ) → v < count → row_at named v ≡ named_places w v
  places_at v lt =
      let d = first_of (nodes_of w) v lt in
      get_or-map (places_in w) (nodes_of w) v d [] lt
      ∙ sym (append-nil (places_in w (get_or (nodes_of w) v d)))
      ∙ ap (λ o. flat_map (λ n. filter_map (place_named w) (named_ids n)) (option_to_list o)) (sym (slice_get-get_or (nodes_of w) v d lt))

  has_named : (v u : ℕ) → v < count → u < count → has_place (row_at named_once v) u ≡ names_place w v u
  has_named v u v_in u_in =
      let twice : length (transposed count named) ≡ count = rows_by_place (rows_with named) count in
      has_transposed (transposed count named) count v u v_in (omega (arith, u_in, twice))
      ∙ has_transposed named count u v u_in (omega (arith, v_in, length-map (nodes_of w) (places_in w)))
      ∙ ap (λ r. has_place r u) (places_at v v_in)

  has_case : (v u : ℕ) → v < count → u < count → has_place (row_at cases_in v) u ≡ is_case w v u
  has_case v u v_in u_in =
      let long : length around ≡ count = rows_by_place (branches_around w) count in
      has_transposed (map last_alone around) count v u v_in (omega (arith, u_in, long, length-map around last_alone))
      ∙ ap (λ r. has_place r v)
      (get_or-map last_alone around u [] [] (omega (arith, u_in, long)) ∙ ap last_alone (row_by_place (branches_around w) count u u_in))
      ∙ case_is w v u v_in u_in

  has_outer : (v u : ℕ) → v < count → u < count
      → has_place (flat_map (row_at named_once) (row_at around v)) u ≡ list_any (λ t. is_inside w t v && names_place w t u) (places_of w)
  has_outer v u v_in u_in =
      any_flat (λ x. eqb x u) (row_at named_once) (row_at around v)
      ∙ ap (list_any (λ t. has_place (row_at named_once t) u)) (row_by_place (branches_around w) count v v_in)
      ∙ any_filtered (λ t. has_place (row_at named_once t) u) (λ t. is_inside w t v) (places_of w)
      ∙ any_alike (λ t. is_inside w t v && has_place (row_at named_once t) u) (λ t. is_inside w t v && names_place w t u) 0 count
      (λ t _ t_in. ap (λ b. is_inside w t v && b) (has_named t u (omega (arith, t_in)) u_in))

  regrouped : (a b c : Bool) → ((a || b) || c) ≡ (a || b || c)
  regrouped true b c = refl
  regrouped false b c = refl

  abbrev pub joined : List (List ℕ)
  joined = joined_rows named_once cases_in around

  has_joined : (v u : ℕ) → v < count → u < count → has_place (joined_row named_once cases_in around v) u ≡ needs w v u
  has_joined v u v_in u_in =
      let names = row_at named_once v in
      let cases = row_at cases_in v in
      let outer = flat_map (row_at named_once) (row_at around v) in
      list_any-append (λ x. eqb x u) (names ++ cases) outer
      ∙ ap (λ b. b || has_place outer u) (list_any-append (λ x. eqb x u) names cases)
      ∙ regrouped (has_place names u) (has_place cases u) (has_place outer u)
      ∙ (λ i. has_named v u v_in u_in i || has_case v u v_in u_in i || has_outer v u v_in u_in i)

  joined_long : length joined ≡ count
  joined_long = rows_by_place (joined_row named_once cases_in around) (length named_once) ∙ rows_by_place (rows_with (transposed count named)) count

  row_needs : (v u : ℕ) → v < count → u < count → has_place (row_at joined v) u ≡ needs w v u
  row_needs v u v_in u_in =
      let long : length named_once ≡ count = rows_by_place (rows_with (transposed count named)) count in
      ap (λ r. has_place r u) (row_by_place (joined_row named_once cases_in around) (length named_once) v (omega (arith, v_in, long)))
      ∙ has_joined v u v_in u_in

  pub needing_is : transposed count joined ≡ map (needing w) (places_of w)
  needing_is =
      map_alike (rows_with joined) (needing w) 0 count
      (λ u _ u_in.
      ap (λ n. filter (λ v. has_place (row_at joined v) u) (range_with_len 0 n)) joined_long
      ∙ filter_alike (λ v. has_place (row_at joined v) u) (λ v. needs w v u) 0 count (λ v _ v_in. row_needs v u (omega (arith, v_in)) (omega (arith, u_in))))

  pub needed_is : transposed count (map (needing w) (places_of w)) ≡ map (needed_by w) (places_of w)
  needed_is =
      let rows = map (needing w) (places_of w) in
      map_alike (rows_with rows) (needed_by w) 0 count
      (λ v _ v_in.
      ap (λ n. filter (λ u. has_place (row_at rows u) v) (range_with_len 0 n)) (rows_by_place (needing w) count)
      ∙ filter_alike (λ u. has_place (row_at rows u) v) (needs w v) 0 count
      (λ u _ u_in. ap (λ r. has_place r v) (row_by_place (needing w) count u (omega (arith, u_in)))
      ∙ has_filter (λ t. needs w t u) 0 count v (omega arith) (omega (arith, v_in))))
