-- Lists by ids, and what a closure has.
use Rattle.std.proofs.Common.{◌≡◌, ℕ, ◌+◌, ◌<◌, Bool, eqb, List, [], ◌∷◌, map, length, take, get_or, Option, Some, None, Ordering, Less, Equal, Greater, refl, sym, ◌∙◌, ap, zero-add}
use Rattle.std.specs.Borrow.{Bor}
use Rattle.std.specs.List.{list_any, enumerate_from}
use Rattle.std.specs.Option.{option_to_list}
use Rattle.std.specs.Ordering.{nat_cmp, match_ordering}
use Rattle.std.specs.Cmp.Lexicographic.{slice_cmp}
use Rattle.std.specs.BTreeMap.{insert_entry}
use Rattle.std.specs.FinMap.Entries.{put, by_order}
use Rattle.std.proofs.lemmas.List.Sums.{fold-append}
use Rattle.fly_types.specs.declared.text.Text.{Text}
use Rattle.fly_docs.specs.declared.node.Node.{Node}
use Rattle.fly_docs.specs.declared.workflow.Workflow.{Workflow}
use Rattle.fly_docs.specs.declared.workflow.Bundle.{Bundle}
use Rattle.fly_docs.specs.Plans.{nodes_of, places_of}
use Rattle.fly_docs.specs.Reaching.{primary_place, is_primary_place}
use Rattle.fly_docs.specs.Closures.{by_id, ids_at, ids_or}
use Rattle.fly_links.specs.Tables.{is_place}
use Rattle.fly_links.specs.Rows.{row_at}
use Rattle.fly_links.specs.Connecting.{lists_with}
use Rattle.fly_links.proofs.RowLemmas.{or_false}
use Rattle.fly_links.proofs.LoopLemmas.{placed_more, placed_alike}
use Rattle.fly_links.proofs.LinkLemmas.{row_by_place}

-- an insert into an ordered map puts the entry in its place
pub put_is : {K X : Type 0} (cmp : K → K → Ordering) (es : List (K × X)) (k : K) (v : X) → insert_entry cmp es k v ≡ put cmp k v es
put_is cmp [] k v = refl
put_is cmp (e ∷ es) k v =
    elim (cmp k e.0) as (λ o. match_ordering o ((k, v) ∷ e ∷ es) ((e.0, v) ∷ es) (e ∷ insert_entry cmp es k v)
    ≡ by_order o ((k, v) ∷ e ∷ es) ((e.0, v) ∷ es) (e ∷ put cmp k v es))
    [ Less ↦ refl | Equal ↦ refl | Greater ↦ ap (λ r. e ∷ r) (put_is cmp es k v) ]

abbrev list_of : Workflow → Text → List (List ℕ) → ℕ × Node → Text × List Text
list_of w other rows at = (at.1.id, ids_or other (ids_at w (row_at rows at.0)))

-- the lists of the first nodes
abbrev pub lists_before : Workflow → Text → List ℕ → Text → List (List ℕ) → List Node → List (Text × List Text)
lists_before w outer ends other rows nodes = by_id ((outer, ids_at w ends) ∷ map (list_of w other rows) (enumerate_from 0 nodes))

pub lists_more : (w : Workflow) (outer : Text) (ends : List ℕ) (other : Text) (rows : List (List ℕ)) (nodes : List (Bor Node)) (i : ℕ) (node : Bor Node)
    → i < length nodes → node ≡ get_or nodes i node → (id : Text) (ids : List Text) (now next : List (Text × List Text))
    → id ≡ node.now.id → ids ≡ ids_or other (ids_at w (row_at rows i)) → now ≡ lists_before w outer ends other rows (map (λ n. n.now) (take i nodes))
    → next ≡ put (slice_cmp nat_cmp) id ids now → next ≡ lists_before w outer ends other rows (map (λ n. n.now) (take (i + 1) nodes))
lists_more w outer ends other rows nodes i node lt is id ids now next id_is ids_are before step =
    let g = list_of w other rows in
    let first : Text × List Text = (outer, ids_at w ends) in
    let old = map g (enumerate_from 0 (map (λ (n : Bor Node). n.now) (take i nodes))) in
    step
    ∙ (λ k. put (slice_cmp nat_cmp) (id_is k) (ids_are k) (before k))
    ∙ sym (fold-append (λ (sorted : List (Text × List Text)) (l : Text × List Text). put (slice_cmp nat_cmp) l.0 l.1 sorted) [] (first ∷ old) (g (i, node.now) ∷ []))
    ∙ ap (λ ls. by_id (first ∷ ls)) (sym (placed_more g nodes i node lt is))

-- lists by the rows of a table that has a row for each place
pub lists_by_rows : (w : Workflow) (outer : Text) (ends : List ℕ) (other : Text) (f : ℕ → List ℕ) (rows : List (List ℕ)) → rows ≡ map f (places_of w)
    → lists_with w outer ends other rows
    ≡ (outer, ids_at w ends) ∷ map (λ (at : ℕ × Node). (at.1.id, ids_or other (ids_at w (f at.0)))) (enumerate_from 0 (nodes_of w))
lists_by_rows w outer ends other f rows is =
    ap (λ ls. (outer, ids_at w ends) ∷ ls)
    (placed_alike (list_of w other rows) (λ at. (at.1.id, ids_or other (ids_at w (f at.0)))) 0 (nodes_of w)
    (λ k n lt. ap (λ row. (n.id, ids_or other (ids_at w row)))
    (ap (λ m. row_at rows m) (zero-add k) ∙ ap (λ rs. row_at rs k) is ∙ row_by_place f (length (nodes_of w)) k lt ∙ ap f (sym (zero-add k)))))

at_place : (o : Option ℕ) (place : ℕ) → list_any (λ p. eqb p place) (option_to_list o) ≡ is_place o place
at_place None place = refl
at_place (Some p) place = or_false (eqb p place)

pub primary_is : (b : Bundle) (found : Option ℕ) (place : ℕ) (at : Bool) → found ≡ primary_place b → at ≡ is_place found place → is_primary_place b place ≡ at
primary_is b found place at found_is at_is = ap (λ o. list_any (λ p. eqb p place) (option_to_list o)) (sym found_is) ∙ at_place found place ∙ sym at_is
