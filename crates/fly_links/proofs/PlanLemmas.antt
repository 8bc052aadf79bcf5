-- How many nodes of a kind a run has, by the workflows that run others.
use Rattle.std.proofs.Common.{◌≡◌, ℕ, zero, suc, ◌+◌, ◌<◌, Bool, List, [], ◌∷◌, ◌++◌, map, length, get_or, sum_by, Option, Some, None, option_to_list, position, refl, sym, ◌∙◌, ap, ap₂, arith}
use Rattle.std.specs.List.{flat_map, filter_map, enumerate_from, slice_get, cons_option}
use Rattle.std.specs.Option.{option_and_then}
use Rattle.std.proofs.lemmas.List.{get_or-map, append-nil}
use Rattle.std.proofs.lemmas.List.Quantifiers.{position-Some}
use Rattle.std.proofs.lemmas.List.Sums.{sum_by-cons, sum_by-append}
use Rattle.std.proofs.lemmas.Option.{slice_get_within, slice_get-get_or, get_or_from_slice_get, none-some}
use Rattle.fly_types.specs.declared.text.Text.{Text}
use Rattle.fly_docs.specs.declared.names.Identifier.{Identifier}
use Rattle.fly_docs.specs.declared.node.Node.{Node}
use Rattle.fly_docs.specs.declared.workflow.Workflow.{Workflow}
use Rattle.fly_docs.specs.declared.workflow.Bundle.{Bundle}
use Rattle.fly_docs.specs.Lookups.{is_same, workflow_named}
use Rattle.fly_docs.specs.Plans.{PlanNode, nodes_of, plan_within, plan_of, max_nesting, subworkflow_id, subworkflow_of}
use Rattle.fly_docs.specs.Reaching.{workflow_place, primary_place, run_places}
use Rattle.fly_links.specs.Totals.{total_within}
use Rattle.fly_links.proofs.PlaceLemmas.{find_at_place, find_nowhere}

first : (f : ℕ → ℕ) (o : Option ℕ) (ys : List ℕ) → sum_by f (cons_option o ys) ≡ sum_by f (option_to_list o) + sum_by f ys
first f None ys = omega arith
first f (Some y) ys = sum_by-cons f y ys ∙ ap (λ n. n + sum_by f ys) (sym (sum_by-cons f y [] ∙ omega arith))

sum_found : {X : Type 0} (f : ℕ → ℕ) (h : X → Option ℕ) (xs : List X) → sum_by f (filter_map h xs) ≡ sum_by (λ x. sum_by f (option_to_list (h x))) xs
sum_found f h [] = refl
sum_found f h (x ∷ xs) =
    first f (h x) (filter_map h xs)
    ∙ ap (λ n. sum_by f (option_to_list (h x)) + n) (sum_found f h xs)
    ∙ sym (sum_by-cons (λ y. sum_by f (option_to_list (h y))) x xs)

no_sum : {X : Type 0} (xs : List X) → sum_by (λ x. 0) xs ≡ 0
no_sum [] = refl
no_sum (x ∷ xs) = sum_by-cons (λ x. 0) x xs ∙ omega (arith, no_sum xs)

some_there : {X : Type 0} (xs : List X) (i : ℕ) → i < length xs → slice_get xs i ≡ None → ⊥
some_there [] i lt e = omega arith
some_there (x ∷ xs) i lt e = none-some (get_or (x ∷ xs) i x) (sym e ∙ slice_get-get_or (x ∷ xs) i x lt)

pub bound_of : {X : Type 0} (p : X → Bool) (xs : List X) (i : ℕ) → position p xs ≡ Some i → i < length xs
bound_of p [] i e = absurd (none-some i e)
bound_of p (x ∷ xs) i e = (position-Some p (x ∷ xs) i x e).0

module _ (q : Node → ℕ) where
  abbrev weight : List PlanNode → ℕ
  weight plan = sum_by (λ (p : PlanNode). q p.node) plan

  -- what stands inside the nodes counts beside them
  plan_with-weight : (inside : List Text → Node → List PlanNode) (inner : Node → ℕ) → ((path : List Text) (n : Node) → weight (inside path n) ≡ inner n)
      → (around : List Text) (w : Workflow) (k : ℕ) (ns : List Node)
      → weight (flat_map (λ (at : ℕ × Node). let path = around ++ at.1.id ∷ [] in
      record { path = path; workflow = w; place = at.0; node = at.1 } ∷ inside path at.1) (enumerate_from k ns))
      ≡ sum_by q ns + sum_by inner ns
  plan_with-weight inside inner same around w k [] = refl
  plan_with-weight inside inner same around w k (n ∷ ns) =
      let path = around ++ n.id ∷ [] in
      let here : PlanNode = record { path = path; workflow = w; place = k; node = n } in
      let rest = flat_map (λ (at : ℕ × Node). let path = around ++ at.1.id ∷ [] in
      record { path = path; workflow = w; place = at.0; node = at.1 } ∷ inside path at.1) (enumerate_from (k + 1) ns) in
      let f : PlanNode → ℕ = λ p. q p.node in
      let parts : weight ((here ∷ inside path n) ++ rest) ≡ (q n + weight (inside path n)) + weight rest =
      sum_by-append f (here ∷ inside path n) rest ∙ ap (λ m. m + weight rest) (sum_by-cons f here (inside path n)) in
      omega (arith, parts, same path n, plan_with-weight inside inner same around w (k + 1) ns, sum_by-cons q n ns, sum_by-cons inner n ns)

  module _ (b : Bundle) where
    abbrev own : List ℕ
    own = map (λ w. sum_by q (nodes_of w)) b.workflows

    abbrev runs : List (List ℕ)
    runs = map (run_places b) b.workflows

    abbrev total : ℕ → ℕ → ℕ
    total n place = total_within n runs own own place

    abbrev IsCounted : ℕ → Type 0
    IsCounted n = (around : List Text) (place : ℕ) (w : Workflow) → slice_get b.workflows place ≡ Some w → weight (plan_within n b around w) ≡ total n place

    own_at : (place : ℕ) (w : Workflow) → slice_get b.workflows place ≡ Some w → get_or own place 0 ≡ sum_by q (nodes_of w)
    own_at place w e =
        get_or-map (λ w. sum_by q (nodes_of w)) b.workflows place w 0 (slice_get_within b.workflows place w e)
        ∙ ap (λ w. sum_by q (nodes_of w)) (get_or_from_slice_get b.workflows place w w e)

    runs_at : (place : ℕ) (w : Workflow) → slice_get b.workflows place ≡ Some w → get_or runs place [] ≡ run_places b w
    runs_at place w e =
        get_or-map (run_places b) b.workflows place w [] (slice_get_within b.workflows place w e)
        ∙ ap (run_places b) (get_or_from_slice_get b.workflows place w w e)

    at_place : (n : ℕ) → IsCounted n → (path : List Text) (place : ℕ) (o named : Option Workflow) → slice_get b.workflows place ≡ o → place < length b.workflows → named ≡ o
        → weight (flat_map (plan_within n b path) (option_to_list named)) ≡ sum_by (total n) (place ∷ [])
    at_place n counted path place None named e lt same = absurd (some_there b.workflows place lt e)
    at_place n counted path place (Some w) named e lt same =
        ap (λ o. weight (flat_map (plan_within n b path) (option_to_list o))) same
        ∙ ap weight (append-nil (plan_within n b path w))
        ∙ counted path place w e
        ∙ sym (sum_by-cons (total n) place [] ∙ omega arith)

    -- the plan of a workflow by its place
    placed : (n : ℕ) → IsCounted n → (path : List Text) (id : Identifier) (o : Option ℕ) → workflow_place b id ≡ o
        → weight (flat_map (plan_within n b path) (option_to_list (workflow_named b id))) ≡ sum_by (total n) (option_to_list o)
    placed n counted path id None e =
        ap (λ w. weight (flat_map (plan_within n b path) (option_to_list w))) (find_nowhere (λ (w : Workflow). is_same w.id id) b.workflows e)
    placed n counted path id (Some place) e =
        let test : Workflow → Bool = λ w. is_same w.id id in
        let named : workflow_named b id ≡ slice_get b.workflows place = find_at_place test b.workflows place e in
        let within = bound_of test b.workflows place e in
        at_place n counted path place (slice_get b.workflows place) (workflow_named b id) refl within named

    by_id : (n : ℕ) → IsCounted n → (path : List Text) (id : Option Identifier)
        → weight (flat_map (plan_within n b path) (option_to_list (option_and_then (workflow_named b) id))) ≡ sum_by (total n) (option_to_list (option_and_then (workflow_place b) id))
    by_id n counted path None = refl
    by_id n counted path (Some id) = placed n counted path id (workflow_place b id) refl

    inside_node : (n : ℕ) → IsCounted n → (path : List Text) (node : Node)
        → weight (flat_map (plan_within n b path) (option_to_list (subworkflow_of b node))) ≡ sum_by (total n) (option_to_list (option_and_then (workflow_place b) (subworkflow_id node)))
    inside_node n counted path node = by_id n counted path (subworkflow_id node)

    pub plan_counted : (n : ℕ) → IsCounted n
    unfolding plan_within total_within
    plan_counted zero around place w e =
        plan_with-weight (λ path node. []) (λ node. 0) (λ path node. refl) around w 0 (nodes_of w)
        ∙ omega (arith, own_at place w e, no_sum (nodes_of w))
    plan_counted (suc n) around place w e =
        let inner : Node → ℕ = λ node. sum_by (total n) (option_to_list (option_and_then (workflow_place b) (subworkflow_id node))) in
        plan_with-weight (λ path node. flat_map (plan_within n b path) (option_to_list (subworkflow_of b node))) inner
        (inside_node n (plan_counted n)) around w 0 (nodes_of w)
        ∙ ap₂ (λ x y. x + y) (sym (own_at place w e))
        (sym (sum_found (total n) (λ node. option_and_then (workflow_place b) (subworkflow_id node)) (nodes_of w))
        ∙ ap (sum_by (total n)) (sym (runs_at place w e)))

    -- the run of the primary workflow
    pub plan_total : weight (plan_of b) ≡ sum_by (total max_nesting) (option_to_list (primary_place b))
    plan_total = placed max_nesting (plan_counted max_nesting) [] b.primary (primary_place b) refl
