-- What a bundle's primary workflow reaches, by marks at places.
use Rattle.std.proofs.Common.{◌≡◌, ℕ, ◌+◌, ◌<◌, min, Bool, true, false, cond, ◌&&◌, ◌||◌, ltb, eqb, List, [], ◌∷◌, map, filter, length, get_or, sum_by, count_by, All, zero-add, Option, Some, None, option_to_list, refl, sym, ◌∙◌, ap, ap₂, subst, arith}
use Rattle.std.specs.Borrow.{Bor}
use Rattle.std.specs.Cmp.{both_ways}
use Rattle.std.specs.List.{flat_map, filter_map, enumerate_from, list_any, cons_option}
use Rattle.std.specs.Option.{option_and_then}
use Rattle.std.proofs.lemmas.Bool.{lt-ltb, ltb-true}
use Rattle.std.proofs.lemmas.List.{append-nil, length-map}
use Rattle.std.proofs.lemmas.List.Elements.{All-nil, All-cons, All-map}
use Rattle.std.proofs.lemmas.List.Sums.{sum_by-cons}
use Rattle.std.proofs.lemmas.Option.{none-some}
use Rattle.fly_docs.specs.declared.names.Identifier.{Identifier}
use Rattle.fly_docs.specs.declared.task.Task.{Task}
use Rattle.fly_docs.specs.declared.node.Node.{Node}
use Rattle.fly_docs.specs.declared.workflow.Workflow.{Workflow}
use Rattle.fly_docs.specs.declared.workflow.Bundle.{Bundle}
use Rattle.fly_docs.specs.Lookups.{is_same}
use Rattle.fly_docs.specs.Plans.{nodes_of, plan_of, max_nesting, subworkflow_id, is_array}
use Rattle.fly_docs.specs.Reaching.{reaches, goes_on, workflow_place, primary_place, run_places, workflow_edges, is_reached_from, reached_places, reached_workflows, reached_tasks, run_task_places}
use Rattle.fly_links.specs.Search.{AreBelow, edges_along}
use Rattle.fly_links.specs.Totals.{total_within}
use Rattle.fly_links.specs.Reach.{recursive_places, nests_too_deep, array_count}
use Rattle.fly_links.specs.Reaches.{runs_by_place, is_reached_place, tasks_run}
use Rattle.fly_links.proofs.Numbered.{picked_alike, picked_none, filter_twice, flat_map_images}
use Rattle.fly_links.proofs.TotalLemmas.{walks_go_on}
use Rattle.fly_links.proofs.PlanLemmas.{bound_of, plan_total}

-- ---- runs

one_found : (P : ℕ → Type 0) (o : Option ℕ) (ys : List ℕ) → ((y : ℕ) → o ≡ Some y → P y) → All P ys → All P (cons_option o ys)
one_found P None ys each all = all
one_found P (Some y) ys each all = All-cons P y ys (each y refl) all

or_nothing : (x : Bool) → (x || false) ≡ x
or_nothing true = refl
or_nothing false = refl

seconds : {X : Type 0} (xs : List (ℕ × Bor X)) → map (λ at. at.1.now) xs ≡ map (λ (at : ℕ × X). at.1) (map (λ at. (at.0, at.1.now)) xs)
seconds [] = refl
seconds (x ∷ xs) = ap (λ ys. x.1.now ∷ ys) (seconds xs)

ones : {X : Type 0} (xs : List X) → length xs ≡ sum_by (λ x. 1) xs
ones [] = refl
ones (x ∷ xs) = omega (arith, ones xs, sum_by-cons (λ y. 1) x xs)

capped_test : (n : ℕ) → ltb 0 (min (n + 0) 1) ≡ ltb 0 n
capped_test n =
    both_ways (ltb 0 (min (n + 0) 1)) (ltb 0 n) (λ e. lt-ltb 0 n (omega (arith, ltb-true 0 (min (n + 0) 1) e))) (λ e. lt-ltb 0 (min (n + 0) 1) (omega (arith, ltb-true 0 n e)))

found_all : {X : Type 0} (P : ℕ → Type 0) (h : X → Option ℕ) → ((x : X) (y : ℕ) → h x ≡ Some y → P y) → (xs : List X) → All P (filter_map h xs)
found_all P h each [] = All-nil P
found_all P h each (x ∷ xs) = one_found P (h x) (filter_map h xs) (each x) (found_all P h each xs)

module _ (b : Bundle) where
  place_below : (o : Option Identifier) (j : ℕ) → option_and_then (workflow_place b) o ≡ Some j → j < length b.workflows
  place_below None j e = absurd (none-some j e)
  place_below (Some id) j e = bound_of (λ (w : Workflow). is_same w.id id) b.workflows j e

  pub runs_below : AreBelow (length (runs_by_place b)) (runs_by_place b)
  runs_below =
      let n = length b.workflows in
      subst (λ m. AreBelow m (runs_by_place b)) (sym (length-map b.workflows (run_places b)))
      (All-map (λ ts. All (λ t. t < n) ts) (run_places b) b.workflows
      (λ k d lt. found_all (λ t. t < n) (λ (x : Node). option_and_then (workflow_place b) (subworkflow_id x))
      (λ x j e. place_below (subworkflow_id x) j e) (nodes_of (get_or b.workflows k d))))

  pub run_edges : edges_along (runs_by_place b) ≡ workflow_edges b
  run_edges = flat_map_images (run_places b) (λ at. map (λ j. (at.0, j)) at.1) 0 b.workflows

  -- ---- reached workflows

  pub place_reached : (primary v : ℕ) → primary_place b ≡ Some primary
      → (eqb primary v || reaches (edges_along (runs_by_place b)) primary v) ≡ is_reached_place b v
  place_reached primary v e =
      ap (λ edges. eqb primary v || reaches edges primary v) run_edges
      ∙ sym (or_nothing (is_reached_from b primary v))
      ∙ ap (λ o. list_any (λ p. is_reached_from b p v) (option_to_list o)) (sym e)

  by_primary : (o : Option ℕ) → filter (λ (at : ℕ × Workflow). list_any (λ p. is_reached_from b p at.0) (option_to_list o)) (enumerate_from 0 b.workflows)
      ≡ flat_map (λ primary. filter (λ (at : ℕ × Workflow). is_reached_from b primary at.0) (enumerate_from 0 b.workflows)) (option_to_list o)
  by_primary None = picked_none (λ at. false) 0 b.workflows (λ k x lt. refl)
  by_primary (Some primary) =
      picked_alike (λ at. is_reached_from b primary at.0 || false) (λ at. is_reached_from b primary at.0) 0 b.workflows (λ k x lt. or_nothing _)
      ∙ sym (append-nil _)

  pub reached_picked : (marks : List Bool) → ((v : ℕ) → v < length b.workflows → get_or marks v false ≡ is_reached_place b v)
      → filter (λ at. get_or marks at.0 false) (enumerate_from 0 b.workflows) ≡ reached_places b
  reached_picked marks each =
      picked_alike (λ at. get_or marks at.0 false) (λ at. is_reached_place b at.0) 0 b.workflows
      (λ k x lt. ap (λ m. get_or marks m false) (zero-add k) ∙ each k lt ∙ ap (is_reached_place b) (sym (zero-add k)))
      ∙ by_primary (primary_place b)

  pub recursive_picked : (marks cyclic both : List Bool) → ((v : ℕ) → v < length b.workflows → get_or marks v false ≡ is_reached_place b v)
      → ((v : ℕ) → v < length b.workflows → get_or cyclic v false ≡ reaches (edges_along (runs_by_place b)) v v)
      → ((v : ℕ) → v < length b.workflows → get_or both v false ≡ (get_or marks v false && get_or cyclic v false))
      → filter (λ at. get_or both at.0 false) (enumerate_from 0 b.workflows) ≡ recursive_places b
  recursive_picked marks cyclic both reached round each =
      let edges = workflow_edges b in
      picked_alike (λ at. get_or both at.0 false) (λ at. is_reached_place b at.0 && reaches edges at.0 at.0) 0 b.workflows
      (λ k x lt. ap (λ m. get_or both m false) (zero-add k) ∙ each k lt
      ∙ ap₂ (λ p q. p && q) (reached k lt) (round k lt ∙ ap (λ es. reaches es k k) run_edges)
      ∙ ap (λ m. is_reached_place b m && reaches edges m m) (sym (zero-add k)))
      ∙ sym (filter_twice (λ (at : ℕ × Workflow). reaches edges at.0 at.0) (λ (at : ℕ × Workflow). is_reached_place b at.0) (enumerate_from 0 b.workflows))
      ∙ ap (filter (λ (at : ℕ × Workflow). reaches edges at.0 at.0)) (by_primary (primary_place b))

  -- ---- reached tasks

  pub tasks_picked : (marks : List Bool) (workflows : List (ℕ × Bor Workflow)) (tasks : List (ℕ × Bor Task))
      → map (λ at. (at.0, at.1.now)) workflows ≡ reached_places b
      → ((v : ℕ) → v < length b.tasks → get_or marks v false ≡ list_any (λ place. eqb place v) (tasks_run b (map (λ at. at.1.now) workflows)))
      → map (λ at. (at.0, at.1.now)) tasks ≡ filter (λ at. get_or marks at.0 false) (enumerate_from 0 b.tasks)
      → map (λ at. at.1.now) tasks ≡ reached_tasks b
  tasks_picked marks workflows tasks reached each picked =
      let these : map (λ at. at.1.now) workflows ≡ reached_workflows b = seconds workflows ∙ ap (map (λ at. at.1)) reached in
      let test : ℕ → Bool = λ v. list_any (λ place. eqb place v) (run_task_places b) in
      seconds tasks
      ∙ ap (map (λ at. at.1)) (picked
      ∙ picked_alike (λ at. get_or marks at.0 false) (λ at. test at.0) 0 b.tasks
      (λ k x lt. ap (λ m. get_or marks m false) (zero-add k) ∙ each k lt
      ∙ ap (λ ws. list_any (λ place. eqb place k) (tasks_run b ws)) these ∙ ap test (sym (zero-add k))))

  -- ---- the size of the run

  deep_at : (own last : List ℕ) → ((v : ℕ) → v < length (runs_by_place b) → get_or own v 0 ≡ 0) → ((v : ℕ) → v < length (runs_by_place b) → get_or last v 0 ≡ 1)
      → (o : Option ℕ) → primary_place b ≡ o
      → ltb 0 (min (sum_by (total_within (max_nesting + 1) (runs_by_place b) own last) (option_to_list o)) 1)
      ≡ list_any (goes_on (workflow_edges b) (max_nesting + 1)) (option_to_list o)
  deep_at own last nothing one None e = refl
  deep_at own last nothing one (Some p) e =
      let f : ℕ → ℕ = total_within (max_nesting + 1) (runs_by_place b) own last in
      let within : p < length (runs_by_place b) = omega (arith, place_below (Some b.primary) p e, length-map b.workflows (run_places b)) in
      ap (λ n. ltb 0 (min n 1)) (sum_by-cons f p [])
      ∙ capped_test (f p)
      ∙ sym (walks_go_on (runs_by_place b) runs_below own last nothing one (max_nesting + 1) p within)
      ∙ ap (λ es. goes_on es (max_nesting + 1) p) run_edges
      ∙ sym (or_nothing _)

  pub deep_walks : (own last : List ℕ) (walks : ℕ) → ((v : ℕ) → v < length (runs_by_place b) → get_or own v 0 ≡ 0) → ((v : ℕ) → v < length (runs_by_place b) → get_or last v 0 ≡ 1)
      → walks ≡ min (sum_by (total_within (max_nesting + 1) (runs_by_place b) own last) (option_to_list (primary_place b))) 1
      → ltb 0 walks ≡ nests_too_deep b
  deep_walks own last walks nothing one is = ap (ltb 0) is ∙ deep_at own last nothing one (primary_place b) refl

  pub plan_size : (own : List ℕ) → own ≡ map (λ w. length (nodes_of w)) b.workflows
      → sum_by (total_within max_nesting (runs_by_place b) own own) (option_to_list (primary_place b)) ≡ length (plan_of b)
  plan_size own is =
      let ones_of : own ≡ map (λ w. sum_by (λ (n : Node). 1) (nodes_of w)) b.workflows = is ∙ (λ i. map (λ (w : Workflow). ones (nodes_of w) i) b.workflows) in
      ap (λ o. sum_by (total_within max_nesting (runs_by_place b) o o) (option_to_list (primary_place b))) ones_of
      ∙ sym (plan_total (λ n. 1) b)
      ∙ sym (ones (plan_of b))

  pub arrays_size : (own : List ℕ) → own ≡ map (λ w. count_by is_array (nodes_of w)) b.workflows
      → sum_by (total_within max_nesting (runs_by_place b) own own) (option_to_list (primary_place b)) ≡ array_count b
  arrays_size own is =
      ap (λ o. sum_by (total_within max_nesting (runs_by_place b) o o) (option_to_list (primary_place b))) is
      ∙ sym (plan_total (λ n. cond (is_array n) 1 0) b)
