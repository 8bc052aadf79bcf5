-- What a bundle reaches, as lists, and the faults of its ids and of its run.
use Rattle.std.proofs.Common.{◌≡◌, ◌⊎◌, ℕ, zero, suc, ◌+◌, ◌≤◌, ◌==◌, nat_lt, Bool, true, false, ◌&&◌, cond, if◌then◌else◌, List, [], ◌∷◌, map, filter, flat_map, filter_map, take, length, count_by, slice_get, Contains, Option, Some, None, option_and_then, option_to_list, bytes_eq, refl, sym, ap, ◌∙◌, subst, inl, inr, ⊎_elim, arith}
use Rattle.std.specs.List.{list_any, enumerate_from}
use Rattle.std.proofs.lemmas.Bool.{or_cases, or_left, or_right, and_parts, and_from, eqb-true, eq-eqb, false≢true, false_from_ne_true, ltb-false, le-ltb}
use Rattle.fly_types.specs.declared.text.Text.{Text}
use Rattle.fly_graph.specs.Walks.{IsEdge, IsWalk, Reaches}
use Rattle.fly_graph.proofs.Members.{Contains-filter, Contains-filter_from}
use Rattle.fly_docs.specs.declared.names.Identifier.{Identifier}
use Rattle.fly_docs.specs.declared.task.Task.{Task}
use Rattle.fly_docs.specs.declared.node.Node.{Node}
use Rattle.fly_docs.specs.declared.workflow.Workflow.{Workflow}
use Rattle.fly_docs.specs.declared.workflow.Bundle.{Bundle}
use Rattle.fly_docs.specs.Lookups.{is_same, task_named, primary_of}
use Rattle.fly_docs.specs.Plans.{PlanNode, nodes_of, plan_of, is_array, max_nesting}
use Rattle.fly_docs.specs.Reaching.{reaches, goes_on, primary_place, workflow_edges, IsReachedPlace, IsReached, is_reached_from, reached_places, reached_workflows, task_id_of, IsReachedTask, task_place, run_task_places, reached_tasks}
use Rattle.fly_docs.specs.Typed.{AreDistinct, NestsWithin}
use Rattle.fly_docs.proofs.ReachingLemmas.{reaches-Decides}
use Rattle.fly_faults.specs.declared.fault.Code.TheVariants as code
use Rattle.fly_faults.specs.declared.fault.Fault.{Fault}
use Rattle.fly_faults.specs.Places.{workflow_name, fault_at}
use Rattle.fly_faults.specs.FaultList.{is_repeated, repeated_faults, max_plan, max_arrays, recursive_faults, nests_too_deep, array_count, limit_faults, or_limits}
use Rattle.fly_faults.proofs.Lists.{any_at, any_found, any_none, any_nothing, apart, contains_at, distinct_from, filter_none, filter_nothing, find_position, in_filter_map, in_flat_map, in_map, in_option, in_take, map_none, number_at, numbered, of_filter_map, of_flat_map, of_map, of_option, of_take, position_find}
use Rattle.fly_faults.proofs.Distinct.{same_text, text_same}
use Rattle.fly_faults.proofs.Runs.{run_of_edge}

-- ---- ids

pub same_id : (i j : Identifier) → is_same i j ≡ true → i ≡ j
same_id i j e =
    let p3 = and_parts (bytes_eq i.project j.project && bytes_eq i.domain j.domain && bytes_eq i.name j.name)
    (bytes_eq i.version j.version) e in
    let p2 = and_parts (bytes_eq i.project j.project && bytes_eq i.domain j.domain) (bytes_eq i.name j.name) p3.0 in
    let p1 = and_parts (bytes_eq i.project j.project) (bytes_eq i.domain j.domain) p2.0 in
    let project = same_text i.project j.project p1.0 in
    let domain = same_text i.domain j.domain p1.1 in
    let name = same_text i.name j.name p2.1 in
    let version = same_text i.version j.version p3.1 in
    λ k. record { project = project k; domain = domain k; name = name k; version = version k }

pub id_same : (i j : Identifier) → i ≡ j → is_same i j ≡ true
id_same i j e =
    and_from _ _ (and_from _ _ (and_from _ _ (text_same i.project j.project (ap (λ (x : Identifier). x.project) e))
    (text_same i.domain j.domain (ap (λ (x : Identifier). x.domain) e)))
    (text_same i.name j.name (ap (λ (x : Identifier). x.name) e)))
    (text_same i.version j.version (ap (λ (x : Identifier). x.version) e))

pub repeated_none : (list : Text) (ids : List Identifier) → repeated_faults list ids ≡ [] → AreDistinct ids
repeated_none list ids e =
    distinct_from ids (λ i j x lt first second.
    let none = filter_none (λ (at : ℕ × Identifier). is_repeated ids at.0 at.1) (enumerate_from 0 ids)
    (map_none _ _ e) (j, x) (numbered ids j x second) in
    false≢true (sym (any_none (is_same x) (take j ids) none x (in_take ids j i x lt first)) ∙ id_same x x refl))

pub repeated_nothing : (list : Text) (ids : List Identifier) → AreDistinct ids → repeated_faults list ids ≡ []
repeated_nothing list ids distinct =
    ap (map _) (filter_nothing (λ (at : ℕ × Identifier). is_repeated ids at.0 at.1) (enumerate_from 0 ids) (λ at has.
    any_nothing (is_same at.1) (take at.0 ids) (λ y before.
    false_from_ne_true (is_same at.1 y) (λ e.
    let place = of_take ids at.0 y before in
    apart ids distinct place.0 at.0 at.1 place.1 (place.2 ∙ ap Some (sym (same_id at.1 y e)))
    (number_at ids at has)))))

-- ---- what is reached

module _ (b : Bundle) where
  walk_starts : (u : ℕ) (between : List ℕ) (v : ℕ) → IsWalk (workflow_edges b) u between v
      → (w : Workflow) × (slice_get b.workflows u ≡ Some w)
  walk_starts u [] v walk = let run = run_of_edge b u v walk in (run.workflow, run.from)
  walk_starts u (x ∷ between) v walk = let run = run_of_edge b u x walk.0 in (run.workflow, run.from)

  pub of_reached_places : (at : ℕ × Workflow) → Contains (reached_places b) at
      → IsReachedPlace b at.0 × (slice_get b.workflows at.0 ≡ Some at.1)
  of_reached_places at has =
      let from =
      of_flat_map
      (λ primary. filter (λ (p : ℕ × Workflow). is_reached_from b primary p.0) (enumerate_from 0 b.workflows))
      (option_to_list (primary_place b)) at has in
      let kept = Contains-filter (λ (p : ℕ × Workflow). is_reached_from b from.0 p.0)
      (enumerate_from 0 b.workflows) at from.2 in (
        (
          from.0,
          of_option (primary_place b) from.0 from.1,
          ⊎_elim (λ same. inl (eqb-true from.0 at.0 same))
              (λ walk. inr ((reaches-Decides (workflow_edges b) from.0 at.0).0 walk))
              (or_cases (from.0 == at.0) (reaches (workflow_edges b) from.0 at.0) kept.1),
        ),
        number_at b.workflows at kept.0,
      )

  pub in_reached_places : (place : ℕ) (w : Workflow) → IsReachedPlace b place → slice_get b.workflows place ≡ Some w
      → Contains (reached_places b) (place, w)
  in_reached_places place w reached there =
      in_flat_map
      (λ primary. filter (λ (p : ℕ × Workflow). is_reached_from b primary p.0) (enumerate_from 0 b.workflows))
      (option_to_list (primary_place b))
      reached.0 (place, w) (in_option (primary_place b) reached.0 reached.1)
      (Contains-filter_from (λ (p : ℕ × Workflow). is_reached_from b reached.0 p.0) (enumerate_from 0 b.workflows)
      (place, w) (numbered b.workflows place w there)
      (⊎_elim (λ same. or_left (reached.0 == place) (reaches (workflow_edges b) reached.0 place)
      (eq-eqb reached.0 place same))
      (λ walk. or_right (reached.0 == place) (reaches (workflow_edges b) reached.0 place)
      ((reaches-Decides (workflow_edges b) reached.0 place).1 walk)) reached.2))

  pub of_reached_workflows : (w : Workflow) → Contains (reached_workflows b) w → IsReached b w
  of_reached_workflows w has =
      let from = of_map (λ (at : ℕ × Workflow). at.1) (reached_places b) w has in
      let parts = of_reached_places from.0 from.1 in
      record { place = from.0.0; there = parts.1 ∙ ap Some from.2; reached = parts.0 }

  pub in_reached_workflows : (w : Workflow) → IsReached b w → Contains (reached_workflows b) w
  in_reached_workflows w reached =
      in_map (λ (at : ℕ × Workflow). at.1) (reached_places b) (reached.place, w)
      (in_reached_places reached.place w reached.reached reached.there)

  pub reached_in : (w : Workflow) → IsReached b w → Contains b.workflows w
  reached_in w reached = contains_at b.workflows reached.place w reached.there

  -- ---- tasks

  abbrev task_of : Node → Option ℕ
  task_of n = option_and_then (task_place b) (task_id_of n)

  named_by_place : (o : Option Identifier) (place : ℕ) (t : Task) → option_and_then (task_place b) o ≡ Some place
      → slice_get b.tasks place ≡ Some t
      → option_and_then (task_named b) o ≡ Some t
  named_by_place None place t e there = cc
  named_by_place (Some id) place t e there =
      let found = position_find (λ (u : Task). is_same u.id id) b.tasks place e in
      found.2 ∙ sym found.1 ∙ there

  place_by_name : (o : Option Identifier) (t : Task) → option_and_then (task_named b) o ≡ Some t
      → (place : ℕ) × (option_and_then (task_place b) o ≡ Some place) × (slice_get b.tasks place ≡ Some t)
  place_by_name None t e = cc
  place_by_name (Some id) t e = find_position (λ (u : Task). is_same u.id id) b.tasks t e

  pub of_reached_tasks : (t : Task) → Contains (reached_tasks b) t → IsReachedTask b t
  of_reached_tasks t has =
      let from =
      of_map (λ (at : ℕ × Task). at.1)
      (filter (λ (at : ℕ × Task). list_any (λ place. place == at.0) (run_task_places b)) (enumerate_from 0 b.tasks)) t
      has in
      let kept = Contains-filter (λ (at : ℕ × Task). list_any (λ place. place == at.0) (run_task_places b))
      (enumerate_from 0 b.tasks) from.0 from.1 in
      let place = any_found (λ place. place == from.0.0) (run_task_places b) kept.1 in
      let workflow = of_flat_map (λ w. filter_map task_of (nodes_of w)) (reached_workflows b) place.0 place.1 in
      let node = of_filter_map task_of (nodes_of workflow.0) place.0 workflow.2 in
      let there : slice_get b.tasks place.0 ≡ Some t =
      ap (slice_get b.tasks) (eqb-true place.0 from.0.0 place.2) ∙ number_at b.tasks from.0 kept.0 ∙ ap Some from.2 in
      record {
        workflow = workflow.0;
        reached = of_reached_workflows workflow.0 workflow.1;
        node = node.0;
        there = node.1;
        runs = named_by_place (task_id_of node.0) place.0 t node.2 there;
      }

  pub in_reached_tasks : (t : Task) → IsReachedTask b t → Contains (reached_tasks b) t
  in_reached_tasks t reached =
      let place = place_by_name (task_id_of reached.node) t reached.runs in
      let run : Contains (run_task_places b) place.0 =
      in_flat_map (λ w. filter_map task_of (nodes_of w)) (reached_workflows b) reached.workflow place.0
      (in_reached_workflows reached.workflow reached.reached)
      (in_filter_map task_of (nodes_of reached.workflow) reached.node place.0 reached.there place.1) in
      in_map (λ (at : ℕ × Task). at.1)
      (filter (λ (at : ℕ × Task). list_any (λ p. p == at.0) (run_task_places b)) (enumerate_from 0 b.tasks))
      (place.0, t)
      (Contains-filter_from (λ (at : ℕ × Task). list_any (λ p. p == at.0) (run_task_places b))
      (enumerate_from 0 b.tasks) (place.0, t) (numbered b.tasks place.0 t place.2)
      (any_at (λ p. p == place.0) (run_task_places b) place.0 run (eq-eqb place.0 place.0 refl)))

  -- ---- no workflow reaches itself

  abbrev NotRecursive : Type 0
  NotRecursive = (place : ℕ) → IsReachedPlace b place → ¬ Reaches (workflow_edges b) place place

  pub recursive_none : recursive_faults b ≡ [] → NotRecursive
  recursive_none e place reached walk =
      let start = walk_starts place walk.0 place walk.1 in
      let none = filter_none (λ (at : ℕ × Workflow). reaches (workflow_edges b) at.0 at.0) (reached_places b)
      (map_none _ _ e) (place, start.0)
      (in_reached_places place start.0 reached start.1) in
      false≢true (sym none ∙ (reaches-Decides (workflow_edges b) place place).1 walk)

  pub recursive_nothing : NotRecursive → recursive_faults b ≡ []
  recursive_nothing h =
      ap (map _)
      (filter_nothing (λ (at : ℕ × Workflow). reaches (workflow_edges b) at.0 at.0) (reached_places b) (λ at has.
      false_from_ne_true (reaches (workflow_edges b) at.0 at.0)
      (λ e. h at.0 (of_reached_places at has).0 ((reaches-Decides (workflow_edges b) at.0 at.0).0 e))))

-- ---- how long walks are

module _ (edges : List (ℕ × ℕ)) where
  first_edge : (edge : ℕ × ℕ) (u : ℕ) → Contains edges edge → (u == edge.0) ≡ true → IsEdge edges u edge.1
  first_edge edge u has e = subst (λ x. Contains edges (x, edge.1)) (sym (eqb-true u edge.0 e)) has

  walk_of : (n u : ℕ) → goes_on edges (suc n) u ≡ true → (between : List ℕ) × (v : ℕ) × IsWalk edges u between v
      × (length between ≡ n)
  unfolding goes_on
  walk_of zero u e =
      let edge = any_found (λ (edge : ℕ × ℕ). u == edge.0 && goes_on edges zero edge.1) edges e in
      ([], edge.0.1, first_edge edge.0 u edge.1 (and_parts (u == edge.0.0) true edge.2).0, refl)
  walk_of (suc n) u e =
      let edge = any_found (λ (edge : ℕ × ℕ). u == edge.0 && goes_on edges (suc n) edge.1) edges e in
      let parts = and_parts (u == edge.0.0) (goes_on edges (suc n) edge.0.1) edge.2 in
      let rest = walk_of n edge.0.1 parts.1 in
      (edge.0.1 ∷ rest.0, rest.1, (first_edge edge.0 u edge.1 parts.0, rest.2), ap suc rest.3)

  goes_of : (n u : ℕ) (between : List ℕ) (v : ℕ) → IsWalk edges u between v → n ≤ length between + 1
      → goes_on edges n u ≡ true
  unfolding goes_on
  goes_of zero u between v walk short = refl
  goes_of (suc zero) u [] v walk short =
      any_at (λ (edge : ℕ × ℕ). u == edge.0 && goes_on edges zero edge.1) edges (u, v) walk
      (and_from (u == u) true (eq-eqb u u refl) refl)
  goes_of (suc (suc n)) u [] v walk short = absurd (omega arith)
  goes_of (suc n) u (x ∷ between) v walk short =
      any_at (λ (edge : ℕ × ℕ). u == edge.0 && goes_on edges n edge.1) edges (u, x) walk.0
      (and_from (u == u) (goes_on edges n x) (eq-eqb u u refl) (goes_of n x between v walk.1 (omega arith)))

-- ---- limits

module _ (b : Bundle) where
  nests_none : nests_too_deep b ≡ false → NestsWithin max_nesting b
  nests_none e primary place between is walk =
      let none = any_none (goes_on (workflow_edges b) 9) (option_to_list (primary_place b)) e primary
      (in_option (primary_place b) primary is) in
      ⊎_elim (λ short. short)
      (λ long. absurd (false≢true (sym none ∙ goes_of (workflow_edges b) 9 primary between place walk long)))
      (short_or_long (length between + 1))
    where
      short_or_long : (n : ℕ) → (n ≤ 8) ⊎ (9 ≤ n)
      short_or_long n = grind arith

  nests_nothing : NestsWithin max_nesting b → nests_too_deep b ≡ false
  nests_nothing within =
      any_nothing (goes_on (workflow_edges b) 9) (option_to_list (primary_place b)) (λ primary has.
      false_from_ne_true (goes_on (workflow_edges b) 9 primary) (λ e.
      let walk = walk_of (workflow_edges b) 8 primary e in
      let long = within primary walk.1 walk.0 (of_option (primary_place b) primary has) walk.2 in
      absurd (omega (arith, long, walk.3))))

  three_none : (c d e : Bool) (x y z : Fault) → (if c then x ∷ [] else if d then y ∷ [] else if e then z ∷ [] else [])
      ≡ []
      → (c ≡ false) × (d ≡ false) × (e ≡ false)
  three_none true d e x y z h = cc
  three_none false true e x y z h = cc
  three_none false false true x y z h = cc
  three_none false false false x y z h = (refl, refl, refl)

  three_nothing : (c d e : Bool) (x y z : Fault) → c ≡ false → d ≡ false → e ≡ false
      → (if c then x ∷ [] else if d then y ∷ [] else if e then z ∷ [] else []) ≡ []
  three_nothing c d e x y z p q r = λ i. cond (p i) (x ∷ []) (cond (q i) (y ∷ []) (cond (r i) (z ∷ []) []))

  pub record IsWithinLimits : Type 0 where
    pub nesting : NestsWithin max_nesting b
    pub plan : length (plan_of b) ≤ 4096
    pub arrays : count_by (λ (p : PlanNode). is_array p.node) (plan_of b) ≤ 16

  pub limits_none : (w : Workflow) → limit_faults b w ≡ [] → IsWithinLimits
  limits_none w e =
      let parts = three_none (nests_too_deep b) (nat_lt max_plan (length (plan_of b)))
      (nat_lt max_arrays (array_count b)) (fault_at code.NestingTooDeep (workflow_name w))
      (fault_at code.PlanTooLarge (workflow_name w)) (fault_at code.TooManyArrays (workflow_name w)) e in record {
        nesting = nests_none parts.0;
        plan = ltb-false max_plan (length (plan_of b)) parts.1;
        arrays = ltb-false max_arrays (array_count b) parts.2;
      }

  pub limits_nothing : (w : Workflow) → IsWithinLimits → limit_faults b w ≡ []
  limits_nothing w within =
      three_nothing (nests_too_deep b) (nat_lt max_plan (length (plan_of b))) (nat_lt max_arrays (array_count b))
      (fault_at code.NestingTooDeep (workflow_name w))
      (fault_at code.PlanTooLarge (workflow_name w)) (fault_at code.TooManyArrays (workflow_name w))
      (nests_nothing within.nesting)
      (le-ltb max_plan (length (plan_of b)) within.plan) (le-ltb max_arrays (array_count b) within.arrays)

  pub or_limits_none : (faults : List Fault) → or_limits b faults ≡ []
      → (faults ≡ []) × (flat_map (limit_faults b) (option_to_list (primary_of b)) ≡ [])
  or_limits_none [] e = (refl, e)
  or_limits_none (fault ∷ faults) e = cc
