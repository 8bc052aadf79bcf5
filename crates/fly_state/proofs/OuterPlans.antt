-- Plans of task nodes in one workflow: which nodes are in the run's own instance, and when it is broken.
use Rattle.std.proofs.Common.{◌≡◌, ℕ, ◌+◌, ◌<◌, Bool, true, false, not, ◌&&◌, ◌||◌, List, [], ◌∷◌, map, filter, length, position, Option, Some, None, option_map, option_and_then, refl, sym, ◌∙◌, ap, subst, arith, ⊎_elim}
use Rattle.std.specs.List.{slice_get, enumerate_from, range_with_len, list_any, list_all}
use Rattle.std.proofs.lemmas.List.{length-map}
use Rattle.std.proofs.lemmas.List.FromFn.{length-enumerate_from}
use Rattle.std.proofs.lemmas.List.Elements.{recursion_from_All, All-get_or}
use Rattle.std.proofs.lemmas.Option.{slice_get-map, slice_get_cases}
use Rattle.fly_docs.specs.declared.node.Node.{Node}
use Rattle.fly_docs.specs.declared.workflow.Workflow.{Workflow}
use Rattle.fly_docs.specs.Plans.{PlanNode}
use Rattle.fly_state.specs.declared.slots.ExecState.{ExecState}
use Rattle.fly_state.specs.Moves.{has_failure, is_going_on}
use Rattle.fly_state.specs.OfPlan.{was_begun, is_begun}
use Rattle.fly_state.specs.PlanTables.{IsOuterPlan, outer_node}
use Rattle.fly_state.specs.Plans.{RunPlan, same_path, node_numbered, instance_of, nodes_in, is_case_of, case_of, case_of_at}
use Rattle.fly_state.specs.States.{phase_of, is_failure, is_running, is_within, is_breaking, is_broken}
use Rattle.fly_state.proofs.PlanLemmas.{IsTaskNode, never_case}
use Rattle.fly_state.proofs.Lists.{enumerated-at}

-- ---- numbered lists

all-numbered : {X : Type 0} (p : ℕ → Bool) (k : ℕ) (xs : List X) → list_all (λ at. p at.0) (enumerate_from k xs) ≡ list_all p (range_with_len k (length xs))
all-numbered p k [] = refl
all-numbered p k (x ∷ xs) = ap (λ b. p k && b) (all-numbered p (k + 1) xs)

any-numbered : {X : Type 0} (p : ℕ → Bool) (k : ℕ) (xs : List X) → list_any (λ at. p at.0) (enumerate_from k xs) ≡ list_any p (range_with_len k (length xs))
any-numbered p k [] = refl
any-numbered p k (x ∷ xs) = ap (λ b. p k || b) (any-numbered p (k + 1) xs)

-- ---- nodes that stand in no other

abbrev outer_nodes : Workflow → ℕ → List Node → List PlanNode
outer_nodes w place nodes = map (outer_node w) (enumerate_from place nodes)

abbrev is_outer : ℕ × PlanNode → Bool
is_outer at = same_path [] (instance_of at.1)

all-outer : (w : Workflow) (k place : ℕ) (nodes : List Node)
    → filter is_outer (enumerate_from k (outer_nodes w place nodes)) ≡ enumerate_from k (outer_nodes w place nodes)
all-outer w k place [] = refl
all-outer w k place (n ∷ nodes) = ap (λ r. (k, outer_node w (place, n)) ∷ r) (all-outer w (k + 1) (place + 1) nodes)

spread : (a f r q : Bool) → r ≡ a && q → (((a && f) && true) || r) ≡ (a && (f || q))
spread true true r q e = refl
spread true false r q e = e
spread false f r q e = e

breaks-outer : (w : Workflow) (s : ExecState) (k place : ℕ) (nodes : List Node)
    → list_any (λ (at : ℕ × PlanNode). is_breaking s at && is_within [] (instance_of at.1)) (enumerate_from k (outer_nodes w place nodes))
    ≡ not w.fail_late && list_any (λ (at : ℕ × PlanNode). is_failure (phase_of s at.0)) (enumerate_from k (outer_nodes w place nodes))
breaks-outer w s k place [] = sym (none (not w.fail_late))
  where
    none : (a : Bool) → a && false ≡ false
    none true = refl
    none false = refl
breaks-outer w s k place (n ∷ nodes) =
    spread (not w.fail_late) (is_failure (phase_of s k)) _ _ (breaks-outer w s (k + 1) (place + 1) nodes)

-- no workflow node stands around the run's own instance
around-outer : (w : Workflow) (f : ℕ → Bool) (k place : ℕ) (nodes : List Node)
    → list_all (λ (at : ℕ × PlanNode). not (is_within [] at.1.path) || f at.0) (enumerate_from k (outer_nodes w place nodes)) ≡ true
around-outer w f k place [] = refl
around-outer w f k place (n ∷ nodes) = around-outer w f (k + 1) (place + 1) nodes

module _ (plan : RunPlan) (w : Workflow) (outer : IsOuterPlan plan w) where
  pub nodes_in-outer : nodes_in plan [] ≡ enumerate_from 0 plan.nodes
  nodes_in-outer =
      ap (λ ps. filter is_outer (enumerate_from 0 ps)) outer.nodes_are
      ∙ all-outer w 0 0 w.nodes
      ∙ ap (enumerate_from 0) (sym outer.nodes_are)

  pub all-nodes : (p : ℕ → Bool) → list_all (λ (at : ℕ × PlanNode). p at.0) (nodes_in plan []) ≡ list_all p (range_with_len 0 (length plan.nodes))
  all-nodes p = ap (list_all (λ (at : ℕ × PlanNode). p at.0)) nodes_in-outer ∙ all-numbered p 0 plan.nodes

  pub any-node : (p : ℕ → Bool) → list_any (λ (at : ℕ × PlanNode). p at.0) (nodes_in plan []) ≡ list_any p (range_with_len 0 (length plan.nodes))
  any-node p = ap (list_any (λ (at : ℕ × PlanNode). p at.0)) nodes_in-outer ∙ any-numbered p 0 plan.nodes

  pub failure-outer : (s : ExecState) → has_failure plan s [] ≡ list_any (λ i. is_failure (phase_of s i)) (range_with_len 0 (length plan.nodes))
  failure-outer s = any-node (λ i. is_failure (phase_of s i))

  pub broken-outer : (s : ExecState) → is_broken plan s [] ≡ not w.fail_late && has_failure plan s []
  broken-outer s =
      ap (λ ps. list_any (λ (at : ℕ × PlanNode). is_breaking s at && is_within [] (instance_of at.1)) (enumerate_from 0 ps)) outer.nodes_are
      ∙ breaks-outer w s 0 0 w.nodes
      ∙ ap (λ ats. not w.fail_late && list_any (λ (at : ℕ × PlanNode). is_failure (phase_of s at.0)) ats)
      (ap (enumerate_from 0) (sym outer.nodes_are) ∙ sym nodes_in-outer)

  around-own : (f : ℕ → Bool) → list_all (λ (at : ℕ × PlanNode). not (is_within [] at.1.path) || f at.0) (enumerate_from 0 plan.nodes) ≡ true
  around-own f =
      ap (λ ps. list_all (λ (at : ℕ × PlanNode). not (is_within [] at.1.path) || f at.0) (enumerate_from 0 ps)) outer.nodes_are
      ∙ around-outer w f 0 0 w.nodes

  pub going_on-outer : (s : ExecState) → is_going_on plan s [] ≡ true
  going_on-outer s = around-own (λ i. is_running (phase_of s i))

  pub begun-outer : (s : ExecState) → is_begun plan s [] ≡ true
  begun-outer s = around-own (was_begun s)

  pub case-none : (p : PlanNode) → case_of plan p ≡ None
  case-none p =
      ap (option_and_then (λ branch. option_and_then (λ q. case_of_at branch q p) (node_numbered plan branch)))
      (ap (position (λ q. is_case_of q p)) outer.nodes_are ∙ never_case w p 0 w.nodes (recursion_from_All IsTaskNode w.nodes outer.plain))

  pub numbered-outer : (i : ℕ) → node_numbered plan i ≡ option_map (λ n. outer_node w (i, n)) (slice_get w.nodes i)
  numbered-outer i =
      let zero_more : 0 + i ≡ i = omega arith in
      ap (λ ps. slice_get ps i) outer.nodes_are
      ∙ slice_get-map (outer_node w) (enumerate_from 0 w.nodes) i
      ∙ ap (option_map (outer_node w)) (enumerated-at 0 w.nodes i ∙ ap (λ k. option_map (λ n. (k, n)) (slice_get w.nodes i)) zero_more)
      ∙ twice (slice_get w.nodes i)
    where
      twice : (o : Option Node) → option_map (outer_node w) (option_map (λ n. (i, n)) o) ≡ option_map (λ n. outer_node w (i, n)) o
      twice None = refl
      twice (Some n) = refl

  pub count-outer : length plan.nodes ≡ length w.nodes
  count-outer = ap length outer.nodes_are ∙ length-map (enumerate_from 0 w.nodes) (outer_node w) ∙ length-enumerate_from 0 w.nodes

  -- each number has a task node
  pub planned-outer : (i : ℕ) → i < length plan.nodes → (n : Node) × (node_numbered plan i ≡ Some (outer_node w (i, n))) × IsTaskNode n
  planned-outer i small =
      ⊎_elim (λ found. (
        found.0,
        numbered-outer i ∙ ap (option_map (λ n. outer_node w (i, n))) found.2,
        subst IsTaskNode found.3 (All-get_or IsTaskNode w.nodes i found.0 found.1 outer.plain),
      )) (λ past. absurd (omega (arith, past.0, count-outer, small))) (slice_get_cases w.nodes i).1
