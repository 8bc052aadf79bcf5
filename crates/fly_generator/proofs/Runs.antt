-- The plan of a generated bundle has the nodes of its workflow, and no arrays.
use Rattle.std.proofs.Common.{◌≡◌, ℕ, suc, ◌+◌, cond, List, [], ◌∷◌, ◌++◌, map, flat_map, filter, length, count_by, Option, option_to_list, option_and_then, refl, sym, ◌∙◌, ap}
use Rattle.std.specs.List.{range_with_len, enumerate_from}
use Rattle.std.proofs.lemmas.List.{append-nil, length-map}
use Rattle.std.proofs.lemmas.List.FromFn.{length-enumerate_from, length-range_with_len}
use Rattle.std.proofs.lemmas.List.Sums.{length-filter}
use Rattle.fly_types.specs.declared.text.Text.{Text}
use Rattle.fly_docs.specs.declared.node.Node.{Node}
use Rattle.fly_docs.specs.declared.workflow.Workflow.{Workflow}
use Rattle.fly_docs.specs.declared.workflow.Bundle.{Bundle}
use Rattle.fly_docs.specs.Lookups.{workflow_named}
use Rattle.fly_docs.specs.Plans.{PlanNode, subworkflow_of, plan_within, plan_of, is_array, is_array_target}
use Rattle.fly_generator.specs.Generated.{node_numbered, generated_workflow, generated}
use Rattle.fly_generator.proofs.Nodes.{runs_task, nodes_are}
use Rattle.fly_generator.proofs.Reached.{no_workflow}

abbrev outer : Workflow → ℕ × Node → PlanNode
outer w at = record { path = at.1.id ∷ []; workflow = w; place = at.0; node = at.1 }

abbrev outer_nodes : Workflow → ℕ → List ℕ → List PlanNode
outer_nodes w place numbers = map (outer w) (enumerate_from place (map node_numbered numbers))

module _ (b : Bundle) (levels count : ℕ) where
  abbrev w : Workflow
  w = generated_workflow count

  abbrev inside : List Text → Option Workflow → List PlanNode
  inside path o = flat_map (plan_within levels b path) (option_to_list o)

  abbrev planned : ℕ × Node → List PlanNode
  planned at = outer w at ∷ inside (at.1.id ∷ []) (subworkflow_of b at.1)

  all_outer : (place : ℕ) (numbers : List ℕ)
      → flat_map planned (enumerate_from place (map node_numbered numbers)) ≡ outer_nodes w place numbers
  all_outer place [] = refl
  all_outer place (i ∷ numbers) =
      let n = node_numbered i in
      let behind = flat_map planned (enumerate_from (place + 1) (map node_numbered numbers)) in
      ap (λ o. outer w (place, n) ∷ (inside (n.id ∷ []) (option_and_then (workflow_named b) o) ++ behind))
      (no_workflow i)
      ∙ ap (λ rest. outer w (place, n) ∷ rest) (all_outer (place + 1) numbers)

  plan_is : plan_within (suc levels) b [] w ≡ outer_nodes w 0 (range_with_len 0 count)
  unfolding plan_within
  plan_is =
      ap (λ nodes. flat_map planned (enumerate_from 0 nodes)) (nodes_are count) ∙ all_outer 0 (range_with_len 0 count)

module _ (count : ℕ) where
  abbrev nodes : List PlanNode
  nodes = outer_nodes (generated_workflow count) 0 (range_with_len 0 count)

  plan : plan_of (generated count) ≡ nodes
  plan = append-nil (plan_within 8 (generated count) [] (generated_workflow count)) ∙ plan_is (generated count) 7 count

  pub plan_count : length (plan_of (generated count)) ≡ count
  plan_count =
      ap length plan
      ∙ length-map (enumerate_from 0 (map node_numbered (range_with_len 0 count))) (outer (generated_workflow count))
      ∙ length-enumerate_from 0 (map node_numbered (range_with_len 0 count))
      ∙ length-map (range_with_len 0 count) node_numbered
      ∙ length-range_with_len 0 count

  arrays_in : (place : ℕ) (numbers : List ℕ)
      → filter (λ (p : PlanNode). is_array p.node) (outer_nodes (generated_workflow count) place numbers) ≡ []
  arrays_in place [] = refl
  arrays_in place (i ∷ numbers) =
      let p = outer (generated_workflow count) (place, node_numbered i) in
      let behind =
      filter (λ (p : PlanNode). is_array p.node) (outer_nodes (generated_workflow count) (place + 1) numbers) in
      ap (λ t. cond (is_array_target t) (p ∷ behind) behind) (runs_task i) ∙ arrays_in (place + 1) numbers

  pub no_arrays : count_by (λ (p : PlanNode). is_array p.node) (plan_of (generated count)) ≡ 0
  no_arrays =
      ap (count_by (λ (p : PlanNode). is_array p.node)) plan
      ∙ sym (length-filter (λ (p : PlanNode). is_array p.node) nodes)
      ∙ ap length (arrays_in 0 (range_with_len 0 count))
