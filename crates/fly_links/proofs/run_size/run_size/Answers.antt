use Rattle.std.proofs.Common.{◌≡◌, ◌+◌, ◌<◌, ℕ, List, min, length, sum_by, count_by, get_or, map, option_to_list, refl, ap, ◌∙◌, arith}
use Rattle.std.proofs.lemmas.Grind.{common_steps}
use Rattle.fly_docs.specs.declared.workflow.Workflow.{Workflow}
use Rattle.fly_docs.specs.declared.workflow.Bundle.{Bundle}
use Rattle.fly_docs.specs.Plans.{nodes_of, is_array, max_nesting}
use Rattle.fly_docs.specs.Reaching.{primary_place}
use Rattle.fly_links.specs.Totals.{total_within}
use Rattle.fly_links.specs.Reach.{max_plan, max_arrays}
use Rattle.fly_links.specs.Reaches.{runs_by_place}
use Rattle.fly_links.proofs.ReachLemmas.{deep_walks, plan_size, arrays_size}
use Rattle.fly_links.proofs.run_size.run_size.Goals as goal

pub returns : goal.returns
returns c =
    let b : Bundle = c.args.directory.now in
    let runs : c.args.runs.now ≡ runs_by_place b = c.requires in
    let counts : List ℕ = map (λ (w : Workflow). length (nodes_of w)) b.workflows in
    let arrays : List ℕ = map (λ (w : Workflow). count_by is_array (nodes_of w)) b.workflows in
    let nodes_are : c.in_ok-nodes.nodes.items ≡ counts =
    c.in_ok-nodes.ensures ∙ ap (map (λ (w : Workflow). length (nodes_of w))) (c.as_slice.ensures ∙ ap (λ (d : Bundle). d.workflows) c.bundle.ensures) in
    let arrays_are : c.in_ok-arrays.arrays.items ≡ arrays =
    c.in_ok-arrays.ensures ∙ ap (map (λ (w : Workflow). count_by is_array (nodes_of w))) (c.as_slice-2.ensures ∙ ap (λ (d : Bundle). d.workflows) c.bundle-2.ensures) in
    let own : c.deref-3.result.now ≡ counts = c.deref-3.ensures.value ∙ nodes_are in
    let last : c.deref-4.result.now ≡ counts = c.deref-4.ensures.value ∙ nodes_are in
    let own_arrays : c.deref-5.result.now ≡ arrays = c.deref-5.ensures.value ∙ arrays_are in
    let last_arrays : c.deref-6.result.now ≡ arrays = c.deref-6.ensures.value ∙ arrays_are in
    let nothing : (v : ℕ) → v < length (runs_by_place b) → ◌≡◌ {A = ℕ} (get_or c.deref.result.now v 0) 0 =
    λ v lt. let within : v < length c.args.runs.now = omega (arith, lt, ap length runs) in
    let z : ◌≡◌ {A = ℕ} (get_or c.in_ok-none.none.items v 0) 0 = grind (arith, common_steps) in
    ap (λ xs. get_or xs v 0) c.deref.ensures.value ∙ z in
    let one : (v : ℕ) → v < length (runs_by_place b) → ◌≡◌ {A = ℕ} (get_or c.deref-2.result.now v 0) 1 =
    λ v lt. let within : v < length c.args.runs.now = omega (arith, lt, ap length runs) in
    let z : ◌≡◌ {A = ℕ} (get_or c.in_ok-one.one.items v 0) 1 = grind (arith, common_steps) in
    ap (λ xs. get_or xs v 0) c.deref-2.ensures.value ∙ z in
    record {
      deep = deep_walks b c.deref.result.now c.deref-2.result.now c.in_ok-walks.walks nothing one
          (c.in_ok-walks.ensures
          ∙ ap (λ rs. min (sum_by (total_within (max_nesting + 1) rs c.deref.result.now c.deref-2.result.now) (option_to_list (primary_place b))) 1) runs);
      plan = c.in_ok-plan.ensures
          ∙ (λ i. min (sum_by (total_within max_nesting (runs i) (own i) (last i)) (option_to_list (primary_place b))) (max_plan + 1))
          ∙ ap (λ n. min n (max_plan + 1)) (plan_size b counts refl);
      arrays = c.in_ok-arrays-2.ensures
          ∙ (λ i. min (sum_by (total_within max_nesting (runs i) (own_arrays i) (last_arrays i)) (option_to_list (primary_place b))) (max_arrays + 1))
          ∙ ap (λ n. min n (max_arrays + 1)) (arrays_size b arrays refl);
    }
