-- How many questions a round over a plan of task nodes asks.
use Rattle.std.proofs.Common.{◌≡◌, ℕ, ◌+◌, ◌*◌, ◌<◌, ◌≤◌, suc, arith, Bool, true, false, cond, List, [], ◌∷◌, ◌++◌, flat_map, filter_map, length, Option, Some, None, option_map, option_to_list, refl, sym, ◌∙◌, ap, subst, length-append}
use Rattle.std.specs.List.{slice_get, enumerate_from}
use Rattle.std.proofs.lemmas.List.FromFn.{length-enumerate_from}
use Rattle.std.proofs.lemmas.Option.{none-some, same_Some, slice_get_within}
use Rattle.fly_docs.specs.declared.workflow.Workflow.{Workflow}
use Rattle.fly_docs.specs.Plans.{PlanNode, nodes_of}
use Rattle.fly_state.specs.declared.slots.SlotState.{SlotState}
use Rattle.fly_state.specs.declared.view.View.{View}
use Rattle.fly_state.specs.OfPlan.{IsViewOfPlan}
use Rattle.fly_state.specs.PlanTables.{IsOuterPlan}
use Rattle.fly_state.specs.Plans.{RunPlan, node_numbered, instance_of}
use Rattle.fly_state.specs.States.{is_broken}
use Rattle.fly_state.proofs.Lists.{enumerated-at}
use Rattle.fly_state.proofs.OuterPlans.{count-outer}
use Rattle.fly_state.proofs.PlanLemmas.{nodes_of-plain}
use Rattle.fly_round.specs.declared.told.Told.{Told}
use Rattle.fly_round.specs.Questions.{Question, first_question, second_question, item_question, node_questions, questions, next_question}
use Rattle.fly_round.proofs.ComeLemmas.{no-items}

flat-few : {X Y : Type 0} (f : X → List Y) (xs : List X)
    → ((k : ℕ) (x : X) → slice_get xs k ≡ Some x → length (f x) ≤ 2)
    → length (flat_map f xs) ≤ 2 * length xs
flat-few f [] few = omega arith
flat-few f (x ∷ xs) few =
    let first = few 0 x refl in
    let rest = flat-few f xs (λ k y at. few (suc k) y at) in
    omega (arith, length-append (f x) (flat_map f xs), first, rest)

few-options : (broken : Bool) (one two : Option Question)
    → length (cond broken [] (option_to_list one ++ option_to_list two ++ [])) ≤ 2
few-options true one two = omega arith
few-options false None None = omega arith
few-options false None (Some b) = omega arith
few-options false (Some a) None = omega arith
few-options false (Some a) (Some b) = omega arith

module _ (plan : RunPlan) (w : Workflow) (outer : IsOuterPlan plan w) (v : View) (of_plan : IsViewOfPlan plan v)
    (told : List Told) where
  -- a task node has no items
  node-few : (i : ℕ) (p : PlanNode) → node_numbered plan i ≡ Some p → length (node_questions plan v told (i, p)) ≤ 2
  node-few i p planned =
      let broken = is_broken plan v.state (instance_of p) in
      let one = first_question plan v (i, p) in
      let two = second_question plan v told (i, p) in
      let of_items : List SlotState → List Question = λ items.
      option_to_list one ++ option_to_list two ++ filter_map (item_question plan v p) (enumerate_from 0 items) in
      subst (λ items. length (cond broken [] (of_items items)) ≤ 2) (sym (no-items plan w outer v of_plan i p planned))
      (few-options broken one two)

  pub questions-few : length (questions plan v told) ≤ 2 * length plan.nodes
  questions-few =
      let long = flat-few (node_questions plan v told) (enumerate_from 0 plan.nodes)
      (λ k x at. by k x (slice_get plan.nodes k) refl (sym (enumerated-at 0 plan.nodes k) ∙ at)) in
      omega (arith, long, length-enumerate_from 0 plan.nodes)
    where
      by : (k : ℕ) (x : ℕ × PlanNode) (found : Option PlanNode) → slice_get plan.nodes k ≡ found
          → option_map (λ y. (0 + k, y)) (slice_get plan.nodes k) ≡ Some x → length (node_questions plan v told x) ≤ 2
      by k x None there at = absurd (none-some x (sym (ap (option_map (λ y. (0 + k, y))) there) ∙ at))
      by k x (Some p) there at =
          let start : 0 + k ≡ k = omega arith in
          let x_is : (k, p) ≡ x =
          ap (λ n. (n, p)) (sym start) ∙ same_Some _ _ (sym (ap (option_map (λ y. (0 + k, y))) there) ∙ at) in
          subst (λ y. length (node_questions plan v told y) ≤ 2) x_is (node-few k p there)

  -- where one more is asked, so many were told
  pub next-few : (q : Question) → next_question plan v told ≡ Some q → length told < 2_048
  next-few q next =
      let within = slice_get_within (questions plan v told) (length told) q next in
      let few = questions-few in
      let nodes = count-outer plan w outer in
      let all : length (nodes_of w) ≡ length w.nodes = ap length (nodes_of-plain w outer.plain) in
      omega (arith, within, few, nodes, all, outer.typed.few)
