-- What a run comes to, and all that is told of it, once a pass has judged all nodes.
use Rattle.std.proofs.Common.{◌≡◌, ℕ, zero, suc, ◌+◌, ◌<◌, ◌≤◌, Bool, true, false, not, ◌&&◌, ◌||◌, if◌then◌else◌, List, [], ◌∷◌, ◌++◌, map, flat_map, length, bytes_eq, codes, Contains, Option, Some, None, option_map, option_and_then, option_to_list, refl, sym, ◌∙◌, ap, subst, arith, ⊎_elim}
use Rattle.std.specs.List.{slice_get, list_any, enumerate_from, range_with_len}
use Rattle.std.proofs.lemmas.Bool.{cases_lt}
use Rattle.std.proofs.lemmas.List.{length-map}
use Rattle.std.proofs.lemmas.List.FromFn.{length-enumerate_from}
use Rattle.std.proofs.lemmas.Option.{none-some, same_Some, slice_get-map, slice_get_within, slice_get_past, slice_get-get_or}
use Rattle.fly_types.specs.declared.text.Text.{Text}
use Rattle.fly_types.specs.declared.literals.LiteralMap.{LiteralMap}
use Rattle.fly_docs.specs.declared.workflow.Workflow.{Workflow}
use Rattle.fly_docs.specs.Bindings.{sources_of}
use Rattle.fly_docs.specs.Lookups.{primary_of}
use Rattle.fly_docs.specs.Names.{start_node}
use Rattle.fly_docs.specs.Plans.{PlanNode}
use Rattle.fly_docs.specs.SlotInputs.{Taken, workflow_outputs}
use Rattle.fly_state.specs.declared.slots.ExecState.{ExecState}
use Rattle.fly_state.specs.declared.slots.SlotState.{SlotState}
use Rattle.fly_state.specs.Closing.{skips_one}
use Rattle.fly_state.specs.Moves.{has_failure}
use Rattle.fly_state.specs.PlanTables.{IsOuterPlan, outer_node}
use Rattle.fly_state.specs.Plans.{RunPlan, number_in, nodes_in, node_numbered}
use Rattle.fly_state.specs.States as state_of
use Rattle.fly_state.specs.States.{own_state, phase_of}
use Rattle.fly_state.proofs.AskedInputs.{task-there}
use Rattle.fly_state.proofs.Lists.{enumerated-at, first_in, later_in}
use Rattle.fly_state.proofs.OuterNodes.{numbered-node, planned-at}
use Rattle.fly_state.proofs.OuterPlans.{any-node, count-outer, failure-outer, nodes_in-outer}
use Rattle.fly_eval.specs.declared.verdict.Verdict.{Verdict}
use Rattle.fly_eval.specs.declared.verdict.Verdict.TheVariants as verdict
use Rattle.fly_eval.specs.declared.results.Results.{Results}
use Rattle.fly_eval.specs.declared.results.Hits.{Hits}
use Rattle.fly_eval.specs.declared.seen.Seen.{Seen}
use Rattle.fly_eval.specs.declared.passes.Pass.{Pass}
use Rattle.fly_eval.specs.Evaluation as eval
use Rattle.fly_eval.specs.Evaluation.{Entering, Sight, is_pending, by_outputs, instance_verdict, verdict_in_instance, root_verdict, seen_attempts, seen_items, seen_node, whole_sight}
use Rattle.fly_eval.specs.Judging.{TellsAll}
use Rattle.fly_eval.proofs.JudgedBy.{items-none}
use Rattle.fly_eval.proofs.KnownSame.{workflow_outputs-same}
use Rattle.fly_eval.proofs.Points.{node-there}
use Rattle.fly_eval.proofs.StateTells.{told-outputs, told-skipped, told-failure, if-same, option-same}

-- ---- lists

-- lists with the same elements are one
same-reads : {X : Type 0} (xs ys : List X) → ((i : ℕ) → slice_get xs i ≡ slice_get ys i) → xs ≡ ys
same-reads [] [] same = refl
same-reads [] (y ∷ ys) same = absurd (none-some y (same 0))
same-reads (x ∷ xs) [] same = absurd (none-some x (sym (same 0)))
same-reads (x ∷ xs) (y ∷ ys) same =
    ap (λ z. z ∷ xs) (same_Some _ _ (same 0)) ∙ ap (λ zs. y ∷ zs) (same-reads xs ys (λ i. same (suc i)))

singles : {X Y : Type 0} (f : X → List Y) (g : X → Y) (xs : List X) → ((x : X) → Contains xs x → f x ≡ g x ∷ []) → flat_map f xs ≡ map g xs
singles f g [] one = refl
singles f g (x ∷ xs) one =
    ap (λ ys. ys ++ flat_map f xs) (one x (first_in x xs)) ∙ ap (λ ys. g x ∷ ys) (singles f g xs (λ y has. one y (later_in x xs y has)))

any-map : {X Y : Type 0} (q : Y → Bool) (f : X → Y) (xs : List X) → list_any q (map f xs) ≡ list_any (λ x. q (f x)) xs
any-map q f [] = refl
any-map q f (x ∷ xs) = ap (λ b. q (f x) || b) (any-map q f xs)

any-alike : (p q : ℕ → Bool) (k n : ℕ) → ((v : ℕ) → k ≤ v → v < k + n → p v ≡ q v)
    → list_any p (range_with_len k n) ≡ list_any q (range_with_len k n)
any-alike p q k zero same = refl
any-alike p q k (suc n) same =
    let here : p k ≡ q k = same k (omega arith) (omega arith) in
    let behind : list_any p (range_with_len (k + 1) n) ≡ list_any q (range_with_len (k + 1) n) =
    any-alike p q (k + 1) n (λ v above below. same v (omega arith) (omega arith)) in
    λ i. here i || behind i

any-option : (p q : ℕ → Bool) (o : Option ℕ) → ((j : ℕ) → o ≡ Some j → p j ≡ q j) → list_any p (option_to_list o) ≡ list_any q (option_to_list o)
any-option p q None same = refl
any-option p q (Some j) same = ap (λ b. b || false) (same j refl)

-- an instance's verdict, by what is asked of its nodes
abbrev pub by_tests : Bool → Bool → Bool → Bool → Verdict → Verdict
by_tests fails_at_once opened fails misses outputs =
    if fails_at_once then verdict.Failed (codes "NodeFailed")
    else (if opened then verdict.Pending
    else (if fails then verdict.Failed (codes "NodeFailed") else (if misses then verdict.Failed (codes "OutputMissing") else outputs)))

opens : (plan : RunPlan) (w : Workflow) (inputs : LiteralMap) (sight : Sight) → primary_of plan.documents ≡ Some w
    → verdict_in_instance plan inputs sight [] ≡ instance_verdict plan inputs sight [] w
opens plan w inputs sight named = rw named refl

module _ (plan : RunPlan) (w : Workflow) (outer : IsOuterPlan plan w) (inputs : LiteralMap) (results : Results) (hits : Hits)
    (pass : Pass) (all : TellsAll plan inputs results hits pass) where
  abbrev sight : Sight
  sight = whole_sight plan inputs results hits

  abbrev s : ExecState
  s = pass.state

  abbrev verdicts : List Verdict
  verdicts = map (λ (at : ℕ × PlanNode). sight.verdict at.0) (nodes_in plan [])

  abbrev told : ℕ × PlanNode → Seen
  told at = record { path = at.1.path; item = None; verdict = sight.verdict at.0; attempts = seen_attempts plan results hits at.1 (sight.entering at.0) }

  small-numbered : (id : Text) (j : ℕ) → number_in plan [] id ≡ Some j → j < length plan.nodes
  small-numbered id j is =
      let at = numbered-node plan w outer id j is in
      omega (arith, slice_get_within w.nodes j at.0 at.1, count-outer plan w outer)

  -- ---- what is told

  seen-at : (i : ℕ) → slice_get pass.seen i ≡ slice_get (map told (enumerate_from 0 plan.nodes)) i
  seen-at i =
      ⊎_elim (λ small.
      let node = node-there plan w outer i small in
      let planned = planned-at plan w outer i node.0 node.1 in
      let number : 0 + i ≡ i = omega arith in
      (all.tells i small).seen_is (outer_node w (i, node.0)) planned
      ∙ sym (slice_get-map told (enumerate_from 0 plan.nodes) i
      ∙ ap (option_map told) (enumerated-at 0 plan.nodes i ∙ ap (option_map (λ (x : PlanNode). (0 + i, x))) planned
      ∙ ap (λ k. Some (k, outer_node w (i, node.0))) number)))
      (λ past.
      slice_get_past pass.seen i (omega (arith, all.holds.seen_each, past))
      ∙ sym (slice_get_past (map told (enumerate_from 0 plan.nodes)) i
      (omega (arith, length-map (enumerate_from 0 plan.nodes) told, length-enumerate_from 0 plan.nodes, past))))
      (cases_lt i (length plan.nodes))

  seen-told : pass.seen ≡ map told (enumerate_from 0 plan.nodes)
  seen-told = same-reads pass.seen (map told (enumerate_from 0 plan.nodes)) seen-at

  -- a node that the list has stands there by its number
  listed : (at : ℕ × PlanNode) → Contains (enumerate_from 0 plan.nodes) at → node_numbered plan at.0 ≡ Some at.1
  listed at has =
      let k = has.0 in
      let read : slice_get (enumerate_from 0 plan.nodes) k ≡ Some at =
      slice_get-get_or (enumerate_from 0 plan.nodes) k at has.1 ∙ ap Some has.2 in
      let found : option_map (λ (x : PlanNode). (0 + k, x)) (slice_get plan.nodes k) ≡ Some at = sym (enumerated-at 0 plan.nodes k) ∙ read in
      by k (slice_get plan.nodes k) refl found
    where
      by : (k : ℕ) (o : Option PlanNode) → slice_get plan.nodes k ≡ o → option_map (λ (x : PlanNode). (0 + k, x)) o ≡ Some at
          → node_numbered plan at.0 ≡ Some at.1
      by k None is found = absurd (none-some at found)
      by k (Some q) is found =
          let pair = same_Some _ _ found in
          let number : k ≡ at.0 = (let zeros : k ≡ 0 + k = omega arith in zeros ∙ ap (λ (x : ℕ × PlanNode). x.0) pair) in
          ap (slice_get plan.nodes) (sym number) ∙ is ∙ ap (λ (x : ℕ × PlanNode). Some x.1) pair

  node-told : (at : ℕ × PlanNode) → Contains (enumerate_from 0 plan.nodes) at → seen_node plan results hits sight at ≡ told at ∷ []
  node-told at has =
      let planned = listed at has in
      let small : at.0 < length plan.nodes = slice_get_within plan.nodes at.0 at.1 planned in
      let node = node-there plan w outer at.0 small in
      let its : outer_node w (at.0, node.0) ≡ at.1 = same_Some _ _ (sym (planned-at plan w outer at.0 node.0 node.1) ∙ planned) in
      let task = task-there plan w outer at.0 node.0 node.1 in
      let e = sight.entering at.0 in
      ap (λ items. told at ∷ items)
      (subst (λ (p : PlanNode). seen_items plan results p e ≡ []) its
      (items-none plan results hits (outer_node w (at.0, node.0)) task.0 task.2 e.standing e.inputs))

  pub list-told : pass.seen ≡ flat_map (seen_node plan results hits sight) (enumerate_from 0 plan.nodes)
  list-told = seen-told ∙ sym (singles (seen_node plan results hits sight) told (enumerate_from 0 plan.nodes) node-told)

  -- ---- the root

  any-verdict : (q : Verdict → Bool) → list_any q verdicts ≡ list_any (λ i. q (sight.verdict i)) (range_with_len 0 (length plan.nodes))
  any-verdict q = any-map q (λ (at : ℕ × PlanNode). sight.verdict at.0) (nodes_in plan []) ∙ any-node plan w outer (λ i. q (sight.verdict i))

  pub failures : has_failure plan s [] ≡ list_any eval.is_failure verdicts
  failures =
      failure-outer plan w outer s
      ∙ any-alike (λ i. state_of.is_failure (phase_of s i)) (λ i. eval.is_failure (sight.verdict i)) 0 (length plan.nodes)
      (λ i above below. ap (λ (slot : SlotState). state_of.is_failure slot.phase) (all.tells i (omega arith)).slot_is ∙ told-failure (sight.verdict i))
      ∙ sym (any-verdict eval.is_failure)

  pub pendings : list_any (λ (x : Seen). is_pending x.verdict) pass.seen ≡ list_any is_pending verdicts
  pendings =
      ap (list_any (λ (x : Seen). is_pending x.verdict)) seen-told
      ∙ any-map (λ (x : Seen). is_pending x.verdict) told (enumerate_from 0 plan.nodes)
      ∙ ap (list_any (λ (at : ℕ × PlanNode). is_pending (sight.verdict at.0))) (sym (nodes_in-outer plan w outer))
      ∙ sym (any-map is_pending (λ (at : ℕ × PlanNode). sight.verdict at.0) (nodes_in plan []))

  pub misses : skips_one plan s (sources_of w.outputs) ≡ eval.misses_output plan sight [] w
  misses =
      let each : (id : Text) → list_any (λ i. state_of.is_skipped (phase_of s i)) (option_to_list (number_in plan [] id))
      ≡ list_any (λ i. eval.is_skipped (sight.verdict i)) (option_to_list (number_in plan [] id)) =
      λ id. any-option (λ i. state_of.is_skipped (phase_of s i)) (λ i. eval.is_skipped (sight.verdict i)) (number_in plan [] id)
      (λ j is. ap (λ (slot : SlotState). state_of.is_skipped slot.phase) (all.tells j (small-numbered id j is)).slot_is
      ∙ told-skipped (sight.verdict j)) in
      λ k. list_any (λ id. each id k) (sources_of w.outputs)

  known-same : (id : Text) → state_of.known_in plan s [] id ≡ eval.known_in plan inputs sight [] id
  known-same id =
      if-same (bytes_eq id start_node) s.root.inputs (option_and_then (λ j. state_of.outputs_in (own_state s j)) (number_in plan [] id))
      (Some inputs) (option_and_then (λ j. eval.outputs_in (sight.verdict j)) (number_in plan [] id))
      (λ start. all.holds.submitted)
      (λ other.
      option-same (λ j. state_of.outputs_in (own_state s j)) (λ j. eval.outputs_in (sight.verdict j)) (number_in plan [] id)
      (λ j is. ap state_of.outputs_in (all.tells j (small-numbered id j is)).slot_is ∙ told-outputs (sight.verdict j)))

  pub outputs-same : workflow_outputs plan.documents w (state_of.known_in plan s [])
      ≡ workflow_outputs plan.documents w (eval.known_in plan inputs sight [])
  outputs-same =
      workflow_outputs-same plan.documents w (state_of.known_in plan s []) (eval.known_in plan inputs sight []) (λ id has. known-same id)

  -- the root's verdict, by what is asked of the pass
  pub root-is : root_verdict plan inputs results hits
      ≡ by_tests (not w.fail_late && has_failure plan s []) (list_any (λ (x : Seen). is_pending x.verdict) pass.seen) (has_failure plan s [])
      (skips_one plan s (sources_of w.outputs)) (by_outputs (workflow_outputs plan.documents w (state_of.known_in plan s [])))
  root-is =
      opens plan w inputs sight outer.named
      ∙ sym (λ k. by_tests (not w.fail_late && failures k) (pendings k) (failures k) (misses k) (by_outputs (outputs-same k)))

  -- ---- the root, case by case

  abbrev failing : Bool
  failing = has_failure plan s []

  abbrev is_open : Bool
  is_open = list_any (λ (x : Seen). is_pending x.verdict) pass.seen

  abbrev missing : Bool
  missing = skips_one plan s (sources_of w.outputs)

  abbrev taken : Taken LiteralMap
  taken = workflow_outputs plan.documents w (state_of.known_in plan s [])

  abbrev root : Verdict
  root = root_verdict plan inputs results hits

  pub root-at-once : (not w.fail_late && failing) ≡ true → verdict.Failed (codes "NodeFailed") ≡ root
  root-at-once e = sym (root-is ∙ ap (λ b. by_tests b is_open failing missing (by_outputs taken)) e)

  pub root-open : (not w.fail_late && failing) ≡ false → is_open ≡ true → verdict.Pending ≡ root
  root-open e opens_is = sym (root-is ∙ (λ k. by_tests (e k) (opens_is k) failing missing (by_outputs taken)))

  pub root-failed : (not w.fail_late && failing) ≡ false → is_open ≡ false → failing ≡ true → verdict.Failed (codes "NodeFailed") ≡ root
  root-failed e opens_is fails_is =
      sym (root-is ∙ ap (λ b. by_tests b is_open failing missing (by_outputs taken)) e
      ∙ (λ k. by_tests false (opens_is k) (fails_is k) missing (by_outputs taken)))

  pub root-missing : (not w.fail_late && failing) ≡ false → is_open ≡ false → failing ≡ false → missing ≡ true
      → verdict.Failed (codes "OutputMissing") ≡ root
  root-missing e opens_is fails_is misses_is =
      sym (root-is ∙ ap (λ b. by_tests b is_open failing missing (by_outputs taken)) e
      ∙ (λ k. by_tests false (opens_is k) (fails_is k) (misses_is k) (by_outputs taken)))

  pub root-given : (not w.fail_late && failing) ≡ false → is_open ≡ false → failing ≡ false → missing ≡ false → (given : Taken LiteralMap)
      → taken ≡ given → by_outputs given ≡ root
  root-given e opens_is fails_is misses_is given is =
      sym (root-is ∙ ap (λ b. by_tests b is_open failing missing (by_outputs taken)) e
      ∙ (λ k. by_tests false (opens_is k) (fails_is k) (misses_is k) (by_outputs (is k))))
