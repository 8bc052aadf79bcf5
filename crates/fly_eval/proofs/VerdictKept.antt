-- A verdict is kept, unless it is pending, where what it looks at is kept.
use Rattle.std.proofs.Common.{◌≡◌, ◌⊎◌, ℕ, Bool, true, false, not, ◌&&◌, if◌then◌else◌, List, [], ◌∷◌, map, codes, Option, Some, None, option_to_list, Ok, Err, refl, sym, ◌∙◌, ap, subst, ⊎_elim}
use Rattle.std.specs.List.{list_any}
use Rattle.std.proofs.lemmas.Bool.{true≢false, and_parts, and_from, cases_Bool}
use Rattle.fly_types.specs.declared.text.Text.{Text}
use Rattle.fly_types.specs.declared.literals.LiteralMap.{LiteralMap}
use Rattle.fly_docs.specs.declared.names.Identifier.{Identifier}
use Rattle.fly_docs.specs.declared.node.Node.{Node}
use Rattle.fly_docs.specs.declared.node.Case.{Case}
use Rattle.fly_docs.specs.declared.node.Target.{Target, out-Target}
use Rattle.fly_docs.specs.declared.node.Target.TheOpen.{Target-F}
use Rattle.fly_docs.specs.declared.workflow.Workflow.{Workflow}
use Rattle.fly_docs.specs.Bindings.{sources_of}
use Rattle.fly_docs.specs.Plans.{PlanNode}
use Rattle.fly_docs.specs.SlotInputs.{Taken, workflow_outputs}
use Rattle.fly_rules.specs.Standing.{Standing, waiting, blocked, skipped, ready}
use Rattle.fly_rules.proofs.GroundLemmas.{Contains-map}
use Rattle.fly_state.specs.Plans.{RunPlan, Path, number_in, nodes_in, workflow_in, numbered_case}
use Rattle.fly_state.specs.Inputs.{choice_of}
use Rattle.fly_eval.specs.declared.verdict.Verdict.{Verdict}
use Rattle.fly_eval.specs.declared.verdict.Verdict.TheVariants as verdict
use Rattle.fly_eval.specs.declared.results.Results.{Results}
use Rattle.fly_eval.specs.declared.results.Hits.{Hits}
use Rattle.fly_eval.specs.Attempts.{Attempts}
use Rattle.fly_eval.specs.Evaluation.{Entering, Sight, instance_inputs, known_in, is_pending, is_skipped, is_failure, task_attempts, items_attempts, array_verdict, by_case, branch_verdict, misses_output, by_outputs, instance_verdict, verdict_in_instance, verdict_entered, verdict_by, verdict_of}
use Rattle.fly_eval.specs.Laws.{HasResultsOf, HasHitsOf, IsKeptVerdict}
use Rattle.fly_eval.proofs.Kept.{IsKeptEntering, IsKeptSight, pending-kept, AreKept, AreKept-map, failures-kept, all-kept, none-passes}
use Rattle.fly_eval.proofs.KnownSame.{workflow_outputs-same}
use Rattle.fly_eval.proofs.EnteringKept.{instance-same, known-same}
use Rattle.fly_eval.proofs.AttemptsKept.{task-kept, items-kept}
use Rattle.fly_eval.proofs.InInstance.{in-instance}

both-verdicts : (a b c d : Verdict) → a ≡ b → c ≡ d → IsKeptVerdict b d → IsKeptVerdict a c
both-verdicts a b c d e f kept is = f ∙ kept (sym (ap is_pending e) ∙ is) ∙ sym e

-- ---- arrays and branches

array-kept : (plan : RunPlan) (p : PlanNode) (vs ws : List Verdict) → AreKept vs ws
    → IsKeptVerdict (array_verdict plan p vs) (array_verdict plan p ws)
array-kept plan p vs ws kept is =
    ⊎_elim (λ awaits.
    let pending : array_verdict plan p vs ≡ verdict.Pending = rw awaits refl in
    absurd (true≢false (sym (ap is_pending pending) ∙ is)))
    (λ over. ap (array_verdict plan p) (all-kept vs ws kept over))
    (cases_Bool (list_any is_pending vs))

by_case-kept : (plan : RunPlan) (p : PlanNode) (v w : Verdict) → IsKeptVerdict v w → IsKeptVerdict (by_case plan p v) (by_case plan p w)
by_case-kept plan p v w kept is = ap (by_case plan p) (kept (ended v is))
  where
    ended : (x : Verdict) → is_pending (by_case plan p x) ≡ false → is_pending x ≡ false
    ended verdict.Pending e = absurd (true≢false e)
    ended _ e = refl

-- ---- instances

abbrev verdicts_in : RunPlan → Sight → Path → List Verdict
verdicts_in plan sight instance = map (λ (at : ℕ × PlanNode). sight.verdict at.0) (nodes_in plan instance)

-- an instance's verdict, by what is asked of its nodes
abbrev by_tests : Bool → Bool → Bool → Bool → Verdict → Verdict
by_tests fails_at_once is_open fails misses outputs =
    if fails_at_once then verdict.Failed (codes "NodeFailed")
    else (if is_open then verdict.Pending
    else (if fails then verdict.Failed (codes "NodeFailed") else (if misses then verdict.Failed (codes "OutputMissing") else outputs)))

by_tests-kept : (a b c d : Bool) (o : Verdict) (e f g h : Bool) (u : Verdict) → (a ≡ true → e ≡ true)
    → (b ≡ false → by_tests e f g h u ≡ by_tests a b c d o) → IsKeptVerdict (by_tests a b c d o) (by_tests e f g h u)
by_tests-kept true b c d o e f g h u fails rest = λ is. ap (λ x. by_tests x f g h u) (fails refl)
by_tests-kept false true c d o e f g h u fails rest = λ is. absurd (true≢false is)
by_tests-kept false false c d o e f g h u fails rest = λ is. rest refl

module _ (plan : RunPlan) (inputs : LiteralMap) (before after : Sight) (kept : IsKeptSight before after) where
  branch-verdict-kept : (p : PlanNode) (given : LiteralMap) → IsKeptVerdict (branch_verdict plan before p given) (branch_verdict plan after p given)
  branch-verdict-kept p given = by (choice_of given p.node) refl
    where
      numbered : (case : ℕ) (o : Option ℕ) → choice_of given p.node ≡ Some case → numbered_case plan p case ≡ o
          → IsKeptVerdict (branch_verdict plan before p given) (branch_verdict plan after p given)
      numbered case None chosen is =
          let now : branch_verdict plan before p given ≡ verdict.Pending = rw (chosen, is) refl in
          λ e. absurd (true≢false (sym (ap is_pending now) ∙ e))
      numbered case (Some i) chosen is =
          both-verdicts (branch_verdict plan before p given) (by_case plan p (before.verdict i))
          (branch_verdict plan after p given) (by_case plan p (after.verdict i))
          (rw (chosen, is) refl) (rw (chosen, is) refl) (by_case-kept plan p (before.verdict i) (after.verdict i) (kept.verdict i))

      by : (o : Option ℕ) → choice_of given p.node ≡ o → IsKeptVerdict (branch_verdict plan before p given) (branch_verdict plan after p given)
      by None none =
          let now : branch_verdict plan before p given ≡ verdict.Failed (codes "NoCase") = rw none refl in
          let behind : branch_verdict plan after p given ≡ verdict.Failed (codes "NoCase") = rw none refl in
          λ e. behind ∙ sym now
      by (Some case) chosen = numbered case (numbered_case plan p case) chosen refl

  verdicts-kept : (instance : Path) → AreKept (verdicts_in plan before instance) (verdicts_in plan after instance)
  verdicts-kept instance =
      AreKept-map (λ (at : ℕ × PlanNode). before.verdict at.0) (λ (at : ℕ × PlanNode). after.verdict at.0) (nodes_in plan instance)
      (λ at. kept.verdict at.0)

  -- the nodes of an instance in which none is pending stay
  node-same : (instance : Path) (id : Text) (i : ℕ) → list_any is_pending (verdicts_in plan before instance) ≡ false
      → number_in plan instance id ≡ Some i → after.verdict i ≡ before.verdict i
  node-same instance id i over numbered =
      let node = in-instance plan instance id i numbered in
      kept.verdict i
      (none-passes is_pending (verdicts_in plan before instance) (before.verdict i) over
      (Contains-map (λ (at : ℕ × PlanNode). before.verdict at.0) (nodes_in plan instance) (i, node.0) node.1))

  skipped-same : (o : Option ℕ) → ((i : ℕ) → o ≡ Some i → after.verdict i ≡ before.verdict i)
      → list_any (λ i. is_skipped (after.verdict i)) (option_to_list o) ≡ list_any (λ i. is_skipped (before.verdict i)) (option_to_list o)
  skipped-same None same = refl
  skipped-same (Some i) same = ap (λ v. list_any is_skipped (v ∷ [])) (same i refl)

  misses-same : (instance : Path) (w : Workflow) → list_any is_pending (verdicts_in plan before instance) ≡ false
      → misses_output plan after instance w ≡ misses_output plan before instance w
  misses-same instance w over =
      let each : (id : Text) → list_any (λ i. is_skipped (after.verdict i)) (option_to_list (number_in plan instance id))
      ≡ list_any (λ i. is_skipped (before.verdict i)) (option_to_list (number_in plan instance id)) =
      λ id. skipped-same (number_in plan instance id) (λ i is. node-same instance id i over is) in
      λ k. list_any (λ id. each id k) (sources_of w.outputs)

  outputs-same : (instance : Path) (w : Workflow) → list_any is_pending (verdicts_in plan before instance) ≡ false
      → instance_inputs plan inputs after instance ≡ instance_inputs plan inputs before instance
      → workflow_outputs plan.documents w (known_in plan inputs after instance)
      ≡ workflow_outputs plan.documents w (known_in plan inputs before instance)
  outputs-same instance w over around =
      workflow_outputs-same plan.documents w (known_in plan inputs after instance) (known_in plan inputs before instance) (λ id has.
      known-same plan inputs before after kept instance id (λ start. around) (λ other i is. node-same instance id i over is))

  instance-kept : (instance : Path) (w : Workflow)
      → instance_inputs plan inputs after instance ≡ instance_inputs plan inputs before instance
      → IsKeptVerdict (instance_verdict plan inputs before instance w) (instance_verdict plan inputs after instance w)
  instance-kept instance w around =
      let vs = verdicts_in plan before instance in
      let ws = verdicts_in plan after instance in
      let now = by_outputs (workflow_outputs plan.documents w (known_in plan inputs before instance)) in
      let behind = by_outputs (workflow_outputs plan.documents w (known_in plan inputs after instance)) in
      by_tests-kept
      (not w.fail_late && list_any is_failure vs) (list_any is_pending vs) (list_any is_failure vs) (misses_output plan before instance w) now
      (not w.fail_late && list_any is_failure ws) (list_any is_pending ws) (list_any is_failure ws) (misses_output plan after instance w) behind
      (λ fails.
      let parts = and_parts (not w.fail_late) (list_any is_failure vs) fails in
      and_from (not w.fail_late) (list_any is_failure ws) parts.0 (failures-kept vs ws (verdicts-kept instance) parts.1))
      (λ over.
      let same : ws ≡ vs = all-kept vs ws (verdicts-kept instance) over in
      let missing = misses-same instance w over in
      let outputs = ap by_outputs (outputs-same instance w over around) in
      λ k. by_tests (not w.fail_late && list_any is_failure (same k)) (list_any is_pending (same k)) (list_any is_failure (same k)) (missing k)
      (outputs k))

  pub verdict_in_instance-kept : (instance : Path)
      → instance_inputs plan inputs after instance ≡ instance_inputs plan inputs before instance
      → IsKeptVerdict (verdict_in_instance plan inputs before instance) (verdict_in_instance plan inputs after instance)
  verdict_in_instance-kept instance around = by (workflow_in plan instance) refl
    where
      by : (o : Option Workflow) → workflow_in plan instance ≡ o
          → IsKeptVerdict (verdict_in_instance plan inputs before instance) (verdict_in_instance plan inputs after instance)
      by None is =
          let now : verdict_in_instance plan inputs before instance ≡ verdict.Pending = rw is refl in
          λ e. absurd (true≢false (sym (ap is_pending now) ∙ e))
      by (Some w) is =
          both-verdicts (verdict_in_instance plan inputs before instance) (instance_verdict plan inputs before instance w)
          (verdict_in_instance plan inputs after instance) (instance_verdict plan inputs after instance w)
          (rw is refl) (rw is refl) (instance-kept instance w around)

-- ---- nodes

verdict_by-kept : (s : Standing) (t : Taken LiteralMap) (later : Entering) (run again : LiteralMap → Verdict)
    → IsKeptEntering (record { standing = s; inputs = t }) later
    → ((given : LiteralMap) → s ≡ ready → IsKeptVerdict (run given) (again given))
    → IsKeptVerdict (verdict_by s t run) (verdict_by later.standing later.inputs again)
verdict_by-kept waiting t later run again kept each = pending-kept (verdict_by later.standing later.inputs again)
verdict_by-kept blocked t later run again kept each = λ is. ap (λ s. verdict_by s later.inputs again) (kept.blocks refl)
verdict_by-kept skipped t later run again kept each = λ is. ap (λ s. verdict_by s later.inputs again) (kept.skips refl)
verdict_by-kept ready (Err fault) later run again kept each =
    λ is. ap (λ (e : Entering). verdict_by e.standing e.inputs again) (kept.enters refl)
verdict_by-kept ready (Ok given) later run again kept each =
    λ is. ap (λ (e : Entering). verdict_by e.standing e.inputs again) (kept.enters refl) ∙ each given refl is

-- what an entered node comes to, by what it runs
module _ (plan : RunPlan) (inputs : LiteralMap) (results : Results) (hits : Hits) (sight : Sight) (p : PlanNode) (given : LiteralMap)
    (v : Verdict) where
  of-task : (id : Identifier) → out-Target p.node.target ≡ Target-F.Task id → (task_attempts plan results hits p).verdict ≡ v
      → verdict_entered plan inputs results hits sight p given ≡ v
  of-task id is e = rw is e

  of-array : (id : Identifier) (min_successes : Option ℕ) → out-Target p.node.target ≡ Target-F.Array id min_successes
      → array_verdict plan p (map (λ (a : Attempts). a.verdict) (items_attempts plan results p given)) ≡ v
      → verdict_entered plan inputs results hits sight p given ≡ v
  of-array id min_successes is e = rw is e

  of-branch : (cases : List Case) (otherwise : Option Node) (error : Option (List ℕ))
      → out-Target p.node.target ≡ Target-F.Branch cases otherwise error
      → branch_verdict plan sight p given ≡ v → verdict_entered plan inputs results hits sight p given ≡ v
  of-branch cases otherwise error is e = rw is e

  of-workflow : (id : Identifier) → out-Target p.node.target ≡ Target-F.Workflow id
      → verdict_in_instance plan inputs sight p.path ≡ v → verdict_entered plan inputs results hits sight p given ≡ v
  of-workflow id is e = rw is e

module _ (plan : RunPlan) (inputs : LiteralMap) (results later : Results) (hits later_hits : Hits) (more : HasResultsOf later results)
    (grows : HasHitsOf later_hits hits) where
  module _ (before after : Sight) (kept : IsKeptSight before after) where
    entered-kept : (p : PlanNode) (given : LiteralMap)
        → instance_inputs plan inputs after p.path ≡ instance_inputs plan inputs before p.path
        → IsKeptVerdict (verdict_entered plan inputs results hits before p given) (verdict_entered plan inputs later later_hits after p given)
    entered-kept p given around = by (out-Target p.node.target) refl
      where
        by : (t : Target-F Target Case Node) → out-Target p.node.target ≡ t
            → IsKeptVerdict (verdict_entered plan inputs results hits before p given) (verdict_entered plan inputs later later_hits after p given)
        by (Target-F.Task id) is =
            both-verdicts (verdict_entered plan inputs results hits before p given) (task_attempts plan results hits p).verdict
            (verdict_entered plan inputs later later_hits after p given) (task_attempts plan later later_hits p).verdict
            (of-task plan inputs results hits before p given (task_attempts plan results hits p).verdict id is refl)
            (of-task plan inputs later later_hits after p given (task_attempts plan later later_hits p).verdict id is refl)
            (task-kept results later more plan hits later_hits p grows).verdict
        by (Target-F.Array id min_successes) is =
            let vs = map (λ (a : Attempts). a.verdict) (items_attempts plan results p given) in
            let ws = map (λ (a : Attempts). a.verdict) (items_attempts plan later p given) in
            both-verdicts (verdict_entered plan inputs results hits before p given) (array_verdict plan p vs)
            (verdict_entered plan inputs later later_hits after p given) (array_verdict plan p ws)
            (of-array plan inputs results hits before p given (array_verdict plan p vs) id min_successes is refl)
            (of-array plan inputs later later_hits after p given (array_verdict plan p ws) id min_successes is refl)
            (array-kept plan p vs ws (items-kept results later more plan p given))
        by (Target-F.Branch cases otherwise error) is =
            both-verdicts (verdict_entered plan inputs results hits before p given) (branch_verdict plan before p given)
            (verdict_entered plan inputs later later_hits after p given) (branch_verdict plan after p given)
            (of-branch plan inputs results hits before p given (branch_verdict plan before p given) cases otherwise error is refl)
            (of-branch plan inputs later later_hits after p given (branch_verdict plan after p given) cases otherwise error is refl)
            (branch-verdict-kept plan inputs before after kept p given)
        by (Target-F.Workflow id) is =
            both-verdicts (verdict_entered plan inputs results hits before p given) (verdict_in_instance plan inputs before p.path)
            (verdict_entered plan inputs later later_hits after p given) (verdict_in_instance plan inputs after p.path)
            (of-workflow plan inputs results hits before p given (verdict_in_instance plan inputs before p.path) id is refl)
            (of-workflow plan inputs later later_hits after p given (verdict_in_instance plan inputs after p.path) id is refl)
            (verdict_in_instance-kept plan inputs before after kept p.path around)

    -- the verdict of a node that sees no other node enter than itself
    pub verdict_of-kept : (i : ℕ) (p : PlanNode) → ((j : ℕ) → (after.entering j ≡ before.entering j) ⊎ (j ≡ i))
        → IsKeptVerdict (verdict_of plan inputs results hits before i p) (verdict_of plan inputs later later_hits after i p)
    verdict_of-kept i p alone =
        verdict_by-kept (before.entering i).standing (before.entering i).inputs (after.entering i)
        (verdict_entered plan inputs results hits before p) (verdict_entered plan inputs later later_hits after p)
        (kept.entering i)
        (λ given entered.
        entered-kept p given (instance-same plan inputs before after kept p.path (λ j is.
        ⊎_elim (λ same. same) (λ own. subst (λ k. after.entering k ≡ before.entering k) (sym own) ((kept.entering i).enters entered)) (alone j))))
