-- What is bound in a plan of task nodes fits, what a run closes by, and that no item is moved.
use Rattle.std.proofs.Common.{◌≡◌, ℕ, true, false, List, [], bytes_eq, Option, Some, None, option_map, option_and_then, is_some, IsTrue, refl, sym, ◌∙◌, ap, subst, ⊎_elim}
use Rattle.std.specs.List.{slice_get}
use Rattle.std.specs.Prelude.{nat_lt, length}
use Rattle.std.proofs.lemmas.Bool.{cases_Bool, false≢true, and_from, lt-ltb}
use Rattle.std.proofs.lemmas.Option.{none-some, same_Some, slice_get_within}
use Rattle.std.proofs.lemmas.Slice.Eq.{bytes_eq-Decides}
use Rattle.fly_types.specs.declared.literals.LiteralMap.{LiteralMap}
use Rattle.fly_docs.specs.declared.binding.Binding.{Binding}
use Rattle.fly_docs.specs.declared.node.Node.{Node}
use Rattle.fly_docs.specs.declared.task.Task.{Task}
use Rattle.fly_docs.specs.declared.workflow.Workflow.{Workflow}
use Rattle.fly_docs.specs.Bindings.{Promised, sources_of}
use Rattle.fly_docs.specs.Fitting.{bound_fits}
use Rattle.fly_docs.specs.NodeInterfaces.{Source}
use Rattle.fly_docs.specs.Plans.{PlanNode}
use Rattle.fly_docs.specs.SlotInputs.{Taken, workflow_outputs}
use Rattle.fly_state.specs.declared.slots.ExecState.{ExecState}
use Rattle.fly_state.specs.declared.slots.SlotState.{SlotState}
use Rattle.fly_state.specs.declared.moves.Move.{Move}
use Rattle.fly_state.specs.declared.entries.Entry.{Entry}
use Rattle.fly_state.specs.declared.view.View.{View}
use Rattle.fly_state.specs.Moves.{has_failure, slot_with_outputs, closed_instance_slot, item_effect, may_step, is_legal}
use Rattle.fly_state.specs.Closing.{skips_one}
use Rattle.fly_state.specs.OfPlan.{IsOfPlan}
use Rattle.fly_state.specs.Origins.{source_in_run}
use Rattle.fly_state.specs.PlanTables.{IsOuterPlan, outer_node}
use Rattle.fly_state.specs.Plans.{RunPlan, node_numbered, task_of}
use Rattle.fly_state.specs.States.{node_state, known_in}
use Rattle.fly_state.specs.Values.{FitVariables}
use Rattle.fly_state.proofs.EffectLemmas.{closed-outputs}
use Rattle.fly_state.proofs.AskedInputs.{found-in, fit-variables, sources-same, task-inputs, no-items}
use Rattle.fly_state.proofs.MoveLemmas.{legal-nowhere, legal-barred, legal-item}
use Rattle.fly_state.proofs.OuterPlans.{numbered-outer}
use Rattle.fly_state.proofs.TaskNodes.{task-node}

module _ (plan : RunPlan) (w : Workflow) (outer : IsOuterPlan plan w) where
  -- what is bound to the outputs of the run fits them
  pub fit-outputs : FitVariables (source_in_run plan) w.outputs w.interface.outputs
  fit-outputs v has x bound =
      let found = found-in (λ (y : Binding). bytes_eq y.var v.name) w.outputs x bound in
      let same = sources-same plan w outer in
      subst (λ (source : Promised → Source). IsTrue (bound_fits source x.bound v.kind)) (sym same)
      (outer.typed.outputs.fits v x has found.0 ((bytes_eq-Decides x.var v.name).0 found.1))

  -- what is bound to the inputs of a node's task fits them
  pub fit-inputs : (s : ExecState) (i : ℕ) (p : PlanNode) (t : Task) → node_numbered plan i ≡ Some p
      → task_of plan p ≡ Some t → FitVariables (source_in_run plan) p.node.inputs t.interface.inputs
  fit-inputs s i p t planned runs = by (slice_get w.nodes i) refl
    where
      fits : Node → Task → Type 0
      fits m u = FitVariables (source_in_run plan) m.inputs u.interface.inputs

      numbered : (o : Option Node) → slice_get w.nodes i ≡ o → option_map (λ m. outer_node w (i, m)) o ≡ Some p
      numbered o there =
          sym (numbered-outer plan w outer i ∙ ap (option_map (λ m. outer_node w (i, m))) there) ∙ planned

      by : (o : Option Node) → slice_get w.nodes i ≡ o → fits p.node t
      by None there = absurd (none-some p (numbered None there))
      by (Some n) there =
          let own : outer_node w (i, n) ≡ p = same_Some _ _ (numbered (Some n) there) in
          let task = task-inputs plan w outer s i n there in
          let same : task.0 ≡ t = same_Some _ _ (sym task.1 ∙ ap (task_of plan) own ∙ runs) in
          subst (λ (q : PlanNode). fits q.node t) own
          (subst (fits n) same (fit-variables plan w outer i n there task.0.interface.inputs task.2))

  -- a run that may close, without failure and without a missing output, closes by its outputs
  pub closes-with : (s : ExecState) (bindings : List Binding) (taken : Taken LiteralMap)
      → is_some (closed_instance_slot plan s []) ≡ true → has_failure plan s [] ≡ false
      → bindings ≡ w.outputs → skips_one plan s (sources_of bindings) ≡ false
      → workflow_outputs plan.documents w (known_in plan s []) ≡ taken
      → (is_some (slot_with_outputs s.root taken) ≡ true)
      × (closed_instance_slot plan s [] ≡ slot_with_outputs s.root taken)
  closes-with s bindings taken closes failure bound skips is =
      closed-outputs plan s w outer.named taken closes failure
      (ap (λ xs. skips_one plan s (sources_of xs)) (sym bound) ∙ skips) is

-- ---- items

and-then-some : {X Y : Type 0} (f : X → Option Y) (o : Option X) → is_some (option_and_then f o) ≡ true
    → is_some o ≡ true
and-then-some f None e = e
and-then-some f (Some x) e = refl

some-within : {X : Type 0} (xs : List X) (k : ℕ) (o : Option X) → slice_get xs k ≡ o → is_some o ≡ true
    → nat_lt k (length xs) ≡ true
some-within xs k None there e = absurd (false≢true e)
some-within xs k (Some x) there e = lt-ltb k (length xs) (slice_get_within xs k x there)

-- no move of an item is legal, since no task node has one
pub no-item-move : (plan : RunPlan) (w : Workflow) → IsOuterPlan plan w → (v : View) → IsOfPlan plan v.state
    → (entries : List Entry) (m : Move) (i item : ℕ) → m.at.node ≡ Some i → m.at.item ≡ Some item
    → is_legal plan v entries m ≡ true → ⊥
no-item-move plan w outer v of_plan entries m i item node at legal = by (node_numbered plan i) refl
  where
    by : (o : Option PlanNode) → node_numbered plan i ≡ o → ⊥
    by None none = false≢true (sym (legal-nowhere plan v entries m i node none) ∙ legal)
    by (Some p) planned =
        let inside = (task-node plan w outer v.state i p planned).inside in
        let items = (node_state v.state i).items in
        let effect = λ (slot : SlotState). item_effect plan v p item slot m.step in
        ⊎_elim (λ may.
        let there = and-then-some effect (slice_get items item)
        (sym (legal-item plan v entries m i node p planned inside item at may) ∙ legal) in
        no-items plan w outer v.state of_plan i item
        (and_from (is_some (node_numbered plan i)) (nat_lt item (length items)) (ap is_some planned)
        (some-within items item (slice_get items item) refl there)))
        (λ barred. false≢true (sym (legal-barred plan v entries m i node p planned inside barred) ∙ legal))
        (cases_Bool (may_step plan v.state [] m.step))
