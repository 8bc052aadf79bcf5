-- Where what a move makes of its slot is there.
use Rattle.std.proofs.Common.{◌≡◌, ℕ, Bool, true, false, not, ◌&&◌, ◌||◌, if◌then◌else◌, List, [], Option, Some, None, option_map, option_and_then, is_some, Ok, Err, refl, ◌∙◌, ap}
use Rattle.std.specs.List.{slice_get}
use Rattle.fly_types.specs.declared.literals.LiteralMap.{LiteralMap}
use Rattle.fly_docs.specs.declared.names.Identifier.{Identifier}
use Rattle.fly_docs.specs.declared.node.Target.{out-Target}
use Rattle.fly_docs.specs.declared.node.Target.TheOpen.{Target-F}
use Rattle.fly_docs.specs.declared.workflow.Workflow.{Workflow}
use Rattle.fly_docs.specs.Lookups.{primary_of}
use Rattle.fly_docs.specs.Plans.{PlanNode, is_array, is_array_target}
use Rattle.fly_docs.specs.SlotInputs as docs
use Rattle.fly_docs.specs.SlotInputs.{Taken, workflow_outputs}
use Rattle.fly_state.specs.declared.checks.Taking.TheVariants as taking
use Rattle.fly_state.specs.declared.phase.Phase.TheVariants as phase
use Rattle.fly_state.specs.declared.slots.SlotState.{SlotState}
use Rattle.fly_state.specs.declared.slots.ExecState.{ExecState}
use Rattle.fly_state.specs.declared.moves.Move.{Move}
use Rattle.fly_state.specs.declared.moves.Step.{Step}
use Rattle.fly_state.specs.declared.moves.Step.TheVariants as step
use Rattle.fly_state.specs.declared.entries.Entry.{Entry}
use Rattle.fly_state.specs.declared.view.View.{View}
use Rattle.fly_state.specs.Checks.{IsTakingOf}
use Rattle.fly_state.specs.Inputs.{inputs_of_node, value_in, fault_code}
use Rattle.fly_state.specs.Moves.{of_slot, where_true, is_ready, inputs_when, queued_slot, input_failed_slot, failed_slot, has_failure, misses_output, slot_with_outputs, closed_instance_slot, closed_node_slot, node_effect, item_effect, is_going_on, may_step, is_legal}
use Rattle.fly_state.specs.Plans.{RunPlan, node_numbered, instance_of, is_task, is_workflow, is_branch, is_task_target, is_workflow_target, is_branch_target}
use Rattle.fly_state.specs.Standing.{is_settled}
use Rattle.fly_state.specs.States.{node_state, own_state, phase_of, is_running, is_broken, known_in}
use Rattle.fly_state.proofs.PlanLemmas.{and-false}

some-map : {X Y : Type 0} (f : X → Y) (o : Option X) → is_some (option_map f o) ≡ is_some o
some-map f None = refl
some-map f (Some x) = refl

some-where : {X : Type 0} (b : Bool) (o : Option X) → is_some (where_true b o) ≡ b && is_some o
some-where true o = refl
some-where false o = refl

some-or : {X : Type 0} (b : Bool) (x : X) (o : Option X) → is_some (if b then Some x else o) ≡ b || is_some o
some-or true x o = refl
some-or false x o = refl

-- ---- what comes of inputs

pub there-value : {X : Type 0} (wanted : Taken X) → IsTakingOf wanted taking.There → is_some (value_in wanted) ≡ true
there-value (Ok x) h = refl
there-value (Err (docs.enum_outside text)) h = absurd h
there-value (Err (docs.unequal_lengths first second)) h = absurd h
there-value (Err (docs.too_many_items count)) h = absurd h
there-value (Err docs.unknown) h = absurd h

pub outside-code : {X : Type 0} (wanted : Taken X) → IsTakingOf wanted taking.Outside
    → is_some (fault_code wanted) ≡ true
outside-code (Err (docs.enum_outside text)) h = refl
outside-code (Ok x) h = absurd h
outside-code (Err (docs.unequal_lengths first second)) h = absurd h
outside-code (Err (docs.too_many_items count)) h = absurd h
outside-code (Err docs.unknown) h = absurd h

-- ---- task nodes

module _ (p : PlanNode) (id : Identifier) (is : out-Target p.node.target ≡ Target-F.Task id)
    (plan : RunPlan) (s : ExecState) (i : ℕ) where
  abbrev taken : Taken LiteralMap
  taken = inputs_of_node plan s p None

  pub queued-there : is_some (queued_slot plan s i p) ≡ is_ready plan s i && is_some (value_in taken)
  queued-there =
      let kind = is_task p.node || is_array p.node in
      some-map (λ inputs. record (own_state s i) { phase = phase.Queued; inputs = Some inputs })
      (inputs_when kind plan s i p)
      ∙ some-where (kind && is_ready plan s i) (value_in taken)
      ∙ ap (λ t. ((is_task_target t || is_array_target t) && is_ready plan s i) && is_some (value_in taken)) is

  pub failed-there : is_some (input_failed_slot plan s i p) ≡ is_ready plan s i && is_some (fault_code taken)
  failed-there =
      let fails = failed_slot (own_state s i) in
      some-where (not (is_branch p.node) && is_ready plan s i) (option_map fails (fault_code taken))
      ∙ (λ k. (not (is_branch_target (is k)) && is_ready plan s i) && some-map fails (fault_code taken) k)

  pub settled-there : (o : Option SlotState) → is_some (option_map of_slot (where_true (is_task p.node) o)) ≡ is_some o
  settled-there o =
      some-map of_slot (where_true (is_task p.node) o) ∙ ap (λ t. is_some (where_true (is_task_target t) o)) is

  none-when : (kind : Bool) → kind ≡ false → inputs_when kind plan s i p ≡ None
  none-when kind e = ap (λ b. where_true (b && is_ready plan s i) (value_in taken)) e

module _ (p : PlanNode) (id : Identifier) (is : out-Target p.node.target ≡ Target-F.Task id)
    (plan : RunPlan) (v : View) (entries : List Entry) (i : ℕ) where
  -- a task node makes no step of a workflow node, of a branch or of what has something inside
  pub no-begin : is_some (node_effect plan v entries i p step.Begin) ≡ false
  no-begin = rw (none-when p id is plan v.state i (is_workflow p.node) (ap is_workflow_target is)) refl

  pub no-choose : (case : ℕ) → is_some (node_effect plan v entries i p (step.Choose case)) ≡ false
  no-choose case = rw (none-when p id is plan v.state i (is_branch p.node) (ap is_branch_target is)) refl

  pub no-no_case : is_some (node_effect plan v entries i p step.NoCase) ≡ false
  no-no_case = rw (none-when p id is plan v.state i (is_branch p.node) (ap is_branch_target is)) refl

  pub no-close : is_some (node_effect plan v entries i p step.Close) ≡ false
  no-close =
      let runs = is_running (phase_of v.state i) in
      some-map of_slot (closed_node_slot plan v.state i p) ∙ rw is (some-where runs None ∙ and-false runs)

-- ---- the end of a run

abbrev has_outputs_slot : RunPlan → ExecState → Workflow → Bool
has_outputs_slot plan s w = is_some (slot_with_outputs s.root (workflow_outputs plan.documents w (known_in plan s [])))

-- once the run is settled, a failure, a missing output or what comes of the outputs closes it
pub closed-there : (plan : RunPlan) (s : ExecState) (w : Workflow) → primary_of plan.documents ≡ Some w
    → is_some (closed_instance_slot plan s [])
    ≡ is_settled plan s [] && (has_failure plan s [] || (misses_output plan s [] w || has_outputs_slot plan s w))
closed-there plan s w named = rw named (
    some-where (is_settled plan s []) _
    ∙ ap (λ b. is_settled plan s [] && b)
    (some-or (has_failure plan s []) _ _
    ∙ ap (λ b. has_failure plan s [] || b) (some-or (misses_output plan s [] w) _ _)))

-- ---- moves

pub steps-elsewhere : (plan : RunPlan) (s : ExecState) (m : Step) → (m ≡ step.Abort → ⊥)
    → may_step plan s [] m ≡ is_going_on plan s [] && not (is_broken plan s [])
steps-elsewhere plan s step.Abort other = absurd (other refl)
steps-elsewhere plan s _ other = refl

module _ (plan : RunPlan) (v : View) (entries : List Entry) (m : Move) (i : ℕ) (node : m.at.node ≡ Some i) where
  pub legal-nowhere : node_numbered plan i ≡ None → is_legal plan v entries m ≡ false
  legal-nowhere none = rw (node, none) refl

  module _ (p : PlanNode) (planned : node_numbered plan i ≡ Some p) (inside : instance_of p ≡ []) where
    pub legal-barred : may_step plan v.state [] m.step ≡ false → is_legal plan v entries m ≡ false
    legal-barred barred = rw (node, planned, inside, barred) refl

    pub legal-node : m.at.item ≡ None → may_step plan v.state [] m.step ≡ true
        → is_legal plan v entries m ≡ is_some (node_effect plan v entries i p m.step)
    legal-node item may = rw (node, planned, inside, may, item) refl

    pub legal-item : (item : ℕ) → m.at.item ≡ Some item → may_step plan v.state [] m.step ≡ true
        → is_legal plan v entries m
        ≡ is_some (option_and_then (λ slot. item_effect plan v p item slot m.step)
        (slice_get (node_state v.state i).items item))
    legal-item item at may = rw (node, planned, inside, may, at) refl
