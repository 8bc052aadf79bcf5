-- Small states, computed on the definitions.
use Rattle.std.proofs.Common.{◌≡◌, refl, ℕ, Bool, true, false, List, [], ◌∷◌, map, Some, None, codes, Option, option_map}
use Rattle.fly_types.specs.declared.text.Text.{Text}
use Rattle.fly_docs.specs.declared.names.Identifier.{Identifier}
use Rattle.fly_docs.specs.declared.interface.Interface.{Interface}
use Rattle.fly_docs.specs.declared.node.Node.{Node}
use Rattle.fly_docs.specs.declared.node.Target.{out-Target}
use Rattle.fly_docs.specs.declared.node.Target.TheVariants as target
use Rattle.fly_docs.specs.Plans.{PlanNode}
use Rattle.std.specs.List.{enumerate_from}
use Rattle.fly_docs.specs.declared.task.Task.{Task}
use Rattle.fly_docs.specs.declared.workflow.Workflow.{Workflow}
use Rattle.fly_docs.specs.declared.workflow.Bundle.{Bundle}
use Rattle.fly_state.specs.declared.phase.Phase.{Phase}
use Rattle.fly_state.specs.declared.phase.Phase.TheVariants as phase
use Rattle.fly_state.specs.declared.slots.NodeState.{NodeState}
use Rattle.fly_state.specs.declared.slots.ExecState.{ExecState}
use Rattle.fly_state.specs.Plans.{RunPlan, CaseOf, looks}
use Rattle.fly_state.specs.States.{fresh_slot, fresh_node, is_broken}
use Rattle.fly_rules.specs.Standing.{Standing, waiting, blocked, skipped, ready}
use Rattle.fly_state.specs.Standing.{standing_of, standing_by_case, is_settled}
use Rattle.fly_policy.specs.declared.outcome.Outcome.{Outcome}
use Rattle.fly_policy.specs.declared.outcome.Outcome.TheVariants as outcomes
use Rattle.fly_policy.specs.Retries.{next_of}
use Rattle.fly_state.specs.declared.slots.SlotState.{SlotState}
use Rattle.fly_state.specs.declared.moves.Move.{Move}
use Rattle.fly_state.specs.declared.moves.Step.{Step}
use Rattle.fly_state.specs.declared.moves.Step.TheVariants as steps
use Rattle.fly_state.specs.declared.view.View.{View}
use Rattle.fly_state.specs.Moves.{Effect, effect_of, attempt_limit, slot_after, retried_slot}
use Rattle.fly_rules.specs.Rules.{value_within, solution_of}

abbrev named : List ℕ → Identifier
named name = record { project = []; domain = []; name = name; version = [] }

abbrev interface : Interface
interface = record { inputs = []; outputs = [] }

abbrev n0 : Text
n0 = codes "n0"

abbrev n1 : Text
n1 = codes "n1"

abbrev n2 : Text
n2 = codes "n2"

abbrev n3 : Text
n3 = codes "n3"

abbrev task : Task
task = record {
  id = named (codes "t");
  cached = false;
  serializable = false;
  cache_version = [];
  timeout_ms = 0;
  retries = 1;
  interface = interface;
  command = [];
  args = [];
}

abbrev step : Text → List Text → Node
step id upstream = record {
  id = id;
  timeout_ms = 0;
  retries = 0;
  inputs = [];
  upstream = upstream;
  target = target.Task (named (codes "t"));
}

abbrev workflow : Bool → List Node → Workflow
workflow fail_late nodes = record {
  id = named (codes "w");
  fail_late = fail_late;
  interface = interface;
  nodes = nodes;
  outputs = [];
}

abbrev bundle : Bool → List Node → Bundle
bundle fail_late nodes = record {
  tasks = task ∷ [];
  workflows = workflow fail_late nodes ∷ [];
  primary = named (codes "w");
}

-- a plan of task nodes of one workflow, in their order
abbrev plan_node : Workflow → ℕ × Node → PlanNode
plan_node w at = record { path = at.1.id ∷ []; workflow = w; place = at.0; node = at.1 }

abbrev plan : Bool → List Node → RunPlan
plan fail_late nodes = record {
  documents = bundle fail_late nodes;
  nodes = map (plan_node (workflow fail_late nodes)) (enumerate_from 0 nodes);
}

abbrev at_phase : Phase → NodeState
at_phase f = record fresh_node { own = record fresh_slot { phase = f } }

abbrev state : List Phase → ExecState
state phases = record { root = record fresh_slot { phase = phase.Running }; nodes = map at_phase phases }

-- n0, then n1 and n2, then n3
abbrev diamond : Bool → RunPlan
diamond fail_late =
    plan fail_late (step n0 [] ∷ step n1 (n0 ∷ []) ∷ step n2 (n0 ∷ []) ∷ step n3 (n1 ∷ n2 ∷ []) ∷ [])

abbrev view : ExecState → View
view s = record { exec = 0; name = codes "e1"; version = 1; current = 1; state = s; launches = [] }

abbrev move_of : ℕ → Step → Move
move_of i step = record { at = record { node = Some i; item = None }; step = step }

abbrev root_move : Move
root_move = record { at = record { node = None; item = None }; step = steps.Close }

-- the phase and the code that a move gives its slot
abbrev gives : RunPlan → ExecState → Move → Option (Phase × Option Text)
gives plan s m = option_map (λ (e : Effect). (e.slot.phase, e.slot.code)) (effect_of plan (view s) [] m)

diamond-looks : looks (diamond true) 3 ≡ 1 ∷ 2 ∷ []
unfolding out-Target denote.Hole.Carrier.out
diamond-looks = refl

-- one arm failed while the other runs: what comes behind both waits, in a workflow that goes on; else the instance is broken
abbrev half_failed : ExecState
half_failed = state (phase.Succeeded ∷ phase.Failed ∷ phase.Running ∷ phase.NotYetStarted ∷ [])

half_failed-waits : standing_of (diamond true) half_failed 3 ≡ waiting
unfolding solution_of value_within out-Target denote.Hole.Carrier.out
half_failed-waits = refl

half_failed-goes_on : is_broken (diamond true) half_failed [] ≡ false
half_failed-goes_on = refl

half_failed-no_abort : gives (diamond true) half_failed (move_of 2 steps.Abort) ≡ None
half_failed-no_abort = refl

half_failed-broken : is_broken (diamond false) half_failed [] ≡ true
half_failed-broken = refl

half_failed-abort : gives (diamond false) half_failed (move_of 2 steps.Abort) ≡ Some (phase.Aborted, None)
half_failed-abort = refl

half_failed-abort_behind : gives (diamond false) half_failed (move_of 3 steps.Abort) ≡ Some (phase.Aborted, None)
half_failed-abort_behind = refl

half_failed-final : gives (diamond false) half_failed (move_of 1 steps.Abort) ≡ None
half_failed-final = refl

half_failed-no_close : gives (diamond false) half_failed root_move ≡ None
unfolding solution_of value_within out-Target denote.Hole.Carrier.out
half_failed-no_close = refl

-- once the other arm has succeeded, what comes behind both is blocked, the instance is settled, and the root fails
abbrev one_failed : ExecState
one_failed = state (phase.Succeeded ∷ phase.Failed ∷ phase.Succeeded ∷ phase.NotYetStarted ∷ [])

one_failed-blocked : standing_of (diamond true) one_failed 3 ≡ blocked
unfolding solution_of value_within out-Target denote.Hole.Carrier.out
one_failed-blocked = refl

one_failed-settled : is_settled (diamond true) one_failed [] ≡ true
unfolding solution_of value_within out-Target denote.Hole.Carrier.out
one_failed-settled = refl

one_failed-closes : gives (diamond true) one_failed root_move ≡ Some (phase.Failed, Some (codes "NodeFailed"))
unfolding solution_of value_within out-Target denote.Hole.Carrier.out
one_failed-closes = refl

-- both arms have succeeded: what comes behind them is ready
abbrev both_succeeded : ExecState
both_succeeded = state (phase.Succeeded ∷ phase.Succeeded ∷ phase.Succeeded ∷ phase.NotYetStarted ∷ [])

both_succeeded-ready : standing_of (diamond false) both_succeeded 3 ≡ ready
unfolding solution_of value_within out-Target denote.Hole.Carrier.out
both_succeeded-ready = refl

-- a chain behind a node that failed is blocked to its end
abbrev chain : RunPlan
chain = plan true (step n0 [] ∷ step n1 (n0 ∷ []) ∷ step n2 (n1 ∷ []) ∷ [])

abbrev behind : Phase → ExecState
behind first = state (first ∷ phase.NotYetStarted ∷ phase.NotYetStarted ∷ [])

chain-blocked : standing_of chain (behind phase.TimedOut) 2 ≡ blocked
unfolding solution_of value_within out-Target denote.Hole.Carrier.out
chain-blocked = refl

chain-settled : is_settled chain (behind phase.TimedOut) [] ≡ true
unfolding solution_of value_within out-Target denote.Hole.Carrier.out
chain-settled = refl

chain-waits : is_settled chain (behind phase.RetryableFailure) [] ≡ false
unfolding solution_of value_within out-Target denote.Hole.Carrier.out
chain-waits = refl

-- the task has one retry: its second attempt is its last
abbrev failure : Outcome
failure = outcomes.Recoverable (codes "Signal") []

abbrev attempt_slot : ℕ → SlotState
attempt_slot k = record fresh_slot { phase = phase.Running; attempt = k }

abbrev limit : ℕ
limit = attempt_limit chain (plan_node (workflow true []) (0, step n0 []))

limit-value : limit ≡ 2
unfolding out-Target denote.Hole.Carrier.out
limit-value = refl

abbrev after_failure : ℕ → SlotState
after_failure k = slot_after phase.Succeeded (attempt_slot k) failure (next_of failure k 2)

first_attempt-again : after_failure 0 ≡ record (attempt_slot 0) { phase = phase.RetryableFailure }
first_attempt-again = refl

last_attempt-fails : after_failure 1 ≡ record (attempt_slot 1) { phase = phase.Failed; code = Some (codes "Signal") }
last_attempt-fails = refl

retry-second : retried_slot (record (attempt_slot 0) { phase = phase.RetryableFailure }) ≡ Some (attempt_slot 1)
retry-second = refl

-- The cases of a branch, which is the node 1, where node 0 comes before it and the branch stands so.
abbrev branch_state : Phase → Option ℕ → ExecState
branch_state f choice = record {
  root = record fresh_slot { phase = phase.Running };
  nodes = at_phase phase.Succeeded ∷ record (at_phase f) { own = record fresh_slot { phase = f; choice = choice } } ∷ [];
}

abbrev case_standings : Phase → Option ℕ → Standing → List Standing
case_standings f choice standing =
    let case_of_number : ℕ → CaseOf = λ case. record { branch = 1; case = case } in
    let seen : List (ℕ × Standing) = (1, standing) ∷ (0, ready) ∷ [] in
    map (λ case. standing_by_case (branch_state f choice) (Some (case_of_number case)) seen) (0 ∷ 1 ∷ [])

undecided-waits : case_standings phase.NotYetStarted None ready ≡ waiting ∷ waiting ∷ []
undecided-waits = refl

blocked_branch-blocks : case_standings phase.NotYetStarted None blocked ≡ blocked ∷ blocked ∷ []
blocked_branch-blocks = refl

chosen-goes_on : case_standings phase.Running (Some 1) ready ≡ skipped ∷ ready ∷ []
chosen-goes_on = refl

no_case-skips : case_standings phase.Failed None ready ≡ skipped ∷ skipped ∷ []
no_case-skips = refl

skipped_branch-skips : case_standings phase.Skipped None skipped ≡ skipped ∷ skipped ∷ []
skipped_branch-skips = refl

-- also where it chose one that was then skipped
skipped_choice-skips : case_standings phase.Skipped (Some 0) ready ≡ skipped ∷ skipped ∷ []
skipped_choice-skips = refl

-- a workflow node in a workflow that fails at once: what breaks around it breaks inside it
abbrev inner_plan : RunPlan
inner_plan = record {
  documents = bundle false [];
  nodes = plan_node (workflow false []) (0, step n0 []) ∷ plan_node (workflow false []) (1, step n1 [])
      ∷ record { path = n1 ∷ n2 ∷ []; workflow = workflow true []; place = 0; node = step n2 [] } ∷ [];
}

abbrev outer_failed : ExecState
outer_failed = state (phase.Failed ∷ phase.Running ∷ phase.Running ∷ [])

abbrev inner_failed : ExecState
inner_failed = state (phase.Running ∷ phase.Running ∷ phase.Failed ∷ [])

inner-broken : is_broken inner_plan outer_failed (n1 ∷ []) ≡ true
inner-broken = refl

inner-abort : gives inner_plan outer_failed (move_of 2 steps.Abort) ≡ Some (phase.Aborted, None)
inner-abort = refl

-- a failure inside a workflow that goes on breaks nothing
inner-goes_on : is_broken inner_plan inner_failed [] ≡ false
inner-goes_on = refl
