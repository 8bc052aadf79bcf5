-- What a run means, without versions, rounds and workers: each node's verdict by those that it looks at, over what is recorded of attempts and
-- of the catalog.
use Rattle.std.specs.Prelude.{ℕ, ◌+◌, ◌*◌, ◌/◌, ◌%◌, ◌==◌, nat_le, Bool, true, false, not, ◌&&◌, if◌then◌else◌, List, [], ◌∷◌, ◌++◌, map, flat_map, filter_map, find, replicate, length, bytes_eq, codes, Option, Some, None, option_map, option_and_then, option_to_list, unwrap_or, Ok, Err}
use Rattle.std.specs.List.{list_any, enumerate_from, range_with_len}
use Rattle.fly_types.specs.declared.literals.LiteralMap.{LiteralMap}
use Rattle.fly_docs.specs.declared.node.Node.{Node}
use Rattle.fly_docs.specs.declared.node.Case.{Case}
use Rattle.fly_docs.specs.declared.node.Target.{Target, out-Target}
use Rattle.fly_docs.specs.declared.node.Target.TheOpen.{Target-F}
use Rattle.fly_docs.specs.declared.task.Task.{Task}
use Rattle.fly_docs.specs.declared.workflow.Workflow.{Workflow}
use Rattle.fly_docs.specs.Names.{start_node}
use Rattle.fly_docs.specs.Bindings.{sources_of}
use Rattle.fly_docs.specs.Plans.{PlanNode}
use Rattle.fly_docs.specs.SlotInputs as docs
use Rattle.fly_docs.specs.SlotInputs.{Taken, Known, node_inputs, item_inputs, mapped_of, branch_outputs, workflow_outputs}
use Rattle.fly_policy.specs.Items.{minimum, success_count}
use Rattle.fly_rules.specs.Rules.{Rule, solution_of}
use Rattle.fly_rules.specs.Standing.{Standing, waiting, blocked, skipped, ready, standing_among, BranchSight, undecided, stuck, passed_over, chose, standing_of_case}
use Rattle.fly_state.specs.declared.phase.Phase.TheVariants as phase
use Rattle.fly_state.specs.declared.slots.SlotState.{SlotState}
use Rattle.fly_state.specs.Plans.{RunPlan, Path, CaseOf, node_numbered, number_of, instance_of, nodes_in, number_in, workflow_in, case_nodes, case_of, numbered_case, named_numbers}
use Rattle.fly_state.specs.States.{fresh_slot}
use Rattle.fly_state.specs.Inputs.{code_of_fault, count_of_items, choice_of}
use Rattle.fly_state.specs.Moves.{task_run_by, is_cached, attempt_limit, item_ends, array_outputs, min_successes_of}
use Rattle.fly_eval.specs.declared.verdict.Verdict.{Verdict}
use Rattle.fly_eval.specs.declared.verdict.Verdict.TheVariants as verdict
use Rattle.fly_eval.specs.declared.results.Results.{Results}
use Rattle.fly_eval.specs.declared.results.Hits.{Hits}
use Rattle.fly_eval.specs.declared.seen.Seen.{Seen}
use Rattle.fly_eval.specs.declared.seen.Evaluated.{Evaluated}
use Rattle.fly_eval.specs.Results.{Slot, hit_of}
use Rattle.fly_eval.specs.Attempts.{Attempts, attempts_of}

-- ---- what is told of nodes

-- How a node is entered: as it stands by what it looks at, and with the inputs that it then takes.
pub record Entering : Type 0 where
  pub standing : Standing
  pub inputs : Taken LiteralMap

-- how a node is entered, or what it comes to
pub data Told : Type 0 where
  entered : Entering → Told
  judged : Verdict → Told

-- Each node has two numbers in the rule below: one for how it is entered, and one for its verdict.
abbrev pub entering_point : ℕ → ℕ
entering_point i = 2 * i

abbrev pub verdict_point : ℕ → ℕ
verdict_point i = 2 * i + 1

-- of whom nothing is told is awaited
abbrev pub awaited : Entering
awaited = record { standing = waiting; inputs = Err docs.unknown }

-- a node that is never entered
abbrev pub shut_out : Entering
shut_out = record { standing = blocked; inputs = Err docs.unknown }

abbrev pub told_of : List (ℕ × Told) → ℕ → Option Told
told_of seen point = option_map (λ (t : ℕ × Told). t.1) (find (λ (t : ℕ × Told). t.0 == point) seen)

abbrev pub entering_in : Option Told → Entering
entering_in (Some (entered e)) = e
entering_in _ = awaited

abbrev pub verdict_in : Option Told → Verdict
verdict_in (Some (judged v)) = v
verdict_in _ = verdict.Pending

-- What is seen of nodes, by their numbers in the plan.
pub record Sight : Type 0 where
  pub entering : ℕ → Entering
  pub verdict : ℕ → Verdict

abbrev pub sight_in : List (ℕ × Told) → Sight
sight_in seen = record {
  entering = λ i. entering_in (told_of seen (entering_point i));
  verdict = λ i. verdict_in (told_of seen (verdict_point i));
}

-- ---- standing

-- how a node stands by one alone that it promises from or names
abbrev pub sign_of : Verdict → Standing
sign_of verdict.Pending = waiting
sign_of verdict.Skipped = skipped
sign_of (verdict.Succeeded outputs) = ready
sign_of _ = blocked

abbrev pub sight_of_choice : Option ℕ → BranchSight
sight_of_choice (Some case) = chose case
sight_of_choice None = passed_over

abbrev pub sight_of_inputs : Node → Taken LiteralMap → BranchSight
sight_of_inputs branch (Ok inputs) = sight_of_choice (choice_of inputs branch)
sight_of_inputs branch (Err fault) = undecided

-- what a branch shows to its cases
abbrev pub branch_sight : Node → Entering → BranchSight
branch_sight branch e = by e.standing
  where
    by : Standing → BranchSight
    by waiting = undecided
    by blocked = stuck
    by skipped = passed_over
    by ready = sight_of_inputs branch e.inputs

abbrev pub standing_by_names : RunPlan → Sight → PlanNode → Standing
standing_by_names plan sight p = standing_among (map (λ i. sign_of (sight.verdict i)) (named_numbers plan p))

abbrev pub sight_of_branch : RunPlan → Sight → ℕ → BranchSight
sight_of_branch plan sight branch = by (node_numbered plan branch)
  where
    by : Option PlanNode → BranchSight
    by (Some q) = branch_sight q.node (sight.entering branch)
    by None = undecided

-- a case looks at its branch first, and any other node at what it promises from or names
abbrev pub own_standing : RunPlan → Sight → PlanNode → Standing
own_standing plan sight p = by (case_of plan p)
  where
    by : Option CaseOf → Standing
    by (Some c) = standing_of_case (sight_of_branch plan sight c.branch) c.case (standing_by_names plan sight p)
    by None = standing_by_names plan sight p

-- ---- entering

abbrev pub outputs_in : Verdict → Option LiteralMap
outputs_in (verdict.Succeeded outputs) = Some outputs
outputs_in _ = None

abbrev pub inputs_in : Taken LiteralMap → Option LiteralMap
inputs_in (Ok inputs) = Some inputs
inputs_in (Err fault) = None

-- what an instance takes: the run's own inputs, or those with which its workflow node is entered
abbrev pub instance_inputs : RunPlan → LiteralMap → Sight → Path → Option LiteralMap
instance_inputs plan inputs sight [] = Some inputs
instance_inputs plan inputs sight (id ∷ ids) = option_and_then (λ i. inputs_in (sight.entering i).inputs) (number_of plan (id ∷ ids))

-- what is known in an instance: under `start-node` its inputs, and the outputs of its nodes that succeeded
abbrev pub known_in : RunPlan → LiteralMap → Sight → Path → Known
known_in plan inputs sight instance id =
    if bytes_eq id start_node
    then instance_inputs plan inputs sight instance
    else option_and_then (λ i. outputs_in (sight.verdict i)) (number_in plan instance id)

-- by the workflow node around it: while that is awaited it is awaited, and where that is never entered it is not either
abbrev pub inside : Entering → Entering → Entering
inside outer own = by outer.standing outer.inputs
  where
    by : Standing → Taken LiteralMap → Entering
    by waiting inputs = awaited
    by ready (Ok inputs) = own
    by _ _ = shut_out

abbrev pub own_entering : RunPlan → LiteralMap → Sight → PlanNode → Entering
own_entering plan inputs sight p = record {
  standing = own_standing plan sight p;
  inputs = node_inputs plan.documents p.workflow (known_in plan inputs sight (instance_of p)) p.node;
}

-- the workflow node around a node
abbrev pub outer_of : RunPlan → PlanNode → Option ℕ
outer_of plan p = number_of plan (instance_of p)

abbrev pub entering_of : RunPlan → LiteralMap → Sight → PlanNode → Entering
entering_of plan inputs sight p = by (outer_of plan p)
  where
    by : Option ℕ → Entering
    by (Some outer) = inside (sight.entering outer) (own_entering plan inputs sight p)
    by None = own_entering plan inputs sight p

-- ---- verdicts

abbrev pub is_pending : Verdict → Bool
is_pending verdict.Pending = true
is_pending _ = false

abbrev pub is_skipped : Verdict → Bool
is_skipped verdict.Skipped = true
is_skipped _ = false

-- failed, by itself or by its time
abbrev pub is_failure : Verdict → Bool
is_failure (verdict.Failed code) = true
is_failure verdict.TimedOut = true
is_failure _ = false

-- no attempt is made
abbrev pub no_attempts : Verdict → Attempts
no_attempts v = record { verdict = v; count = 0 }

-- a cached task by what the catalog answered: awaited, taken from there, or run
abbrev pub by_hit : Option (Option LiteralMap) → Attempts → Attempts
by_hit None run = no_attempts verdict.Pending
by_hit (Some (Some outputs)) run = no_attempts (verdict.Succeeded outputs)
by_hit (Some None) run = run

abbrev pub node_slot : PlanNode → Slot
node_slot p = record { path = p.path; item = None }

abbrev pub item_slot : PlanNode → ℕ → Slot
item_slot p item = record { path = p.path; item = Some item }

-- the attempts of a task that is entered
abbrev pub task_attempts : RunPlan → Results → Hits → PlanNode → Attempts
task_attempts plan results hits p =
    let run = attempts_of results (node_slot p) (attempt_limit plan p) in
    if is_cached plan p then by_hit (hit_of hits p.path) run else run

-- the attempts of each item of an array with these inputs
abbrev pub items_attempts : RunPlan → Results → PlanNode → LiteralMap → List Attempts
items_attempts plan results p inputs =
    map (λ item. attempts_of results (item_slot p item) (attempt_limit plan p)) (range_with_len 0 (count_of_items plan p inputs))

-- the slot of an item with this verdict, as it stands at its end
abbrev pub slot_at_end : Verdict → SlotState
slot_at_end (verdict.Succeeded outputs) = record fresh_slot { phase = phase.Succeeded; outputs = Some outputs }
slot_at_end _ = record fresh_slot { phase = phase.Failed }

-- once no item is awaited, by how many succeeded
abbrev pub array_verdict : RunPlan → PlanNode → List Verdict → Verdict
array_verdict plan p items = if list_any is_pending items then verdict.Pending else by (task_run_by plan p)
  where
    by : Option Task → Verdict
    by (Some t) =
        let slots = map slot_at_end items in
        if nat_le (minimum (min_successes_of p) (item_ends slots)) (success_count (item_ends slots))
        then verdict.Succeeded (array_outputs (min_successes_of p) t slots)
        else verdict.Failed (codes "TooFewSuccesses")
    by None = verdict.Pending

-- as the chosen case
abbrev pub by_case : RunPlan → PlanNode → Verdict → Verdict
by_case plan p verdict.Pending = verdict.Pending
by_case plan p verdict.Skipped = verdict.Skipped
by_case plan p (verdict.Succeeded outputs) = verdict.Succeeded (branch_outputs plan.documents p.node outputs)
by_case plan p _ = verdict.Failed (codes "CaseFailed")

abbrev pub branch_verdict : RunPlan → Sight → PlanNode → LiteralMap → Verdict
branch_verdict plan sight p inputs = by (choice_of inputs p.node)
  where
    of_number : Option ℕ → Verdict
    of_number (Some i) = by_case plan p (sight.verdict i)
    of_number None = verdict.Pending

    by : Option ℕ → Verdict
    by (Some case) = of_number (numbered_case plan p case)
    by None = verdict.Failed (codes "NoCase")

-- an output of the workflow promises from a node that was skipped
abbrev pub misses_output : RunPlan → Sight → Path → Workflow → Bool
misses_output plan sight instance w =
    list_any (λ id. list_any (λ i. is_skipped (sight.verdict i)) (option_to_list (number_in plan instance id))) (sources_of w.outputs)

abbrev pub by_outputs : Taken LiteralMap → Verdict
by_outputs (Ok outputs) = verdict.Succeeded outputs
by_outputs (Err fault) = verdict.Failed (unwrap_or (code_of_fault fault) [])

-- An instance of a workflow: failed as soon as a node failed, where the workflow then fails at once; else awaited while a node is; then failed
-- by a node, by an output that is missing, or by the conversion of the outputs; and else succeeded with these.
abbrev pub instance_verdict : RunPlan → LiteralMap → Sight → Path → Workflow → Verdict
instance_verdict plan inputs sight instance w =
    let verdicts = map (λ (at : ℕ × PlanNode). sight.verdict at.0) (nodes_in plan instance) in
    if not w.fail_late && list_any is_failure verdicts then verdict.Failed (codes "NodeFailed")
    else (if list_any is_pending verdicts then verdict.Pending
    else (if list_any is_failure verdicts then verdict.Failed (codes "NodeFailed")
    else (if misses_output plan sight instance w then verdict.Failed (codes "OutputMissing")
    else by_outputs (workflow_outputs plan.documents w (known_in plan inputs sight instance)))))

abbrev pub verdict_in_instance : RunPlan → LiteralMap → Sight → Path → Verdict
verdict_in_instance plan inputs sight instance = by (workflow_in plan instance)
  where
    by : Option Workflow → Verdict
    by (Some w) = instance_verdict plan inputs sight instance w
    by None = verdict.Pending

-- what a node comes to that is entered with these inputs, by what it runs
abbrev pub verdict_entered : RunPlan → LiteralMap → Results → Hits → Sight → PlanNode → LiteralMap → Verdict
verdict_entered plan inputs results hits sight p given = by (out-Target p.node.target)
  where
    by : Target-F Target Case Node → Verdict
    by (Target-F.Task id) = (task_attempts plan results hits p).verdict
    by (Target-F.Array id min_successes) = array_verdict plan p (map (λ (a : Attempts). a.verdict) (items_attempts plan results p given))
    by (Target-F.Branch cases otherwise error) = branch_verdict plan sight p given
    by (Target-F.Workflow id) = verdict_in_instance plan inputs sight p.path

-- what a node comes to that stands so, with these inputs or their fault
abbrev pub verdict_by : Standing → Taken LiteralMap → (LiteralMap → Verdict) → Verdict
verdict_by waiting taken run = verdict.Pending
verdict_by blocked taken run = verdict.Blocked
verdict_by skipped taken run = verdict.Skipped
verdict_by ready (Err fault) run = verdict.Failed (unwrap_or (code_of_fault fault) [])
verdict_by ready (Ok given) run = run given

abbrev pub verdict_of : RunPlan → LiteralMap → Results → Hits → Sight → ℕ → PlanNode → Verdict
verdict_of plan inputs results hits sight i p =
    let e = sight.entering i in
    verdict_by e.standing e.inputs (verdict_entered plan inputs results hits sight p)

-- ---- the rule

-- how a node is entered looks at the workflow node around it, at its branch, and at what comes of those that it promises from or names
abbrev pub looks_entering : RunPlan → PlanNode → List ℕ
looks_entering plan p =
    map entering_point (option_to_list (outer_of plan p))
    ++ map (λ (c : CaseOf). entering_point c.branch) (option_to_list (case_of plan p))
    ++ map verdict_point (named_numbers plan p)

-- its verdict looks at how it is entered, and at what comes of its cases and of the nodes inside it
abbrev pub looks_judged : RunPlan → ℕ → PlanNode → List ℕ
looks_judged plan i p =
    entering_point i
    ∷ map verdict_point (filter_map (λ (n : Node). number_in plan (instance_of p) n.id) (case_nodes p.node))
    ++ map (λ (at : ℕ × PlanNode). verdict_point at.0) (nodes_in plan p.path)

abbrev pub looks_of_point : RunPlan → ℕ → List ℕ
looks_of_point plan point = by (node_numbered plan (point / 2)) (point % 2 == 0)
  where
    by : Option PlanNode → Bool → List ℕ
    by (Some p) true = looks_entering plan p
    by (Some p) false = looks_judged plan (point / 2) p
    by None _ = []

abbrev pub told_at_point : RunPlan → LiteralMap → Results → Hits → ℕ → Sight → Told
told_at_point plan inputs results hits point sight = by (node_numbered plan (point / 2)) (point % 2 == 0)
  where
    by : Option PlanNode → Bool → Told
    by (Some p) true = entered (entering_of plan inputs sight p)
    by (Some p) false = judged (verdict_of plan inputs results hits sight (point / 2) p)
    by None _ = judged verdict.Pending

abbrev pub evaluation_rule : RunPlan → LiteralMap → Results → Hits → Rule Told
evaluation_rule plan inputs results hits = record {
  looks = looks_of_point plan;
  value = λ point seen. told_at_point plan inputs results hits point (sight_in seen);
}

-- ---- evaluation

-- what each node comes to: the one solution of the rule
abbrev pub told : RunPlan → LiteralMap → Results → Hits → ℕ → Told
told plan inputs results hits = solution_of (evaluation_rule plan inputs results hits) (2 * length plan.nodes)

abbrev pub whole_sight : RunPlan → LiteralMap → Results → Hits → Sight
whole_sight plan inputs results hits = record {
  entering = λ i. entering_in (Some (told plan inputs results hits (entering_point i)));
  verdict = λ i. verdict_in (Some (told plan inputs results hits (verdict_point i)));
}

-- what the run comes to
abbrev pub root_verdict : RunPlan → LiteralMap → Results → Hits → Verdict
root_verdict plan inputs results hits = verdict_in_instance plan inputs (whole_sight plan inputs results hits) []

-- the items of an array that is entered with these inputs, each with its attempts, all of which have the item's inputs
abbrev pub seen_item : RunPlan → PlanNode → LiteralMap → ℕ × Attempts → Seen
seen_item plan p given at = record {
  path = p.path;
  item = Some at.0;
  verdict = at.1.verdict;
  attempts = replicate at.1.count (item_inputs (mapped_of plan.documents p.workflow p.node) at.0 given);
}

abbrev pub seen_items : RunPlan → Results → PlanNode → Entering → List Seen
seen_items plan results p e = by e.standing e.inputs (out-Target p.node.target)
  where
    by : Standing → Taken LiteralMap → Target-F Target Case Node → List Seen
    by ready (Ok given) (Target-F.Array id min_successes) =
        map (seen_item plan p given) (enumerate_from 0 (items_attempts plan results p given))
    by _ _ _ = []

-- the inputs of each attempt of a task node that is so entered: those of the node
abbrev pub seen_attempts : RunPlan → Results → Hits → PlanNode → Entering → List LiteralMap
seen_attempts plan results hits p e = by e.standing e.inputs (out-Target p.node.target)
  where
    by : Standing → Taken LiteralMap → Target-F Target Case Node → List LiteralMap
    by ready (Ok given) (Target-F.Task id) = replicate (task_attempts plan results hits p).count given
    by _ _ _ = []

-- what is told of a node: its verdict and the inputs of its attempts, and behind it its items
abbrev pub seen_node : RunPlan → Results → Hits → Sight → ℕ × PlanNode → List Seen
seen_node plan results hits sight at =
    let e = sight.entering at.0 in
    record {
      path = at.1.path;
      item = None;
      verdict = sight.verdict at.0;
      attempts = seen_attempts plan results hits at.1 e;
    }
    ∷ seen_items plan results at.1 e

-- plain evaluation of a run: its verdict, and in plan order what each node and item comes to
abbrev pub evaluation_of : RunPlan → LiteralMap → Results → Hits → Evaluated
evaluation_of plan inputs results hits =
    let sight = whole_sight plan inputs results hits in
    record {
      root = root_verdict plan inputs results hits;
      list = flat_map (seen_node plan results hits sight) (enumerate_from 0 plan.nodes);
    }
