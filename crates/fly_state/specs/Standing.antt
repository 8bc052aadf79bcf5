-- How a node stands in a state. A case looks at its branch, against the edge by which the branch needs it; any other node looks at those that it
-- needs.
use Rattle.std.specs.Prelude.{◌≡◌, ℕ, Bool, ◌&&◌, ◌||◌, List, ◌∷◌, map, length, slice_get, unwrap_or, Option, Some, None}
use Rattle.std.specs.List.{list_all, range_with_len}
use Rattle.fly_docs.specs.Plans.{PlanNode}
use Rattle.fly_rules.specs.Rules.{Rule, solution_of}
use Rattle.fly_rules.specs.Standing.{Standing, waiting, blocked, skipped, ready, is_blocked_standing, standing_among, BranchSight, undecided, stuck, passed_over, chose, standing_of_case}
use Rattle.fly_state.specs.declared.phase.Phase.{Phase}
use Rattle.fly_state.specs.declared.phase.Phase.TheVariants as phase
use Rattle.fly_state.specs.declared.slots.SlotState.{SlotState}
use Rattle.fly_state.specs.declared.slots.ExecState.{ExecState}
use Rattle.fly_state.specs.declared.standing.Standing.{Standing as Told}
use Rattle.fly_state.specs.declared.standing.Standing.TheVariants as tells
use Rattle.fly_state.specs.Plans.{RunPlan, Path, CaseOf, node_numbered, nodes_in, case_of, looks}
use Rattle.fly_state.specs.States.{own_state, phase_of, is_final, is_not_yet_started}

-- ---- what a node sees

-- How a node stands by one alone that it promises from or names: by the phase of that one, and where it is not yet started by its standing.
abbrev pub sign_of : Phase → Standing → Standing
sign_of phase.Succeeded standing = ready
sign_of phase.Aborted standing = ready
sign_of phase.Skipped standing = skipped
sign_of phase.Failed standing = blocked
sign_of phase.TimedOut standing = blocked
sign_of phase.NotYetStarted blocked = blocked
sign_of _ standing = waiting

-- a branch that made no choice found no case where it failed
abbrev pub sight_without_choice : Phase → BranchSight
sight_without_choice phase.Failed = passed_over
sight_without_choice _ = undecided

abbrev pub sight_of_choice : Phase → Option ℕ → BranchSight
sight_of_choice f (Some chosen) = chose chosen
sight_of_choice f None = sight_without_choice f

-- what a branch shows to its cases: by its phase, and then by its choice
abbrev pub branch_sight : SlotState → Standing → BranchSight
branch_sight branch standing = by branch.phase standing
  where
    by : Phase → Standing → BranchSight
    by phase.NotYetStarted blocked = stuck
    by phase.NotYetStarted _ = undecided
    by phase.Skipped _ = passed_over
    by f _ = sight_of_choice f branch.choice

-- ---- what is answered

-- the standing that a value of the program stands for
abbrev pub meaning_of : Told → Standing
meaning_of tells.Waiting = waiting
meaning_of tells.Blocked = blocked
meaning_of tells.Skipped = skipped
meaning_of tells.Ready = ready

-- how a node stands by what is known; who isn't known counts as blocked
abbrev pub known_standing : List Told → ℕ → Standing
known_standing known i = meaning_of (unwrap_or (slice_get known i) tells.Blocked)

-- what each of these nodes is by itself to one that looks at them
abbrev pub signs_at : ExecState → (ℕ → Standing) → List ℕ → List Standing
signs_at s standing numbers = map (λ i. sign_of (phase_of s i) (standing i)) numbers

-- ---- the rule

-- what comes of the nodes that a node promises from or names
abbrev pub standing_by_names : ExecState → List (ℕ × Standing) → Standing
standing_by_names s seen = standing_among (map (λ (at : ℕ × Standing). sign_of (phase_of s at.0) at.1) seen)

-- a case looks at its branch first, and only the chosen one at what it promises from or names
abbrev pub standing_by_case : ExecState → Option CaseOf → List (ℕ × Standing) → Standing
standing_by_case s (Some c) (branch ∷ seen) = standing_of_case (branch_sight (own_state s branch.0) branch.1) c.case (standing_by_names s seen)
standing_by_case s _ seen = standing_by_names s seen

abbrev pub standing_by : RunPlan → ExecState → ℕ → List (ℕ × Standing) → Standing
standing_by plan s i seen = of_node (node_numbered plan i)
  where
    of_node : Option PlanNode → Standing
    of_node (Some p) = standing_by_case s (case_of plan p) seen
    of_node None = ready

abbrev pub standing_rule : RunPlan → ExecState → Rule Standing
standing_rule plan s = record { looks = looks plan; value = standing_by plan s }

-- how the node of this number stands, where it is not yet started: the one solution of the rule
abbrev pub standing_of : RunPlan → ExecState → ℕ → Standing
standing_of plan s i = solution_of (standing_rule plan s) (length plan.nodes) i

-- the standings of all nodes, by their numbers
abbrev pub AreStandings : RunPlan → ExecState → List Told → Type 0
AreStandings plan s known = map meaning_of known ≡ map (standing_of plan s) (range_with_len 0 (length plan.nodes))

-- ---- instances that have come to their end

-- a blocked node stays as it is
abbrev pub is_blocked : RunPlan → ExecState → ℕ → Bool
is_blocked plan s i = is_not_yet_started (phase_of s i) && is_blocked_standing (standing_of plan s i)

abbrev pub is_at_rest : RunPlan → ExecState → ℕ → Bool
is_at_rest plan s i = is_final (phase_of s i) || is_blocked plan s i

-- each node of the instance is final or blocked
abbrev pub is_settled : RunPlan → ExecState → Path → Bool
is_settled plan s instance = list_all (λ (at : ℕ × PlanNode). is_at_rest plan s at.0) (nodes_in plan instance)
