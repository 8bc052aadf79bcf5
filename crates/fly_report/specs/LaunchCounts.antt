-- The table of launches, by the numbers of executions, nodes and items.
use Rattle.std.specs.Prelude.{◌≡◌, ℕ, ◌==◌, nat_eq, Bool, false, ◌&&◌, List, position, slice_get, bytes_eq, count_by, Option, Some, option_map, option_and_then, unwrap_or}
use Rattle.std.specs.declared.cmp.Ordering.{Ordering}
use Rattle.std.specs.Ordering.{nat_cmp, ordering_then}
use Rattle.std.specs.Cmp.Lexicographic.{slice_cmp}
use Rattle.std.specs.Option.{option_eq, option_cmp, option_map_or}
use Rattle.std.specs.BTreeMap.{BTreeMap, get}
use Rattle.fly_types.specs.declared.text.Text.{Text}
use Rattle.fly_docs.specs.declared.attempt_name.AttemptName.{AttemptName}
use Rattle.fly_docs.specs.Plans.{PlanNode}
use Rattle.fly_state.specs.declared.entries.Entry.{Entry}
use Rattle.fly_state.specs.Plans.{RunPlan, node_numbered, number_of}
use Rattle.fly_world.specs.World.{World, Execution}
use Rattle.fly_world.specs.ReadOff.{launched_in}
use Rattle.fly_world.specs.Versions.{execution_names}
use Rattle.fly_report.specs.declared.launches.Slot.{Slot}
use Rattle.fly_report.specs.declared.launches.LaunchCounts.{LaunchCounts}
use Rattle.fly_report.specs.Launches.{launch_count}

-- the node of an execution, or an item of it, each by its number
abbrev pub slot_numbered : ℕ → ℕ → Option ℕ → Slot
slot_numbered execution node item = record { execution = execution; node = node; item = item }

abbrev pub same_slot : Slot → Slot → Bool
same_slot a b = a.execution == b.execution && (a.node == b.node && option_eq nat_eq a.item b.item)

-- by the execution, then by the node, then by the item
abbrev pub slot_cmp : Slot → Slot → Ordering
slot_cmp a b =
    ordering_then (nat_cmp a.execution b.execution)
    (ordering_then (nat_cmp a.node b.node) (option_cmp nat_cmp a.item b.item))

-- how many launches the table has at a slot
abbrev pub count_in : LaunchCounts → Slot → ℕ
count_in c slot = unwrap_or (get slot_cmp c.counts slot) 0

-- of a node of an execution and of its items, by their numbers
abbrev pub counts_at : LaunchCounts → ℕ → ℕ → Option ℕ → ℕ
counts_at c e i item = count_in c (slot_numbered e i item)

-- the table has the launches of each slot of a run
abbrev pub CountsLaunches : RunPlan → World → LaunchCounts → Type 0
CountsLaunches plan w c =
    (e i : ℕ) (x : Execution) (p : PlanNode) (item : Option ℕ) → slice_get w.executions e ≡ Some x
    → node_numbered plan i ≡ Some p → counts_at c e i item ≡ launch_count w x.name p.path item

-- ---- parts, for private contracts

-- the number of each name of an execution
abbrev pub Numbers : Type 0
Numbers = BTreeMap Text ℕ

abbrev pub numbered_in : Numbers → Text → Option ℕ
numbered_in numbers exec = get (slice_cmp nat_cmp) numbers exec

abbrev pub NumbersExecutions : World → Numbers → Type 0
NumbersExecutions w numbers = (exec : Text) → numbered_in numbers exec ≡ position (bytes_eq exec) (execution_names w)

-- the slot of an attempt, where its execution has a number and its node is of the plan
abbrev pub slot_of : RunPlan → Numbers → AttemptName → Option Slot
slot_of plan numbers name =
    option_and_then (λ e. option_map (λ i. slot_numbered e i name.item) (number_of plan name.path))
    (numbered_in numbers name.exec)

-- the attempt is of this slot
abbrev pub is_at : RunPlan → Numbers → Slot → AttemptName → Bool
is_at plan numbers slot name = option_map_or (λ own. same_slot own slot) (slot_of plan numbers name) false

-- how many of the names are of this slot
abbrev pub count_at : RunPlan → Numbers → Slot → List AttemptName → ℕ
count_at plan numbers slot names = count_by (is_at plan numbers slot) names

-- the table has the launches of these entries
abbrev pub CountsEntries : RunPlan → Numbers → List Entry → LaunchCounts → Type 0
CountsEntries plan numbers entries c =
    (slot : Slot) → count_in c slot ≡ count_at plan numbers slot (launched_in entries)
