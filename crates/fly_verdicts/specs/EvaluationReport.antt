-- The report of plain evaluation: what each execution comes to over what a journal records, with its nodes and their
-- items in plan order. It has the form of the report of a run.
use Rattle.std.specs.Option.{option_map_or}
use Rattle.std.specs.Prelude.{ℕ, Bool, ◌||◌, List, ◌++◌, map, flat_map, length, count_by, codes, Option, Some, None, is_some, option_and_then, if◌then◌else◌}
use Rattle.fly_types.specs.declared.text.Text.{Text}
use Rattle.fly_docs.specs.AttemptName.{path_text, item_text}
use Rattle.fly_docs.specs.Plans.{PlanNode}
use Rattle.fly_state.specs.Plans.{RunPlan, Path, node_numbered, number_of, is_task}
use Rattle.fly_world.specs.World.{World, Execution}
use Rattle.fly_report.specs.declared.launches.LaunchCounts.{LaunchCounts}
use Rattle.fly_report.specs.LaunchCounts.{counts_at}
use Rattle.fly_report.specs.Launches.{launch_count}
use Rattle.fly_report.specs.Lines.{Line, Section, section_text, total_text}
use Rattle.fly_eval.specs.declared.seen.Seen.{Seen}
use Rattle.fly_eval.specs.declared.seen.Evaluated.{Evaluated}
use Rattle.fly_eval.specs.declared.verdict.Verdict.{Verdict}
use Rattle.fly_history.specs.Laws.{recorded_evaluation}
use Rattle.fly_verdicts.specs.Verdicts.{verdict_name, verdict_code, verdict_outputs, is_success}

-- the node that has the path
abbrev pub node_at : RunPlan → Path → Option PlanNode
node_at plan path = option_and_then (node_numbered plan) (number_of plan path)

abbrev pub verdict_line : List ℕ → Option ℕ → Verdict → Line
verdict_line subject attempts v = record {
  subject = subject;
  word = verdict_name v;
  attempts = attempts;
  code = verdict_code v;
}

-- How many attempts were launched of a node or an item in an execution, by the path and the number of the item.
abbrev pub Counts : Type 0
Counts = Path → Option ℕ → ℕ

-- a task node has attempts, and so has each item
abbrev pub attempts_at : Counts → Seen → PlanNode → Option ℕ
attempts_at counts x p = if is_some x.item || is_task p.node then Some (counts x.path x.item) else None

-- the line of a node, or of an item, which stands under its number
abbrev pub seen_line : Counts → RunPlan → Seen → Line
seen_line counts plan x =
    verdict_line (path_text x.path ++ item_text x.item)
    (option_and_then (attempts_at counts x) (node_at plan x.path)) x.verdict

-- what is said of an execution of this name that comes to this
abbrev pub evaluated_section : Counts → RunPlan → Text → Evaluated → Section
evaluated_section counts plan name e = record {
  own = verdict_line (codes "execution " ++ name) None e.root;
  slots = map (seen_line counts plan) e.list;
  outputs = verdict_outputs e.root;
}

-- what is said of an execution, with the launches in the journal
abbrev pub evaluation_section : RunPlan → World → Execution → Section
evaluation_section plan w x =
    evaluated_section (launch_count w x.name) plan x.name (recorded_evaluation plan w.entries x)

-- it succeeds by what is recorded
abbrev pub succeeds : RunPlan → World → Execution → Bool
succeeds plan w x = is_success (recorded_evaluation plan w.entries x).root

-- all executions, and how many of them succeed
abbrev pub evaluation_text : RunPlan → World → List ℕ
evaluation_text plan w =
    flat_map (λ (x : Execution). section_text (evaluation_section plan w x)) w.executions
    ++ total_text (count_by (succeeds plan w) w.executions) (length w.executions)

-- ---- parts, for private contracts

-- the launches that a table has at a node of the execution of a number, or at an item of it
abbrev pub numbered_counts : RunPlan → LaunchCounts → ℕ → Counts
numbered_counts plan c e path item = option_map_or (λ i. counts_at c e i item) (number_of plan path) 0
