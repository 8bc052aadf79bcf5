-- What is said of an execution, a node after another.
use Rattle.std.proofs.Common.{◌≡◌, ℕ, ◌+◌, List, [], ◌∷◌, ◌++◌, map, drop, length, flat_map, Option, Some, None, option_map, unwrap_or, refl, ap, subst, ◌∙◌, arith}
use Rattle.std.specs.List.{slice_get, enumerate_from}
use Rattle.std.proofs.lemmas.List.Elements.{Contains-append_right, Contains-get_or}
use Rattle.std.proofs.lemmas.Option.{none-some, same_Some, slice_get-map, slice_get_within, get_or_from_slice_get}
use Rattle.std.proofs.lemmas.Grind.{flat_map-append}
use Rattle.fly_docs.specs.declared.submission.Submission.{Submission}
use Rattle.fly_docs.specs.Plans.{PlanNode}
use Rattle.fly_state.specs.declared.slots.NodeState.{NodeState}
use Rattle.fly_state.specs.declared.slots.ExecState.{ExecState}
use Rattle.fly_state.specs.Plans.{RunPlan, node_numbered}
use Rattle.fly_state.specs.States.{node_state, fresh_node}
use Rattle.fly_world.specs.Laws.{submission_of}
use Rattle.fly_world.specs.Versions.{HasShapedVersions}
use Rattle.fly_world.specs.World.{World, Execution}
use Rattle.fly_report.specs.declared.launches.LaunchCounts.{LaunchCounts}
use Rattle.fly_report.specs.Launches.{launch_count}
use Rattle.fly_report.specs.LaunchCounts.{counts_at, CountsLaunches}
use Rattle.fly_report.specs.Lines.{Line, line_text, lines_text}
use Rattle.fly_report.specs.Report.{Counts, node_lines, section_by, section_of}
use Rattle.fly_report.proofs.Places.{flat_map-alike, flat_map-next}

module _ (counts : ℕ × PlanNode → Counts) (state : ExecState) where
  -- the lines of a node, by its number
  abbrev pub lines_at : ℕ × PlanNode → List Line
  lines_at at = node_lines (counts at) at.1 (node_state state at.0)

  -- the lines of the nodes of a plan from a number on
  abbrev pub lines_from : RunPlan → ℕ → List Line
  lines_from plan i = flat_map lines_at (enumerate_from i (drop i plan.nodes))

  -- those of one node, and of those behind it
  pub lines-next : (plan : RunPlan) (i : ℕ) (p : PlanNode) (n : NodeState) → node_numbered plan i ≡ Some p
      → slice_get state.nodes i ≡ Some n
      → lines_text (lines_from plan i)
      ≡ lines_text (node_lines (counts (i, p)) p n) ++ lines_text (lines_from plan (i + 1))
  lines-next plan i p n node there =
      ap lines_text (flat_map-next lines_at plan.nodes i p node)
      ∙ flat_map-append line_text (lines_at (i, p)) (lines_from plan (i + 1))
      ∙ ap (λ (o : Option NodeState). lines_text (node_lines (counts (i, p)) p (unwrap_or o fresh_node))
      ++ lines_text (lines_from plan (i + 1))) there

-- with the counts of a table of all launches, what is said of an execution is what is so
pub section-counted : (plan : RunPlan) (w : World) (c : LaunchCounts) → CountsLaunches plan w c
    → (e : ℕ) (x : Execution) → slice_get w.executions e ≡ Some x
    → section_by (λ at. counts_at c e at.0) plan x ≡ section_of plan w x
section-counted plan w c counts e x execution =
    ap (λ (lines : List Line). record (section_of plan w x) { slots = lines })
    (flat_map-alike (lines_at (λ at. counts_at c e at.0) x.state)
    (lines_at (λ at. launch_count w x.name at.1.path) x.state)
    0 plan.nodes (λ i j p there is.
    let same : i ≡ j = omega (arith, is) in
    let node : node_numbered plan j ≡ Some p = subst (λ n. slice_get plan.nodes n ≡ Some p) same there in
    ap (λ (f : Counts). node_lines f p (node_state x.state j)) (λ t item. counts e j x p item execution node t)))

-- ---- executions by their numbers

-- the execution of a number, whose submission and state are told
pub execution-at : (xs : List Execution) (i : ℕ) (s : Submission) (state : ExecState)
    → option_map submission_of (slice_get xs i) ≡ Some s
    → option_map (λ (x : Execution). x.state) (slice_get xs i) ≡ Some state
    → (x : Execution) × (slice_get xs i ≡ Some x) × (x.name ≡ s.name) × (x.state ≡ state)
execution-at xs i s state submitted last = by (slice_get xs i) refl submitted last
  where
    by : (o : Option Execution) → slice_get xs i ≡ o → option_map submission_of o ≡ Some s
        → option_map (λ (x : Execution). x.state) o ≡ Some state
        → (x : Execution) × (slice_get xs i ≡ Some x) × (x.name ≡ s.name) × (x.state ≡ state)
    by None is submitted last = absurd (none-some s submitted)
    by (Some x) is submitted last =
        (x, is, ap (λ (t : Submission). t.name) (same_Some _ _ submitted), same_Some _ _ last)

pub name-at : (xs : List Execution) (i : ℕ) (s : Submission) → option_map submission_of (slice_get xs i) ≡ Some s
    → slice_get (map (λ (x : Execution). x.name) xs) i ≡ Some s.name
name-at xs i s submitted = slice_get-map (λ (x : Execution). x.name) xs i ∙ by (slice_get xs i) submitted
  where
    by : (o : Option Execution) → option_map submission_of o ≡ Some s
        → option_map (λ (x : Execution). x.name) o ≡ Some s.name
    by None submitted = absurd (none-some s submitted)
    by (Some x) submitted = ap Some (ap (λ (t : Submission). t.name) (same_Some _ _ submitted))

-- the last version has as many nodes as the plan
pub nodes-counted : (plan : RunPlan) (w : World) → HasShapedVersions plan w → (i : ℕ) (x : Execution)
    → slice_get w.executions i ≡ Some x → length x.state.nodes ≡ length plan.nodes
nodes-counted plan w shaped i x there =
    (shaped x x.state (i, slice_get_within w.executions i x there, get_or_from_slice_get w.executions i x x there)
    (Contains-append_right _ (x.state ∷ []) x.state
    (Contains-get_or (x.state ∷ []) 0 x.state (omega arith)))).count
