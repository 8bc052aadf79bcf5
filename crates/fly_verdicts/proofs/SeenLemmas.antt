-- Launches by numbers and by names, in what is said of an execution.
use Rattle.std.proofs.Common.{◌≡◌, ℕ, ◌<◌, ◌||◌, Bool, cond, List, [], ◌∷◌, ◌++◌, map, length, position, Option, Some, None, is_some, option_and_then, refl, sym, ap, ◌∙◌}
use Rattle.std.specs.List.{slice_get}
use Rattle.std.specs.Option.{option_map_or}
use Rattle.std.proofs.lemmas.List.Quantifiers.{position-Some}
use Rattle.std.proofs.lemmas.Option.{get_or_from_slice_get}
use Rattle.fly_docs.specs.AttemptName.{path_text, item_text}
use Rattle.fly_docs.specs.Plans.{PlanNode}
use Rattle.fly_state.specs.Plans.{RunPlan, Path, same_path, node_numbered, number_of, is_task}
use Rattle.fly_state.proofs.OuterSteps.{same-path}
use Rattle.fly_world.specs.World.{World, Execution}
use Rattle.fly_report.specs.declared.launches.LaunchCounts.{LaunchCounts}
use Rattle.fly_report.specs.LaunchCounts.{counts_at, CountsLaunches}
use Rattle.fly_report.specs.Launches.{launch_count}
use Rattle.fly_eval.specs.declared.seen.Seen.{Seen}
use Rattle.fly_eval.specs.declared.seen.Evaluated.{Evaluated}
use Rattle.fly_verdicts.specs.EvaluationReport.{node_at, attempts_at, verdict_line, evaluated_section, numbered_counts}

-- a place that is found is within
pub place-within : {X : Type 0} (p : X → Bool) (xs : List X) (i : ℕ) → position p xs ≡ Some i → i < length xs
place-within p [] i is = cc
place-within p (x ∷ xs) i is = (position-Some p (x ∷ xs) i x is).0

module _ (plan : RunPlan) (w : World) (c : LaunchCounts) (counts : CountsLaunches plan w c) (e : ℕ) (x : Execution)
    (execution : slice_get w.executions e ≡ Some x) where
  -- the launches of a slot by its numbers are those by its names
  attempts-counted : (s : Seen) → option_and_then (attempts_at (numbered_counts plan c e) s) (node_at plan s.path)
      ≡ option_and_then (attempts_at (launch_count w x.name) s) (node_at plan s.path)
  attempts-counted s = of_number (number_of plan s.path) refl
    where
      of_node : (i : ℕ) → number_of plan s.path ≡ Some i → (o : Option PlanNode) → node_numbered plan i ≡ o
          → option_and_then (attempts_at (numbered_counts plan c e) s) o
          ≡ option_and_then (attempts_at (launch_count w x.name) s) o
      of_node i number None node = refl
      of_node i number (Some p) node =
          let found = position-Some (λ (q : PlanNode). same_path s.path q.path) plan.nodes i p number in
          let own : s.path ≡ p.path =
          same-path s.path p.path
          (sym (ap (λ (q : PlanNode). same_path s.path q.path) (get_or_from_slice_get plan.nodes i p p node))
          ∙ found.1) in
          ap (λ n. cond (is_some s.item || is_task p.node) (Some n) None)
          (ap (λ o. option_map_or (λ j. counts_at c e j s.item) o 0) number ∙ counts e i x p s.item execution node
          ∙ ap (λ (path : Path). launch_count w x.name path s.item) (sym own))

      of_number : (o : Option ℕ) → number_of plan s.path ≡ o
          → option_and_then (attempts_at (numbered_counts plan c e) s) (node_at plan s.path)
          ≡ option_and_then (attempts_at (launch_count w x.name) s) (node_at plan s.path)
      of_number None number =
          ap (λ o. option_and_then (attempts_at (numbered_counts plan c e) s)
          (option_and_then (node_numbered plan) o)) number
          ∙ sym (ap (λ o. option_and_then (attempts_at (launch_count w x.name) s)
          (option_and_then (node_numbered plan) o)) number)
      of_number (Some i) number =
          ap (λ o. option_and_then (attempts_at (numbered_counts plan c e) s)
          (option_and_then (node_numbered plan) o)) number
          ∙ of_node i number (node_numbered plan i) refl
          ∙ sym (ap (λ o. option_and_then (attempts_at (launch_count w x.name) s)
          (option_and_then (node_numbered plan) o)) number)

  -- with the counts of a table of all launches, what is said of an execution is what is so
  pub section-counted : (v : Evaluated) → evaluated_section (numbered_counts plan c e) plan x.name v
      ≡ evaluated_section (launch_count w x.name) plan x.name v
  section-counted v = λ t. record (evaluated_section (launch_count w x.name) plan x.name v) {
    slots = map (λ (s : Seen). verdict_line (path_text s.path ++ item_text s.item)
        (attempts-counted s t) s.verdict) v.list;
  }
