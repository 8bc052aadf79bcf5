use Rattle.std.proofs.Common.{◌≡◌, ℕ, ◌<◌, ◌&&◌, false, List, eqb, map, filter, length, get_or, sym, ap, ◌∙◌, subst, arith}
use Rattle.std.specs.Borrow.{Bor}
use Rattle.std.specs.List.{enumerate_from, list_any}
use Rattle.std.proofs.lemmas.List.{length-map}
use Rattle.fly_docs.specs.declared.task.Task.{Task}
use Rattle.fly_docs.specs.declared.workflow.Workflow.{Workflow}
use Rattle.fly_docs.specs.declared.workflow.Bundle.{Bundle}
use Rattle.fly_docs.specs.Reaching.{reaches, run_places, reached_places, reached_tasks}
use Rattle.fly_links.specs.Search.{AreBelow, edges_along}
use Rattle.fly_links.specs.Reach.{recursive_places}
use Rattle.fly_links.specs.Reaches.{runs_by_place, tasks_run}
use Rattle.fly_links.specs.RunSize.{IsRunSize}
use Rattle.fly_links.proofs.ReachLemmas.{runs_below, reached_picked, recursive_picked, tasks_picked}
use Rattle.fly_links.proofs.reach.Reach.of.Goals as goal

pub recursive_marks-requires : goal.recursive_marks-requires
recursive_marks-requires c =
    let runs : c.as_slice-3.result.now ≡ runs_by_place c.args.directory.now = c.as_slice-3.ensures ∙ c.in_ok-runs.ensures in
    subst (λ rs. AreBelow (length rs) rs) (sym runs) (runs_below c.args.directory.now)

pub invariant_of-result : goal.invariant_of-result
invariant_of-result c =
    let b : Bundle = c.args.directory.now in
    let same : c.bundle-bundle.result.now ≡ b = c.bundle-bundle.ensures in
    let marks = c.in_ok-marks.marks.items in
    let cyclic = c.in_ok-cyclic.cyclic.items in
    let both = c.in_ok-both.both.items in
    let ws : c.as_slice-2.result.now ≡ b.workflows = c.as_slice-2.ensures ∙ ap (λ (d : Bundle). d.workflows) same in
    let ws' : c.as_slice-4.result.now ≡ b.workflows = c.as_slice-4.ensures ∙ ap (λ (d : Bundle). d.workflows) same in
    let ts : c.as_slice-5.result.now ≡ b.tasks = c.as_slice-5.ensures ∙ ap (λ (d : Bundle). d.tasks) same in
    let m1 : c.deref.result.now ≡ marks = c.deref.ensures.value in
    let m2 : c.deref-2.result.now ≡ marks = c.deref-2.ensures.value in
    let m3 : c.deref-3.result.now ≡ cyclic = c.deref-3.ensures.value in
    let m4 : c.deref-4.result.now ≡ both = c.deref-4.ensures.value in
    let m5 = c.deref-5.ensures.value in
    let m6 : c.deref-6.result.now ≡ c.in_ok-task_marks.task_marks.items = c.deref-6.ensures.value in
    let runs : c.as_slice-3.result.now ≡ runs_by_place b = c.as_slice-3.ensures ∙ c.in_ok-runs.ensures in
    let round : (v : ℕ) → v < length b.workflows → get_or cyclic v false ≡ reaches (edges_along (runs_by_place b)) v v =
    λ v lt. subst (λ rs. (u : ℕ) → u < length rs → get_or cyclic u false ≡ reaches (edges_along rs) u u) runs c.in_ok-cyclic.ensures.each v
    (omega (arith, lt, length-map b.workflows (run_places b))) in
    let together : (v : ℕ) → v < length b.workflows → get_or both v false ≡ (get_or marks v false && get_or cyclic v false) =
    λ v lt. c.in_ok-both.ensures.each v (omega (arith, lt, ap length m2, c.in_ok-marks.ensures.len))
    ∙ (λ i. get_or (m2 i) v false && get_or (m3 i) v false) in
    let reached : map (λ (at : ℕ × Bor Workflow). (at.0, at.1.now)) c.in_ok-workflows.workflows.items ≡ reached_places b =
    c.in_ok-workflows.ensures
    ∙ (λ i. filter (λ (at : ℕ × Workflow). get_or (m1 i) at.0 false) (enumerate_from 0 (ws i)))
    ∙ reached_picked b marks c.in_ok-marks.ensures.each in
    let recursive : map (λ (at : ℕ × Bor Workflow). (at.0, at.1.now)) c.in_ok-recursive.recursive.items ≡ recursive_places b =
    c.in_ok-recursive.ensures
    ∙ (λ i. filter (λ (at : ℕ × Workflow). get_or (m4 i) at.0 false) (enumerate_from 0 (ws' i)))
    ∙ recursive_picked b marks cyclic both c.in_ok-marks.ensures.each round together in
    let tasks : map (λ (at : ℕ × Bor Task). at.1.now) c.in_ok-tasks.tasks.items ≡ reached_tasks b =
    tasks_picked b c.in_ok-task_marks.task_marks.items c.in_ok-workflows.workflows.items c.in_ok-tasks.tasks.items reached
    (λ v lt. c.in_ok-task_marks.ensures.each v lt
    ∙ ap (λ (xs : List (ℕ × Bor Workflow)). list_any (λ place. eqb place v) (tasks_run b (map (λ at. at.1.now) xs))) m5)
    (c.in_ok-tasks.ensures ∙ (λ i. filter (λ (at : ℕ × Task). get_or (m6 i) at.0 false) (enumerate_from 0 (ts i)))) in (
      reached ∙ ap reached_places (sym same),
      tasks ∙ ap reached_tasks (sym same),
      recursive ∙ ap recursive_places (sym same),
      subst (λ d. IsRunSize d c.in_ok-size.size) (sym same) c.in_ok-size.ensures,
    )
