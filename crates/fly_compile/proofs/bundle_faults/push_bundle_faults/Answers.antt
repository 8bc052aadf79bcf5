use Rattle.std.proofs.Common.{◌++◌, ◌∙◌, ap, codes}
use Rattle.fly_links.specs.Directory.{task_ids, workflow_ids}
use Rattle.fly_faults.proofs.Loops.{on_ok}
use Rattle.fly_faults.proofs.Passes.{three}
use Rattle.fly_compile.proofs.RunSteps.{repeated_by}
use Rattle.fly_compile.proofs.bundle_faults.push_bundle_faults.Goals as goal

pub returns : goal.returns
returns c =
    let b = c.args.directory.now in
    let old = c.args.faults.now.items in
    let first = c.push_repeated_faults.new.faults.items in
    on_ok c.push_primary_faults.result
    (λ last. three old first c.push_repeated_faults-2.new.faults.items c.push_primary_faults.new.faults.items _ _ _
    (c.in_ok-push_repeated_faults.ensures
    ∙ ap (λ r. old ++ r) (repeated_by (codes "tasks") (task_ids b) c.as_slice.result.now (c.as_slice.ensures ∙ c.in_ok-tasks.ensures)))
    (c.in_ok-push_repeated_faults-2.ensures
    ∙ ap (λ r. first ++ r)
    (repeated_by (codes "workflows") (workflow_ids b) c.as_slice-2.result.now (c.as_slice-2.ensures ∙ c.in_ok-workflows.ensures)))
    last)
    c.push_primary_faults.ensures
