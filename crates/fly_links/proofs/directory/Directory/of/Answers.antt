use Rattle.std.proofs.Common.{◌≡◌, map, position, ap, ◌∙◌}
use Rattle.fly_docs.specs.declared.task.Task.{Task}
use Rattle.fly_docs.specs.declared.workflow.Workflow.{Workflow}
use Rattle.fly_docs.specs.Lookups.{is_same}
use Rattle.fly_links.specs.Tables.{key_id}
use Rattle.fly_links.proofs.PlaceLemmas.{position_map}
use Rattle.fly_links.proofs.RepeatLemmas.{places_of_ids}
use Rattle.fly_links.proofs.directory.Directory.of.Goals as goal

pub invariant_of-result : goal.invariant_of-result
invariant_of-result c = record {
  tasks = λ key.
      let keys : map key_id c.deref.result.now ≡ map (λ d. d.id) c.args.bundle.now.tasks =
      ap (map key_id) c.deref.ensures.value ∙ c.in_ok-task_keys.ensures ∙ ap (map (λ (d : Task). d.id)) c.as_slice.ensures in
      c.in_ok-first_places.ensures key ∙ places_of_ids c.deref.result.now key
      ∙ ap (position (λ id. is_same id (key_id key))) keys
      ∙ position_map (λ id. is_same id (key_id key)) (λ (d : Task). d.id) c.args.bundle.now.tasks;
  workflows = λ key.
      let keys : map key_id c.deref-2.result.now ≡ map (λ d. d.id) c.args.bundle.now.workflows =
      ap (map key_id) c.deref-2.ensures.value ∙ c.in_ok-workflow_keys.ensures ∙ ap (map (λ (d : Workflow). d.id)) c.as_slice-2.ensures in
      c.in_ok-first_places-2.ensures key ∙ places_of_ids c.deref-2.result.now key
      ∙ ap (position (λ id. is_same id (key_id key))) keys
      ∙ position_map (λ id. is_same id (key_id key)) (λ (d : Workflow). d.id) c.args.bundle.now.workflows;
}
