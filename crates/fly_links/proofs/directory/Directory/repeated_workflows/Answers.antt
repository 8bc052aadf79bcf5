use Rattle.std.proofs.Common.{◌≡◌, map, position, sym, ap, ◌∙◌}
use Rattle.fly_docs.specs.declared.workflow.Workflow.{Workflow}
use Rattle.fly_docs.specs.Lookups.{is_same}
use Rattle.fly_links.specs.Tables.{key_id}
use Rattle.fly_links.proofs.PlaceLemmas.{position_map}
use Rattle.fly_links.proofs.directory.Directory.repeated_workflows.Goals as goal

pub repeated_in-requires : goal.repeated_in-requires
repeated_in-requires c = λ key.
    let keys : map key_id c.deref.result.now ≡ map (λ d. d.id) c.self.inside.bundle.now.workflows =
    ap (map key_id) c.deref.ensures.value ∙ c.in_ok-keys.ensures ∙ ap (map (λ (workflow : Workflow). workflow.id)) c.as_slice.ensures in
    c.self.invariant.workflows key
    ∙ sym (position_map (λ id. is_same id (key_id key)) (λ (workflow : Workflow). workflow.id) c.self.inside.bundle.now.workflows)
    ∙ ap (position (λ id. is_same id (key_id key))) (sym keys)
