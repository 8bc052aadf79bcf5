use Rattle.std.proofs.Common.{sym, ap, ◌∙◌}
use Rattle.std.specs.List.{slice_get}
use Rattle.fly_docs.specs.declared.workflow.Workflow.{Workflow}
use Rattle.fly_docs.specs.declared.workflow.Bundle.{Bundle}
use Rattle.fly_docs.specs.Lookups.{is_same}
use Rattle.fly_links.proofs.PlaceLemmas.{find_at_place, find_nowhere}
use Rattle.fly_links.proofs.directory.Directory.workflow.Goals as goal

pub returns-in-Some : goal.returns-in-Some
returns-in-Some c =
    c.get.ensures ∙ ap (λ (b : Bundle). slice_get b.workflows c.in-Some.place) c.self.view_is
    ∙ sym (find_at_place (λ (d : Workflow). is_same d.id c.args.id.now) c.args.self.now.workflows c.in-Some.place (sym c.in-Some.ensures))

pub returns-in-None : goal.returns-in-None
returns-in-None c = sym (find_nowhere (λ (d : Workflow). is_same d.id c.args.id.now) c.args.self.now.workflows (sym c.in-None.ensures))
