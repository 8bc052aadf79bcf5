use Rattle.std.proofs.Common.{◌≡◌, map, length, ap, ◌∙◌}
use Rattle.fly_docs.specs.declared.workflow.Workflow.{Workflow}
use Rattle.fly_docs.specs.Plans.{nodes_of, places_of}
use Rattle.fly_docs.specs.Edges.{needs}
use Rattle.fly_docs.specs.Closures.{needed_by}
use Rattle.fly_links.proofs.SearchLemmas.{if_ok}
use Rattle.fly_links.proofs.EdgeLemmas.{empty_rows}
use Rattle.fly_links.proofs.links.Links.first_places.Goals as goal

pub returns : goal.returns
returns c =
    let w = c.args.self.now in
    let rows_are : c.deref.result.now ≡ map (needed_by w) (places_of w) =
    c.deref.ensures.value ∙ c.self.invariant.0 ∙ ap (λ (x : Workflow). map (needed_by x) (places_of x)) c.self.view_is in
    if_ok c.empty_places.result (λ places is. is ∙ empty_rows (λ v. needs w v) (length (nodes_of w)) c.deref.result.now rows_are) c.empty_places.ensures
