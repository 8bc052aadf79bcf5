use Rattle.std.proofs.Common.{◌≡◌, List, ℕ, map, ap, ◌∙◌}
use Rattle.fly_docs.specs.declared.workflow.Workflow.{Workflow}
use Rattle.fly_docs.specs.Names.{start_node, end_node}
use Rattle.fly_docs.specs.Plans.{places_of}
use Rattle.fly_docs.specs.Closures.{by_id, last_places, needed_by}
use Rattle.fly_links.specs.Connecting.{lists_with}
use Rattle.fly_links.proofs.SearchLemmas.{if_ok}
use Rattle.fly_links.proofs.ConnectLemmas.{lists_by_rows}
use Rattle.fly_links.proofs.connecting.upstream.Goals as goal

pub returns : goal.returns
returns c =
    let w = c.args.layout.now in
    let ends : c.as_slice.result.now ≡ last_places w = c.as_slice.ensures ∙ c.in_ok-last.ensures ∙ ap last_places c.requires in
    let rows : c.needed_by.result.now ≡ map (needed_by w) (places_of w) = c.needed_by.ensures ∙ ap (λ (x : Workflow). map (needed_by x) (places_of x)) c.requires in
    if_ok c.lists_by_id.result
    (λ lists is. is ∙ ap (λ (es : List ℕ). by_id (lists_with w end_node es start_node c.needed_by.result.now)) ends
    ∙ ap by_id (lists_by_rows w end_node (last_places w) start_node (needed_by w) c.needed_by.result.now rows))
    c.lists_by_id.ensures
