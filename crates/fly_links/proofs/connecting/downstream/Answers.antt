use Rattle.std.proofs.Common.{◌≡◌, List, ℕ, map, ap, ◌∙◌}
use Rattle.fly_docs.specs.declared.workflow.Workflow.{Workflow}
use Rattle.fly_docs.specs.Names.{start_node, end_node}
use Rattle.fly_docs.specs.Plans.{places_of}
use Rattle.fly_docs.specs.Closures.{by_id, first_places, needing}
use Rattle.fly_links.specs.Connecting.{lists_with}
use Rattle.fly_links.proofs.SearchLemmas.{if_ok}
use Rattle.fly_links.proofs.ConnectLemmas.{lists_by_rows}
use Rattle.fly_links.proofs.connecting.downstream.Goals as goal

pub returns : goal.returns
returns c =
    let w = c.args.layout.now in
    let ends : c.as_slice.result.now ≡ first_places w = c.as_slice.ensures ∙ c.in_ok-first.ensures ∙ ap first_places c.requires in
    let rows : c.needing.result.now ≡ map (needing w) (places_of w) = c.needing.ensures ∙ ap (λ (x : Workflow). map (needing x) (places_of x)) c.requires in
    if_ok c.lists_by_id.result
    (λ lists is. is ∙ ap (λ (es : List ℕ). by_id (lists_with w start_node es end_node c.needing.result.now)) ends
    ∙ ap by_id (lists_by_rows w start_node (first_places w) end_node (needing w) c.needing.result.now rows))
    c.lists_by_id.ensures
