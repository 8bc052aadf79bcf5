use Rattle.std.proofs.Common.{◌≡◌, map, position, bytes_eq, ap, ◌∙◌}
use Rattle.std.specs.Borrow.{Bor}
use Rattle.fly_docs.specs.declared.node.Node.{Node}
use Rattle.fly_docs.specs.Plans.{nodes_of}
use Rattle.fly_links.specs.Tables.{Loan}
use Rattle.fly_links.proofs.LayoutLemmas.{places_of_texts}
use Rattle.fly_links.proofs.layout.Layout.of.Goals as goal

pub invariant_of-result : goal.invariant_of-result
invariant_of-result c =
    let laid : map (λ (n : Bor Node). n.now) c.in_ok-nodes.nodes.items ≡ nodes_of c.args.workflow.now = c.in_ok-nodes.ensures in (
      laid,
      λ key.
          c.in_ok-first_places.ensures key
          ∙ places_of_texts c.deref-2.result.now key
          ∙ ap (λ xs. position (bytes_eq key.now) (map (λ (k : Loan). k.now) xs)) c.deref-2.ensures.value
          ∙ ap (position (bytes_eq key.now)) (c.in_ok-ids.ensures
          ∙ ap (λ xs. map (λ (n : Node). n.id) (map (λ (n : Bor Node). n.now) xs)) c.deref.ensures.value
          ∙ ap (map (λ (n : Node). n.id)) laid),
    )
