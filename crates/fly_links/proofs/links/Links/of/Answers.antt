use Rattle.std.proofs.Common.{◌≡◌, length, map, sym, ap, ap₂, ◌∙◌}
use Rattle.std.specs.Borrow.{Bor}
use Rattle.std.proofs.lemmas.List.{length-map}
use Rattle.fly_docs.specs.declared.node.Node.{Node}
use Rattle.fly_docs.specs.declared.workflow.Workflow.{Workflow}
use Rattle.fly_docs.specs.Plans.{nodes_of, places_of}
use Rattle.fly_docs.specs.Closures.{needed_by, needing}
use Rattle.fly_links.specs.Rows.{transposed}
use Rattle.fly_links.proofs.LinkLemmas.{needed_is}
use Rattle.fly_links.proofs.links.Links.of.Goals as goal

pub invariant_of-result : goal.invariant_of-result
invariant_of-result c =
    let w = c.args.layout.now in
    let long : length c.nodes.result.now ≡ length (nodes_of w) =
    sym (length-map c.nodes.result.now (λ (n : Bor Node). n.now)) ∙ ap length c.nodes.ensures in
    let same : w ≡ c.workflow.result.now = sym c.workflow.ensures in (
      c.in_ok-needed.ensures
          ∙ ap₂ (λ n rows. transposed n rows) long (c.deref.ensures.value ∙ c.in_ok-needing.ensures)
          ∙ needed_is w ∙ ap (λ (x : Workflow). map (needed_by x) (places_of x)) same,
      c.in_ok-needing.ensures ∙ ap (λ (x : Workflow). map (needing x) (places_of x)) same,
    )
