use Rattle.std.proofs.Common.{◌≡◌, ℕ, length, map, sym, ap, ap₂, ◌∙◌}
use Rattle.std.specs.Borrow.{Bor}
use Rattle.std.proofs.lemmas.List.{length-map}
use Rattle.fly_docs.specs.declared.node.Node.{Node}
use Rattle.fly_docs.specs.Plans.{nodes_of}
use Rattle.std.specs.List.{enumerate_from}
use Rattle.fly_links.specs.Rows.{transposed}
use Rattle.fly_links.specs.Around.{inner_places}
use Rattle.fly_links.proofs.SearchLemmas.{if_ok}
use Rattle.fly_links.proofs.AroundLemmas.{around_is}
use Rattle.fly_links.proofs.around.branches_around.Goals as goal

pub returns : goal.returns
returns c =
    let w = c.args.layout.now in
    let nodes = nodes_of w in
    let long : length c.nodes.result.now ≡ length nodes = sym (length-map c.nodes.result.now (λ (n : Bor Node). n.now)) ∙ ap length c.nodes.ensures in
    let long2 : length c.nodes-2.result.now ≡ length nodes =
    sym (length-map c.nodes-2.result.now (λ (n : Bor Node). n.now)) ∙ ap length c.nodes-2.ensures in
    let rows_are : c.in_ok-inside.inside.items ≡ map (λ at. inner_places (length nodes) at.0 at.1) (enumerate_from 0 nodes) =
    c.in_ok-inside.ensures
    ∙ ap₂ (λ n ns. map (λ (at : ℕ × Node). inner_places n at.0 at.1) (enumerate_from 0 ns)) long c.nodes.ensures in
    if_ok c.transposed.result
    (λ rows is. is ∙ ap₂ (λ n rs. transposed n rs) long2 c.deref.ensures.value ∙ around_is w c.in_ok-inside.inside.items rows_are)
    c.transposed.ensures
