use Rattle.std.proofs.Common.{◌≡◌, ◌↔◌, true, ap, subst, arith}
use Rattle.fly_graph.specs.Walks.{Reaches}
use Rattle.fly_graph.specs.Orders.{Digraph}
use Rattle.fly_graph.proofs.SortedEdges.{reaches_iff}
use Rattle.fly_graph.proofs.Graph.reaches_itself.Goals as goal

pub leads_back-requires : goal.leads_back-requires
leads_back-requires c = omega (arith, ap (λ (graph : Digraph). graph.count) c.self.view_is)

pub returns : goal.returns
returns c =
    let inside = c.self.inside in
    let tells = c.in_ok-leads_back.ensures in
    let same = reaches_iff inside.adjacency.count inside.given.value inside.adjacency.edges.items
    c.self.invariant c.args.v c.args.v in
    let P : Digraph → Type 0 = λ graph. (c.in_ok-leads_back.field-0 ≡ true) ↔ Reaches graph.edges c.args.v c.args.v in
    subst P c.self.view_is (λ e. same.0 (tells.0 e), λ cycle. tells.1 (same.1 cycle))
