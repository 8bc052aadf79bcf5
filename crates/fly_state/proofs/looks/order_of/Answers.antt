use Rattle.std.proofs.Common.{◌≡◌, ◌++◌, ◌∷◌, [], List, ℕ, length, map, get_or, refl, sym, ◌∙◌, ap, subst, arith}
use Rattle.fly_rules.specs.Rules.{look_edges}
use Rattle.fly_graph.specs.Orders.{Digraph, graph_of, EndsBelow}
use Rattle.fly_graph.specs.Faults.{HasCause, AreCyclic}
use Rattle.fly_graph.specs.declared.faults.GraphFault.TheVariants.{Cyclic}
use Rattle.fly_state.specs.declared.sites.Site.{Site}
use Rattle.fly_state.specs.Sites.{looks_at}
use Rattle.fly_state.proofs.LookOrders.{look_edges-more, ends-below, order-is, no-cycle, looks-of_site}
use Rattle.fly_state.proofs.looks.order_of.Goals as goal

pub loop-number-preserved : goal.loop-number-preserved
loop-number-preserved c =
    let sites = c.args.sites.now in
    let v = c.loop-number.number in
    let pairs : List ℕ → List (ℕ × ℕ) = map (λ u. (u, v)) in
    c.in_ok-push_edges.ensures
    ∙ ap (λ r. r ++ pairs c.as_slice.result.now) c.loop-number.invariant
    ∙ ap (λ us. look_edges (looks_at sites) v ++ pairs us)
    (c.as_slice.ensures ∙ ap (λ (s : Site). s.looks) (sym c.index-sites-number.is)
    ∙ sym (looks-of_site sites v c.index-sites-number.result c.loop-number-test.true c.index-sites-number.is))
    ∙ sym (look_edges-more (looks_at sites) v)

pub of_edges-requires : goal.of_edges-requires
of_edges-requires c =
    let sites = c.args.sites.now in
    let last : c.loop-number.number ≡ length sites = omega arith in
    ends-below (looks_at sites) (length sites) c.requires.grounded c.from_vec.result
    (c.from_vec.ensures.value ∙ c.loop-number.invariant ∙ ap (look_edges (looks_at sites)) last)

pub returns-in-Ok : goal.returns-in-Ok
returns-in-Ok c =
    let sites = c.args.sites.now in
    let last : c.loop-number.number ≡ length sites = omega arith in
    order-is (looks_at sites) (length sites) c.requires.grounded c.in_ok-graph.graph c.from_vec.result c.in-Ok.order c.in_ok-graph.ensures
    (c.from_vec.ensures.value ∙ c.loop-number.invariant ∙ ap (look_edges (looks_at sites)) last)
    c.in-Ok.ensures.once c.in-Ok.ensures.least

pub unreachable-requires : goal.unreachable-requires
unreachable-requires c =
    let sites = c.args.sites.now in
    let last : c.loop-number.number ≡ length sites = omega arith in
    no-cycle (looks_at sites) (length sites) c.requires.grounded c.in_ok-graph.graph c.from_vec.result c.in-Err-Cyclic.field-0-0 c.in_ok-graph.ensures
    (c.from_vec.ensures.value ∙ c.loop-number.invariant ∙ ap (look_edges (looks_at sites)) last)
    (subst (HasCause c.in_ok-graph.graph.edges) c.in-Err-Cyclic.field-0-is c.in-Err-Cyclic.ensures.cyclic)
