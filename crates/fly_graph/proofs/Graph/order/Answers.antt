use Rattle.std.proofs.Common.{ℕ, List, sym, ◌∙◌, subst}
use Rattle.fly_graph.specs.Orders.{Digraph, graph_of, HasEachOnce, EdgesGoForward, TakesLeastFree, IsAcyclic}
use Rattle.fly_graph.specs.Faults.{AreCyclic}
use Rattle.fly_graph.proofs.OrderLemmas.{taken_forward}
use Rattle.fly_graph.proofs.SortedEdges.{full_order, full_acyclic, short_cyclic}
use Rattle.fly_graph.proofs.Graph.order.Goals as goal

pub returns-then-len-self-clause-once : goal.returns-then-len-self-clause-once
returns-then-len-self-clause-once c =
    let inside = c.self.inside in
    let order : List ℕ = c.in_ok-order.order.items in
    let full = full_order inside.adjacency.count inside.given.value inside.adjacency.edges.items c.self.invariant inside.adjacency.indexed.ends order c.in_ok-order.ensures.least (sym c.in_ok-order.order.ok.0 ∙ sym c.len.ensures ∙ c.if-len-self.true) in
    let P : Digraph → Type 0 = λ graph. HasEachOnce graph.count order in
    subst (HasEachOnce c.args.self.now.count) (sym c.from_vec.ensures.value) (subst P c.self.view_is full.once)

pub returns-then-len-self-clause-forward : goal.returns-then-len-self-clause-forward
returns-then-len-self-clause-forward c =
    let inside = c.self.inside in
    let order : List ℕ = c.in_ok-order.order.items in
    let full = full_order inside.adjacency.count inside.given.value inside.adjacency.edges.items c.self.invariant inside.adjacency.indexed.ends order c.in_ok-order.ensures.least (sym c.in_ok-order.order.ok.0 ∙ sym c.len.ensures ∙ c.if-len-self.true) in
    let P : Digraph → Type 0 = λ graph. EdgesGoForward graph.edges order in
    let Q : List ℕ → Type 0 = EdgesGoForward c.args.self.now.edges in
    subst Q (sym c.from_vec.ensures.value) (subst P c.self.view_is (taken_forward (graph_of inside.adjacency.count inside.given.value) order full.least))

pub returns-then-len-self-clause-least : goal.returns-then-len-self-clause-least
returns-then-len-self-clause-least c =
    let inside = c.self.inside in
    let order : List ℕ = c.in_ok-order.order.items in
    let full = full_order inside.adjacency.count inside.given.value inside.adjacency.edges.items c.self.invariant inside.adjacency.indexed.ends order c.in_ok-order.ensures.least (sym c.in_ok-order.order.ok.0 ∙ sym c.len.ensures ∙ c.if-len-self.true) in
    let P : Digraph → Type 0 = λ graph. TakesLeastFree graph order in
    let Q : List ℕ → Type 0 = TakesLeastFree c.args.self.now in
    subst Q (sym c.from_vec.ensures.value) (subst P c.self.view_is full.least)

pub returns-then-len-self-clause-acyclic : goal.returns-then-len-self-clause-acyclic
returns-then-len-self-clause-acyclic c =
    let inside = c.self.inside in
    let order : List ℕ = c.in_ok-order.order.items in
    let none = full_acyclic inside.adjacency.count inside.given.value inside.adjacency.edges.items c.self.invariant inside.adjacency.indexed.ends order c.in_ok-order.ensures.least (sym c.in_ok-order.order.ok.0 ∙ sym c.len.ensures ∙ c.if-len-self.true) in
    let P : Digraph → Type 0 = λ graph. IsAcyclic graph.edges in
    subst P c.self.view_is none

pub returns-clause-cyclic : goal.returns-clause-cyclic
returns-clause-cyclic c =
    let inside = c.self.inside in
    let order : List ℕ = c.in_ok-order.order.items in
    let numbers : List ℕ = c.in_ok-cyclic.cyclic.items in
    let cycles = short_cyclic inside.adjacency.count inside.given.value inside.adjacency.edges.items c.self.invariant inside.adjacency.indexed.ends order c.in_ok-order.ensures.least c.in_ok-order.ensures.none_left
    (λ full. c.if-len-self.false (c.len.ensures ∙ c.in_ok-order.order.ok.0 ∙ full)) numbers c.in_ok-cyclic.ensures.rising c.in_ok-cyclic.ensures.cyclic in
    let P : Digraph → Type 0 = λ graph. AreCyclic graph.edges numbers in
    subst (AreCyclic c.args.self.now.edges) (sym c.from_vec-2.ensures.value) (subst P c.self.view_is cycles)
