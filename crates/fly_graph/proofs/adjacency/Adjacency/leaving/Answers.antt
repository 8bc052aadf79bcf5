use Rattle.std.proofs.Common.{◌+◌, ◌-◌, ◌<◌, length, take, drop, sym, ◌∙◌, ap, subst, arith}
use Rattle.std.proofs.lemmas.List.{get_or_read}
use Rattle.fly_graph.specs.Adjacency.{StartsAt}
use Rattle.fly_graph.proofs.AdjacencyLemmas.{leaving_between}
use Rattle.fly_graph.proofs.adjacency.Adjacency.leaving.Goals as goal

pub returns : goal.returns
returns c =
    let index = c.args.self.now.indexed in
    let edges = c.args.self.now.edges.items in
    let starts = c.args.self.now.starts.items in
    let v = c.args.v in
    let within : v < length starts = omega (arith, index.len) in
    let next_within : v + 1 < length starts = omega (arith, index.len) in
    let start : StartsAt edges v c.index-start.result.now = subst (StartsAt edges v) (sym (get_or_read starts v _ within c.index-start.ensures 0)) (index.each v (omega arith)) in
    let end : StartsAt edges (v + 1) c.index-end.result.now = subst (StartsAt edges (v + 1)) (sym (get_or_read starts (v + 1) _ next_within c.index-end.ensures 0)) (index.each (v + 1) (omega arith)) in
    ap (λ xs. take (c.index-end.result.now - c.index-start.result.now) (drop c.index-start.result.now xs)) c.deref.ensures.value
    ∙ leaving_between edges v c.index-start.result.now c.index-end.result.now start end
