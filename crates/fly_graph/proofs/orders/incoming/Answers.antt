use Rattle.std.proofs.Common.{◌≡◌, ℕ, ◌+◌, ◌<◌, List, length, get_or, take, eqb, length-take, ◌∙◌, subst, ap, arith}
use Rattle.std.proofs.lemmas.List.{get_or_read, length-set}
use Rattle.std.proofs.lemmas.List.Elements.{All-get_or}
use Rattle.std.proofs.lemmas.List.Sums.{count_by-le-length}
use Rattle.fly_graph.proofs.CountLemmas.{count_one}
use Rattle.fly_graph.proofs.orders.incoming.Goals as goal

pub overflow_add-index_mut : goal.overflow_add-index_mut
overflow_add-index_mut c =
    let edges = c.args.adjacency.now.edges.items in
    let i = c.loop-edge.edge-index in
    let w : ℕ = (get_or edges i (0, 0)).1 in
    let within : i < length edges = omega (arith, ap length c.deref-edge-items.ensures.value) in
    let target : w < length c.loop-edge.missing.items = omega (arith, (All-get_or (λ (edge : ℕ × ℕ). (edge.0 < c.args.adjacency.now.count) × (edge.1 < c.args.adjacency.now.count)) edges i (0, 0) within c.args.adjacency.now.indexed.ends).1) in
    let P : List (ℕ × ℕ) → Type 0 = λ xs. c.index_mut.result.now ≡ get_or c.loop-edge.missing.items (get_or xs i (0, 0)).1 c.index_mut.result.now in
    let read : c.index_mut.result.now ≡ get_or c.loop-edge.missing.items w 0 = get_or_read c.loop-edge.missing.items w _ target (subst P c.deref-edge-items.ensures.value c.index_mut.ensures.value) 0 in
    omega (arith, read, c.loop-edge.invariant.counted w (omega arith), count_by-le-length (λ (edge : ℕ × ℕ). eqb edge.1 w) (take i edges), length-take i edges)

pub loop-edge-preserved : goal.loop-edge-preserved
loop-edge-preserved c =
    let edges = c.args.adjacency.now.edges.items in
    let i = c.loop-edge.edge-index in
    let w : ℕ = (get_or edges i (0, 0)).1 in
    let within : i < length edges = omega (arith, ap length c.deref-edge-items.ensures.value) in
    let target : w < length c.loop-edge.missing.items = omega (arith, (All-get_or (λ (edge : ℕ × ℕ). (edge.0 < c.args.adjacency.now.count) × (edge.1 < c.args.adjacency.now.count)) edges i (0, 0) within c.args.adjacency.now.indexed.ends).1) in
    let P : List (ℕ × ℕ) → Type 0 = λ xs. c.index_mut.result.now ≡ get_or c.loop-edge.missing.items (get_or xs i (0, 0)).1 c.index_mut.result.now in
    let read : c.index_mut.result.now ≡ get_or c.loop-edge.missing.items w 0 = get_or_read c.loop-edge.missing.items w _ target (subst P c.deref-edge-items.ensures.value c.index_mut.ensures.value) 0 in
    rw c.deref-edge-items.ensures.value
    (record {
      len = length-set c.loop-edge.missing.items w (c.index_mut.result.now + 1) ∙ c.loop-edge.invariant.len;
      counted = λ v small. count_one edges c.loop-edge.missing.items i c.index_mut.result.now within target read (λ q low. c.loop-edge.invariant.counted q (omega arith)) v (omega arith);
    })
