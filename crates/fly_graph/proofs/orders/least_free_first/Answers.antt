use Rattle.std.proofs.Common.{◌≡◌, ℕ, ◌+◌, ◌<◌, ◌≤◌, List, [], ◌∷◌, ◌++◌, true, ◌&&◌, eqb, ltb, length, get_or, ⊎_elim, sym, ◌∙◌, subst, ap, arith}
use Rattle.std.specs.List.{All, list_any}
use Rattle.std.specs.Ordering.{nat_cmp}
use Rattle.std.specs.BTreeSet.{contains}
use Rattle.std.proofs.lemmas.List.{with_items_is, length_push, nil_from_length}
use Rattle.std.proofs.lemmas.List.Elements.{All-filter}
use Rattle.std.proofs.lemmas.Map.Keys.{le_from_not_gt}
use Rattle.fly_graph.specs.Orders.{Digraph, graph_of}
use Rattle.fly_graph.proofs.CountLemmas.{apart_at, edges_to, is_freed}
use Rattle.fly_graph.specs.Adjacency.{edges_leaving}
use Rattle.std.specs.BTreeMap.{is_at}
use Rattle.std.proofs.lemmas.Bool.{false≢true, cases_lt}
use Rattle.fly_graph.proofs.OrderSteps.{IsScheduled, scheduled_start, scheduled_next, one_left, waiting_less}
use Rattle.fly_graph.proofs.orders.least_free_first.Goals as goal

pub loop-v-init : goal.loop-v-init
loop-v-init c =
    let graph : Digraph = graph_of c.args.adjacency.now.count c.args.adjacency.now.edges.items in
    let missing : List ℕ = c.in_ok-missing.missing.items in
    let P : List ℕ → Type 0 = λ xs. (v : ℕ) → contains nat_cmp c.in_ok-free.free v ≡ (ltb v graph.count && eqb (get_or xs v 0) 0) in
    subst (IsScheduled graph missing c.in_ok-free.free) (sym c.new-order.ensures.items)
    (scheduled_start graph missing c.in_ok-free.free c.in_ok-missing.ensures.len c.in_ok-missing.ensures.counted (subst P c.as_slice.ensures.value c.in_ok-free.ensures))

pub release-requires-clause-targets : goal.release-requires-clause-targets
release-requires-clause-targets c =
    let count = c.args.adjacency.now.count in
    let edges : List (ℕ × ℕ) = c.args.adjacency.now.edges.items in
    let P : (ℕ × ℕ) → Type 0 = λ edge. edge.1 < length c.as_mut_slice.result.now in
    let each : All P edges = λ k d within. let ends : (get_or edges k d).1 < count = (c.args.adjacency.now.indexed.ends k d within).1 in omega (arith, c.loop-v.invariant.len, ap length c.as_mut_slice.ensures.value) in
    let Q : List (ℕ × ℕ) → Type 0 = λ xs. All P xs in
    subst Q (sym c.leaving.ensures) (All-filter (λ (edge : ℕ × ℕ). eqb edge.0 c.in-Some.v) P edges each)

pub release-requires-clause-counted : goal.release-requires-clause-counted
release-requires-clause-counted c =
    let graph : Digraph = graph_of c.args.adjacency.now.count c.args.adjacency.now.edges.items in
    let old : IsScheduled graph c.loop-v.missing.items c.loop-v.free c.loop-v.order.items = c.loop-v.invariant in
    let new = ((old.frees c.in-Some.v).0 c.in-Some.ensures.member).fresh in
    λ q small.
    let within : q < graph.count = omega (arith, old.len, ap length c.as_mut_slice.ensures.value) in
    let read : get_or c.as_mut_slice.result.now q 0 ≡ get_or c.loop-v.missing.items q 0 = ap (λ xs. get_or xs q 0) c.as_mut_slice.ensures.value in
    let out : edges_to q c.leaving.result.now ≡ edges_to q (edges_leaving graph.edges c.in-Some.v) = ap (edges_to q) c.leaving.ensures in
    omega (arith, read, out, old.counted q within, waiting_less c.loop-v.order.items c.in-Some.v q graph.edges new)

pub loop-v-preserved : goal.loop-v-preserved
loop-v-preserved c =
    let graph : Digraph = graph_of c.args.adjacency.now.count c.args.adjacency.now.edges.items in
    let v = c.in-Some.v in
    let missing : List ℕ = c.loop-v.missing.items in
    let old : IsScheduled graph missing c.loop-v.free c.loop-v.order.items = c.loop-v.invariant in
    let left : List ℕ = c.release.new.missing in
    let least : (q : ℕ) → contains nat_cmp c.loop-v.free q ≡ true → v ≤ q = λ q has. le_from_not_gt v q (c.in-Some.ensures.least q has) in
    let len : length left ≡ length missing = omega (arith, c.as_mut_slice.ensures.len) in
    let taken : (q : ℕ) → q < length missing → get_or left q 0 + edges_to q (edges_leaving graph.edges v) ≡ get_or missing q 0 = λ q small.
    let small_too : q < length c.as_mut_slice.result.now = omega (arith, ap length c.as_mut_slice.ensures.value) in
    ap (λ xs. get_or left q 0 + edges_to q xs) (sym c.leaving.ensures) ∙ c.in_ok-release.ensures.taken q small_too ∙ ap (λ xs. get_or xs q 0) c.as_mut_slice.ensures.value in
    let P : List (ℕ × ℕ) → Type 0 = λ xs. (q : ℕ) → contains nat_cmp c.release.new.free q ≡ is_freed (contains nat_cmp c.pop_first.new.self q) (edges_to q xs) (get_or left q 0) in
    let freed = subst P c.leaving.ensures c.in_ok-release.ensures.freed in
    let next : IsScheduled graph left c.release.new.free (c.loop-v.order.items ++ v ∷ []) = scheduled_next graph c.args.adjacency.now.indexed.ends missing c.loop-v.free c.loop-v.order.items old v c.in-Some.ensures.member least
    c.pop_first.new.self c.release.new.free left c.in-Some.ensures.updates.1 (λ q apart. c.in-Some.ensures.updates.2 q (apart_at v q apart)) len taken freed in
    subst (IsScheduled graph _ c.release.new.free) (sym c.in_ok-push.ensures.items)
    (let Q : List ℕ → Type 0 = λ xs. IsScheduled graph xs c.release.new.free (c.loop-v.order.items ++ v ∷ []) in subst Q (sym (with_items_is c.loop-v.missing left (omega arith))) next)

pub loop-v-smaller : goal.loop-v-smaller
loop-v-smaller c =
    let graph : Digraph = graph_of c.args.adjacency.now.count c.args.adjacency.now.edges.items in
    let v = c.in-Some.v in
    let old : IsScheduled graph c.loop-v.missing.items c.loop-v.free c.loop-v.order.items = c.loop-v.invariant in
    let left : length c.loop-v.order.items < c.args.adjacency.now.count = one_left graph c.args.adjacency.now.indexed.ends c.loop-v.missing.items c.loop-v.free c.loop-v.order.items old v c.in-Some.ensures.member (λ q has. le_from_not_gt v q (c.in-Some.ensures.least q has)) in
    omega (arith, ap length c.in_ok-push.ensures.items, length_push c.loop-v.order.items v)

pub returns-clause-none_left : goal.returns-clause-none_left
returns-clause-none_left c = λ v is_free.
    let none : c.loop-v.free.keys ≡ [] = ⊎_elim (λ some. absurd (false≢true (c.in_default.ensures.variant.1 some))) (λ few. nil_from_length c.loop-v.free.keys (omega arith)) (cases_lt 0 (length c.loop-v.free.keys)) in
    false≢true (sym (ap (λ ks. list_any (is_at (nat_cmp v)) ks) none) ∙ (c.loop-v.invariant.frees v).1 is_free)
