use Rattle.std.proofs.Common.{◌≡◌, ℕ, ◌-◌, ◌<◌, ◌≤◌, List, length, get_or, ◌∙◌, ap, arith}
use Rattle.std.proofs.lemmas.List.{length-set}
use Rattle.std.proofs.lemmas.List.Elements.{All-get_or}
use Rattle.fly_graph.proofs.CountLemmas.{edges_to, take_one, counts_one, free_last, free_none, apart_at}
use Rattle.std.specs.BTreeSet.{contains, BTreeSet}
use Rattle.std.specs.Ordering.{nat_cmp}
use Rattle.fly_graph.proofs.orders.release.Goals.{then-missing-target-eq0+in_ok-insert, else-missing-target-eq0}
use Rattle.fly_graph.proofs.orders.release.Goals as goal

pub overflow_sub-missing : goal.overflow_sub-missing
overflow_sub-missing c =
    let edges = c.args.leaving.now in
    let i = c.loop-edge.edge-index in
    let w : ℕ = (get_or edges i (0, 0)).1 in
    let within : i < length edges = omega arith in
    let target : w < length c.loop-edge.missing = omega (arith, All-get_or (λ (edge : ℕ × ℕ). edge.1 < length c.args.missing.now) edges i (0, 0) within c.requires.targets) in
    omega (arith, c.loop-edge.invariant.taken w target, counts_one edges i within, c.requires.counted w (omega arith))

pub loop-edge-preserved : goal.loop-edge-preserved
loop-edge-preserved c =
    let edges = c.args.leaving.now in
    let i = c.loop-edge.edge-index in
    let w : ℕ = (get_or edges i (0, 0)).1 in
    let missing : List ℕ = c.loop-edge.missing in
    let within : i < length edges = omega arith in
    let target : w < length missing = omega (arith, All-get_or (λ (edge : ℕ × ℕ). edge.1 < length c.args.missing.now) edges i (0, 0) within c.requires.targets) in
    let enough : edges_to w edges ≤ get_or c.args.missing.now w 0 = c.requires.counted w (omega arith) in
    record {
      taken = λ v small. take_one edges missing c.args.missing.now i within target enough c.loop-edge.invariant.taken v (omega (arith, length-set missing w (get_or missing w 0 - 1)));
      freed = elim c.if-missing-target-eq0.branch [
        | then-missing-target-eq0+in_ok-insert b ↦
            let updates = b.in_ok-insert.ensures.updates in
            free_last edges missing i (get_or missing w 0 - 1) within (contains nat_cmp c.args.free.now) (contains nat_cmp c.loop-edge.free) (contains nat_cmp c.if-missing-target-eq0.free)
            c.loop-edge.invariant.freed b.if-missing-target-eq0.true
            (ap (λ (set : BTreeSet ℕ). contains nat_cmp set w) b.free-is ∙ updates.1)
            (λ v apart. ap (λ (set : BTreeSet ℕ). contains nat_cmp set v) b.free-is ∙ updates.2 v (apart_at w v apart))
        | else-missing-target-eq0 b ↦
            let before : get_or missing w 0 ≡ 0 → ⊥ = λ e. omega (arith, c.loop-edge.invariant.taken w target, counts_one edges i within) in
            λ v. ap (λ (set : BTreeSet ℕ). contains nat_cmp set v) b.free-is
            ∙ free_none edges missing i (get_or missing w 0 - 1) within (contains nat_cmp c.args.free.now) (contains nat_cmp c.loop-edge.free) c.loop-edge.invariant.freed before b.if-missing-target-eq0.false v
      ];
    }
