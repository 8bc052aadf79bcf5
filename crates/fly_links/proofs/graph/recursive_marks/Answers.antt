use Rattle.std.proofs.Common.{◌≡◌, length, sym, subst, arith}
use Rattle.fly_graph.specs.Orders.{EndsBelow}
use Rattle.fly_links.specs.Search.{edges_along}
use Rattle.fly_links.proofs.SearchLemmas.{edges_end_below}
use Rattle.fly_links.proofs.graph.recursive_marks.Goals as goal

pub cyclic_marks-requires : goal.cyclic_marks-requires
cyclic_marks-requires c =
    let count : length c.args.targets.now ≡ c.in-Ok.count = grind arith in
    subst (EndsBelow c.in-Ok.count) (sym c.in_ok-edges.ensures)
    (subst (λ n. EndsBelow n (edges_along c.args.targets.now)) count (edges_end_below c.args.targets.now c.requires))
