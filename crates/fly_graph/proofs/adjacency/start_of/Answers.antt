use Rattle.std.proofs.Common.{ltb, arith, rules}
use Rattle.std.proofs.lemmas.Bool.{ltb-true, ltb-false}
use Rattle.std.proofs.lemmas.List.Sorted.{IsPartitionPoint-from_clause, IsPartitionedBy-ltb}
use Rattle.fly_graph.proofs.adjacency.start_of.Goals as goal

-- the partition point parts the edges from lower numbers from the others
pub returns : goal.returns
returns c =
    let parted = IsPartitionedBy-ltb (λ edge. edge.0) _ c.args.v c.requires in
    let point = IsPartitionPoint-from_clause (λ edge. ltb edge.0 c.args.v) _ _ c.partition_point.ensures.partitioned parted (λ a r q k. search rules) in
    record {
      within = c.partition_point.ensures.bound;
      before = λ k below. ltb-true _ _ (point.0 k (0, 0) (omega arith) below);
      after = λ k from within. ltb-false _ _ (point.1 k (0, 0) from within);
    }
