use Rattle.std.proofs.Common.{◌≡◌, ◌++◌, map, take}
use Rattle.std.specs.List.{All}
use Rattle.fly_docs.specs.declared.node.Case.{Case}
use Rattle.fly_docs.specs.NodeInterfaces.{outputs_of}
use Rattle.fly_compile.specs.Outputs.{outputs_value, AreOutputsSorted}
use Rattle.fly_compile.proofs.outputs.+outputs.Given as goal

abbrev pub invariant-push_cases-loop-case : goal.invariant-push_cases-loop-case
invariant-push_cases-loop-case l = record {
  values : map outputs_value l.lists.items
      ≡ map outputs_value l.initial.lists.items ++ map (λ (case : Case). outputs_of l.directory case.then) (take l.case-index l.cases);
  sorted : All AreOutputsSorted l.initial.lists.items → All AreOutputsSorted l.lists.items;
}
