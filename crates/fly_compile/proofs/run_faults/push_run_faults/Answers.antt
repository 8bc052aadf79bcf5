use Rattle.std.proofs.Common.{◌++◌, ◌∙◌, ap, sym}
use Rattle.fly_faults.proofs.Loops.{on_ok}
use Rattle.fly_compile.proofs.RunSteps.{recursive_by}
use Rattle.fly_compile.proofs.run_faults.push_run_faults.Goals as goal

pub returns-then-not-is_empty : goal.returns-then-not-is_empty
returns-then-not-is_empty c =
    on_ok c.push_recursive_faults.result
    (λ last. last ∙ ap (λ r. c.args.faults.now.items ++ r) (recursive_by c.args.reach.now c.recursive-recursive.result.now c.recursive-recursive.ensures
    (sym c.is_empty.ensures ∙ c.if-not-is_empty.true)))
    c.push_recursive_faults.ensures
