use Rattle.std.proofs.Common.{◌∙◌, ◌++◌, ap, map}
use Rattle.std.specs.Option.{option_to_list}
use Rattle.fly_docs.specs.declared.node.Case.{Case}
use Rattle.fly_docs.specs.declared.node.Target.{out-Target}
use Rattle.fly_docs.specs.declared.node.Target.TheViews as view
use Rattle.fly_docs.specs.NodeInterfaces.{outputs_of}
use Rattle.fly_compile.specs.Outputs.{outputs_value, common_of}
use Rattle.fly_faults.proofs.Loops.{if_ok}
use Rattle.fly_compile.proofs.OutputLemmas.{branch_outputs_at}
use Rattle.fly_compile.proofs.outputs.+outputs.Goals as goal

pub outputs_of-returns-in_ok-push_otherwise-in-Branch-clause-value : goal.outputs_of-returns-in_ok-push_otherwise-in-Branch-clause-value
outputs_of-returns-in_ok-push_otherwise-in-Branch-clause-value t c =
    if_ok c.common_of.result
    (λ o is. is
    ∙ ap (λ os. common_of (map outputs_value os)) c.deref.ensures.value
    ∙ ap common_of (c.in_ok-push_otherwise-in-Branch.ensures.values
    ∙ ap (λ os. os ++ map (outputs_of c.args.directory.now) (option_to_list c.in-Branch.otherwise))
    (c.in_ok-push_cases-in-Branch.ensures.values
    ∙ (λ i. map outputs_value (c.new-lists.ensures.items i) ++ map (λ (case : Case). outputs_of c.args.directory.now case.then) (c.as_slice.ensures i))))
    ∙ branch_outputs_at c.args.directory.now c.args.node.now _ _ _ (ap out-Target c.in-Branch.is ∙ view.outs-Branch _ _ _))
    c.common_of.ensures.value
