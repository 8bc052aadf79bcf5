-- The form of the parts of a node.
use Rattle.fly_docs.specs.declared.node.Case.{Case}
use Rattle.fly_docs.specs.declared.node.Target.{Target}
use Rattle.fly_docs.specs.declared.node.Target.TheFolds.{every-Target, every-Case}
use Rattle.fly_docs.specs.Form.{IsTargetLayerInForm, IsCaseLayerInForm, IsNodeLayerInForm}

-- what the node runs, with the nodes of its cases and beside them, at any depth
abbrev pub IsTargetInForm : Target → Type 0
IsTargetInForm = every-Target IsTargetLayerInForm IsCaseLayerInForm IsNodeLayerInForm

abbrev pub IsCaseInForm : Case → Type 0
IsCaseInForm = every-Case IsTargetLayerInForm IsCaseLayerInForm IsNodeLayerInForm
