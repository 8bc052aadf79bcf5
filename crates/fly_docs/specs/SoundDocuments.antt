-- Documents whose literals and types are all sound.
use Rattle.std.specs.Prelude.{List, IfSome, ⊤}
use Rattle.std.specs.List.{All}
use Rattle.fly_types.specs.declared.variable.Variable.{Variable}
use Rattle.fly_types.specs.Sound.{IsSound, IsSoundMap, IsSoundType}
use Rattle.fly_exprs.specs.declared.expr.Operand.{Operand}
use Rattle.fly_exprs.specs.declared.expr.Operand.TheVariants as operands
use Rattle.fly_exprs.specs.declared.expr.Expr.{Expr}
use Rattle.fly_exprs.specs.declared.expr.Expr.TheOpen.{Expr-F}
use Rattle.fly_exprs.specs.declared.expr.Expr.TheFolds.{every-Expr}
use Rattle.fly_docs.specs.declared.interface.Interface.{Interface}
use Rattle.fly_docs.specs.declared.binding.Binding.{Binding}
use Rattle.fly_docs.specs.declared.binding.Bound.{Bound}
use Rattle.fly_docs.specs.declared.binding.Bound.TheOpen.{Bound-F}
use Rattle.fly_docs.specs.declared.binding.Bound.TheFolds.{every-Bound}
use Rattle.fly_docs.specs.declared.node.Node.{Node}
use Rattle.fly_docs.specs.declared.node.Case.{Case}
use Rattle.fly_docs.specs.declared.node.Target.{Target}
use Rattle.fly_docs.specs.declared.node.Target.TheOpen.{Target-F, Case-F, Node-F}
use Rattle.fly_docs.specs.declared.node.Target.TheFolds.{every-Node}
use Rattle.fly_docs.specs.declared.task.Task.{Task}
use Rattle.fly_docs.specs.declared.workflow.Workflow.{Workflow}
use Rattle.fly_docs.specs.declared.workflow.Bundle.{Bundle}
use Rattle.fly_docs.specs.declared.closure.Closure.{Closure}
use Rattle.fly_docs.specs.declared.submission.Submission.{Submission}

-- the types of the variables are sound
abbrev pub HaveSoundTypes : List Variable → Type 0
HaveSoundTypes variables = All (λ (v : Variable). IsSoundType v.kind) variables

pub record IsSoundInterface (i : Interface) : Type 0 where
  pub inputs : HaveSoundTypes i.inputs
  pub outputs : HaveSoundTypes i.outputs

-- the literals in what is bound are sound, at any depth
abbrev pub IsBoundLayerSound : Bound-F Bound → Type 0
IsBoundLayerSound (Bound-F.Scalar literal) = IsSound literal
IsBoundLayerSound _ = ⊤

abbrev pub IsSoundBound : Bound → Type 0
IsSoundBound = every-Bound IsBoundLayerSound

abbrev pub AreSoundBindings : List Binding → Type 0
AreSoundBindings = All (λ (b : Binding). IsSoundBound b.bound)

-- the literals in a condition are sound
abbrev pub IsSoundOperand : Operand → Type 0
IsSoundOperand (operands.Value literal) = IsSound literal
IsSoundOperand (operands.Var name) = ⊤

abbrev pub IsExprLayerSound : Expr-F Expr → Type 0
IsExprLayerSound (Expr-F.Compare comparison left right) = IsSoundOperand left × IsSoundOperand right
IsExprLayerSound (Expr-F.Join conjunction left right) = ⊤

abbrev pub IsSoundExpr : Expr → Type 0
IsSoundExpr = every-Expr IsExprLayerSound

-- what is bound and compared in a node is sound, and in its cases, at any depth
abbrev pub IsTargetLayerSound : Target-F Target Case Node → Type 0
IsTargetLayerSound layer = ⊤

abbrev pub IsCaseLayerSound : Case-F Target Case Node → Type 0
IsCaseLayerSound c = IfSome c.condition IsSoundExpr

abbrev pub IsNodeLayerSound : Node-F Target Case Node → Type 0
IsNodeLayerSound n = AreSoundBindings n.inputs

abbrev pub IsSoundNode : Node → Type 0
IsSoundNode = every-Node IsTargetLayerSound IsCaseLayerSound IsNodeLayerSound

-- ---- documents

abbrev pub IsSoundTask : Task → Type 0
IsSoundTask t = IsSoundInterface t.interface

pub record IsSoundWorkflow (w : Workflow) : Type 0 where
  pub interface : IsSoundInterface w.interface
  pub nodes : All IsSoundNode w.nodes
  pub outputs : AreSoundBindings w.outputs

pub record IsSoundBundle (b : Bundle) : Type 0 where
  pub tasks : All IsSoundTask b.tasks
  pub workflows : All IsSoundWorkflow b.workflows

pub record IsSoundClosure (c : Closure) : Type 0 where
  pub primary : IsSoundWorkflow c.primary
  pub subs : All IsSoundWorkflow c.subs
  pub tasks : All IsSoundTask c.tasks

abbrev pub IsSoundSubmission : Submission → Type 0
IsSoundSubmission s = IsSoundMap s.inputs
