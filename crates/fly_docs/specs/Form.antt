-- The form that every document keeps once it is read (flyteidl's messages, in this project's profile).
use Rattle.std.specs.Prelude.{◌≡◌, ◌⊎◌, ℕ, ◌+◌, ◌≤◌, List, length, None, IfSome, ⊤}
use Rattle.std.specs.List.{All}
use Rattle.fly_types.specs.declared.literals.Literal.{out-Literal}
use Rattle.fly_types.specs.declared.literals.Literal.TheOpen.{Literal-F}
use Rattle.fly_types.specs.Layer.{LiteralLayer}
use Rattle.fly_types.specs.Sound.{AreNamesSorted}
use Rattle.fly_exprs.specs.declared.expr.Operand.{Operand}
use Rattle.fly_exprs.specs.declared.expr.Operand.TheVariants as operands
use Rattle.fly_exprs.specs.declared.expr.Expr.{Expr}
use Rattle.fly_exprs.specs.declared.expr.Expr.TheOpen.{Expr-F}
use Rattle.fly_exprs.specs.declared.expr.Expr.TheFolds.{every-Expr}
use Rattle.fly_docs.specs.declared.interface.Interface.{Interface}
use Rattle.fly_docs.specs.declared.binding.Binding.{Binding}
use Rattle.fly_docs.specs.declared.binding.Bound.{Bound}
use Rattle.fly_docs.specs.declared.binding.Bound.TheOpen.{Bound-F}
use Rattle.fly_docs.specs.declared.binding.Bound.TheFolds.{every-Bound}
use Rattle.fly_docs.specs.declared.node.Node.{Node}
use Rattle.fly_docs.specs.declared.node.Case.{Case}
use Rattle.fly_docs.specs.declared.node.Target.{Target}
use Rattle.fly_docs.specs.declared.node.Target.TheOpen.{Target-F, Case-F, Node-F}
use Rattle.fly_docs.specs.declared.node.Target.TheFolds.{every-Node}
use Rattle.fly_docs.specs.declared.task.Task.{Task}
use Rattle.fly_docs.specs.declared.workflow.Workflow.{Workflow}
use Rattle.fly_docs.specs.declared.workflow.Bundle.{Bundle}
use Rattle.fly_docs.specs.declared.closure.Connections.{Connections}
use Rattle.fly_docs.specs.declared.closure.Closure.{Closure}
use Rattle.fly_docs.specs.Names.{IsId}
use Rattle.fly_docs.specs.Interfaces.{names_of, AreInOrder}

abbrev pub most_retries : ℕ
most_retries = 10

-- the names of the inputs rise, by their bytes, and so do those of the outputs
pub record HasNamesInOrder (i : Interface) : Type 0 where
  pub inputs : AreInOrder (names_of i.inputs)
  pub outputs : AreInOrder (names_of i.outputs)

-- ---- what is bound

-- a literal that is itself no collection and no map
abbrev pub IsNoContainer : LiteralLayer → Type 0
IsNoContainer (Literal-F.Collection elements) = ⊥
IsNoContainer (Literal-F.Map entries) = ⊥
IsNoContainer _ = ⊤

-- at each level a scalar is no container, and the names of a map rise
abbrev pub IsBoundLayerInForm : Bound-F Bound → Type 0
IsBoundLayerInForm (Bound-F.Scalar literal) = IsNoContainer (out-Literal literal)
IsBoundLayerInForm (Bound-F.Map entries) = AreNamesSorted entries
IsBoundLayerInForm _ = ⊤

abbrev pub IsBoundInForm : Bound → Type 0
IsBoundInForm = every-Bound IsBoundLayerInForm

abbrev pub AreBindingsInForm : List Binding → Type 0
AreBindingsInForm = All (λ (b : Binding). IsBoundInForm b.bound)

-- ---- conditions

-- an integer, a text, a boolean, a date-time or a duration
abbrev pub IsPrimitive : LiteralLayer → Type 0
IsPrimitive (Literal-F.Integer value) = ⊤
IsPrimitive (Literal-F.Text text) = ⊤
IsPrimitive (Literal-F.Boolean value) = ⊤
IsPrimitive (Literal-F.Datetime seconds nanos) = ⊤
IsPrimitive (Literal-F.Duration seconds nanos) = ⊤
IsPrimitive _ = ⊥

-- a variable, or a value of a primitive type
abbrev pub IsOperandInForm : Operand → Type 0
IsOperandInForm (operands.Value literal) = IsPrimitive (out-Literal literal)
IsOperandInForm (operands.Var name) = ⊤

abbrev pub IsExprLayerInForm : Expr-F Expr → Type 0
IsExprLayerInForm (Expr-F.Compare comparison left right) = IsOperandInForm left × IsOperandInForm right
IsExprLayerInForm (Expr-F.Join conjunction left right) = ⊤

abbrev pub IsExprInForm : Expr → Type 0
IsExprInForm = every-Expr IsExprLayerInForm

-- ---- nodes

-- a branch has a case, and not both a node and an error for where no case holds
abbrev pub IsTargetLayerInForm : Target-F Target Case Node → Type 0
IsTargetLayerInForm (Target-F.Branch cases otherwise error) = (1 ≤ length cases) × ((otherwise ≡ None) ⊎ (error ≡ None))
IsTargetLayerInForm _ = ⊤

abbrev pub IsCaseLayerInForm : Case-F Target Case Node → Type 0
IsCaseLayerInForm c = IfSome c.condition IsExprInForm

pub record IsNodeLayerInForm (n : Node-F Target Case Node) : Type 0 where
  pub id : IsId n.id
  pub retries : n.retries ≤ most_retries
  pub inputs : AreBindingsInForm n.inputs

-- the node, and the nodes of its cases and beside them, at any depth
abbrev pub IsNodeInForm : Node → Type 0
IsNodeInForm = every-Node IsTargetLayerInForm IsCaseLayerInForm IsNodeLayerInForm

-- ---- documents

pub record IsTaskInForm (t : Task) : Type 0 where
  pub retries : t.retries ≤ most_retries
  pub interface : HasNamesInOrder t.interface

pub record IsWorkflowInForm (w : Workflow) : Type 0 where
  pub interface : HasNamesInOrder w.interface
  pub nodes : All IsNodeInForm w.nodes
  pub outputs : AreBindingsInForm w.outputs

pub record IsBundleInForm (b : Bundle) : Type 0 where
  pub tasks : All IsTaskInForm b.tasks
  pub workflows : All IsWorkflowInForm b.workflows

-- the ids of each of the two maps rise
pub record AreConnectionsInForm (c : Connections) : Type 0 where
  pub upstream : AreNamesSorted c.upstream
  pub downstream : AreNamesSorted c.downstream

-- the connections are those of the primary, and then of each of the others
pub record IsClosureInForm (c : Closure) : Type 0 where
  pub primary : IsWorkflowInForm c.primary
  pub subs : All IsWorkflowInForm c.subs
  pub tasks : All IsTaskInForm c.tasks
  pub connections : All AreConnectionsInForm c.connections
  pub counts : length c.connections ≡ length c.subs + 1
