-- Which closures have a plan today, and what a plan keeps in tables.
use Rattle.std.specs.Prelude.{◌≡◌, ℕ, ◌<◌, ◌≤◌, ◌^◌, List, [], ◌∷◌, All, map, length, slice_get, Some, Option}
use Rattle.std.specs.BTreeMap.{BTreeMap, get}
use Rattle.std.specs.List.{enumerate_from}
use Rattle.std.specs.Ordering.{nat_cmp}
use Rattle.std.specs.Cmp.Lexicographic.{slice_cmp}
use Rattle.fly_types.specs.declared.text.Text.{Text}
use Rattle.fly_docs.specs.declared.node.Node.{Node}
use Rattle.fly_docs.specs.declared.workflow.Workflow.{Workflow}
use Rattle.fly_docs.specs.declared.workflow.Bundle.{Bundle}
use Rattle.fly_docs.specs.declared.closure.Closure.{Closure}
use Rattle.fly_docs.specs.Lookups.{primary_of}
use Rattle.fly_docs.specs.Names.{IsId}
use Rattle.fly_docs.specs.Plans.{PlanNode, nodes_of, plan_of}
use Rattle.fly_docs.specs.Readable.{HasTaskNodes}
use Rattle.fly_docs.specs.Typed.{IsTyped, IsTypedWorkflow}
use Rattle.fly_state.specs.declared.sites.Site.{Site}
use Rattle.fly_state.specs.Plans.{RunPlan, looks}
use Rattle.fly_state.specs.Looks.{IsLookOrder}
use Rattle.fly_state.specs.Sites.{node_place, binding_place, site_of, looks_at}

-- each node's name is an id
abbrev pub HasIds : Workflow → Type 0
HasIds w = All (λ (n : Node). IsId n.id) w.nodes

-- its primary workflow has task nodes alone, with ids as names, and no more nodes than a typed workflow has
pub record IsPlannable (c : Closure) : Type 0 where
  pub plain : HasTaskNodes c.primary
  pub ids : HasIds c.primary
  pub few : length (nodes_of c.primary) ≤ 1024

-- a node of the primary workflow that stands in no other, by its place
abbrev pub outer_node : Workflow → ℕ × Node → PlanNode
outer_node w at = record { path = at.1.id ∷ []; workflow = w; place = at.0; node = at.1 }

-- The tables of a plan of task nodes in one workflow: the number of each id, a site for each node, an order by what they look at, and the
-- places of the bindings of the workflow's outputs.
pub record HasTables (b : Bundle) (numbers : BTreeMap Text ℕ) (sites : List Site) (order : List ℕ) (outputs : List (Option ℕ)) : Type 0 where
  pub workflow : Workflow
  pub first : slice_get b.workflows 0 ≡ Some workflow
  pub named : primary_of b ≡ Some workflow
  pub plain : HasTaskNodes workflow
  pub ids : HasIds workflow
  pub nodes_are : plan_of b ≡ map (outer_node workflow) (enumerate_from 0 workflow.nodes)
  pub few : length workflow.nodes < 2 ^ 32
  pub numbered : (id : Text) → get (slice_cmp nat_cmp) numbers id ≡ node_place workflow.nodes id
  pub sites_are : sites ≡ map (site_of b.tasks workflow.nodes) workflow.nodes
  pub order_is : IsLookOrder (looks_at sites) (length sites) order
  pub outputs_are : outputs ≡ map (binding_place workflow.outputs) workflow.interface.outputs
  pub typed : IsTyped b

-- A plan of task nodes in one workflow, which is typed; and an order of the nodes, each behind those that it looks at.
pub record IsOuterPlan (plan : RunPlan) (w : Workflow) : Type 0 where
  pub named : primary_of plan.documents ≡ Some w
  pub plain : HasTaskNodes w
  pub ids : HasIds w
  pub nodes_are : plan.nodes ≡ map (outer_node w) (enumerate_from 0 w.nodes)
  pub typed : IsTypedWorkflow plan.documents w
  pub order : List ℕ
  pub order_is : IsLookOrder (looks plan) (length plan.nodes) order
