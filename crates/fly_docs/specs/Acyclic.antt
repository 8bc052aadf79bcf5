-- Workflows in which no node needs itself, through however many others.
use Rattle.fly_graph.specs.Orders as orders
use Rattle.fly_docs.specs.declared.workflow.Workflow.{Workflow}
use Rattle.fly_docs.specs.declared.workflow.Bundle.{Bundle}
use Rattle.fly_docs.specs.Edges.{edges_of}
use Rattle.fly_docs.specs.Reaching.{IsReached}

-- no node reaches itself by one or more edges
abbrev pub IsAcyclic : Workflow → Type 0
IsAcyclic w = orders.IsAcyclic (edges_of w)

-- each workflow that is run is acyclic
abbrev pub RunsAcyclic : Bundle → Type 0
RunsAcyclic b = (w : Workflow) → IsReached b w → IsAcyclic w
