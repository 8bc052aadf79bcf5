-- Where promises stand: in a workflow of a bundle.
use Rattle.fly_docs.specs.declared.workflow.Workflow.{Workflow}
use Rattle.fly_docs.specs.declared.workflow.Bundle.{Bundle}
use Rattle.fly_docs.specs.Bindings.{Promised}
use Rattle.fly_docs.specs.NodeInterfaces.{Source, source_of}

pub record Scope : Type 0 where
  pub bundle : Bundle
  pub workflow : Workflow

-- what promises are of there
abbrev pub source_there : Scope → Promised → Source
source_there scope = source_of scope.bundle scope.workflow

abbrev pub scope_of : Bundle → Workflow → Scope
scope_of b w = record { bundle = b; workflow = w }
