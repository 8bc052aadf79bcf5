-- The documents that can be read today: task nodes alone, and tasks whose outputs are not cached.
use Rattle.std.specs.Prelude.{◌≡◌, false, All, ⊤}
use Rattle.fly_docs.specs.declared.task.Task.{Task}
use Rattle.fly_docs.specs.declared.node.Node.{Node}
use Rattle.fly_docs.specs.declared.node.Case.{Case}
use Rattle.fly_docs.specs.declared.node.Target.{Target, out-Target}
use Rattle.fly_docs.specs.declared.node.Target.TheOpen.{Target-F}
use Rattle.fly_docs.specs.declared.workflow.Workflow.{Workflow}
use Rattle.fly_docs.specs.declared.workflow.Bundle.{Bundle}

-- no branch, no workflow node and no array
abbrev pub IsTaskTarget : Target-F Target Case Node → Type 0
IsTaskTarget (Target-F.Task id) = ⊤
IsTaskTarget _ = ⊥

abbrev pub HasTaskNodes : Workflow → Type 0
HasTaskNodes w = All (λ (n : Node). IsTaskTarget (out-Target n.target)) w.nodes

pub record IsReadable (b : Bundle) : Type 0 where
  pub uncached : All (λ (t : Task). t.cached ≡ false) b.tasks
  pub plain : All HasTaskNodes b.workflows
