-- What holds of every generated bundle.
use Rattle.std.specs.Prelude.{ℕ, ◌≤◌, All}
use Rattle.fly_docs.specs.declared.node.Node.{Node}
use Rattle.fly_docs.specs.Acyclic.{RunsAcyclic}
use Rattle.fly_docs.specs.Form.{IsBundleInForm}
use Rattle.fly_docs.specs.Names.{IsId}
use Rattle.fly_docs.specs.Readable.{IsReadable}
use Rattle.fly_docs.specs.Typed.{IsTyped}
use Rattle.fly_generator.specs.Generated.{generated, generated_workflow, most_nodes}

-- it is in form, typed and acyclic, of uncached tasks and task nodes, and the ids of its nodes are ids
pub record IsSample (count : ℕ) : Type 0 where
  pub form : IsBundleInForm (generated count)
  pub readable : IsReadable (generated count)
  pub typed : IsTyped (generated count)
  pub acyclic : RunsAcyclic (generated count)
  pub ids : All (λ (n : Node). IsId n.id) (generated_workflow count).nodes

abbrev pub SamplesAreTyped : Type 0
SamplesAreTyped = (count : ℕ) → 1 ≤ count → count ≤ most_nodes → IsSample count
