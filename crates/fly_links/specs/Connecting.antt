-- Lists of ids under the ids of nodes.
use Rattle.std.specs.Prelude.{ℕ, List, ◌∷◌, map}
use Rattle.std.specs.List.{enumerate_from}
use Rattle.fly_types.specs.declared.text.Text.{Text}
use Rattle.fly_docs.specs.declared.node.Node.{Node}
use Rattle.fly_docs.specs.declared.workflow.Workflow.{Workflow}
use Rattle.fly_docs.specs.Plans.{nodes_of}
use Rattle.fly_docs.specs.Closures.{ids_at, ids_or}
use Rattle.fly_links.specs.Rows.{row_at}

-- under the id of each node the ids of its row, or the other id where there are none; and first the ids at the ends, under an id of their own
abbrev pub lists_with : Workflow → Text → List ℕ → Text → List (List ℕ) → List (Text × List Text)
lists_with w outer ends other rows =
    (outer, ids_at w ends) ∷ map (λ (at : ℕ × Node). (at.1.id, ids_or other (ids_at w (row_at rows at.0))))
    (enumerate_from 0 (nodes_of w))
