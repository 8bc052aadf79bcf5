-- What is kept of each node of a plan.
use Rattle.std.specs.Prelude.{ℕ, List, [], ◌∷◌, map, flat_map, filter_map, position, slice_get, bytes_eq, Option, option_and_then, option_to_list}
use Rattle.fly_types.specs.declared.text.Text.{Text}
use Rattle.fly_types.specs.declared.variable.Variable.{Variable}
use Rattle.fly_docs.specs.declared.binding.Binding.{Binding}
use Rattle.fly_docs.specs.declared.task.Task.{Task}
use Rattle.fly_docs.specs.declared.names.Identifier.{Identifier}
use Rattle.fly_docs.specs.declared.node.Node.{Node}
use Rattle.fly_docs.specs.declared.node.Case.{Case}
use Rattle.fly_docs.specs.declared.node.Target.{Target, out-Target}
use Rattle.fly_docs.specs.declared.node.Target.TheOpen.{Target-F}
use Rattle.fly_docs.specs.Lookups.{is_same}
use Rattle.fly_docs.specs.Edges.{named_ids}
use Rattle.fly_docs.specs.Reaching.{task_id_in}
use Rattle.fly_state.specs.declared.sites.Site.{Site}

-- the place of the first node that has an id
abbrev pub node_place : List Node → Text → Option ℕ
node_place nodes id = position (bytes_eq id) (map (λ (n : Node). n.id) nodes)

-- the place of the task of an id, and of the one that a node runs
abbrev pub task_place : List Task → Identifier → Option ℕ
task_place tasks id = position (λ (t : Task). is_same t.id id) tasks

abbrev pub place_of_target : List Task → Target-F Target Case Node → Option ℕ
place_of_target tasks target = option_and_then (task_place tasks) (task_id_in target)

-- for each variable the place of its first binding
abbrev pub binding_place : List Binding → Variable → Option ℕ
binding_place bindings v = position (λ (x : Binding). bytes_eq x.var v.name) bindings

-- for each input of the task at a place
abbrev pub binding_places : List Task → Option ℕ → List Binding → List (Option ℕ)
binding_places tasks task bindings =
    flat_map (λ (t : Task). map (binding_place bindings) t.interface.inputs) (option_to_list (option_and_then (slice_get tasks) task))

-- A node that stands in no other, where its promises and names are found by `place`.
abbrev pub site_by : List Task → (Text → Option ℕ) → Node → Site
site_by tasks place n = record {
  path = n.id ∷ [];
  looks = filter_map place (named_ids n);
  task = place_of_target tasks (out-Target n.target);
  bindings = binding_places tasks (place_of_target tasks (out-Target n.target)) n.inputs;
}

-- a task node among the nodes of its workflow
abbrev pub site_of : List Task → List Node → Node → Site
site_of tasks nodes = site_by tasks (node_place nodes)

-- what the node of a number looks at
abbrev pub looks_at : List Site → ℕ → List ℕ
looks_at sites v = flat_map (λ (site : Site). site.looks) (option_to_list (slice_get sites v))
