-- The nodes of a workflow by their places in plan order.
use Rattle.std.specs.Prelude.{ℕ, Bool, List, [], ◌∷◌, ◌++◌, flat_map, option_to_list, take, slice_index_or}
use Rattle.std.specs.List.{list_any}
use Rattle.std.specs.Str.{bytes_eq}
use Rattle.fly_types.specs.declared.text.Text.{Text}
use Rattle.fly_docs.specs.declared.workflow.Workflow.{Workflow}
use Rattle.fly_docs.specs.declared.node.Node.{Node}
use Rattle.fly_docs.specs.declared.node.Case.{Case}
use Rattle.fly_docs.specs.declared.node.Target.{Target, out-Target}
use Rattle.fly_docs.specs.declared.node.Target.TheOpen.{Target-F}
use Rattle.fly_docs.specs.Plans.{node_ids, inner_nodes}

-- the id of the node at a place
abbrev pub id_at : Workflow → ℕ → Text
id_at w place = slice_index_or (node_ids w) place []

-- an earlier node has the id of the one at the place
abbrev pub is_repeated_at : Workflow → ℕ → Bool
is_repeated_at w place = list_any (bytes_eq (id_at w place)) (take place (node_ids w))

-- the node that a case runs
abbrev pub case_node : Case → Node
case_node c = c.then

-- what is inside a node with this target: the cases of a branch and its else node, each followed by what is inside it
abbrev pub inside_layer : Target-F Target Case Node → List Node
inside_layer (Target-F.Branch cases otherwise error) =
    flat_map (λ c. case_node c ∷ inner_nodes (case_node c)) cases ++ flat_map (λ n. n ∷ inner_nodes n) (option_to_list otherwise)
inside_layer _ = []

abbrev pub inside : Target → List Node
inside target = inside_layer (out-Target target)
