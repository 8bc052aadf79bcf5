-- The JSON of nodes, by the JSON of their parts.
use Rattle.std.proofs.Common.{◌≡◌, ℕ, List, [], ◌∷◌, map, Option, option_map, None, Some, codes, sym, ◌∙◌, ap}
use Rattle.serde_json.specs.Data.{Data, string}
use Rattle.fly_types.specs.declared.text.Text.{Text}
use Rattle.fly_docs.specs.declared.names.Identifier.{Identifier}
use Rattle.fly_docs.specs.declared.node.Node.{Node, out-Node}
use Rattle.fly_docs.specs.declared.node.Case.{Case, out-Case}
use Rattle.fly_docs.specs.declared.node.Target.{Target, out-Target}
use Rattle.fly_docs.specs.declared.node.Target.TheOpen.{Target-F}
use Rattle.fly_docs.specs.declared.node.Target.TheViews as view
use Rattle.fly_docs.specs.declared.node.Target.TheVariants as targets
use Rattle.fly_docs.specs.declared.node.Target.TheFolds.{fold_out-Node, fold_out-Target, fold_out-Case, map-Target, map-Case, map-Node}
use Rattle.fly_writers.specs.Json.{Fields, message, optional_message, optional_list}
use Rattle.fly_writers.specs.Bindings.{binding_json}
use Rattle.fly_writers.specs.Conditions.{expr_json}
use Rattle.fly_writers.specs.Nodes.{node_metadata_fields, branch_node_fields, target_fields_by, case_json_by, node_json_by, target_fields, case_json, node_json}

pub node_json_is : (n : Node) → node_json n ≡ node_json_by (map-Node Target Case Node Fields Data Data target_fields case_json node_json (out-Node n))
unfolding node_json target_fields case_json
node_json_is n = fold_out-Node Fields Data Data target_fields_by case_json_by node_json_by n

pub case_json_is : (c : Case) → case_json c ≡ case_json_by (map-Case Target Case Node Fields Data Data target_fields case_json node_json (out-Case c))
unfolding node_json target_fields case_json
case_json_is c = fold_out-Case Fields Data Data target_fields_by case_json_by node_json_by c

target_fields_is : (z : Target-F Target Case Node) (t : Target) → z ≡ out-Target t → target_fields t ≡ target_fields_by (map-Target Target Case Node Fields Data Data target_fields case_json node_json z)
unfolding node_json target_fields case_json
target_fields_is z t e =
    fold_out-Target Fields Data Data target_fields_by case_json_by node_json_by t
    ∙ ap (λ z. target_fields_by (map-Target Target Case Node Fields Data Data target_fields case_json node_json z)) (sym e)

pub target_fields-Task : (task : Identifier) → target_fields (targets.Task task) ≡ target_fields_by (map-Target Target Case Node Fields Data Data target_fields case_json node_json (Target-F.Task task))
target_fields-Task task = target_fields_is (Target-F.Task task) (targets.Task task) (sym (view.outs-Task task))

pub target_fields-Workflow : (workflow : Identifier) → target_fields (targets.Workflow workflow) ≡ target_fields_by (map-Target Target Case Node Fields Data Data target_fields case_json node_json (Target-F.Workflow workflow))
target_fields-Workflow workflow = target_fields_is (Target-F.Workflow workflow) (targets.Workflow workflow) (sym (view.outs-Workflow workflow))

pub target_fields-Branch : (cases : List Case) (otherwise : Option Node) (error : Option Text)
    → target_fields (targets.Branch cases otherwise error) ≡ target_fields_by (map-Target Target Case Node Fields Data Data target_fields case_json node_json (Target-F.Branch cases otherwise error))
target_fields-Branch cases otherwise error = target_fields_is (Target-F.Branch cases otherwise error) (targets.Branch cases otherwise error) (sym (view.outs-Branch cases otherwise error))

pub target_fields-Array : (task : Identifier) (min_successes : Option ℕ)
    → target_fields (targets.Array task min_successes) ≡ target_fields_by (map-Target Target Case Node Fields Data Data target_fields case_json node_json (Target-F.Array task min_successes))
target_fields-Array task min_successes = target_fields_is (Target-F.Array task min_successes) (targets.Array task min_successes) (sym (view.outs-Array task min_successes))

pub ruleset target_variants = (target_fields-Task, target_fields-Workflow, target_fields-Branch, target_fields-Array)

-- the same of a branch, by what its parts are written as
pub branch_fields : (cases : List Case) (otherwise : Option Node) (error : Option Text)
    → target_fields (targets.Branch cases otherwise error) ≡ (codes "branchNode", Some (message (branch_node_fields (map case_json cases) (option_map node_json otherwise) error))) ∷ []
branch_fields cases None error = target_fields-Branch cases None error
branch_fields cases (Some n) error = target_fields-Branch cases (Some n) error
