use Rattle.std.proofs.Common.{map, sym, ap, ◌∙◌}
use Rattle.std.proofs.lemmas.Result.{IfOk-weaker}
use Rattle.fly_writers.specs.Json.{message, as_fields}
use Rattle.fly_writers.specs.Literals.{tree_json, tree_entry}
use Rattle.fly_writers.proofs.Layers.{tree_json-Object}
use Rattle.fly_writers.proofs.literals.+tree_value.Goals as goal

pub tree_value-returns-in-Object : goal.tree_value-returns-in-Object
tree_value-returns-in-Object t c =
    IfOk-weaker c.members_value.result _ _ (λ j e. e ∙ ap (λ ms. message (as_fields (map tree_entry ms))) c.as_slice-in-Object.ensures
    ∙ sym (tree_json-Object c.in-Object.members) ∙ ap tree_json (sym c.in-Object.is)) c.members_value.ensures
