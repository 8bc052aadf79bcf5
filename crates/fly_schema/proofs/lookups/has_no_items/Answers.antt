use Rattle.std.proofs.Common.{◌≡◌, ◌≤◌, false, List, [], ◌∷◌, length, refl, arith}
use Rattle.serde_json.specs.Data.{array}
use Rattle.serde_json.specs.View.{items_view}
use Rattle.serde_json.specs.declared.value.Value.{Value}
use Rattle.fly_schema.specs.Lookups.{is_empty_list}
use Rattle.fly_schema.proofs.lookups.has_no_items.Goals as goal

items_there : (vs : List Value) → 1 ≤ length vs → false ≡ is_empty_list (array (items_view vs))
items_there [] h = absurd (omega arith)
items_there (v ∷ vs) h = refl

pub returns-in-len1-up : goal.returns-in-len1-up
returns-in-len1-up c = items_there c.args.items.now c.in-len1-up.len_at_least
