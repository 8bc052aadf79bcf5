use Rattle.std.proofs.Common.{ap, sym, ◌∙◌}
use Rattle.serde_json.specs.View.{view}
use Rattle.serde_json.proofs.Views.{view-Array}
use Rattle.fly_values.specs.Fields.{items_in}
use Rattle.fly_values.proofs.FieldLemmas.{listed_items}
use Rattle.fly_values.proofs.fields.items_of.Goals as goal

pub returns-in-Array : goal.returns-in-Array
returns-in-Array c =
    sym (ap items_in (ap view c.in-Array.is ∙ view-Array c.in-Array.items) ∙ listed_items c.in-Array.items.items)
