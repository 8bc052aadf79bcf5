use Rattle.std.proofs.Common.{rules}
use Rattle.serde_json.specs.declared.value.Value.{the_lemmas}
use Rattle.fly_schema.proofs.lookups.is_empty_list.Goals as goal

pub returns-in-Array : goal.returns-in-Array
returns-in-Array c = search (rules, the_lemmas)
