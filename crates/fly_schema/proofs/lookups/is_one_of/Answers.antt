use Rattle.std.proofs.Common.{rules}
use Rattle.std.specs.Str.{bytes_eq}
use Rattle.serde_json.specs.declared.value.Value.{the_lemmas}
use Rattle.fly_schema.proofs.Texts.{any_behind}
use Rattle.fly_schema.proofs.lookups.is_one_of.Goals as goal

pub returns-in-String : goal.returns-in-String
returns-in-String c =
    let e = any_behind (bytes_eq c.as_str.result.now) c.args.texts.now in search (rules, the_lemmas, e)
