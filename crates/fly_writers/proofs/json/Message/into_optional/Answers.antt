use Rattle.std.proofs.Common.{true≢false, Some, sym, ap, ◌∙◌}
use Rattle.fly_writers.proofs.Floats.{unless_empty-some}
use Rattle.fly_writers.proofs.json.Message.into_optional.Goals as goal

pub returns-else-is_empty : goal.returns-else-is_empty
returns-else-is_empty c = ap Some c.into_json.ensures ∙ unless_empty-some c.args.self.fields.entries (λ e. true≢false (sym (c.if-is_empty.ensures.1 e)))
