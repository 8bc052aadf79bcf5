use Rattle.fly_templates.proofs.PlainLemmas.{HasNone, plain_text-other}
use Rattle.fly_templates.proofs.plain.push_plain.Goals as goal

pub returns-in_default : goal.returns-in_default
returns-in_default c =
    let none : HasNone c.args.literal.now = record {
      no_integer = c.in_default.not-Integer;
      no_text = c.in_default.not-Text;
      no_truth = c.in_default.not-Boolean;
      no_moment = c.in_default.not-Datetime;
      no_span = c.in_default.not-Duration;
    } in
    rw (plain_text-other c.args.literal.now none) c.push_json.ensures
