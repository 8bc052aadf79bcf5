use Rattle.std.specs.Result.{is_ok}
use Rattle.fly_writers.proofs.Floats.{push_kept}
use Rattle.fly_writers.proofs.json.Elements.push.Goals as goal

pub invariant_of-self : goal.invariant_of-self
invariant_of-self c = record {
  plain = push_kept (is_ok c.push.result) c.args.self.now.values.items c.push.new.self.items c.args.value.tree c.push.ensures.items c.args.value.plain c.args.self.now.plain;
}
