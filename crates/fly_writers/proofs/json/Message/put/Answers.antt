use Rattle.fly_writers.proofs.Floats.{put_kept}
use Rattle.fly_writers.proofs.json.Message.put.Goals as goal

pub invariant_of-self : goal.invariant_of-self
invariant_of-self c = record {
  plain = put_kept c.put.result c.args.self.now.fields.entries c.put.new.map.entries c.args.name.now c.args.value.tree c.put.ensures.ok c.put.ensures.err c.args.value.plain c.args.self.now.plain;
}
