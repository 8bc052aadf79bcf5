use Rattle.std.proofs.Common.{arith}
use Rattle.fly_templates.proofs.Order.{order_from_neighbours}
use Rattle.fly_templates.proofs.inputs.are_sorted.Goals as goal

pub returns : goal.returns
returns c = λ e. order_from_neighbours c.args.entries.now (λ k d l. c.loop-i.invariant k d (omega arith))
