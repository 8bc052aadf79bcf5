use Rattle.fly_graph.proofs.OrderLemmas.{order_from_acyclic, taken_forward, acyclic_from_any_order}
use Rattle.fly_graph.proofs.orders.order_exists.Goals as goal

pub returns : goal.returns
returns c = λ graph ends. (
  λ some. acyclic_from_any_order graph ends some.0 some.1,
  λ acyclic.
      let least = order_from_acyclic graph ends acyclic in
      (least.0, record { once = least.1.once; forward = taken_forward graph least.0 least.1.least }),
)
