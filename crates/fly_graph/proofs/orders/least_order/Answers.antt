use Rattle.fly_graph.proofs.OrderLemmas.{order_from_acyclic, one_order}
use Rattle.fly_graph.proofs.orders.least_order.Goals as goal

pub returns-clause-exists : goal.returns-clause-exists
returns-clause-exists c = λ graph ends acyclic. order_from_acyclic graph ends acyclic

pub returns-clause-only : goal.returns-clause-only
returns-clause-only c = λ graph order other least others. one_order graph order other least others
