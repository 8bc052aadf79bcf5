use Rattle.std.proofs.Common.{arith, refl}
use Rattle.std.proofs.lemmas.Bool.{false≢true}
use Rattle.fly_forms.proofs.NameOrder.{order_from_neighbours, below_from_order}
use Rattle.fly_forms.proofs.bindings.are_names_sorted.Goals as goal

pub returns-then-ge : goal.returns-then-ge
returns-then-ge c = (
  λ e. absurd (false≢true e),
  λ order. absurd (below_from_order c.args.entries.now _ _ _ _ order (omega arith) c.loop-i-test.true c.if-ge.ensures),
)

pub returns : goal.returns
returns c = (
  λ e. order_from_neighbours c.args.entries.now (λ k d l. c.loop-i.invariant k d (omega arith)),
  λ order.
      refl,
)
