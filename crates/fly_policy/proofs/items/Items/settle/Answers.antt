use Rattle.std.proofs.Common.{◌≡◌, Bool, List, Some, None, Option, slice_get, ◌∙◌, ap, arith}
use Rattle.std.proofs.lemmas.List.{length-set}
use Rattle.fly_policy.proofs.Counts.{one_if, settled_more, success_more, settled_room, success_room}
use Rattle.fly_policy.proofs.items.Items.settle.Goals as goal

pub overflow_add-self : goal.overflow_add-self
overflow_add-self c =
    let items : List (Option Bool) = c.self.inside.ends.items in
    let waits : slice_get items c.args.item ≡ Some None =
    ap (λ xs. slice_get xs c.args.item) c.self.view_is ∙ c.requires in
    omega (arith, settled_room items c.args.item waits, c.self.invariant.0, c.self.invariant.1)

pub overflow_add-self-then-ok : goal.overflow_add-self-then-ok
overflow_add-self-then-ok c =
    let items : List (Option Bool) = c.self.inside.ends.items in
    let waits : slice_get items c.args.item ≡ Some None =
    ap (λ xs. slice_get xs c.args.item) c.self.view_is ∙ c.requires in
    omega (arith, success_room items c.args.item waits, c.self.invariant.0, c.self.invariant.2)

pub invariant_of-self : goal.invariant_of-self
invariant_of-self c =
    let items : List (Option Bool) = c.self.inside.ends.items in
    let waits : slice_get items c.args.item ≡ Some None =
    ap (λ xs. slice_get xs c.args.item) c.self.view_is ∙ c.requires in
    let one : one_if c.args.ok ≡ 1 = ap one_if c.if-ok.true in (
      omega (arith, length-set items c.args.item (Some c.args.ok), c.self.invariant.0),
      omega (arith, settled_more items c.args.item c.args.ok waits, c.self.invariant.1),
      omega (arith, success_more items c.args.item c.args.ok waits, one, c.self.invariant.2),
    )

pub invariant_of-self-else-ok : goal.invariant_of-self-else-ok
invariant_of-self-else-ok c =
    let items : List (Option Bool) = c.self.inside.ends.items in
    let waits : slice_get items c.args.item ≡ Some None =
    ap (λ xs. slice_get xs c.args.item) c.self.view_is ∙ c.requires in
    let none : one_if c.args.ok ≡ 0 = ap one_if c.if-ok.false in (
      omega (arith, length-set items c.args.item (Some c.args.ok), c.self.invariant.0),
      omega (arith, settled_more items c.args.item c.args.ok waits, c.self.invariant.1),
      omega (arith, success_more items c.args.item c.args.ok waits, none, c.self.invariant.2),
    )
