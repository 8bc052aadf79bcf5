use Rattle.fly_faults.proofs.Casts.{lists-both, lists-first, lists-plain}
use Rattle.fly_faults.proofs.output_type.is_same_list.Goals as goal

pub returns-then-its_may_lack : goal.returns-then-its_may_lack
returns-then-its_may_lack c = lists-both _ _ _ _ _ c.if-may_lack.true c.if-its_may_lack.true c.is_same.ensures

pub returns-else-its_may_lack : goal.returns-else-its_may_lack
returns-else-its_may_lack c = lists-first _ _ _ _ _ c.if-may_lack.true c.if-its_may_lack.false c.is_optional.ensures

pub returns-else-may_lack : goal.returns-else-may_lack
returns-else-may_lack c = lists-plain c.args.may_lack c.args.its_may_lack c.args.element.now c.args.its.now _ c.if-may_lack.false c.is_item_type.ensures
