use Rattle.fly_exprs.proofs.LawLemmas.{trichotomy, greater_is_less_back, integers_by_value}
use Rattle.fly_exprs.proofs.laws.order_is_total.Goals as goal

pub returns-clause-one_of_three : goal.returns-clause-one_of_three
returns-clause-one_of_three c = trichotomy

pub returns-clause-back : goal.returns-clause-back
returns-clause-back c = greater_is_less_back

pub returns-clause-integers : goal.returns-clause-integers
returns-clause-integers c = integers_by_value
