use Rattle.fly_history.proofs.Histories.{history-evaluated}
use Rattle.fly_history.proofs.laws.legal_journals_agree.Goals as goal

pub returns : goal.returns
returns c plan f closure journal w outer uncached history = history-evaluated plan f outer uncached closure journal w
    history
