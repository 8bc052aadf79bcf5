use Rattle.fly_state.proofs.OuterRounds.{round-kept}
use Rattle.fly_state.proofs.laws.rounds_stay_of_plan.Goals as goal

pub returns : goal.returns
returns c plan w v moves outer of_plan retries cited = round-kept plan w outer v of_plan retries moves cited
