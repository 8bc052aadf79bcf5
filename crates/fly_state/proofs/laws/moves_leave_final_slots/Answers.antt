use Rattle.fly_state.proofs.FinalLemmas.{effect_of-not_final}
use Rattle.fly_state.proofs.laws.moves_leave_final_slots.Goals as goal

pub returns : goal.returns
returns c = effect_of-not_final
