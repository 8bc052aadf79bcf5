use Rattle.fly_state.proofs.FirstStates.{first-kept}
use Rattle.fly_state.proofs.laws.first_states_are_of_plan.Goals as goal

pub returns : goal.returns
returns c plan w inputs named typed = first-kept plan inputs w named typed
