use Rattle.fly_world.proofs.FinalSlots.{final-stays}
use Rattle.fly_world.proofs.laws.final_slots_stay.Goals as goal

pub returns : goal.returns
returns c plan closure journal entries w new number x at slot history leads there is_slot final =
    final-stays number at.node at.item slot final plan closure journal entries w new history leads (x, there, is_slot)
