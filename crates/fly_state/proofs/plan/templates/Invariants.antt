use Rattle.std.proofs.Common.{◌≡◌, ◌∷◌, take}
use Rattle.fly_state.proofs.plan.templates.Given as goal

abbrev pub invariant-loop-sub : goal.invariant-loop-sub
invariant-loop-sub l = l.workflows.items ≡ l.c.primary ∷ take l.sub-index l.sub-items
