use Rattle.std.proofs.Common.{◌≡◌, map, take}
use Rattle.fly_state.specs.Sites.{binding_place}
use Rattle.fly_state.proofs.sites.places_of_variables.Given as goal

abbrev pub invariant-loop-variable : goal.invariant-loop-variable
invariant-loop-variable l = l.places.items ≡ map (binding_place l.bindings) (take l.variable-index l.variables)
