use Rattle.std.proofs.Common.{◌≡◌, map, take}
use Rattle.fly_state.proofs.tables.bound_names.Given as goal

abbrev pub invariant-loop-binding : goal.invariant-loop-binding
invariant-loop-binding l = map (λ n. n.now) l.names.items ≡ map (λ x. x.var) (take l.binding-index l.bindings)
