use Rattle.std.proofs.Common.{◌≡◌, true, take}
use Rattle.std.specs.List.{list_all}
use Rattle.fly_compile.specs.Arrays.{is_unmapped}
use Rattle.fly_compile.specs.Arrays.{holds_of_variable}
use Rattle.fly_compile.specs.Scopes.{source_there}
use Rattle.fly_compile.proofs.array_faults.are_inputs_unmapped.Given as goal

abbrev pub invariant-loop-x : goal.invariant-loop-x
invariant-loop-x l = list_all (holds_of_variable (is_unmapped (source_there l.sources)) l.variables) (take l.x-index l.bindings) ≡ true
