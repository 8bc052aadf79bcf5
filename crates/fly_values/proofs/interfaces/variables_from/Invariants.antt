use Rattle.std.proofs.Common.{◌≡◌, ◌++◌, map, string_bytes}
use Rattle.serde_json.specs.View.{view}
use Rattle.fly_values.specs.Types.{variable_value}
use Rattle.fly_values.proofs.interfaces.variables_from.Given as goal

-- what was made is of the entries that were yielded
abbrev pub invariant-loop-name : goal.invariant-loop-name
invariant-loop-name l = record {
  all : l.yielded ++ l.name-iterator ≡ l.initial.name-iterator;
  done : l.made.items ≡ map (λ e. variable_value (string_bytes e.0, view e.1)) l.yielded;
}
