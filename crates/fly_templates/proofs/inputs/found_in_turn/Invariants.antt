use Rattle.std.proofs.Common.{◌≡◌, drop}
use Rattle.fly_types.specs.Lookup.{value_of}
use Rattle.fly_templates.proofs.inputs.found_in_turn.Given as goal

-- none so far has the name
abbrev pub invariant-loop-own_name : goal.invariant-loop-own_name
invariant-loop-own_name l = value_of l.entries l.name ≡ value_of (drop l.own_name-index l.entries) l.name
