use Rattle.std.proofs.Common.{take}
use Rattle.std.specs.List.{All}
use Rattle.fly_types.specs.Membership.{IsMember, IsVariant}
use Rattle.fly_types.proofs.membership.+member.Given as goal

abbrev pub invariant-are_members-loop-literal : goal.invariant-are_members-loop-literal
invariant-are_members-loop-literal l = All (IsMember l.kind) (take l.literal-index l.literals)

abbrev pub invariant-are_values_members-loop-value : goal.invariant-are_values_members-loop-value
invariant-are_values_members-loop-value l = All (λ entry. IsMember l.kind entry.1) (take l.value-index l.entries)

abbrev pub invariant-is_variant-loop-kind : goal.invariant-is_variant-loop-kind
invariant-is_variant-loop-kind l = IsVariant (take l.kind-index l.variants) l.variant l.value → ⊥
