use Rattle.std.proofs.Common.{rules, ◌≡◌}
use Rattle.std.specs.Bool.{Decides}
use Rattle.std.proofs.lemmas.Slice.Eq.{slice_eq-Decides, bytes_eq-Decides}
use Rattle.fly_types.proofs.same.+same_type.Goals as goal

pub is_same_type-returns-in-Enum-other : goal.is_same_type-returns-in-Enum-other
is_same_type-returns-in-Enum-other t c =
    let same : Decides c.eq-in-Enum-other.result (c.in-Enum.a ≡ c.in-Enum-other.b) = slice_eq-Decides bytes_eq-Decides _ _ _ c.eq-in-Enum-other.ensures in
    search rules
