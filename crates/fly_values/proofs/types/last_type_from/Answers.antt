use Rattle.std.proofs.Common.{refl}
use Rattle.fly_values.specs.Types.{last_type}
use Rattle.fly_values.proofs.TypeLemmas.{plain_type-same}
use Rattle.fly_values.proofs.types.last_type_from.Goals as goal

pub returns : goal.returns
unfolding last_type
returns c =
    let first = c.in_default.ensures in
    let same = plain_type-same _ _ (first.rest _ refl) (first.rest _ refl) (first.rest _ refl) in
    rw (← first.value, ← same) c.plain_type_from.ensures
