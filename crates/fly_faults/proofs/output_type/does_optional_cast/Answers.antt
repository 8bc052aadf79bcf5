use Rattle.std.proofs.Common.{◌∙◌}
use Rattle.fly_faults.proofs.Casts.{optional-same, optional-refused, optional-rest}
use Rattle.fly_faults.proofs.output_type.does_optional_cast.Goals as goal

pub returns-then-is_optional : goal.returns-then-is_optional
returns-then-is_optional c = optional-same _ _ _ c.is_optional.ensures c.if-is_optional.true

pub returns-then-not-is_castable : goal.returns-then-not-is_castable
returns-then-not-is_castable c =
    optional-refused _ _ _ _ c.is_optional.ensures c.if-is_optional.false c.is_castable.ensures c.if-not-is_castable.true

pub returns : goal.returns
returns c =
    c.is_castable-2.ensures
    ∙ optional-rest _ _ _ _ c.is_optional.ensures c.if-is_optional.false c.is_castable.ensures c.if-not-is_castable.false
