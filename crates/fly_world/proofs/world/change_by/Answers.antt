use Rattle.std.proofs.Common.{sym, ◌∙◌}
use Rattle.std.proofs.lemmas.Bool.{true≢false}
use Rattle.fly_world.proofs.world.change_by.Goals as goal

pub returns-else-is_same : goal.returns-else-is_same
returns-else-is_same c = (
  λ same. true≢false (sym (c.is_same.ensures.1 (sym same)) ∙ c.if-is_same.false),
  c.in_default.not-NoMemory,
)
