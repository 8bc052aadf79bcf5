use Rattle.std.proofs.Common.{sym}
use Rattle.fly_faults.proofs.TemplateSteps.{name_is_text}
use Rattle.fly_faults.proofs.template_faults.name_at.Goals as goal

pub unreachable-requires : goal.unreachable-requires
unreachable-requires c = c.in-Err.ensures.cases.0 (name_is_text c.args.text.now c.in-Some.name.now (sym c.in-Some.ensures))
