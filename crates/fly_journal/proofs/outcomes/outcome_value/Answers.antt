use Rattle.std.proofs.Common.{ap, sym, ◌∙◌}
use Rattle.std.proofs.lemmas.Result.{IfOk-weaker}
use Rattle.serde_json.specs.Written.{compact_text}
use Rattle.fly_journal.specs.Outcomes.{outcome_json}
use Rattle.fly_journal.proofs.outcomes.outcome_value.Goals as goal

pub returns-in-Fatal : goal.returns-in-Fatal
returns-in-Fatal c =
    IfOk-weaker c.failure_value-in-Fatal.result _ _
    (λ value e. e ∙ ap (λ o. compact_text (outcome_json o)) (sym c.in-Fatal.is))
    c.failure_value-in-Fatal.ensures
