use Rattle.std.proofs.Common.{Option, Some, option_map, sym, ap, ◌∙◌}
use Rattle.fly_types.specs.declared.literals.LiteralMap.{LiteralMap}
use Rattle.fly_state.specs.Plans.{Path}
use Rattle.fly_eval.proofs.PlacesFound.{answer-nowhere, answer-there}
use Rattle.fly_eval.proofs.tables.answer_at.Goals as goal

pub returns-in-Some-get : goal.returns-in-Some-get
returns-in-Some-get c = λ p planned.
    ap (option_map (λ (h : Path × Option LiteralMap). h.1)) c.in-Some-get.ensures
    ∙ answer-there c.args.plan.now c.primary.result.now c.primary.ensures c.args.number p planned c.args.records.now.hits.now
    c.in-Some.place.now (sym (c.requires.answered (Some c.args.number)) ∙ sym c.in-Some.ensures.value)

pub returns-in-None-get : goal.returns-in-None-get
returns-in-None-get c = λ p planned.
    ap (option_map (λ (h : Path × Option LiteralMap). h.1)) c.in-None-get.ensures
    ∙ answer-there c.args.plan.now c.primary.result.now c.primary.ensures c.args.number p planned c.args.records.now.hits.now
    c.in-Some.place.now (sym (c.requires.answered (Some c.args.number)) ∙ sym c.in-Some.ensures.value)

pub returns-in-None : goal.returns-in-None
returns-in-None c = λ p planned.
    answer-nowhere c.args.plan.now c.primary.result.now c.primary.ensures c.args.number p planned c.args.records.now.hits.now
    (sym (c.requires.answered (Some c.args.number)) ∙ sym c.in-None.ensures.value)
