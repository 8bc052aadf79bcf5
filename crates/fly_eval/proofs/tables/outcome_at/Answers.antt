use Rattle.std.proofs.Common.{Some, option_map, sym, ap, ◌∙◌}
use Rattle.fly_docs.specs.declared.attempt_name.AttemptName.{AttemptName}
use Rattle.fly_policy.specs.declared.outcome.Outcome.{Outcome}
use Rattle.fly_eval.proofs.PlacesFound.{outcome-nowhere, outcome-there}
use Rattle.fly_eval.proofs.tables.outcome_at.Goals as goal

pub returns-in-Some-get : goal.returns-in-Some-get
returns-in-Some-get c = λ p planned.
    ap (option_map (λ (r : AttemptName × Outcome). r.1)) c.in-Some-get.ensures
    ∙ outcome-there c.args.plan.now c.primary.result.now c.primary.ensures c.args.number p planned c.args.attempt c.args.records.now.results.now
    c.in-Some.place.now (sym (c.requires.placed (Some (c.args.number, c.args.attempt))) ∙ sym c.in-Some.ensures.value)

pub returns-in-None-get : goal.returns-in-None-get
returns-in-None-get c = λ p planned.
    ap (option_map (λ (r : AttemptName × Outcome). r.1)) c.in-None-get.ensures
    ∙ outcome-there c.args.plan.now c.primary.result.now c.primary.ensures c.args.number p planned c.args.attempt c.args.records.now.results.now
    c.in-Some.place.now (sym (c.requires.placed (Some (c.args.number, c.args.attempt))) ∙ sym c.in-Some.ensures.value)

pub returns-in-None : goal.returns-in-None
returns-in-None c = λ p planned.
    outcome-nowhere c.args.plan.now c.primary.result.now c.primary.ensures c.args.number p planned c.args.attempt c.args.records.now.results.now
    (sym (c.requires.placed (Some (c.args.number, c.args.attempt))) ∙ sym c.in-None.ensures.value)
